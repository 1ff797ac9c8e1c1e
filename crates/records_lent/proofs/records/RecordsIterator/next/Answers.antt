-- `next`: the first record, and those of the other numbers; none where the numbers hold no more.
use native.Mathlib.Omega.{arith}
use mathlib.Core.Path.{◌≡◌, ◌∙◌, ap, sym}
use mathlib.Core.List.{[]}
use lib.ListN.{length}
use Rattle.records_lent.proofs.TableLaws.{records-none, records-step}
use Rattle.records_lent.proofs.records.RecordsIterator.next.Goals as goal

pub returns-in_err-record-clause-steps : goal.returns-in_err-record-clause-steps
returns-in_err-record-clause-steps g c =
    let t = g.T.Record in
    let none : c.args.self.now ≡ [] = sym c.self.view_is ∙ records-none t.from t.STRIDE c.self.inside.numbers.now (rw (← c.STRIDE.ensures) c.in_err-record.ensures.cases) in
    rw c.from_residual.ensures (none, none)

pub returns-clause-steps : goal.returns-clause-steps
returns-clause-steps g c =
    let t = g.T.Record in
    let cut = c.in_ok-record.ensures.cases in
    let step = records-step t.from t.STRIDE g.met.T.Record.own_numbers c.self.inside.numbers.now g.met.T.Record.stride_positive (rw (← c.STRIDE.ensures) cut.0) in
    rw (← c.self.view_is, c.from_part.ensures, cut.1, cut.2, c.STRIDE.ensures) step

pub returns-clause-goes : goal.returns-clause-goes
returns-clause-goes g c = record { on = λ h. (tt, tt, let e = ap length (returns-clause-steps g c) in omega arith); keeps = tt; rests = λ h. tt }
