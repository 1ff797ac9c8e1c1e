-- `next`: the first line, and the lines after it.
use native.Mathlib.Omega.{arith}
use mathlib.Core.Path.{◌≡◌, ◌∙◌, ap, sym}
use mathlib.Core.List.{[]}
use Rattle.std.proofs.Common.{◌+◌, ◌-◌, length}
use Rattle.records_lent.specs.Lists.{tabulate}
use Rattle.records_lent.proofs.TableLaws.{table-step}
use Rattle.records_lent.proofs.lines.LinesIterator.next.Goals as goal

pub returns-then-self-clause-steps : goal.returns-then-self-clause-steps
unfolding tabulate
returns-then-self-clause-steps g c =
    let t = g.T.Line in
    let i = c.self.inside in
    let empty : i.end - i.first ≡ 0 = omega (arith, c.if-self.true) in
    let none : c.args.self.now ≡ [] = sym c.self.view_is ∙ ap (tabulate (λ k. t.at i.words.now i.numbers (i.first + k))) empty in
    (none, none)

pub returns-clause-steps : goal.returns-clause-steps
returns-clause-steps g c =
    let t = g.T.Line in
    let i = c.self.inside in
    rw (← c.self.view_is, c.at-line.ensures) (table-step (t.at i.words.now i.numbers) i.first (omega (arith, c.if-self.false, c.self.invariant.0)))

pub returns-clause-goes : goal.returns-clause-goes
returns-clause-goes g c = record { on = λ h. (tt, tt, let e = ap length (returns-clause-steps g c) in omega arith); keeps = tt; rests = λ h. tt }
