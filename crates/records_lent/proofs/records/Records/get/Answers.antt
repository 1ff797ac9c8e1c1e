-- `Records::get`: the i-th line of the table, or none.
use Prim.Native.Nat.{◌+◌, ◌-◌, ◌*◌}
use native.Mathlib.Omega.{arith}
use mathlib.Core.Path.{◌≡◌, ◌∙◌, sym}
use Rattle.records_lent.proofs.TableLaws.{record-whole, table_at}
use Rattle.records_lent.proofs.records.Records.get.Goals as goal

pub overflow_mul-at : goal.overflow_mul-at
overflow_mul-at g c =
    let t = g.T.Record in
    let w = record-whole t.from t.STRIDE c.self.inside.numbers.now c.len.ensures c.self.view_is c.if-i-len.true in
    let fits = c.self.told in
    rw c.STRIDE.ensures (omega arith)

pub overflow_add-at : goal.overflow_add-at
overflow_add-at g c =
    let t = g.T.Record in
    let w = record-whole t.from t.STRIDE c.self.inside.numbers.now c.len.ensures c.self.view_is c.if-i-len.true in
    let fits = c.self.told in
    rw (c.STRIDE.ensures, c.STRIDE-then-i-len.ensures) (omega arith)

pub offset_bounds-self-inside-at : goal.offset_bounds-self-inside-at
offset_bounds-self-inside-at g c =
    let t = g.T.Record in
    let w = record-whole t.from t.STRIDE c.self.inside.numbers.now c.len.ensures c.self.view_is c.if-i-len.true in
    let fits = c.self.told in
    rw c.STRIDE.ensures (omega arith)

pub slice_bounds-from_part-end : goal.slice_bounds-from_part-end
slice_bounds-from_part-end g c =
    let t = g.T.Record in
    let w = record-whole t.from t.STRIDE c.self.inside.numbers.now c.len.ensures c.self.view_is c.if-i-len.true in
    rw (c.STRIDE.ensures, c.STRIDE-then-i-len.ensures) w.1

pub returns-then-i-len : goal.returns-then-i-len
returns-then-i-len g c =
    let t = g.T.Record in
    let xs = c.self.inside.numbers.now in
    let i = c.args.i in
    let w = record-whole t.from t.STRIDE xs c.len.ensures c.self.view_is c.if-i-len.true in
    let own : i * t.STRIDE + t.STRIDE - i * t.STRIDE ≡ t.STRIDE = omega arith in
    rw (← c.self.view_is) (c.from_part.ensures ∙ rw (c.STRIDE.ensures, c.STRIDE-then-i-len.ensures, own) (g.met.T.Record.own_numbers xs (i * t.STRIDE)) ∙ sym (table_at _ _ i _ w.0))
