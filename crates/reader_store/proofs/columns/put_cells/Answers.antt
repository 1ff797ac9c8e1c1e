use mathlib.Core.Path.{refl, sym, ◌∙◌}
use Prim.Native.Nat.{◌+◌}
use Rattle.reader_store.proofs.Puts.{cells_start, cells_more, cells_end}
use Rattle.reader_store.proofs.columns.put_cells.Goals as goal

pub loop-i-init : goal.loop-i-init
loop-i-init g c = (refl, cells_start g.T.Kept.of_cell c.args.line.cells c.args.kept.columns.now c.line-first.result c.args.list.now)

pub loop-i-preserved : goal.loop-i-preserved
loop-i-preserved g c =
    let a = c.args in
    let at = c.loop-i in
    (c.put.auto.list ∙ at.invariant.0, cells_more g.T.Kept.of_cell a.line.cells a.kept.columns.now c.line-first.result at.i at.list c.loop-i-test.true c.at.ensures c.of_cell.ensures c.put.ensures ∙ at.invariant.1)

pub returns : goal.returns
returns g c =
    let a = c.args in
    let at = c.loop-i in
    rw (← c.line-first.ensures.0) (sym (cells_end g.T.Kept.of_cell a.line.cells a.kept.columns.now (c.line-first.result + at.i) at.i at.list c.loop-i-test.false) ∙ at.invariant.1)
