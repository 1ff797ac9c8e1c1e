use mathlib.Core.Path.{refl, sym, ◌∙◌}
use Rattle.reader_lines.proofs.Lines.{row_is, row-end, row-broken, row-stop, row_next}
use Rattle.reader_lines.proofs.PlaceLaws.{stood, another}
use Rattle.reader_lines.proofs.values_line.values_at.Goals as goal

pub loop-i-init : goal.loop-i-init
loop-i-init c = let a = c.args in row_is a.text.now a.at a.table a.order c.count_of-n.ensures c.none-cells.ensures

pub returns-in_err-cell : goal.returns-in_err-cell
returns-in_err-cell c =
    let a = c.args in let at = c.loop-i in
    c.from_residual.ensures ∙ sym (at.invariant ∙ row-broken a.text.now at.next a.table a.order at.i _ at.cells c.column-column.ensures c.kind_of.ensures c.cell_at.ensures c.loop-i-test.true c.in_err-cell.was)

pub returns-in_err-next : goal.returns-in_err-next
returns-in_err-next c =
    let a = c.args in let at = c.loop-i in
    let x = another a.text.now _ _ c.after.ensures c.in_err-next.was in
    c.from_residual-in_err-next.ensures ∙ sym (at.invariant ∙ row-stop a.text.now at.next a.table a.order at.i _ at.cells c.column-column.ensures c.kind_of.ensures c.cell_at.ensures c.loop-i-test.true c.in_ok-cell.was refl c.stop_of.ensures.value x)

pub loop-i-preserved : goal.loop-i-preserved
loop-i-preserved c =
    let a = c.args in let at = c.loop-i in
    let e = stood a.text.now _ _ c.after.ensures c.in_ok-next.was in
    at.invariant ∙ row_next a.text.now at.next a.table a.order at.i _ at.cells c.column-column.ensures c.kind_of.ensures c.cell_at.ensures c.loop-i-test.true c.in_ok-cell.was refl c.stop_of.ensures.value e.0 e.1 c.keep.ensures

pub returns : goal.returns
returns c =
    let a = c.args in let at = c.loop-i in
    sym (at.invariant ∙ row-end a.text.now at.next a.table a.order at.i _ at.cells c.loop-i-test.false)
