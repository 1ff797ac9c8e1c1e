-- `Lines::get`: the line of its number, or none.
use native.Mathlib.Omega.{arith}
use mathlib.Core.Path.{◌∙◌, sym}
use Rattle.records_lent.proofs.TableLaws.{table-count, table_at, table-past}
use Rattle.records_lent.proofs.lines.Lines.get.Goals as goal

pub overflow_add-self-inside : goal.overflow_add-self-inside
overflow_add-self-inside g c = omega (arith, table-count _ c.len.ensures.value c.self.view_is, c.if-k-len.true, c.self.invariant.0, c.self.invariant.2)

pub returns-then-k-len : goal.returns-then-k-len
returns-then-k-len g c = rw (← c.self.view_is) (c.at.ensures ∙ sym (table_at _ _ c.args.k _ (omega (arith, table-count _ c.len.ensures.value c.self.view_is, c.if-k-len.true))))

pub returns-else-k-len : goal.returns-else-k-len
returns-else-k-len g c = rw (← c.self.view_is) (c.none.ensures ∙ sym (table-past _ _ c.args.k _ (omega (arith, table-count _ c.len.ensures.value c.self.view_is, c.if-k-len.false))))
