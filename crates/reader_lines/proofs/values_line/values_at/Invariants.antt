-- The invariant: the cells read on from cell i give the whole line.
use mathlib.Core.Path.{◌≡◌}
use Prim.Native.Nat.{◌-◌}
use Rattle.reader_lines.specs.ValuesLine.{values_read, values_at}
use Rattle.reader_lines.proofs.values_line.values_at.Given as goal

abbrev pub invariant-loop-i : goal.invariant-loop-i
invariant-loop-i l = values_at l.text l.at l.table l.order ≡ values_read (l.n - l.i) l.text l.next l.table l.order l.i l.cells
