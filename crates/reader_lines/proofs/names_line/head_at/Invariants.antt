-- The invariant: the names read on from name i give the whole line.
use mathlib.Core.Path.{◌≡◌}
use Prim.Native.Nat.{◌-◌}
use Rattle.reader_lines.specs.NamesLine.{names_from, head_at}
use Rattle.reader_lines.proofs.names_line.head_at.Given as goal

abbrev pub invariant-loop-i : goal.invariant-loop-i
invariant-loop-i l = head_at l.text l.at l.table ≡ names_from (l.n - l.i) l.text l.next l.table l.i l.due l.order
