-- The invariant: the word read on from byte n is the whole word. A byte that goes on is not 0, so it stands in the text, and the place after it fits.
use mathlib.Core.Path.{◌≡◌}
use Prim.Native.Nat.{◌<◌, ◌-◌, ◌+◌, ◌^◌}
use Rattle.reader_cells.specs.Cells.{name_from, name_span}
use Rattle.reader_cells.proofs.names.name_at.Given as goal

abbrev pub invariant-loop-n : goal.invariant-loop-n
invariant-loop-n l = (l.value < 256 ^ l.n) × (l.at + l.n < 2 ^ 64) × (name_span l.text l.at ≡ name_from (8 - l.n) l.text (l.at + l.n) l.value)
