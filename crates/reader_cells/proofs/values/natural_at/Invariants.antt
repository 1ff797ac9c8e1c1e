-- The invariant: the digits read on from digit n give the whole number. A digit stands in the text, so the place after it fits.
use mathlib.Core.Path.{◌≡◌}
use Prim.Native.Nat.{◌<◌, ◌-◌, ◌+◌, ◌^◌}
use Rattle.std.specs.Prelude.{Some}
use Rattle.reader_cells.specs.Cells.{decimal_from, natural_at}
use Rattle.reader_cells.proofs.values.natural_at.Given as goal

abbrev pub invariant-loop-n : goal.invariant-loop-n
invariant-loop-n l = (l.value < 10 ^ l.n) × (l.at + l.n < 2 ^ 64) × (natural_at l.text l.at ≡ Some (decimal_from (4 - l.n) l.text (l.at + l.n) l.value))
