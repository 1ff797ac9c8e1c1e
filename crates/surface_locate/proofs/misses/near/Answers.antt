-- The square of 0.0000009 lies between its brackets, by computation.
use mathlib.Core.Path.{refl}
use lib.Ieee.{of_bits, fits, le, lt}
use Rattle.arithmetic.specs.Root.{root_of}
use Rattle.arithmetic_distance.specs.Brackets.{brackets}
use Rattle.surface_locate.proofs.misses.near.Goals as goal

pub invariant_of-under : goal.invariant_of-under
unfolding of_bits fits le lt root_of brackets
invariant_of-under c = record { between = refl }
