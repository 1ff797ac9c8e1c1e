-- The word that stands for an f32 in the list.
use Rattle.std.specs.Prelude.{ℕ, cond, to_bits, Float}
use Rattle.std.specs.Float.{binary32}
use Rattle.std.specs.Float.Ieee.{eq}
use Rattle.float_laws.specs.Binary32.{zero32}

-- zeros alike, NaNs alike
unfoldable pub pattern_of : Float → ℕ
pattern_of x = cond (eq x zero32) 0 (to_bits binary32 x)
