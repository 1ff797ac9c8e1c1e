-- Two numbers that a bound's square lies between, far enough off for the root to tell: a sum of squares at most `low` has a root under the bound, and one of at least `high` has not (`root_below`, `root-above` of proofs/BracketLaws).
use Rattle.std.specs.Prelude.{Bool, ◌&&◌, Float}
use Rattle.std.specs.Float.{binary64}
use Rattle.std.specs.Float.Ieee.{fits, le, lt}
use Rattle.std.specs.Float.Ieee.Scale.{finite}
use Rattle.float_laws.specs.Binary64.{zero64}
use Rattle.arithmetic.specs.Root.{root_of}

-- a finite f64
abbrev pub real64 : Float → Bool
real64 x = finite x && fits binary64 x

unfoldable pub brackets : Float → Float → Float → Bool
brackets low high bound = real64 low && (real64 high && (real64 bound && (le zero64 high && (lt (root_of binary64 low) bound && le bound (root_of binary64 high)))))
