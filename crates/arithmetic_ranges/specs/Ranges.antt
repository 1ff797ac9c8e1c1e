-- Document 01: the tests of a range, "a number not finite", "at least 0", how a number is kept within its ends, and the way between two. In f64.
use Rattle.std.specs.Prelude.{Bool, ◌&&◌, cond, Float}
use Rattle.std.specs.Float.Ieee.{le, lt}
use Rattle.float_laws.specs.Binary64.{◌⊕◌, ◌⊖◌, ◌⊗◌, ◌⊘◌, f64, zero64, abs_of}

-- "NaN is outside every range": both comparisons have to pass
abbrev pub in_range : Float → Float → Float → Bool
in_range lo hi x = le lo x && le x hi

-- size at most m
abbrev pub sized : Float → Float → Bool
sized m x = le (abs_of x) m

-- the largest f64: what lies in -largest..largest is finite
abbrev pub largest : Float
largest = f64 0x7fef_ffff_ffff_ffff

-- "a number not finite" fails
abbrev pub finite64 : Float → Bool
finite64 x = sized largest x

-- "at least 0"; a NaN stays
abbrev pub at_least_zero : Float → Float
at_least_zero x = cond (lt x zero64) zero64 x

-- "NaN or below 0 becomes 0", of a width: unlike `at_least_zero` it keeps no NaN and no -0
abbrev pub width_or_zero : Float → Float
width_or_zero w = cond (lt zero64 w) w zero64

-- "raised to 0 if below it, then lowered" to the most "if above it"; a NaN stays
abbrev pub clamped : Float → Float → Float
clamped most x = let up = at_least_zero x in cond (lt most up) most up

-- "linear between neighbours": a + (b - a)×f, as src/road.rs groups it
abbrev pub blend : Float → Float → Float → Float
blend a b f = a ⊕ (b ⊖ a) ⊗ f

-- the way back of `blend`: the part of the way from a to b at which x lies
abbrev pub fraction : Float → Float → Float → Float
fraction a b x = (x ⊖ a) ⊘ (b ⊖ a)
