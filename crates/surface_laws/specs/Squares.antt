-- The words of demand 3 on axes. "An axis's squares are those of the three numbers that `axes` answers for it, summed exactly"; "These sums and bounds are whole-number fractions". Read `UnitLong`.
-- A finite f64 is num / den in size: whole numbers, den a power of two and at least 1. No rounding and no unit of measure is in these words.
use Rattle.std.specs.Prelude.{ℕ, ◌+◌, ◌*◌, ◌≤◌, T, Float}
use Rattle.std.specs.Float.Ieee.Scale.{finite}
use Rattle.std.specs.Float.Ieee.Positive.{num, den}
use Rattle.surface_station.specs.declared.axis.Axis.{Axis}

-- a fraction of whole numbers
pub record Ratio : Type 0 where
  pub over : ℕ
  pub under : ℕ

-- a/b + c/d = (a×d + c×b) / (b×d)
infixl 20 ◌plus◌
abbrev pub ◌plus◌ : Ratio → Ratio → Ratio
p plus q = record { over = p.over * q.under + q.over * p.under; under = p.under * q.under }

-- the exact square of a finite f64
abbrev pub square_of : Float → Ratio
square_of x = record { over = num x * num x; under = den x * den x }

-- "summed exactly"
abbrev pub squares_of : Axis → Ratio
squares_of v = square_of v.x plus square_of v.y plus square_of v.z

-- within 1/1000 of 1: 999/1000 ≤ over/under ≤ 1001/1000
pub record NearOne (q : Ratio) : Type 0 where
  pub above : 999 * q.under ≤ 1000 * q.over
  pub below : 1000 * q.over ≤ 1001 * q.under

-- the three numbers are finite, and their squares sum to within 1/1000 of 1
pub record UnitLong (v : Axis) : Type 0 where
  pub finite_x : T (finite v.x)
  pub finite_y : T (finite v.y)
  pub finite_z : T (finite v.z)
  pub squares : NearOne (squares_of v)
