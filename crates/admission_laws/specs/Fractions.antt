-- The words of the statements on sizes, here and above, in whole numbers: "all exact", "These sums and bounds are whole-number fractions". No rounding and no unit of measure is in them.
-- A finite f64 or f32 is num / den in size (the kit's): whole numbers, den a power of two and at least 1. With its sign it is (positive_part - negative_part) / den, where one of the two is 0 and num is the other.
use Rattle.std.specs.Prelude.{ℕ, ◌+◌, ◌*◌, ◌≤◌, ◌<◌, true, false, List, ◌⊎◌, T, Float, get_or}
use Rattle.std.specs.Float.{nan, inf, fin, binary64}
use Rattle.std.specs.Float.Ieee.{fits, le}
use Rattle.std.specs.Float.Ieee.Scale.{finite}
use Rattle.std.specs.Float.Ieee.Positive.{num, den}

-- is an f64: the definitions speak of numbers of every format, a machine lends none but these
abbrev pub IsF64 : Float → Type 0
IsF64 x = T (fits binary64 x)

-- every number of a lent slice; past its end stands a NaN
abbrev pub AllF64 : List Float → Type 0
AllF64 xs = (k : ℕ) → IsF64 (get_or xs k nan)

-- finite, and num / den ≤ most
pub record AtMost (most : ℕ) (x : Float) : Type 0 where
  pub number : T (finite x)
  pub size : num x ≤ most * den x

-- finite, and num / den ≤ over / under
pub record AtMostPart (over under : ℕ) (x : Float) : Type 0 where
  pub number : T (finite x)
  pub size : num x * under ≤ over * den x

abbrev pub positive_part : Float → ℕ
positive_part nan = 0
positive_part (inf s) = 0
positive_part (fin false m e) = num (fin false m e)
positive_part (fin true m e) = 0

abbrev pub negative_part : Float → ℕ
negative_part nan = 0
negative_part (inf s) = 0
negative_part (fin false m e) = 0
negative_part (fin true m e) = num (fin true m e)

-- x ≤ y, for finite x and y
abbrev pub NotOver : Float → Float → Type 0
NotOver x y = positive_part x * den y + negative_part y * den x ≤ positive_part y * den x + negative_part x * den y

-- x < y, for finite x and y
abbrev pub Under : Float → Float → Type 0
Under x y = positive_part x * den y + negative_part y * den x < positive_part y * den x + negative_part x * den y

-- t from a to b or from b to a, both included; a NaN is between none
abbrev pub Between : Float → Float → Float → Type 0
Between a b t = (T (le a t) × T (le t b)) ⊎ (T (le b t) × T (le t a))
