-- The words of demand 3 on the distance left, in whole numbers: "the root of the sum of the squares of target x less x and target y less y, all exact"; "it is under a bound when that sum is under the bound's square".
-- A finite f64 is (positive_part - negative_part) / den (admission_laws, Fractions); `Ratio`, a fraction of whole numbers, and `plus`, their sum (surface_laws, Squares).
use Rattle.std.specs.Prelude.{ℕ, ◌+◌, ◌-◌, ◌*◌, ◌<◌, Float}
use Rattle.std.specs.Float.Ieee.Positive.{den}
use Rattle.admission_laws.specs.Fractions.{positive_part, negative_part}
use Rattle.surface_laws.specs.Squares.{Ratio, ◌plus◌}

-- the size of x less y (the difference of whole numbers stops at 0, so one of the two is the size and the other 0)
abbrev pub difference : Float → Float → Ratio
difference x y =
    let p = positive_part x * den y + negative_part y * den x in
    let q = positive_part y * den x + negative_part x * den y in
    record { over = p - q + (q - p); under = den x * den y }

-- a fraction times itself
abbrev pub squared : Ratio → Ratio
squared r = record { over = r.over * r.over; under = r.under * r.under }

-- "the sum of the squares of target x less x and target y less y"
abbrev pub distance_squared : Float → Float → Float → Float → Ratio
distance_squared tx x ty y = squared (difference tx x) plus squared (difference ty y)

-- under 1 / n
abbrev pub UnderOneIn : ℕ → Ratio → Type 0
UnderOneIn n r = r.over * n < r.under
