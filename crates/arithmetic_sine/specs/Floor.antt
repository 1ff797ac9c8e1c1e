-- Document 01, "Stand-ins": the floor in n = floor(h×I + 0.5), and n mod 4. Over the format.
use Rattle.std.specs.Prelude.{ℕ, ◌+◌, ◌-◌, ◌*◌, ◌/◌, ◌%◌, cond, Float}
use Rattle.std.specs.Float.{nan, inf, fin, Format}
use Rattle.std.specs.Float.Ieee.{up, down, round}
use Rattle.float_laws.specs.Binary64.{f64}

-- The greatest whole number that is at most x. |x| is m * up e / down e: cut for a positive x, and for a negative one taken to the next whole number up.
-- A NaN and the infinities are their own, and so is -0. The whole number is a value of the format, so `round` changes nothing.
unfoldable pub floor_of : Format → Float → Float
unfolding round
floor_of f nan = nan
floor_of f (inf s) = inf s
floor_of f (fin s m e) = round f s (cond s (m * up e + (down e - 1)) (m * up e) / down e) 1

-- n mod 4 of a whole number n, in 0..3, for a negative n too; 0 of what is no number
unfoldable pub quarter_of : Float → ℕ
quarter_of nan = 0
quarter_of (inf s) = 0
quarter_of (fin s m e) = cond s ((4 - m * up e / down e % 4) % 4) (m * up e / down e % 4)

-- 2^50: the private function `below` asks that x lies within it
abbrev pub below_reach : Float
below_reach = f64 0x4310_0000_0000_0000
