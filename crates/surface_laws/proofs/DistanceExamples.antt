-- The words of specs/Distances on numbers whose values everyone knows, by computation.
use Prim.Native.Nat.{◌*◌}
use mathlib.Core.Path.{◌≡◌, refl}
use lib.Ieee.{Float, of_bits}
use Rattle.float_laws.specs.Binary64.{f64}
use Rattle.surface_laws.specs.Distances.{difference, distance_squared}

abbrev minus_one : Float
minus_one = f64 0xbff0_0000_0000_0000

abbrev two : Float
two = f64 0x4000_0000_0000_0000

-- -1 and 2 are 3 apart, from either side
apart-by-three : ((difference minus_one two).over ≡ 3 * (difference minus_one two).under) × ((difference two minus_one).over ≡ 3 * (difference two minus_one).under)
unfolding of_bits
apart-by-three = (refl, refl)

-- from (-1, 2) to (2, -1): 9 and 9
squares_of-gaps : (distance_squared minus_one two two minus_one).over ≡ 18 * (distance_squared minus_one two two minus_one).under
unfolding of_bits
squares_of-gaps = refl
