-- Heights by a tangent, from the definitions, by computation, at s = 1: by 1/2, a NaN and the infinities, and at a station without a bank and with one. So the premises of `OneTangent` are seen to be met, and not by all roads.
use mathlib.Core.Path.{◌≡◌, refl}
use mathlib.Core.Bool.{Bool, true, false}
use mathlib.Core.List.{List, [], ◌∷◌}
use lib.Ieee.{Float, of_bits, of_int, add, sub, mul, div, le, lt, eq, neg}
use Rattle.std.specs.Float.{nan}
use Rattle.float_laws.specs.Binary64.{f64, zero64}
use Rattle.arithmetic_sine.specs.Floor.{floor_of, quarter_of}
use Rattle.arithmetic_sine.specs.Sine.{half, one, tan_of, sine_of, cosine_of, in_sine_range, sine_by, cosine_by, turn, turns, rest, sine_kernel, cosine_kernel, horner, quotient, factorial}
use Rattle.records_lent.specs.Lists.{any_below, last_that}
use Rattle.records_cubic.specs.declared.cubics.Cubic.{Cubic}
use Rattle.records.specs.declared.points.GeomShape.TheVariants.{Line}
use Rattle.records.specs.Active.{active_in, value_in, last_start}
use Rattle.records.specs.Roads.{Road, Lane}
use Rattle.lanes.specs.declared.border_heights.BorderHeights.{BorderHeights}
use Rattle.lanes.specs.Lateral.{height_of, height_toward, shape_of, cross_height, flat_across, has_cross_section}
use Rattle.lanes_borders.specs.Borders.{width_of, outer_after, borders_at}
use Rattle.lanes_naming.specs.Naming.{beyond_on, lane_at}
use Rattle.lanes_heights.specs.Heights.{level_up_to, height_after, heights_at, across_at, section_raised}
use Rattle.lanes_heights.specs.HeightAcross.{height_within}
use Rattle.surface_points.specs.SurfaceHeights.{stands_off, surface_height}
use Rattle.heights_laws.specs.OneTangent.{bankless}

abbrev three_halves : Float
three_halves = f64 0x3ff8_0000_0000_0000

abbrev two : Float
two = f64 0x4000_0000_0000_0000

abbrev three : Float
three = f64 0x4008_0000_0000_0000

abbrev infinity : Float
infinity = f64 0x7ff0_0000_0000_0000

abbrev constant : Float → List Cubic
constant a = record { start = zero64; a = a; b = zero64; c = zero64; d = zero64 } ∷ []

abbrev lane : Bool → List Cubic → Lane
lane level extents = record { border = false; level = level; extents = extents; heights = [] }

-- a road 2 m long of one section with the same lanes on both sides
abbrev road : List Cubic → List Lane → Road
road bank lanes =
    record {
      length = two;
      geoms = record { s = zero64; x = zero64; y = zero64; hdg = zero64; length = two; shape = Line } ∷ [];
      unused = (zero64 ∷ zero64 ∷ []) ∷ [];
      elevations = [];
      superelevations = bank;
      offsets = [];
      tshifts = [];
      sections = record { start = zero64; left = lanes; right = lanes; marks = [] } ∷ [];
      profiles = [];
      strips = [];
    }

-- a level lane 3 m wide, and outside it one 0 m wide that isn't marked level itself; and the two without that mark
abbrev level : List Lane
level = lane true (constant three) ∷ lane false [] ∷ []

abbrev tilted : List Lane
tilted = lane false (constant three) ∷ lane false [] ∷ []

-- the heights of a side's two lanes
abbrev TwoLanes : Float → Bool → BorderHeights → BorderHeights → Type 0
TwoLanes tangent right first second = (heights_at (road [] level) 0 one tangent right 0 ≡ first) × (heights_at (road [] level) 0 one tangent right 1 ≡ second)

-- by 1/2 down to the left and up to the right, a lane 0 m wide level with its neighbour; by a NaN from the first outer border on; by the infinities likewise, and across the lane 0 m wide by 0 × ∞
pub by-tangents :
    TwoLanes half false (record { inner = zero64; outer = neg three_halves }) (record { inner = neg three_halves; outer = neg three_halves })
    × TwoLanes half true (record { inner = zero64; outer = three_halves }) (record { inner = three_halves; outer = three_halves })
    × TwoLanes nan false (record { inner = zero64; outer = nan }) (record { inner = nan; outer = nan })
    × TwoLanes infinity false (record { inner = zero64; outer = neg infinity }) (record { inner = neg infinity; outer = nan })
    × TwoLanes (neg infinity) true (record { inner = zero64; outer = neg infinity }) (record { inner = neg infinity; outer = nan })
unfolding of_bits add sub mul le lt eq neg active_in value_in last_start height_of height_toward shape_of cross_height width_of outer_after borders_at level_up_to height_after heights_at
by-tangents = ((refl, refl), (refl, refl), (refl, refl), (refl, refl), (refl, refl))

-- at s = 1 and t = 2, two thirds of the way across the level lane on the left: without a bank 0, and with a bank of 1/2 -2 × tan(1/2), -1.09, of two roads that differ in the bank alone; by the bank in its tangent's place it would be -1
pub at-station :
    (bankless (road [] level) ≡ bankless (road (constant half) level))
    × (surface_height (road [] level) 0 one two ≡ zero64)
    × (surface_height (road (constant half) level) 0 one two ≡ neg (f64 0x3ff1_7b4f_5bf3_474a))
unfolding of_bits of_int add sub mul div le lt eq neg floor_of quarter_of tan_of sine_of cosine_of in_sine_range sine_by cosine_by turn turns rest sine_kernel cosine_kernel horner quotient factorial any_below last_that active_in value_in last_start height_of height_toward shape_of cross_height flat_across has_cross_section width_of outer_after borders_at beyond_on lane_at level_up_to height_after heights_at across_at section_raised height_within stands_off surface_height
at-station = (refl, refl, refl)

-- something stands off where a lane is level, and nothing where none is and none has heights; level holds from its lane outward
pub with-and-without :
    (stands_off (road [] level) 0 ≡ true)
    × (stands_off (road [] tilted) 0 ≡ false)
    × (level_up_to level 1 ≡ true)
    × (level_up_to tilted 1 ≡ false)
unfolding any_below flat_across has_cross_section level_up_to section_raised stands_off
with-and-without = (refl, refl, refl, refl)
