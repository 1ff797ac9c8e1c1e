-- Document 01's M12, and four more answers, by computation: from another guess, one move; a target past the road's end, held at its end, astray; a target 90 m off, reached and astray; samples that are NaN, 24 moves, astray.
use mathlib.Core.Path.{◌≡◌, refl}
use mathlib.Core.Bool.{true, false}
use mathlib.Core.List.{[], ◌∷◌}
use lib.Ieee.{Float, nan, of_bits, of_int, add, sub, mul, div, le, lt, eq, neg}
use Rattle.float_laws.specs.Binary64.{f64, zero64}
use Rattle.arithmetic.specs.Root.{root_of, hypot_of}
use Rattle.arithmetic_sine.specs.Floor.{floor_of, quarter_of}
use Rattle.arithmetic_sine.specs.Sine.{turn, turns, rest, factorial, quotient, horner, sine_kernel, cosine_kernel, sine_by, cosine_by, in_sine_range, sine_of, cosine_of}
use Rattle.records_lent.specs.Lists.{any_below}
use Rattle.records.specs.declared.points.GeomShape.TheVariants.{Line, Spiral}
use Rattle.records.specs.Active.{last_start, active_in, value_in}
use Rattle.records.specs.Roads.{Road, geom_index, section_index}
use Rattle.line_samples.specs.Samples.{sample_count, samples_before, spiral_steps, steps_from, goes_on}
use Rattle.line_pose.specs.Poses.{line_pose, leading, spiral_pose, pose_of}
use Rattle.lanes.specs.Lateral.{flat_across, has_cross_section, height_toward, shape_of, cross_height}
use Rattle.lanes_heights.specs.Heights.{section_raised}
use Rattle.surface_station.specs.Station.{pose_at}
use Rattle.surface_points.specs.Raised.{plain_at, raised_at}
use Rattle.surface_points.specs.SurfaceHeights.{stands_off, surface_height}
use Rattle.surface_points.specs.Surfaces.{surface_at}
use Rattle.surface_locate.specs.declared.points.Position.{Position}
use Rattle.surface_locate.specs.Locating.{miss_at, rate_of, ahead_of, newton_move, move_at, walk_from, first_t, met_at, start_of, locate_of}
use Rattle.surface_calls.specs.LocateCall.{target}

abbrev two : Float
two = f64 0x4000_0000_0000_0000

abbrev three : Float
three = f64 0x4008_0000_0000_0000

abbrev ten : Float
ten = f64 0x4024_0000_0000_0000

-- M1's road: "road (length 10.0), geom (`line`, length 10.0, all else zero), section (0)"
abbrev road1 : Road
road1 =
    record {
      length = ten;
      geoms = record { s = zero64; x = zero64; y = zero64; hdg = zero64; length = ten; shape = Line } ∷ [];
      unused = (zero64 ∷ zero64 ∷ []) ∷ [];
      elevations = [];
      superelevations = [];
      offsets = [];
      tshifts = [];
      sections = record { start = zero64; left = []; right = []; marks = [] } ∷ [];
      profiles = [];
      strips = [];
    }

-- the same with a spiral of 0.5 m, three samples, in the line's place
abbrev bent : Road
bent =
    record {
      length = ten;
      geoms = record { s = zero64; x = zero64; y = zero64; hdg = zero64; length = f64 0x3fe0_0000_0000_0000; shape = Spiral zero64 zero64 } ∷ [];
      unused = [] ∷ [];
      elevations = [];
      superelevations = [];
      offsets = [];
      tshifts = [];
      sections = record { start = zero64; left = []; right = []; marks = [] } ∷ [];
      profiles = [];
      strips = [];
    }

abbrev Gives : Road → Float → Float → Float → Position → Type 0
Gives road x y guess p = locate_of road [] (target x y) guess ≡ p

pub examples :
    -- "M12: M1's road, target (3,2), guess 3: pair (3,2), 0 moves, met"
    (Gives road1 three two three (record { s = three; t = two; moves = 0; converged = true }))
    -- from 0: one move, to 3 but for 7e-12
    × (Gives road1 three two zero64 (record { s = f64 0x4007_ffff_ffff_c850; t = two; moves = 1; converged = true }))
    -- x = 30: held at the road's end
    × (Gives road1 (f64 0x403e_0000_0000_0000) two three (record { s = ten; t = two; moves = 2; converged = false }))
    -- y = 90: found, and not on the road
    × (Gives road1 three (f64 0x4056_8000_0000_0000) zero64 (record { s = f64 0x4007_ffff_ffff_c850; t = f64 0x4056_8000_0000_0000; moves = 1; converged = false }))
    -- samples that are not there are NaN: no comparison ends the moves, and none meets
    × (Gives bent three two three (record { s = nan; t = nan; moves = 24; converged = false }))
unfolding of_bits of_int add sub mul div le lt eq neg root_of hypot_of floor_of quarter_of turn turns rest factorial quotient horner sine_kernel cosine_kernel sine_by cosine_by in_sine_range sine_of cosine_of last_start active_in value_in geom_index line_pose leading spiral_pose pose_of sample_count samples_before spiral_steps steps_from goes_on pose_at section_index flat_across has_cross_section height_toward shape_of cross_height section_raised any_below plain_at raised_at stands_off surface_height surface_at miss_at rate_of ahead_of newton_move move_at walk_from first_t met_at start_of locate_of
examples = (refl, refl, refl, refl, refl)
