-- An instance, so that the premises of `DotsAnswered` are seen to be met: a straight road of 10 m with lane -1, 3 wide, marked from 2 to 5 by a span of kind 1; stations 0 and 8, spacing 1. The call answers 3, and the list begins with 2, 3 and 4.
use Prim.Native.Nat.{ℕ, zero, suc, ◌≤◌, ◌<◌}
use native.Mathlib.Omega.{arith}
use mathlib.Core.Path.{◌≡◌, refl, sym, ap, ◌∙◌}
use mathlib.Core.Bool.{Bool, true, false, ◌&&◌}
use mathlib.Core.List.{List, [], ◌∷◌, ◌++◌}
use lib.Count.{count_trailing_zeros}
use lib.IntN.{negsuc}
use lib.ListN.{length, take, replicate, set}
use lib.Dec.{ltb, leb, lit<}
use borrow.Author.Tests.{ltb-true, ltb-false}
use lib.Ieee.Fits.{nan-fits}
use lib.Ieee.Bits.{of_bits-fits}
use lib.Ieee.{Float, binary32, binary64, fits, size, span, climb, odd, units, round, sum, add, sub, mul, div, neg, lt, eq, le, of_bits, of_fields, of_int}
use Rattle.float_laws.specs.Binary32.{f32, zero32, one32}
use Rattle.float_laws.specs.Binary64.{f64, zero64}
use Rattle.std.specs.Prelude.{Some}
use Rattle.float_laws.proofs.Value.{pl, mi, Real}
use Rattle.float_laws.proofs.Checker.{good-real}
use Rattle.admission_laws.specs.Fractions.{IsF64, AllF64}
use Rattle.dots_laws.specs.DotsAnswered.{AnswerKept}
use Rattle.dots_laws.proofs.DotsAnswered.{dots-answers, dots-answered}
use Rattle.dots_laws.proofs.Multiples.{multiples-first}
use Rattle.refusals.specs.Answer.{value}
use Rattle.arithmetic.specs.Narrow.{narrowed}
use Rattle.arithmetic.specs.Root.{whole_root, root_units, root_of}
use Rattle.arithmetic_sine.specs.Floor.{floor_of, quarter_of}
use Rattle.arithmetic_sine.specs.Sine.{sine_of, cosine_of, in_sine_range, sine_by, cosine_by, turn, turns, rest, sine_kernel, cosine_kernel, horner, quotient, factorial}
use Rattle.records_lent.specs.Lists.{tabulate, all_below, any_below, last_that}
use Rattle.records_cubic.specs.Cubics.{cubics_of}
use Rattle.records.specs.declared.points.LanePlace.{LanePlace}
use Rattle.records.specs.Active.{active_in, value_in, last_start}
use Rattle.records.specs.Roads.{road_of, heights_of, geom_in, unused_in, lane_in, mark_in, section_in, profile_in, column_in, strip_in, geom_index, section_index}
use Rattle.records_marks.specs.Covers.{covered}
use Rattle.line_samples.specs.Samples.{goes_on, steps_from, spiral_steps, sample_count, samples_before, samples_needed}
use Rattle.line_pose.specs.Poses.{pose_of, line_pose}
use Rattle.admission.specs.Admission.{admitted, pass}
use Rattle.admission_structure.specs.Structure.{structured}
use Rattle.admission_order.specs.Order.{never_fall, rise_strictly, apart, cubics_in_order, lane_in_order, section_in_order, profiles_in_order, strip_in_order, marks_in_order, ordered}
use Rattle.admission_bounds.specs.Bounds.{reach_at, bound_of, slope_bound_of, cubic_within, cubics_within, slopes_within, greatest, greatest_bound}
use Rattle.admission.specs.Limits.{shape_limited, geom_limited, section_extent, height_limited, heights_limited, lane_limited, section_limited, profile_limited, strip_limited, mark_limited, marks_limited, limited}
use Rattle.lanes.specs.Lateral.{flat_across, has_cross_section, height_of, height_toward, shape_of, cross_height}
use Rattle.lanes_borders.specs.Borders.{width_of, outer_after, borders_at}
use Rattle.lanes_heights.specs.Heights.{level_up_to, height_after, heights_at, across_at, section_raised}
use Rattle.lanes_heights.specs.HeightAcross.{height_across, height_within}
use Rattle.surface_station.specs.Station.{pose_at}
use Rattle.surface_station.specs.Axes.{axes_at}
use Rattle.surface_points.specs.Raised.{plain_at, raised_at}
use Rattle.surface_points.specs.SurfaceHeights.{stands_off, lane_height}
use Rattle.surface_points.specs.Surfaces.{narrowed_point, lane_surface_at}
use Rattle.surface_calls.specs.SurfaceCalls.{place_of_id, lane_there}
use Rattle.coordinates.specs.Vectors.{dot_of, length_of}
use Rattle.coordinates.specs.Points.{point_at}
use Rattle.tracks_calls.specs.TrackCalls.{all_inside, track_rows}
use Rattle.tracks.specs.Lengths.{length_to}
use Rattle.tracks.specs.Poses.{leading_from}
use Rattle.dots.specs.Along.{nth_station, along, reached_from, station_at}
use Rattle.dots.specs.Dots.{multiple, most_multiples, multiples, multiples_on, kept_of, line_length, dots_to, dots_on}
use Rattle.dots_calls.specs.DotsCall.{rising, stations_listed, line_numbers, line_of, lane_rank, dots_of, dot_rows, spaced, lane_asked, dots_call, dots_list}

abbrev ten : Float
ten = f64 0x4024_0000_0000_0000

abbrev two : Float
two = f64 0x4000_0000_0000_0000

abbrev three : Float
three = f64 0x4008_0000_0000_0000

abbrev four : Float
four = f64 0x4010_0000_0000_0000

abbrev eight : Float
eight = f64 0x4020_0000_0000_0000

abbrev five : Float
five = f64 0x4014_0000_0000_0000

-- one geometry, one section with a lane on the right, of one width, and a mark on it, of kind 1
abbrev words : List ℕ
words = set (set (set (1 ∷ 0 ∷ 0 ∷ 0 ∷ 0 ∷ 1 ∷ (replicate 67 0 ++ (1 ∷ replicate 1817 0))) 122 1) 1348 1) 1380 1

-- 10 m, as the geometry is; then the lane's width, and the mark's start and end
abbrev straight : List Float
straight = set (set (replicate 8449 zero64) 0 ten) 5 ten

abbrev wide : List Float
wide = set straight 1746 three

abbrev numbers : List Float
numbers = set (set wide 7937 two) 7938 five

abbrev place : LanePlace
place = record { section = 0; right = true; k = 0 }

abbrev stations : List Float
stations = zero64 ∷ eight ∷ []

-- (0, -3, 0) and (8, -3, 0)
abbrev line : List Float
line = zero32 ∷ f32 0xc040_0000 ∷ zero32 ∷ f32 0x4100_0000 ∷ f32 0xc040_0000 ∷ zero32 ∷ []

line-is : line_of (road_of words numbers) [] place stations ≡ line
unfolding line_numbers lane_surface_at narrowed_point raised_at plain_at axes_at pose_at pose_of line_pose lane_height stands_off section_raised any_below across_at heights_at height_after level_up_to height_across height_within height_of height_toward shape_of cross_height flat_across has_cross_section borders_at outer_after width_of active_in value_in last_start last_that geom_index section_index sine_of cosine_of in_sine_range sine_by cosine_by turn turns rest sine_kernel cosine_kernel horner quotient factorial floor_of quarter_of narrowed road_of cubics_of tabulate heights_of geom_in unused_in lane_in mark_in section_in profile_in column_in strip_in size span round units odd sum add sub mul div neg lt eq le of_bits of_fields of_int count_trailing_zeros
line-is = refl

-- ---- the rows

is-admitted : admitted words numbers ≡ true
unfolding admitted structured road_of cubics_of tabulate all_below heights_of goes_on steps_from spiral_steps sample_count samples_before samples_needed never_fall rise_strictly apart cubics_in_order lane_in_order section_in_order profiles_in_order strip_in_order marks_in_order ordered reach_at bound_of slope_bound_of cubic_within cubics_within slopes_within greatest greatest_bound shape_limited geom_limited section_extent height_limited heights_limited lane_limited section_limited profile_limited strip_limited mark_limited marks_limited limited of_bits add sub mul div le lt eq neg
is-admitted = refl

needs-none : samples_needed (road_of words numbers) ≡ 0
unfolding road_of cubics_of tabulate heights_of goes_on steps_from spiral_steps sample_count samples_before samples_needed of_bits
needs-none = refl

lane-is : lane_asked words numbers [] 0 (negsuc 0) one32 stations ≡ Some place
unfolding road_of cubics_of tabulate heights_of place_of_id lane_there
lane-is = refl

spacing-passes : spaced one32 ≡ true
unfolding of_bits le lt eq
spacing-passes = refl

stations-pass : stations_listed (road_of words numbers) 0 stations ≡ true
unfolding road_of cubics_of tabulate heights_of stations_listed rising of_bits le lt eq
stations-pass = refl

track : pass (track_rows line) ≡ true
unfolding all_inside of_bits le lt eq neg
track = refl

-- ---- the dots

abbrev whole : Float
whole = line_length (point_at line) (nth_station stations) 2 one32

-- the line is 8 m long
whole-is : whole ≡ f32 0x4100_0000
unfolding along leading_from length_to length_of dot_of narrowed root_of root_units whole_root size span climb round units odd sum add sub mul div neg lt eq le of_bits of_fields of_int count_trailing_zeros
whole-is = refl

eighth : le (multiple one32 8) (f32 0x4100_0000) ≡ true
unfolding of_int of_bits mul le lt eq
eighth = refl

ninth : le (multiple one32 9) (f32 0x4100_0000) ≡ false
unfolding of_int of_bits mul le lt eq
ninth = refl

-- of the first nine
first : dots_to (road_of words numbers) 0 0 (point_at line) (nth_station stations) 2 one32 9 ≡ two ∷ three ∷ four ∷ []
unfolding road_of cubics_of tabulate heights_of covered any_below kept_of station_at reached_from length_to length_of dot_of root_of root_units whole_root size span climb round units odd sum add sub mul div neg lt eq le of_bits of_fields of_int count_trailing_zeros
first = refl

spacing-real : Real binary32 one32
unfolding of_bits fits
spacing-real = good-real binary32 one32 tt

spacing-above : 0 < pl binary32 one32
unfolding of_bits pl
spacing-above = lit< tt

spacing-plus : mi binary32 one32 ≡ 0
unfolding of_bits mi
spacing-plus = refl

-- there are nine
nine : multiples_on (point_at line) (nth_station stations) 2 one32 ≡ 9
nine =
    let at : (k : ℕ) → k ≤ 65536 → le (multiple one32 k) (f32 0x4100_0000) ≡ ltb k (multiples one32 (f32 0x4100_0000)) = multiples-first one32 spacing-real spacing-above spacing-plus (f32 0x4100_0000) in
    let more = ltb-true 8 (multiples one32 (f32 0x4100_0000)) (sym (at 8 (omega arith)) ∙ eighth) in
    let no_more = ltb-false 9 (multiples one32 (f32 0x4100_0000)) (sym (at 9 (omega arith)) ∙ ninth) in
    let n : multiples one32 (f32 0x4100_0000) ≡ 9 = omega arith in
    ap (multiples one32) whole-is ∙ n

listed : dots_on (road_of words numbers) 0 0 (point_at line) (nth_station stations) 2 one32 ≡ two ∷ three ∷ four ∷ []
unfolding dots_on
listed = ap (λ (m : ℕ). dots_to (road_of words numbers) 0 0 (point_at line) (nth_station stations) 2 one32 m) nine ∙ first

rank-is : lane_rank (road_of words numbers) place ≡ 0
unfolding road_of cubics_of tabulate heights_of
rank-is = refl

dots-are : dots_of (road_of words numbers) [] one32 stations place ≡ two ∷ three ∷ four ∷ []
dots-are =
    ap (λ (r : ℕ). dots_on (road_of words numbers) 0 r (point_at (line_of (road_of words numbers) [] place stations)) (nth_station stations) 2 one32) rank-is
    ∙ ap (λ (xs : List Float). dots_on (road_of words numbers) 0 0 (point_at xs) (nth_station stations) 2 one32) line-is ∙ listed

few : leb (multiples_on (point_at (line_of (road_of words numbers) [] place stations)) (nth_station stations) 2 one32) most_multiples ≡ true
few = ap (λ (xs : List Float). leb (multiples_on (point_at xs) (nth_station stations) 2 one32) most_multiples) line-is ∙ ap (λ (m : ℕ). leb m most_multiples) nine

rows : pass (dot_rows (road_of words numbers) [] one32 stations place 5) ≡ true
rows = passes _ _ _ _ _ spacing-passes stations-pass (ap (λ (xs : List Float). pass (track_rows xs)) line-is ∙ track) few (ap (λ (xs : List Float). leb (length xs) 5) dots-are)
  where
    passes : (a b c d e : Bool) → a ≡ true → b ≡ true → c ≡ true → d ≡ true → e ≡ true → a && ((b && c) && ((d && e) && true)) ≡ true
    passes a b c d e f g h k l = rw (f, g, h, k, l)

-- ---- the call

pub worked-answer : dots_call words numbers [] 0 (negsuc 0) one32 stations 5 ≡ value 3
worked-answer = dots-answers words numbers [] 0 (negsuc 0) one32 stations 5 place is-admitted (let n = needs-none in omega arith) lane-is rows ∙ ap (λ (xs : List Float). value (length xs)) dots-are

zeros-fit : (n : ℕ) → AllF64 (replicate n zero64)
zeros-fit zero k = nan-fits binary64
zeros-fit (suc n) zero = of_bits-fits binary64 0
zeros-fit (suc n) (suc k) = zeros-fit n k

set-fits : (xs : List Float) (i : ℕ) (x : Float) → AllF64 xs → IsF64 x → AllF64 (set xs i x)
set-fits [] i x f g k = nan-fits binary64
set-fits (y ∷ xs) zero x f g zero = g
set-fits (y ∷ xs) zero x f g (suc k) = f (suc k)
set-fits (y ∷ xs) (suc i) x f g zero = f zero
set-fits (y ∷ xs) (suc i) x f g (suc k) = set-fits xs i x (λ j. f (suc j)) g k

bits_fit : (b : ℕ) → IsF64 (f64 b)
bits_fit b = of_bits-fits binary64 b

straight-fits : AllF64 straight
straight-fits = set-fits (set (replicate 8449 zero64) 0 ten) 5 ten (set-fits (replicate 8449 zero64) 0 ten (zeros-fit 8449) (bits_fit _)) (bits_fit _)

numbers_fit : AllF64 numbers
numbers_fit = set-fits (set wide 7937 two) 7938 five (set-fits wide 7937 two (set-fits straight 1746 three straight-fits (bits_fit _)) (bits_fit _)) (bits_fit _)

stations_fit : AllF64 stations
stations_fit zero = bits_fit _
stations_fit (suc zero) = bits_fit _
stations_fit (suc (suc k)) = nan-fits binary64

-- of whatever list of five
pub worked-call : (list : List Float) → length list ≡ 5 → AnswerKept words numbers [] 0 (negsuc 0) one32 stations list 3
worked-call list e =
    dots-answered words numbers [] 0 (negsuc 0) one32 stations list numbers_fit spacing-real.fits stations_fit 3
    (ap (dots_call words numbers [] 0 (negsuc 0) one32 stations) e ∙ worked-answer)

pub worked-list : (list : List Float) → length list ≡ 5 → take 3 (dots_list words numbers [] 0 (negsuc 0) one32 stations list) ≡ two ∷ three ∷ four ∷ []
worked-list list e =
    let kept = worked-call list e in
    let same : kept.place ≡ place = found (sym kept.lane_is ∙ lane-is) in
    kept.dots ∙ ap (λ (p : LanePlace). dots_of (road_of words numbers) [] one32 stations p) same ∙ dots-are
  where
    found : {p q : LanePlace} → Some p ≡ Some q → p ≡ q
    found h = cc
