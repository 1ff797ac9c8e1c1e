-- Document 01, "Admission", row 4: every number's limit, in 01's order. The limits are the f64 nearest the decimals of 01.
use Rattle.std.specs.Prelude.{ℕ, ◌+◌, Bool, true, false, ◌&&◌, ◌||◌, cond, List, length, leb, ltb, Float}
use Rattle.std.specs.Float.Ieee.{le, neg}
use Rattle.float_laws.specs.Binary64.{◌⊕◌, ◌⊖◌, ◌⊗◌, f64, zero64, abs_of}
use Rattle.records_cubic.specs.declared.cubics.Cubic.{Cubic}
use Rattle.records.specs.declared.points.GeomShape.{GeomShape}
use Rattle.records.specs.declared.points.GeomShape.TheVariants.{Line, Arc, Spiral}
use Rattle.records.specs.declared.points.HeightDef.{HeightDef}
use Rattle.records.specs.declared.points.Mark.{Mark}
use Rattle.records_lent.specs.Lists.{all_below}
use Rattle.records.specs.Roads.{Road, Lane, Strip, straight_curvature, geom_at, unused_zero, section_of, lane_of, profile_at, strip_at, column_of, height_def_at, mark_at}
use Rattle.arithmetic_ranges.specs.Ranges.{in_range, sized, largest, finite64}
use Rattle.admission_bounds.specs.Bounds.{cubics_within, slopes_within, greatest_bound}

-- ---- the numbers, by what they limit

-- "Length 0.01..10,000"
abbrev pub least_length : Float
least_length = f64 0x3f84_7ae1_47ae_147b

abbrev pub greatest_length : Float
greatest_length = f64 0x40c3_8800_0000_0000

-- "shape starts in -80..80"
abbrev pub greatest_shape_start : Float
greatest_shape_start = f64 0x4054_0000_0000_0000

-- "|x|,|y| ≤ 1,000,000"
abbrev pub greatest_place : Float
greatest_place = f64 0x412e_8480_0000_0000

-- "|hdg| ≤ 1,000"
abbrev pub greatest_heading : Float
greatest_heading = f64 0x408f_4000_0000_0000

-- "geom length 0.01..10,000"
abbrev pub least_geom_length : Float
least_geom_length = f64 0x3f84_7ae1_47ae_147b

abbrev pub greatest_geom_length : Float
greatest_geom_length = f64 0x40c3_8800_0000_0000

-- "Arc curvature: size ≤ 1e-9, or 0.00001..1"; up to 1e-9 it is straight, `straight_curvature`
abbrev pub least_arc_curvature : Float
least_arc_curvature = f64 0x3ee4_f8b5_88e3_68f1

abbrev pub greatest_arc_curvature : Float
greatest_arc_curvature = f64 0x3ff0_0000_0000_0000

-- "Spiral curvatures: size ≤ 1"
abbrev pub greatest_spiral_curvature : Float
greatest_spiral_curvature = f64 0x3ff0_0000_0000_0000

-- "Lane heights: size ≤ 2"
abbrev pub greatest_lane_height : Float
greatest_lane_height = f64 0x4000_0000_0000_0000

-- "The end is .. 80 for shapes"
abbrev pub shapes_end : Float
shapes_end = f64 0x4054_0000_0000_0000

-- "B at most: elev 10,000; bank 0.75; offset, tshift, width lanes 8; border lanes 36; shapes 40; strip width 100"
abbrev pub greatest_elevation : Float
greatest_elevation = f64 0x40c3_8800_0000_0000

abbrev pub greatest_bank : Float
greatest_bank = f64 0x3fe8_0000_0000_0000

abbrev pub greatest_offset : Float
greatest_offset = f64 0x4020_0000_0000_0000

abbrev pub greatest_shift : Float
greatest_shift = f64 0x4020_0000_0000_0000

abbrev pub greatest_width : Float
greatest_width = f64 0x4020_0000_0000_0000

abbrev pub greatest_border : Float
greatest_border = f64 0x4042_0000_0000_0000

abbrev pub greatest_shape : Float
greatest_shape = f64 0x4044_0000_0000_0000

abbrev pub greatest_strip_width : Float
greatest_strip_width = f64 0x4059_0000_0000_0000

-- "Elev also .. ≤ 1"
abbrev pub greatest_grade : Float
greatest_grade = f64 0x3ff0_0000_0000_0000

-- "by Horner at 88: ≤ 40"
abbrev pub farthest_across : Float
farthest_across = f64 0x4056_0000_0000_0000

abbrev pub greatest_strip_height : Float
greatest_strip_height = f64 0x4044_0000_0000_0000

-- document 02, point 2: "kind a whole number 1..255"
abbrev pub least_kind : ℕ
least_kind = 1

abbrev pub greatest_kind : ℕ
greatest_kind = 255

-- ---- the tests

-- "Length 0.01..10,000"
abbrev pub length_ok : Float → Bool
length_ok x = in_range least_length greatest_length x

-- "geom length 0.01..10,000"
abbrev pub geom_length_ok : Float → Bool
geom_length_ok x = in_range least_geom_length greatest_geom_length x

-- "Road starts (not lane lists') lie in 0..length"
abbrev pub on_road : Road → Float → Bool
on_road road x = in_range zero64 road.length x

-- cubics along the road: "The end is the road length"
abbrev pub road_cubics_within : Road → List Cubic → Float → Bool
road_cubics_within road cs limit = cubics_within cs zero64 road.length road.length limit

-- "Arc curvature: size ≤ 1e-9, or 0.00001..1. Spiral curvatures: size ≤ 1."
unfoldable pub shape_limited : GeomShape → Bool
shape_limited Line = true
shape_limited (Arc k) = sized straight_curvature k || in_range least_arc_curvature greatest_arc_curvature (abs_of k)
shape_limited (Spiral a b) = sized greatest_spiral_curvature a && sized greatest_spiral_curvature b

-- "|x|,|y| ≤ 1,000,000; |hdg| ≤ 1,000; geom length 0.01..10,000", "unused k0 or k1 not zero"
unfoldable pub geom_limited : Road → ℕ → Bool
unfolding shape_limited
geom_limited road i =
    let g = geom_at road i in
    on_road road g.s && sized greatest_place g.x && sized greatest_place g.y && sized greatest_heading g.hdg && geom_length_ok g.length && shape_limited g.shape && unused_zero road i

-- where a section ends: "next section's start or the road length"
abbrev pub section_end : Road → ℕ → Float
section_end road i = cond (ltb (i + 1) (length road.sections)) (section_of road (i + 1)).start road.length

-- "the section's extent .. (next section's start or the road length, less its own)"
unfoldable pub section_extent : Road → ℕ → Float
section_extent road i = section_end road i ⊖ (section_of road i).start

-- "Lane heights: size ≤ 2"; a lane list's starts have no range, so they have to be finite and no more
unfoldable pub height_limited : HeightDef → Bool
height_limited h = finite64 h.s_offset && sized greatest_lane_height h.inner && sized greatest_lane_height h.outer

unfoldable pub heights_limited : List HeightDef → Bool
unfolding all_below height_limited
heights_limited hs = all_below (λ i. height_limited (height_def_at hs i)) (length hs)

-- "width lanes 8; border lanes 36", to "the section's extent for lane lists"
unfoldable pub lane_limited : Float → Lane → Bool
unfolding cubics_within heights_limited
lane_limited extent lane =
    cubics_within lane.extents (neg largest) largest extent (cond lane.border greatest_border greatest_width)
    && heights_limited lane.heights

-- a section's start and its lanes
unfoldable pub section_limited : Road → ℕ → Bool
unfolding all_below lane_limited section_extent
section_limited road i =
    on_road road (section_of road i).start
    && all_below (λ k. lane_limited (section_extent road i) (lane_of road i false k)) (length (section_of road i).left)
    && all_below (λ k. lane_limited (section_extent road i) (lane_of road i true k)) (length (section_of road i).right)

-- "shape starts in -80..80"; "80 for shapes"; "shapes 40"
unfoldable pub profile_limited : Road → ℕ → Bool
unfolding cubics_within
profile_limited road i =
    on_road road (profile_at road i).s
    && cubics_within (profile_at road i).shapes (neg greatest_shape_start) greatest_shape_start shapes_end greatest_shape

-- "A strip's four terms, each at its greatest B (0 for none), by Horner at 88: ≤ 40"
abbrev pub term_bound : Road → Strip → ℕ → Float
term_bound road strip term = greatest_bound (column_of strip (term + 1)) road.length

-- a step of Horner at 88
abbrev pub times_farthest : Float → Float
times_farthest h = h ⊗ farthest_across

abbrev pub terms_bound : Road → Strip → Float
terms_bound road strip =
    times_farthest (times_farthest (times_farthest (term_bound road strip 3) ⊕ term_bound road strip 2) ⊕ term_bound road strip 1) ⊕ term_bound road strip 0

-- a term's own B only has to be finite, so that none is a NaN that the greatest would pass over; "strip width 100"
unfoldable pub strip_limited : Road → Strip → Bool
unfolding all_below cubics_within greatest_bound
strip_limited road strip =
    road_cubics_within road (column_of strip 0) greatest_strip_width
    && all_below (λ term. road_cubics_within road (column_of strip (term + 1)) largest) 4
    && le (terms_bound road strip) greatest_strip_height

-- document 02, point 2: "kind a whole number 1..255, .. 0 ≤ start ≤ end ≤ the section's extent"
unfoldable pub mark_limited : Float → Mark → Bool
mark_limited extent m = leb least_kind m.kind && leb m.kind greatest_kind && le zero64 m.start && le m.start m.end && le m.end extent

-- a section's marks
unfoldable pub marks_limited : Road → ℕ → Bool
unfolding all_below mark_limited section_extent
marks_limited road i = all_below (λ j. mark_limited (section_extent road i) (mark_at road i j)) (length (section_of road i).marks)

-- row 4, "a number not finite or outside its limit", of the whole road. "B at most: elev 10,000; bank 0.75; offset, tshift, .. 8"; "Elev also .. ≤ 1"
unfoldable pub limited : Road → Bool
unfolding all_below geom_limited cubics_within slopes_within section_limited profile_limited strip_limited marks_limited
limited road =
    length_ok road.length
    && all_below (geom_limited road) (length road.geoms)
    && road_cubics_within road road.elevations greatest_elevation
    && slopes_within road.elevations road.length greatest_grade
    && road_cubics_within road road.superelevations greatest_bank
    && road_cubics_within road road.offsets greatest_offset
    && road_cubics_within road road.tshifts greatest_shift
    && all_below (section_limited road) (length road.sections)
    && all_below (profile_limited road) (length road.profiles)
    && all_below (λ i. strip_limited road (strip_at road i)) 4
    && all_below (marks_limited road) (length road.sections)
