-- What passing row 4 says, part by part. A test at every index passes at each; a conjunction's parts pass.
use Prim.Native.Nat.{ℕ, ◌+◌, ◌<◌}
use mathlib.Core.Path.{◌≡◌}
use mathlib.Core.Bool.{Bool, true, false, cond}
use mathlib.Core.Logic.{◌⊎◌}
use mathlib.Core.List.{[], ◌∷◌}
use lib.ListN.{length, get_or}
use lib.Ieee.{Float, le, neg}
use Rattle.std.proofs.lemmas.Bool.{or_cases}
use Rattle.float_laws.specs.Binary64.{abs_of}
use Rattle.records.specs.declared.points.GeomShape.TheVariants.{Arc, Spiral}
use Rattle.records.specs.declared.points.HeightDef.{HeightDef}
use Rattle.records_lent.specs.Lists.{all_below}
use Rattle.records_lent.proofs.TestLaws.{and-fst, and-snd, chain-at, all-at}
use Rattle.records.specs.Roads.{Road, Lane, Strip, straight_curvature, geom_at, unused_zero, section_of, lane_of, profile_at, strip_at, column_of, height_def_at}
use Rattle.arithmetic_ranges.specs.Ranges.{in_range, sized, largest, finite64}
use Rattle.admission_bounds.specs.Bounds.{cubics_within, slopes_within}
use Rattle.admission.specs.Limits.{greatest_shape_start, greatest_place, greatest_heading, least_arc_curvature, greatest_arc_curvature, greatest_spiral_curvature, greatest_lane_height, shapes_end, greatest_elevation, greatest_bank, greatest_offset, greatest_shift, greatest_width, greatest_border, greatest_shape, greatest_strip_width, greatest_grade, greatest_strip_height, length_ok, geom_length_ok, on_road, road_cubics_within, shape_limited, geom_limited, section_extent, height_limited, heights_limited, lane_limited, section_limited, profile_limited, terms_bound, strip_limited, marks_limited, limited}

-- ---- the road

pub record Limited (road : Road) : Type 0 where
  pub of_length_ok : length_ok road.length ≡ true
  pub geoms : (i : ℕ) → i < length road.geoms → geom_limited road i ≡ true
  pub elevations : road_cubics_within road road.elevations greatest_elevation ≡ true
  pub slopes : slopes_within road.elevations road.length greatest_grade ≡ true
  pub superelevations : road_cubics_within road road.superelevations greatest_bank ≡ true
  pub offsets : road_cubics_within road road.offsets greatest_offset ≡ true
  pub tshifts : road_cubics_within road road.tshifts greatest_shift ≡ true
  pub sections : (i : ℕ) → i < length road.sections → section_limited road i ≡ true
  pub profiles : (i : ℕ) → i < length road.profiles → profile_limited road i ≡ true
  pub strips : (i : ℕ) → i < 4 → strip_limited road (strip_at road i) ≡ true
  pub marks : (i : ℕ) → i < length road.sections → marks_limited road i ≡ true

pub limited-parts : (road : Road) → limited road ≡ true → Limited road
unfolding limited
limited-parts road e =
    let t =
    chain-at
    (length_ok road.length)
    (all_below (geom_limited road) (length road.geoms) ∷ road_cubics_within road road.elevations greatest_elevation ∷ slopes_within road.elevations road.length greatest_grade ∷ road_cubics_within road road.superelevations greatest_bank ∷ road_cubics_within road road.offsets greatest_offset ∷ road_cubics_within road road.tshifts greatest_shift ∷ all_below (section_limited road) (length road.sections) ∷ all_below (profile_limited road) (length road.profiles) ∷ all_below (λ i. strip_limited road (strip_at road i)) 4 ∷ all_below (marks_limited road) (length road.sections) ∷ [])
    e
    in
    record {
      of_length_ok = t 0;
      geoms = all-at (geom_limited road) (length road.geoms) (t 1);
      elevations = t 2;
      slopes = t 3;
      superelevations = t 4;
      offsets = t 5;
      tshifts = t 6;
      sections = all-at (section_limited road) (length road.sections) (t 7);
      profiles = all-at (profile_limited road) (length road.profiles) (t 8);
      strips = all-at (λ i. strip_limited road (strip_at road i)) 4 (t 9);
      marks = all-at (marks_limited road) (length road.sections) (t 10);
    }

-- ---- a geometry and its shape

pub record GeomLimited (road : Road) (i : ℕ) : Type 0 where
  pub s : on_road road (geom_at road i).s ≡ true
  pub x : sized greatest_place (geom_at road i).x ≡ true
  pub y : sized greatest_place (geom_at road i).y ≡ true
  pub hdg : sized greatest_heading (geom_at road i).hdg ≡ true
  pub length : geom_length_ok (geom_at road i).length ≡ true
  pub shape : shape_limited (geom_at road i).shape ≡ true
  pub unused : unused_zero road i ≡ true

pub geom-parts : (road : Road) (i : ℕ) → geom_limited road i ≡ true → GeomLimited road i
unfolding geom_limited
geom-parts road i e =
    let g = geom_at road i in
    let t =
    chain-at
    (on_road road g.s)
    (sized greatest_place g.x ∷ sized greatest_place g.y ∷ sized greatest_heading g.hdg ∷ geom_length_ok g.length ∷ shape_limited g.shape ∷ unused_zero road i ∷ [])
    e
    in
    record { s = t 0; x = t 1; y = t 2; hdg = t 3; length = t 4; shape = t 5; unused = t 6 }

pub arc-parts : (k : Float) → shape_limited (Arc k) ≡ true → (sized straight_curvature k ≡ true) ⊎ (in_range least_arc_curvature greatest_arc_curvature (abs_of k) ≡ true)
unfolding shape_limited
arc-parts k e = or_cases (sized straight_curvature k) (in_range least_arc_curvature greatest_arc_curvature (abs_of k)) e

pub spiral-parts : (a b : Float) → shape_limited (Spiral a b) ≡ true → (sized greatest_spiral_curvature a ≡ true) × (sized greatest_spiral_curvature b ≡ true)
unfolding shape_limited
spiral-parts a b e = (and-fst (sized greatest_spiral_curvature a) (sized greatest_spiral_curvature b) e, and-snd (sized greatest_spiral_curvature a) (sized greatest_spiral_curvature b) e)

-- ---- a section and its lanes

-- its three tests
section-chain : (road : Road) (i : ℕ) → section_limited road i ≡ true → (n : ℕ)
    → get_or (on_road road (section_of road i).start ∷ all_below (λ k. lane_limited (section_extent road i) (lane_of road i false k)) (length (section_of road i).left) ∷ all_below (λ k. lane_limited (section_extent road i) (lane_of road i true k)) (length (section_of road i).right) ∷ []) n true ≡ true
unfolding section_limited
section-chain road i =
    chain-at
    (on_road road (section_of road i).start)
    (all_below (λ k. lane_limited (section_extent road i) (lane_of road i false k)) (length (section_of road i).left) ∷ all_below (λ k. lane_limited (section_extent road i) (lane_of road i true k)) (length (section_of road i).right) ∷ [])

pub section_start-on : (road : Road) (i : ℕ) → section_limited road i ≡ true → on_road road (section_of road i).start ≡ true
section_start-on road i e = section-chain road i e 0

-- how many lanes a side has
abbrev pub lane_count : Road → ℕ → Bool → ℕ
lane_count road i right = length (cond right (section_of road i).right (section_of road i).left)

pub lane-parts : (road : Road) (i : ℕ) (right : Bool) (k : ℕ) → section_limited road i ≡ true → k < lane_count road i right → lane_limited (section_extent road i) (lane_of road i right k) ≡ true
lane-parts road i true k e h = all-at (λ k. lane_limited (section_extent road i) (lane_of road i true k)) (length (section_of road i).right) (section-chain road i e 2) k h
lane-parts road i false k e h = all-at (λ k. lane_limited (section_extent road i) (lane_of road i false k)) (length (section_of road i).left) (section-chain road i e 1) k h

abbrev pub lane_limit : Lane → Float
lane_limit lane = cond lane.border greatest_border greatest_width

pub extents-pass : (extent : Float) (lane : Lane) → lane_limited extent lane ≡ true → cubics_within lane.extents (neg largest) largest extent (lane_limit lane) ≡ true
unfolding lane_limited
extents-pass extent lane e = and-fst (cubics_within lane.extents (neg largest) largest extent (lane_limit lane)) (heights_limited lane.heights) e

pub record HeightLimited (h : HeightDef) : Type 0 where
  pub start : finite64 h.s_offset ≡ true
  pub inner : sized greatest_lane_height h.inner ≡ true
  pub outer : sized greatest_lane_height h.outer ≡ true

pub height-parts : (extent : Float) (lane : Lane) → lane_limited extent lane ≡ true → (j : ℕ) → j < length lane.heights → HeightLimited (height_def_at lane.heights j)
unfolding lane_limited heights_limited height_limited
height-parts extent lane e j l =
    let h = height_def_at lane.heights j in
    let p = and-snd (cubics_within lane.extents (neg largest) largest extent (lane_limit lane)) (heights_limited lane.heights) e in
    let t = chain-at (finite64 h.s_offset) (sized greatest_lane_height h.inner ∷ sized greatest_lane_height h.outer ∷ []) (all-at (λ i. height_limited (height_def_at lane.heights i)) (length lane.heights) p j l) in
    record { start = t 0; inner = t 1; outer = t 2 }

-- ---- a profile and a strip

pub profile-parts : (road : Road) (i : ℕ) → profile_limited road i ≡ true
    → (on_road road (profile_at road i).s ≡ true) × (cubics_within (profile_at road i).shapes (neg greatest_shape_start) greatest_shape_start shapes_end greatest_shape ≡ true)
unfolding profile_limited
profile-parts road i e =
    let a = on_road road (profile_at road i).s in
    let b = cubics_within (profile_at road i).shapes (neg greatest_shape_start) greatest_shape_start shapes_end greatest_shape in
    (and-fst a b e, and-snd a b e)

pub record StripLimited (road : Road) (strip : Strip) : Type 0 where
  pub width : road_cubics_within road (column_of strip 0) greatest_strip_width ≡ true
  pub terms : (term : ℕ) → term < 4 → road_cubics_within road (column_of strip (term + 1)) largest ≡ true
  pub height : le (terms_bound road strip) greatest_strip_height ≡ true

pub strip-parts : (road : Road) (strip : Strip) → strip_limited road strip ≡ true → StripLimited road strip
unfolding strip_limited
strip-parts road strip e =
    let p : ℕ → Bool = λ term. road_cubics_within road (column_of strip (term + 1)) largest in
    let t = chain-at (road_cubics_within road (column_of strip 0) greatest_strip_width) (all_below p 4 ∷ le (terms_bound road strip) greatest_strip_height ∷ []) e in
    record { width = t 0; terms = all-at p 4 (t 1); height = t 2 }
