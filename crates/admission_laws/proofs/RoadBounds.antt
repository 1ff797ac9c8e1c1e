-- What an admitted road's values keep to, limit by limit, at every station of the road (`OnRoad`), every distance into a section (`InSection`) and every t in -80..80 (`Across`).
-- Each is `value-within` or `slope_within_lem` at the limit that the road has passed. A road in lent memory is `RoadFits` by `road-fits`.
use Prim.Native.Nat.{ℕ, ◌+◌, ◌<◌}
use mathlib.Core.Path.{◌≡◌, subst}
use mathlib.Core.Bool.{Bool, true, false, not, cond}
use mathlib.Core.List.{List}
use mathlib.Core.Logic.{⊎_elim}
use lib.ListN.{length}
use lib.Dec.{T, ltb, ltb→lt, lit<}
use lib.Ieee.{Float, binary64, of_bits, fits, le, neg, add}
use lib.Ieee.Fits.{sub-fits}
use lib.Ieee.Scale.{finite}
use Rattle.std.proofs.lemmas.Float.{le_trans as float_trans, T_from_true}
use borrow.Author.Numbers.{const_le, neg_const_le}
use Rattle.float_laws.specs.Binary64.{◌⊕◌, ◌⊖◌, ◌⊗◌, zero64, abs_of}
use Rattle.float_laws.proofs.Value.{Real, nle→le, neg-real}
use Rattle.float_laws.proofs.Interval.{In, in-of_le}
use Rattle.float_laws.proofs.Size.{Within, within-of_le, le_of-within, within-mono, sub_within, size, size-nn, size-within, fin-of_le}
use Rattle.records_cubic.specs.declared.cubics.Cubic.{Cubic}
use Rattle.records.specs.declared.points.GeomRec.{GeomRec}
use Rattle.records.specs.declared.points.GeomShape.TheVariants.{Arc, Spiral}
use Rattle.records_cubic.specs.Cubics.{cubic_at}
use Rattle.records.specs.Active.{value_in, slope_in, active_up_to}
use Rattle.records.specs.Roads.{Road, straight_curvature, geom_at, section_of, lane_of, profile_at, strip_at, column_of, height_def_at}
use Rattle.arithmetic_ranges.specs.Ranges.{in_range, sized, largest}
use Rattle.admission_bounds.specs.Bounds.{reach_margin}
use Rattle.admission.specs.Limits.{least_length, greatest_length, greatest_shape_start, greatest_place, greatest_heading, least_geom_length, greatest_geom_length, least_arc_curvature, greatest_arc_curvature, greatest_spiral_curvature, greatest_lane_height, shapes_end, greatest_elevation, greatest_bank, greatest_offset, greatest_shift, greatest_width, greatest_border, greatest_shape, greatest_strip_width, greatest_grade, farthest_across, greatest_strip_height, road_cubics_within, shape_limited, section_extent, term_bound, terms_bound, limited}
use Rattle.admission_arguments.specs.Arguments.{half_width}
use Rattle.admission_laws.proofs.Constants.{const-real, const-within}
use Rattle.admission_laws.proofs.Fitting.{Fits64, CubicsFit, RoadFits}
use Rattle.admission_laws.proofs.ActiveRecord.{Active}
use Rattle.records_lent.proofs.TestLaws.{and-fst, and-snd}
use Rattle.admission_laws.proofs.LimitParts.{Limited, limited-parts, GeomLimited, geom-parts, arc-parts, spiral-parts, section_start-on, lane_count, lane-parts, lane_limit, extents-pass, HeightLimited, height-parts, profile-parts, StripLimited, strip-parts}
use Rattle.admission_laws.proofs.CubicBounds.{far, up_to-real, up_to-grows, gap-covers, Ready, value-within, slope_within_lem, constant-within}
use Rattle.admission_laws.proofs.GreatestBounds.{greatest-within, horner-within}

-- ---- a range and a size as the tests have them

range-in : (lo hi x : Float) → Real binary64 lo → Real binary64 hi → Fits64 x → in_range lo hi x ≡ true → In binary64 lo hi x
range-in lo hi x l h f e = in-of_le binary64 lo hi x l h f (T_from_true (le lo x) (and-fst (le lo x) (le x hi) e)) (T_from_true (le x hi) (and-snd (le lo x) (le x hi) e))

pub sized-within : (m x : Float) → Real binary64 m → Fits64 x → sized m x ≡ true → Within binary64 x m
unfolding size of_bits
sized-within m x r f e =
    let t = T_from_true (le (abs_of x) m) e in
    within-mono binary64 x (abs_of x) m (size-within binary64 x f (fin-of_le (abs_of x) m (size-nn binary64 x f) r.finite t)) r t

-- a value from lo to hi, where lo is not below -hi
in_within : (lo hi x : Float) → In binary64 lo hi x → T (le (neg hi) lo) → Within binary64 x hi
in_within lo hi x i h = within-of_le binary64 x hi i.value i.high (float_trans (neg hi) lo x h i.above) i.below

from_zero-within : (hi x : Float) → Within binary64 zero64 hi → In binary64 zero64 hi x → Within binary64 x hi
from_zero-within hi x w i = in_within zero64 hi x i (le_of-within binary64 zero64 hi w).0

-- ---- the road's length, and a station

pub record OnRoad (road : Road) (s : Float) : Type 0 where
  pub fits : Fits64 s
  pub above : T (le zero64 s)
  pub below : T (le s road.length)

-- from -0.001 to the section's extent
pub record InSection (road : Road) (i : ℕ) (x : Float) : Type 0 where
  pub fits : Fits64 x
  pub above : T (le (neg reach_margin) x)
  pub below : T (le x (section_extent road i))

-- a geometry's own numbers
pub record GeomWithin (g : GeomRec) : Type 0 where
  pub x : Within binary64 g.x greatest_place
  pub y : Within binary64 g.y greatest_place
  pub hdg : Within binary64 g.hdg greatest_heading
  pub length : In binary64 least_geom_length greatest_geom_length g.length

-- from -80 to 80
pub record Across (t : Float) : Type 0 where
  pub fits : Fits64 t
  pub above : T (le (neg half_width) t)
  pub below : T (le t half_width)

in-the-middle : Across zero64
unfolding of_bits fits le neg
in-the-middle = record { fits = tt; above = tt; below = tt }

margin-far : T (le (neg far) (neg reach_margin))
unfolding of_bits le neg
margin-far = tt

lane_limit_lem : (b : Bool) → Within binary64 zero64 (cond b greatest_border greatest_width)
lane_limit_lem true = const-within _ _ tt
lane_limit_lem false = const-within _ _ tt

twice-finite : T (finite (greatest_length ⊕ greatest_length))
unfolding of_bits add
twice-finite = tt

twice-far : T (le (greatest_length ⊕ greatest_length) far)
unfolding of_bits add le
twice-far = tt

module _ (road : Road) (fit : RoadFits road) (ok : limited road ≡ true) where
  parts : Limited road
  parts = limited-parts road ok

  -- 0.01..10,000
  pub length-in : In binary64 least_length greatest_length road.length
  length-in = range-in least_length greatest_length road.length (const-real _ tt) (const-real _ tt) fit.length parts.of_length_ok

  pub length-within : Within binary64 road.length greatest_length
  length-within = in_within least_length greatest_length road.length length-in (neg_const_le binary64 _ _ tt)

  -- a station is at most 10,000
  pub station-within : (s : Float) → OnRoad road s → Within binary64 s greatest_length
  station-within s o =
      let i = in-of_le binary64 zero64 road.length s (const-real _ tt) length-in.value o.fits o.above o.below in
      from_zero-within greatest_length s (const-within _ _ tt)
      (record { low = const-real _ tt; high = const-real _ tt; value = i.value; above = o.above; below = float_trans s road.length greatest_length o.below length-in.below })

  -- ---- lists along the road
  pub along : (cs : List Cubic) (limit s : Float) → OnRoad road s → CubicsFit cs → Within binary64 zero64 limit → road_cubics_within road cs limit ≡ true → Ready cs zero64 road.length road.length limit s
  along cs limit s o f b p =
      record {
        fitting = f;
        least = const-real _ tt;
        most = length-in.value;
        place = within-mono binary64 s greatest_length far (station-within s o) (const-real _ tt) (const_le binary64 _ _ tt);
        stop = length-in.value;
        order = o.below;
        bound = b;
        passed = p;
      }

  module _ (s : Float) (o : OnRoad road s) where
    list-within : (cs : List Cubic) (limit : Float) → CubicsFit cs → Within binary64 zero64 limit → road_cubics_within road cs limit ≡ true → Within binary64 (value_in cs s) limit
    list-within cs limit f b p = value-within (along cs limit s o f b p)

    -- 10,000
    pub elevation-within : Within binary64 (value_in road.elevations s) greatest_elevation
    elevation-within = list-within road.elevations greatest_elevation fit.elevations (const-within _ _ tt) parts.elevations

    -- 1
    pub grade-within : Within binary64 (slope_in road.elevations s) greatest_grade
    grade-within =
        slope_within_lem (along road.elevations greatest_elevation s o fit.elevations (const-within _ _ tt) parts.elevations)
        greatest_grade (const-within _ _ tt) parts.slopes

    -- 0.75
    pub superelevation-within : Within binary64 (value_in road.superelevations s) greatest_bank
    superelevation-within = list-within road.superelevations greatest_bank fit.superelevations (const-within _ _ tt) parts.superelevations

    -- 8
    pub offset-within : Within binary64 (value_in road.offsets s) greatest_offset
    offset-within = list-within road.offsets greatest_offset fit.offsets (const-within _ _ tt) parts.offsets

    pub tshift-within : Within binary64 (value_in road.tshifts s) greatest_shift
    tshift-within = list-within road.tshifts greatest_shift fit.tshifts (const-within _ _ tt) parts.tshifts

  -- ---- geometries
  module _ (i : ℕ) (h : i < length road.geoms) where
    geom-limits : GeomLimited road i
    geom-limits = geom-parts road i (parts.geoms i h)

    pub geom-start-in : In binary64 zero64 road.length (geom_at road i).s
    geom-start-in = range-in zero64 road.length (geom_at road i).s (const-real _ tt) length-in.value (fit.geoms i).s geom-limits.s

    pub geom-within : GeomWithin (geom_at road i)
    geom-within =
        record {
          x = sized-within greatest_place (geom_at road i).x (const-real _ tt) (fit.geoms i).x geom-limits.x;
          y = sized-within greatest_place (geom_at road i).y (const-real _ tt) (fit.geoms i).y geom-limits.y;
          hdg = sized-within greatest_heading (geom_at road i).hdg (const-real _ tt) (fit.geoms i).hdg geom-limits.hdg;
          length = range-in least_geom_length greatest_geom_length (geom_at road i).length (const-real _ tt) (const-real _ tt) (fit.geoms i).length geom-limits.length;
        }

    pub geom-shape-passes : shape_limited (geom_at road i).shape ≡ true
    geom-shape-passes = geom-limits.shape

  -- ---- sections: a start is on the road, an extent at most 20,000
  module _ (i : ℕ) (h : i < length road.sections) where
    pub section_start-in : In binary64 zero64 road.length (section_of road i).start
    section_start-in = range-in zero64 road.length (section_of road i).start (const-real _ tt) length-in.value (fit.sections i) (section_start-on road i (parts.sections i h))

    pub section_start-within : Within binary64 (section_of road i).start greatest_length
    section_start-within = station-within (section_of road i).start (record { fits = fit.sections i; above = section_start-in.above; below = section_start-in.below })

  pub extent-within : (i : ℕ) → i < length road.sections → Within binary64 (section_extent road i) far
  unfolding section_extent
  extent-within i h = go (ltb (i + 1) (length road.sections)) (ltb→lt (i + 1) (length road.sections))
    where
      less : (x : Float) → Within binary64 x greatest_length → Within binary64 (x ⊖ (section_of road i).start) far
      less x w =
          within-mono binary64 (x ⊖ (section_of road i).start) (greatest_length ⊕ greatest_length) far
          (sub_within binary64 x (section_of road i).start greatest_length greatest_length w (section_start-within i h) twice-finite) (const-real _ tt) twice-far

      go : (b : Bool) → (T b → i + 1 < length road.sections) → Within binary64 (cond b (section_of road (i + 1)).start road.length ⊖ (section_of road i).start) far
      go true l = less (section_of road (i + 1)).start (section_start-within (i + 1) (l tt))
      go false l = less road.length length-within

  -- how far s is into the active section
  pub into-section :
      (s : Float) → OnRoad road s → (i : ℕ) → Active (λ k. (section_of road k).start) (active_up_to s) (length road.sections) i → InSection road i (s ⊖ (section_of road i).start)
  unfolding section_extent
  into-section s o i a =
      let e = cond (ltb (i + 1) (length road.sections)) (section_of road (i + 1)).start road.length in
      let f = go (ltb (i + 1) (length road.sections)) (ltb→lt (i + 1) (length road.sections)) in
      let g = gap-covers s (section_of road i).start e w (section_start-within i a.below).value f.0 f.1 a.hit (extent-within i a.below).value.finite in
      record { fits = sub-fits binary64 s (section_of road i).start; above = g.above; below = g.below }
    where
      w : Within binary64 s far
      w = within-mono binary64 s greatest_length far (station-within s o) (const-real _ tt) (const_le binary64 _ _ tt)

      next : (x : Float) → Real binary64 x → T (not (le x (active_up_to s))) → T (le s x)
      next x q n = float_trans s (active_up_to s) x (up_to-grows s w) (nle→le binary64 x (active_up_to s) q (up_to-real s w) n)

      go : (b : Bool) → (T b → i + 1 < length road.sections) → Real binary64 (cond b (section_of road (i + 1)).start road.length) × T (le s (cond b (section_of road (i + 1)).start road.length))
      go true l = let q = (section_start-within (i + 1) (l tt)).value in (q, next (section_of road (i + 1)).start q (a.miss (l tt)))
      go false l = (length-in.value, o.below)

  -- ---- lanes: a width is at most 8, a border at most 36
  module _ (i : ℕ) (h : i < length road.sections) where
    pub distance-within : (x : Float) → InSection road i x → Within binary64 x far
    distance-within x d =
        let e = extent-within i h in
        let m = neg-real binary64 reach_margin (const-real _ tt) in
        let v = (in-of_le binary64 (neg reach_margin) (section_extent road i) x m e.value d.fits d.above d.below).value in
        within-of_le binary64 x far v (const-real _ tt)
        (float_trans (neg far) (neg reach_margin) x margin-far d.above)
        (float_trans x (section_extent road i) far d.below (le_of-within binary64 (section_extent road i) far e).1)

    module _ (right : Bool) (k : ℕ) (l : k < lane_count road i right) where
      pub lane-ready : (x : Float) → InSection road i x → Ready (lane_of road i right k).extents (neg largest) largest (section_extent road i) (lane_limit (lane_of road i right k)) x
      lane-ready x d =
          record {
            fitting = fit.extents i right k;
            least = neg-real binary64 largest (const-real _ tt);
            most = const-real _ tt;
            place = distance-within x d;
            stop = (extent-within i h).value;
            order = d.below;
            bound = lane_limit_lem (lane_of road i right k).border;
            passed = extents-pass (section_extent road i) (lane_of road i right k) (lane-parts road i right k (parts.sections i h) l);
          }

      -- 36 of a border lane, 8 of a width lane
      pub lane_within_lem : (x : Float) → InSection road i x → Within binary64 (value_in (lane_of road i right k).extents x) (lane_limit (lane_of road i right k))
      lane_within_lem x d = value-within (lane-ready x d)

      pub width-within : (x : Float) → InSection road i x → (lane_of road i right k).border ≡ false → Within binary64 (value_in (lane_of road i right k).extents x) greatest_width
      width-within x d e =
          subst (λ (b : Bool). Within binary64 (value_in (lane_of road i right k).extents x) (cond b greatest_border greatest_width)) e (lane_within_lem x d)

      pub border-within : (x : Float) → InSection road i x → (lane_of road i right k).border ≡ true → Within binary64 (value_in (lane_of road i right k).extents x) greatest_border
      border-within x d e =
          subst (λ (b : Bool). Within binary64 (value_in (lane_of road i right k).extents x) (cond b greatest_border greatest_width)) e (lane_within_lem x d)

      -- heights: starts finite, sizes at most 2
      module _ (j : ℕ) (b : j < length (lane_of road i right k).heights) where
        limits : HeightLimited (height_def_at (lane_of road i right k).heights j)
        limits = height-parts (section_extent road i) (lane_of road i right k) (lane-parts road i right k (parts.sections i h) l) j b

        pub height-start-real : Real binary64 (height_def_at (lane_of road i right k).heights j).s_offset
        height-start-real = (sized-within largest (height_def_at (lane_of road i right k).heights j).s_offset (const-real _ tt) (fit.heights i right k j).start limits.start).value

        pub height-inner-within : Within binary64 (height_def_at (lane_of road i right k).heights j).inner greatest_lane_height
        height-inner-within = sized-within greatest_lane_height (height_def_at (lane_of road i right k).heights j).inner (const-real _ tt) (fit.heights i right k j).inner limits.inner

        pub height-outer-within : Within binary64 (height_def_at (lane_of road i right k).heights j).outer greatest_lane_height
        height-outer-within = sized-within greatest_lane_height (height_def_at (lane_of road i right k).heights j).outer (const-real _ tt) (fit.heights i right k j).outer limits.outer

  -- ---- profiles: a shape's value is at most 40, and so is its a alone
  module _ (i : ℕ) (h : i < length road.profiles) where
    pub profile_start-in : In binary64 zero64 road.length (profile_at road i).s
    profile_start-in = range-in zero64 road.length (profile_at road i).s (const-real _ tt) length-in.value (fit.profiles i) (profile-parts road i (parts.profiles i h)).0

    pub shapes-ready :
        (t : Float) → Across t → Ready (profile_at road i).shapes (neg greatest_shape_start) greatest_shape_start shapes_end greatest_shape t
    shapes-ready t a =
        let n = neg-real binary64 half_width (const-real _ tt) in
        let v = (in-of_le binary64 (neg half_width) half_width t n (const-real _ tt) a.fits a.above a.below).value in
        record {
          fitting = fit.shapes i;
          least = neg-real binary64 greatest_shape_start (const-real _ tt);
          most = const-real _ tt;
          place = within-mono binary64 t half_width far (within-of_le binary64 t half_width v (const-real _ tt) a.above a.below) (const-real _ tt) (const_le binary64 _ _ tt);
          stop = const-real _ tt;
          order = a.below;
          bound = const-within _ _ tt;
          passed = (profile-parts road i (parts.profiles i h)).1;
        }

    pub shape-within : (t : Float) → Across t → Within binary64 (value_in (profile_at road i).shapes t) greatest_shape
    shape-within t a =
        value-within (shapes-ready t a)

    pub shape-constant-within : (j : ℕ) → j < length (profile_at road i).shapes → Within binary64 (cubic_at (profile_at road i).shapes j).a greatest_shape
    shape-constant-within j l =
        constant-within (shapes-ready zero64 in-the-middle) j l

  -- ---- strips: a width is at most 100, each term at most its greatest bound, the height across at most 88 at most 40
  module _ (i : ℕ) (h : i < 4) (s : Float) (o : OnRoad road s) where
    strip-limits : StripLimited road (strip_at road i)
    strip-limits = strip-parts road (strip_at road i) (parts.strips i h)

    pub strip-width-within : Within binary64 (value_in (column_of (strip_at road i) 0) s) greatest_strip_width
    strip-width-within = list-within s o (column_of (strip_at road i) 0) greatest_strip_width (fit.columns i 0) (const-within _ _ tt) strip-limits.width

    pub term-within : (term : ℕ) → term < 4 → Within binary64 (value_in (column_of (strip_at road i) (term + 1)) s) (term_bound road (strip_at road i) term)
    term-within term l =
        greatest-within (along (column_of (strip_at road i) (term + 1)) largest s o (fit.columns i (term + 1)) (const-within _ _ tt) (strip-limits.terms term l))

    -- by Horner from 0, as the strip's height is worked out
    pub strip_height-within :
        (u : Float) → Within binary64 u farthest_across
        → Within binary64
        ((((zero64 ⊗ u ⊕ value_in (column_of (strip_at road i) 4) s) ⊗ u ⊕ value_in (column_of (strip_at road i) 3) s) ⊗ u ⊕ value_in (column_of (strip_at road i) 2) s) ⊗ u ⊕ value_in (column_of (strip_at road i) 1) s)
        greatest_strip_height
    strip_height-within u w =
        horner-within (value_in (column_of (strip_at road i) 1) s) (value_in (column_of (strip_at road i) 2) s) (value_in (column_of (strip_at road i) 3) s) (value_in (column_of (strip_at road i) 4) s)
        (term_bound road (strip_at road i) 0) (term_bound road (strip_at road i) 1) (term_bound road (strip_at road i) 2) (term_bound road (strip_at road i) 3) u greatest_strip_height
        (term-within 0 (lit< tt)) (term-within 1 (lit< tt)) (term-within 2 (lit< tt)) (term-within 3 (lit< tt)) w (const-real _ tt) (T_from_true (le (terms_bound road (strip_at road i)) greatest_strip_height) strip-limits.height)

-- ---- the curvatures of a shape that passes

pub arc-within : (k : Float) → Fits64 k → shape_limited (Arc k) ≡ true → Within binary64 k greatest_arc_curvature
arc-within k f e =
    ⊎_elim
    (λ (p : sized straight_curvature k ≡ true). within-mono binary64 k straight_curvature greatest_arc_curvature (sized-within straight_curvature k (const-real _ tt) f p) (const-real _ tt) (const_le binary64 _ _ tt))
    (λ (p : in_range least_arc_curvature greatest_arc_curvature (abs_of k) ≡ true).
    sized-within greatest_arc_curvature k (const-real _ tt) f (and-snd (le least_arc_curvature (abs_of k)) (le (abs_of k) greatest_arc_curvature) p))
    (arc-parts k e)

pub spiral-within : (a b : Float) → Fits64 a → Fits64 b → shape_limited (Spiral a b) ≡ true → Within binary64 a greatest_spiral_curvature × Within binary64 b greatest_spiral_curvature
spiral-within a b f g e =
    let p = spiral-parts a b e in
    (sized-within greatest_spiral_curvature a (const-real _ tt) f p.0, sized-within greatest_spiral_curvature b (const-real _ tt) g p.1)
