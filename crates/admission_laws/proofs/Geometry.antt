-- What row 4 says of the geometry in use at a station, and the poses of a line and of an arc: x and y stay within 1,010,000 and 1,200,001, headings within 1,000 and 11,000.
-- Each size is carried through the definition operation by operation; the last bound is a computed test of constants.
use Prim.Native.Nat.{ℕ, ◌+◌, ◌≤◌, ◌<◌}
use native.Mathlib.Nat.{le_trans, le_of_eq}
use native.Mathlib.Omega.{arith}
use mathlib.Core.Path.{◌≡◌, refl}
use mathlib.Core.Bool.{Bool, true, false, ◌&&◌, cond}
use mathlib.Core.Logic.{⊎_elim}
use lib.ListN.{length}
use lib.Dec.{T, lit<}
use lib.Ieee.{Float, binary64, of_bits, fits, le, lt, neg, add, sub, mul, div}
use lib.Ieee.Fits.{and_l, and_r}
use lib.Ieee.Scale.{finite}
use Rattle.float_laws.specs.Binary64.{◌⊕◌, ◌⊖◌, ◌⊗◌, ◌⊘◌, f64, zero64, abs_of}
use Rattle.float_laws.proofs.Value.{Real, mag, pl, pl-le, neg-real, le→units, lt→units}
use Rattle.float_laws.proofs.Interval.{In, sub_in, le→parts}
use Rattle.float_laws.proofs.Size.{Within, within-of_le, le_of-within, within-mono, add-within, sub_within, mul-within, neg-mag}
use Rattle.float_laws.proofs.Order.{div-within}
use Rattle.float_laws.proofs.Checker.{good, good-real}
use Rattle.arithmetic_sine.specs.Sine.{sine_range, one, sine_of, cosine_of}
use Rattle.arithmetic_laws.proofs.SineLaws.{sine-within, cosine-within}
use Rattle.records.specs.declared.points.GeomRec.{GeomRec}
use Rattle.records.specs.declared.points.GeomShape.TheVariants.{Arc}
use Rattle.std.specs.declared.option.Option.{Option}
use Rattle.std.specs.declared.option.Option.TheVariants.{Some, None}
use Rattle.std.proofs.lemmas.Float.{le_trans as float_trans, T_from_true}
use Rattle.records.specs.Active.{last_start, or_first}
use Rattle.records.specs.Roads.{Road, straight_curvature, geom_at, geom_index}
use Rattle.line_samples.specs.declared.points.Pose.{Pose}
use Rattle.line_pose.specs.Poses.{line_pose, arc_pose}
use Rattle.arithmetic_ranges.specs.Ranges.{in_range, sized}
use Rattle.admission.specs.Limits.{greatest_length, greatest_place, greatest_heading, least_arc_curvature, greatest_arc_curvature, shape_limited, limited}
use Rattle.admission_laws.proofs.Constants.{const-real, const-within}
use Rattle.admission_laws.proofs.Fitting.{RoadFits}
use Rattle.admission_laws.proofs.ActiveRecord.{found_at}
use Rattle.records_lent.proofs.TestLaws.{and-fst}
use Rattle.admission_laws.proofs.LimitParts.{arc-parts}
use Rattle.admission_laws.proofs.RoadBounds.{GeomWithin, OnRoad, station-within, geom-start-in}

-- ---- the constants

-- 1,010,000, 1,200,001 and 11,000
abbrev pub line-far : Float
line-far = f64 0x412e_d2a0_0000_0000

abbrev pub arc-far : Float
arc-far = f64 0x4132_4f81_0000_0000

abbrev pub arc-turn : Float
arc-turn = f64 0x40c5_7c00_0000_0000

-- ---- a pose within bounds

pub record PoseWithin (p : Pose) (far turn : Float) : Type 0 where
  pub x : Within binary64 p.x far
  pub y : Within binary64 p.y far
  pub heading : Within binary64 p.heading turn

pub pose-mono : (p : Pose) (A B C D : Float) → PoseWithin p A C → Within binary64 A B → Within binary64 C D → PoseWithin p B D
pose-mono p A B C D w b d =
    record {
      x = within-mono binary64 p.x A B w.x b.bound (le_of-within binary64 A B b).1;
      y = within-mono binary64 p.y A B w.y b.bound (le_of-within binary64 A B b).1;
      heading = within-mono binary64 p.heading C D w.heading d.bound (le_of-within binary64 C D d).1;
    }

-- x + a * b for |x| ≤ X, |a| ≤ A and |b| ≤ B is at most C, by a test of the constants
abbrev pub sum-passes : Float → Float → Float → Float → Bool
sum-passes X A B C = finite (A ⊗ B) && (finite (X ⊕ A ⊗ B) && (good binary64 C && le (X ⊕ A ⊗ B) C))

pub sum-within : (x a b X A B C : Float) → Within binary64 x X → Within binary64 a A → Within binary64 b B → T (sum-passes X A B C) → Within binary64 (x ⊕ a ⊗ b) C
sum-within x a b X A B C v w z t =
    let r = and_r (finite (A ⊗ B)) (finite (X ⊕ A ⊗ B) && (good binary64 C && le (X ⊕ A ⊗ B) C)) t in
    let q = and_r (finite (X ⊕ A ⊗ B)) (good binary64 C && le (X ⊕ A ⊗ B) C) r in
    within-mono binary64 (x ⊕ a ⊗ b) (X ⊕ A ⊗ B) C
    (add-within binary64 x (a ⊗ b) X (A ⊗ B) v (mul-within binary64 a b A B w z (and_l (finite (A ⊗ B)) (finite (X ⊕ A ⊗ B) && (good binary64 C && le (X ⊕ A ⊗ B) C)) t)) (and_l (finite (X ⊕ A ⊗ B)) (good binary64 C && le (X ⊕ A ⊗ B) C) r))
    (good-real binary64 C (and_l (good binary64 C) (le (X ⊕ A ⊗ B) C) q)) (and_r (good binary64 C) (le (X ⊕ A ⊗ B) C) q)

-- ---- where a geometry is

index_in : (start : ℕ → Float) (limit : Float) (n : ℕ) → 0 < n → or_first (last_start start limit n) < n
index_in start limit n h = go (last_start start limit n) refl
  where
    go : (x : Option ℕ) → last_start start limit n ≡ x → or_first x < n
    go (Some i) e = (found_at start limit n i e).below
    go None e = h

-- the geometry in use is one of the road's
pub index_below : (road : Road) (s : Float) → 0 < length road.geoms → geom_index road s < length road.geoms
unfolding geom_index
index_below road s h = index_in (λ i. (geom_at road i).s) _ (length road.geoms) h

low-finite : T (finite (zero64 ⊖ greatest_length))
unfolding of_bits sub
low-finite = tt

high-finite : T (finite (greatest_length ⊖ zero64))
unfolding of_bits sub
high-finite = tt

low-order : T (le (neg greatest_length) (zero64 ⊖ greatest_length))
unfolding of_bits sub neg le
low-order = tt

high-order : T (le (greatest_length ⊖ zero64) greatest_length)
unfolding of_bits sub le
high-order = tt

module _ (road : Road) (fit : RoadFits road) (ok : limited road ≡ true) where
  station-in : (s : Float) → OnRoad road s → In binary64 zero64 greatest_length s
  station-in s o =
      let w = station-within road fit ok s o in
      record { low = const-real _ tt; high = const-real _ tt; value = w.value; above = o.above; below = (le_of-within binary64 s greatest_length w).1 }

  -- a geometry's start lies on the road
  pub start-on : (i : ℕ) → i < length road.geoms → OnRoad road (geom_at road i).s
  start-on i h = let g = geom-start-in road fit ok i h in record { fits = (fit.geoms i).s; above = g.above; below = g.below }

  -- so a station is at most 10,000 away from it, before or behind
  pub away-within : (i : ℕ) → i < length road.geoms → (s : Float) → OnRoad road s → Within binary64 (s ⊖ (geom_at road i).s) greatest_length
  away-within i h s o =
      let a = (geom_at road i).s in
      let d = sub_in binary64 zero64 greatest_length zero64 greatest_length s a (station-in s o) (station-in a (start-on i h)) low-finite high-finite in
      let t : Real binary64 greatest_length = const-real _ tt in
      within-of_le binary64 (s ⊖ a) greatest_length d.value t
      (float_trans (neg greatest_length) (zero64 ⊖ greatest_length) (s ⊖ a) low-order d.above)
      (float_trans (s ⊖ a) (greatest_length ⊖ zero64) greatest_length d.below high-order)

-- ---- the curvature of an arc that turns

size-mag : (k : Float) → Real binary64 k → mag binary64 (abs_of k) ≡ mag binary64 k
size-mag k r = go (lt k zero64)
  where
    go : (b : Bool) → mag binary64 (cond b (neg k) k) ≡ mag binary64 k
    go true = neg-mag binary64 k r
    go false = refl

size-real : (k : Float) → Real binary64 k → Real binary64 (abs_of k)
size-real k r = go (lt k zero64)
  where
    go : (b : Bool) → Real binary64 (cond b (neg k) k)
    go true = neg-real binary64 k r
    go false = r

clash : (a b c d : ℕ) → a + b ≤ c + d → c + d < a + b → ⊥
clash a b c d h k = omega arith

-- over 1e-9 in size, so 0.00001 at least
pub arc-curved : (k : Float) → Real binary64 k → shape_limited (Arc k) ≡ true → T (lt straight_curvature (abs_of k)) → pl binary64 least_arc_curvature ≤ mag binary64 k
arc-curved k r e h =
    let q = size-real k r in
    ⊎_elim
    (λ (p : sized straight_curvature k ≡ true). absurd (clash _ _ _ _ (le→units binary64 (abs_of k) straight_curvature q (const-real _ tt) (T_from_true (le (abs_of k) straight_curvature) p)) (lt→units binary64 straight_curvature (abs_of k) (const-real _ tt) q h)))
    (λ (p : in_range least_arc_curvature greatest_arc_curvature (abs_of k) ≡ true).
    let a = le→parts binary64 least_arc_curvature (abs_of k) (const-real _ tt) q (T_from_true (le least_arc_curvature (abs_of k)) (and-fst (le least_arc_curvature (abs_of k)) (le (abs_of k) greatest_arc_curvature) p)) in
    le_trans a.0 (le_trans (pl-le binary64 (abs_of k)) (le_of_eq (size-mag k r))))
    (arc-parts k e)

-- ---- the poses

line-test : T (sum-passes greatest_place greatest_length one line-far)
unfolding of_bits fits le add mul
line-test = tt

turn-test : T (sum-passes greatest_heading one greatest_length arc-turn)
unfolding of_bits fits le add mul
turn-test = tt

curve-pos : 0 < pl binary64 least_arc_curvature
unfolding of_bits pl
curve-pos = lit< tt

two-finite : T (finite (one ⊕ one))
unfolding of_bits add
two-finite = tt

radius-finite : T (finite ((one ⊕ one) ⊘ least_arc_curvature))
unfolding of_bits add div
radius-finite = tt

arc-finite : T (finite (greatest_place ⊕ (one ⊕ one) ⊘ least_arc_curvature))
unfolding of_bits add div
arc-finite = tt

arc-order : T (le (greatest_place ⊕ (one ⊕ one) ⊘ least_arc_curvature) arc-far)
unfolding of_bits add div le
arc-order = tt

-- (a - b) / k for two numbers of size 1 at most
chord-within : (a b k : Float) → Within binary64 a one → Within binary64 b one → Real binary64 k → pl binary64 least_arc_curvature ≤ mag binary64 k → Within binary64 ((a ⊖ b) ⊘ k) ((one ⊕ one) ⊘ least_arc_curvature)
chord-within a b k v w r h = div-within binary64 (a ⊖ b) k (one ⊕ one) least_arc_curvature (sub_within binary64 a b one one v w two-finite) r (const-real _ tt) curve-pos h radius-finite

module _ (g : GeomRec) (own : GeomWithin g) (ds : Float) (wd : Within binary64 ds greatest_length) where
  up_to-range : Within binary64 g.hdg sine_range
  up_to-range = within-mono binary64 g.hdg greatest_heading sine_range own.hdg (const-real _ tt) (le_of-within binary64 greatest_heading sine_range (const-within _ _ tt)).1

  pub line_pose-within : PoseWithin (line_pose g ds) line-far greatest_heading
  unfolding line_pose
  line_pose-within =
      record {
        x = sum-within g.x ds (cosine_of g.hdg) greatest_place greatest_length one line-far own.x wd (cosine-within g.hdg up_to-range) line-test;
        y = sum-within g.y ds (sine_of g.hdg) greatest_place greatest_length one line-far own.y wd (sine-within g.hdg up_to-range) line-test;
        heading = own.hdg;
      }

  module _ (k : Float) (wk : Within binary64 k one) (h : pl binary64 least_arc_curvature ≤ mag binary64 k) where
    pub arc-heading-within : Within binary64 (g.hdg ⊕ k ⊗ ds) arc-turn
    arc-heading-within = sum-within g.hdg k ds greatest_heading one greatest_length arc-turn own.hdg wk wd turn-test

    turned : Within binary64 (g.hdg ⊕ k ⊗ ds) sine_range
    turned = within-mono binary64 (g.hdg ⊕ k ⊗ ds) arc-turn sine_range arc-heading-within (const-real _ tt) (le_of-within binary64 arc-turn sine_range (const-within _ _ tt)).1

    pub arc_pose-within : PoseWithin (arc_pose g k ds) arc-far arc-turn
    unfolding arc_pose
    arc_pose-within =
        let t = g.hdg ⊕ k ⊗ ds in
        let R = (one ⊕ one) ⊘ least_arc_curvature in
        let sx = (sine_of t ⊖ sine_of g.hdg) ⊘ k in
        let cy = (cosine_of t ⊖ cosine_of g.hdg) ⊘ k in
        record {
          x = within-mono binary64 (g.x ⊕ sx) (greatest_place ⊕ R) arc-far (add-within binary64 g.x sx greatest_place R own.x (chord-within (sine_of t) (sine_of g.hdg) k (sine-within t turned) (sine-within g.hdg up_to-range) wk.value h) arc-finite) (const-real _ tt) arc-order;
          y = within-mono binary64 (g.y ⊖ cy) (greatest_place ⊕ R) arc-far (sub_within binary64 g.y cy greatest_place R own.y (chord-within (cosine_of t) (cosine_of g.hdg) k (cosine-within t turned) (cosine-within g.hdg up_to-range) wk.value h) arc-finite) (const-real _ tt) arc-order;
          heading = arc-heading-within;
        }
