-- Every pose of an admitted road, at every station, with the samples made from it: x and y within 1,300,000, the heading within the sine's range.
-- On a spiral the distance asked for lies between the two samples that the leading count chooses, so the fraction is from 0 to 1 and the pose is between two samples but for roundings.
use mathlib.Core.Path.{◌≡◌, refl, sym, subst}
use Prim.Native.Nat.{ℕ, zero, suc, ◌+◌, ◌-◌, ◌*◌, ◌^◌, ◌≤◌, ◌<◌}
use native.Mathlib.Nat.{le_trans, le_of_eq, not-suc-le-zero, le_of_suc-le-suc}
use native.Mathlib.Omega.{arith}
use mathlib.Core.Bool.{Bool, true, false, not, cond}
use mathlib.Core.List.{List, ◌++◌}
use lib.ListN.{length, get_or}
use lib.Dec.{T, lit<, lit≤, ltb, ltb→lt, nltb→le, T_not}
use lib.Ieee.{Float, nan, binary64, of_bits, fits, le, lt}
use Rattle.float_laws.specs.Binary64.{◌⊖◌, ◌⊘◌, f64, zero64, abs_of}
use Rattle.float_laws.proofs.Value.{Real, pl, mi, le_refl, units→le, lt→units, nlt→units, nle→le}
use Rattle.float_laws.proofs.Interval.{le→parts}
use Rattle.float_laws.proofs.Size.{Within}
use Rattle.float_laws.proofs.Order.{sub-mono}
use Rattle.float_laws.proofs.Interpolate.{interpolate-within}
use Rattle.float_laws.proofs.Checker.{good-real}
use Rattle.arithmetic_sine.specs.Sine.{sine_range, one}
use Rattle.records.specs.declared.points.GeomShape.{GeomShape}
use Rattle.records.specs.declared.points.GeomShape.TheVariants.{Line, Arc, Spiral}
use Rattle.records.specs.Roads.{Road, straight_curvature, geom_at, geom_index}
use Rattle.line_samples.specs.declared.points.Sample.{Sample}
use Rattle.line_samples.specs.Samples.{spiral_steps, sample_count, samples_before, samples_needed, geom_samples, samples_of, sample_at, most_samples}
use Rattle.line_pose.specs.Poses.{line_pose, arc_pose, held, leading, segment, fraction_of, between, spiral_pose, pose_by, pose_of}
use Rattle.line_samples.proofs.SpiralLaws.{count-spiral, samples-held, first-distance}
use Rattle.line_pose.proofs.PoseLaws.{segment-in}
use Rattle.admission.specs.Limits.{greatest_length, greatest_heading, shape_limited, limited}
use Rattle.admission_laws.proofs.Constants.{const-at_most, const-plus, const-real, const-within}
use Rattle.admission_laws.proofs.Fitting.{Fits64, ShapeFits, RoadFits}
use Rattle.admission_laws.proofs.RoadBounds.{OnRoad, geom-within, geom-shape-passes, arc-within, spiral-within}
use Rattle.admission_laws.proofs.Powers.{Plus, none_below, sub-plus, ratio-plus, sub-above}
use Rattle.admission_laws.proofs.SpiralFirst.{admitted-count}
use Rattle.admission_laws.proofs.Geometry.{line-far, arc-far, arc-turn, PoseWithin, pose-mono, index_below, away-within, arc-curved, line_pose-within, arc_pose-within}
use Rattle.admission_laws.proofs.SampleBounds.{not_below_zero_lem, sample-far, sample-turn, SampleWithin, sample-within, few-steps}
use Rattle.admission_laws.proofs.SampleRise.{samples-rise}

-- ---- the leading samples

module _ (samples : List Float) (d : Float) where
  abbrev at : ℕ → Float
  at m = get_or samples (m * 4) nan

  -- those counted are at most d
  lead-below : (first n k : ℕ) → k < leading samples first d n → T (le (at (first + k)) d)
  unfolding leading
  lead-below first zero k h = absurd (not-suc-le-zero h)
  lead-below first (suc n) k h = go (le (at (first + 0)) d) refl (lead-below (suc first) n) k h
    where
      go : (b : Bool) → le (at (first + 0)) d ≡ b → ((j : ℕ) → j < leading samples (suc first) d n → T (le (at (suc first + j)) d)) → (k : ℕ) → k < cond b (suc (leading samples (suc first) d n)) 0 → T (le (at (first + k)) d)
      go true e r zero h = subst T (sym e) tt
      go true e r (suc k) h = subst (λ (m : ℕ). T (le (at m) d)) (let o : suc first + k ≡ first + suc k = omega arith in o) (r k (le_of_suc-le-suc h))
      go false e r k h = absurd (not-suc-le-zero h)

  -- the one after them, where there is one, is not
  lead-past : (first n : ℕ) → leading samples first d n < n → T (not (le (at (first + leading samples first d n)) d))
  unfolding leading
  lead-past first zero h = absurd (not-suc-le-zero h)
  lead-past first (suc n) h = go (le (at (first + 0)) d) refl (lead-past (suc first) n) h
    where
      go : (b : Bool) → le (at (first + 0)) d ≡ b → (leading samples (suc first) d n < n → T (not (le (at (suc first + leading samples (suc first) d n)) d)))
          → cond b (suc (leading samples (suc first) d n)) 0 < suc n → T (not (le (at (first + cond b (suc (leading samples (suc first) d n)) 0)) d))
      go true e r h = subst (λ (m : ℕ). T (not (le (at m) d))) (let o : suc first + leading samples (suc first) d n ≡ first + suc (leading samples (suc first) d n) = omega arith in o) (r (le_of_suc-le-suc h))
      go false e r h = subst (λ (b : Bool). T (not b)) (sym e) tt

-- ---- the distance asked for, held to 0..last

zero-real : Plus binary64 zero64 0
unfolding of_bits fits pl mi
zero-real = record { value = good-real binary64 zero64 tt; plus = refl; le = lit≤ tt }

zero-fraction : Plus binary64 zero64 (2 ^ 1074)
unfolding of_bits fits pl mi
zero-fraction = record { value = good-real binary64 zero64 tt; plus = refl; le = lit≤ tt }

raised : (x : Float) → Real binary64 x → Real binary64 (cond (lt x zero64) zero64 x) × T (le zero64 (cond (lt x zero64) zero64 x))
raised x r = go (lt x zero64) (nlt→units binary64 x zero64 r zero-real.value)
  where
    go : (b : Bool) → (T (not b) → pl binary64 zero64 + mi binary64 x ≤ pl binary64 x + mi binary64 zero64) → Real binary64 (cond b zero64 x) × T (le zero64 (cond b zero64 x))
    go true h = (zero-real.value, le_refl binary64 zero64 zero-real.value)
    go false h = (r, units→le binary64 zero64 x zero-real.value r (h tt))

lowered : (top x : Float) → Real binary64 top → T (le zero64 top) → Real binary64 x → T (le zero64 x) → Real binary64 (cond (lt top x) top x) × T (le zero64 (cond (lt top x) top x)) × T (le (cond (lt top x) top x) top)
lowered top x r h q k = go (lt top x) (nlt→units binary64 top x r q)
  where
    go : (b : Bool) → (T (not b) → pl binary64 x + mi binary64 top ≤ pl binary64 top + mi binary64 x) → Real binary64 (cond b top x) × T (le zero64 (cond b top x)) × T (le (cond b top x) top)
    go true l = (r, h, le_refl binary64 top r)
    go false l = (q, k, units→le binary64 x top q r (l tt))

held_in : (last d : Float) → Real binary64 last → T (le zero64 last) → Real binary64 d → Real binary64 (held last d) × T (le zero64 (held last d)) × T (le (held last d) last)
held_in last d r h q = let u = raised d q in lowered last (cond (lt d zero64) zero64 d) r h u.0 u.1

-- ---- the fraction: from 0 to 1 for a ≤ d ≤ b

fraction-in : (a b d : Float) → Real binary64 a → T (le zero64 a) → Real binary64 b → Real binary64 d → T (le a d) → T (le d b) → Plus binary64 (fraction_of a b d) (2 ^ 1074)
fraction-in a b d ra ha rb rd h k = go (lt a b) (lt→units binary64 a b ra rb)
  where
    apart : (a a' b b' : ℕ) → a + b' < b + a' → a' ≡ 0 → b' ≡ 0 → a < b
    apart a a' b b' h y z = omega arith

    za : mi binary64 a ≡ 0
    za = not_below_zero_lem a ra ha

    ad : (pl binary64 a ≤ pl binary64 d) × (mi binary64 d ≤ mi binary64 a)
    ad = le→parts binary64 a d ra rd h

    db : (pl binary64 d ≤ pl binary64 b) × (mi binary64 b ≤ mi binary64 d)
    db = le→parts binary64 d b rd rb k

    zd : mi binary64 d ≡ 0
    zd = none_below (mi binary64 d) (mi binary64 a) ad.1 za

    zb : mi binary64 b ≡ 0
    zb = none_below (mi binary64 b) (mi binary64 d) db.1 zd

    x : Plus binary64 (d ⊖ a) (pl binary64 d)
    x = sub-plus binary64 d a rd zd (record { value = ra; plus = za; le = ad.0 })

    y : Plus binary64 (b ⊖ a) (pl binary64 b)
    y = sub-plus binary64 b a rb zb (record { value = ra; plus = za; le = le_trans ad.0 db.0 })

    order : T (le (d ⊖ a) (b ⊖ a))
    order = sub-mono binary64 d b a a rd rb ra ra k (le_refl binary64 a ra) x.value.finite y.value.finite

    go : (c : Bool) → (T c → pl binary64 a + mi binary64 b < pl binary64 b + mi binary64 a) → Plus binary64 (cond c ((d ⊖ a) ⊘ (b ⊖ a)) zero64) (2 ^ 1074)
    go true l =
        ratio-plus binary64 (d ⊖ a) (b ⊖ a) (record { value = x.value; plus = x.plus; le = (le→parts binary64 (d ⊖ a) (b ⊖ a) x.value y.value order).0 }) y.value
        (sub-above binary64 a b (pl binary64 a) (record { value = ra; plus = za; le = le_of_eq refl }) rb zb (apart (pl binary64 a) (mi binary64 a) (pl binary64 b) (mi binary64 b) (l tt) za zb))
    go false l = zero-fraction

-- ---- the segment: d lies between its two samples

module _ (samples : List Float) (first n : ℕ) (d : Float) (two : 2 ≤ n) where
  abbrev lead : ℕ
  lead = leading samples first d n

  -- the first is counted, so that the segment starts at one that is
  lead-some : T (le (at samples d (first + 0)) d) → 0 < lead
  lead-some h = go (ltb 0 lead) (ltb→lt 0 lead) (nltb→le 0 lead)
    where
      go : (b : Bool) → (T b → 0 < lead) → (T (not b) → lead ≤ 0) → 0 < lead
      go true p q = p tt
      go false p q =
          let z : lead ≡ 0 = let l = q tt in omega arith in
          let w = lead-past samples d first n (let l = q tt in omega arith) in
          absurd (T_not (le (at samples d (first + 0)) d) (subst (λ (m : ℕ). T (not (le (at samples d (first + m)) d))) z w) h)

  starts : (l : ℕ) → 0 < l → segment l n < l
  starts l h = omega arith

  ends : (l : ℕ) → 0 < l → l < n → l ≡ segment l n + 1
  ends l h k = omega arith

  ends_last : (l : ℕ) → n ≤ l → n - 1 ≡ segment l n + 1
  ends_last l h = omega arith

  segment-above : 0 < lead → T (le (at samples d (first + segment lead n)) d)
  segment-above h = lead-below samples d first n (segment lead n) (starts lead h)

  segment-below : 0 < lead → Real binary64 d → Real binary64 (at samples d (first + (segment lead n + 1))) → T (le d (at samples d (first + (n - 1)))) → T (le d (at samples d (first + (segment lead n + 1))))
  segment-below h r q top = go (ltb lead n) (ltb→lt lead n) (nltb→le lead n)
    where
      go : (b : Bool) → (T b → lead < n) → (T (not b) → n ≤ lead) → T (le d (at samples d (first + (segment lead n + 1))))
      go true p s =
          nle→le binary64 (at samples d (first + (segment lead n + 1))) d q r
          (subst (λ (m : ℕ). T (not (le (at samples d (first + m)) d))) (ends lead h (p tt)) (lead-past samples d first n (p tt)))
      go false p s = subst (λ (m : ℕ). T (le d (at samples d (first + m)))) (ends_last lead (s tt)) top

-- ---- the pose on a spiral: 1,000,501 and 3,501

abbrev pub spiral-far : Float
spiral-far = f64 0x412e_886a_0000_0000

abbrev pub spiral-turn : Float
spiral-turn = f64 0x40ab_5a00_0000_0000

far-wider : pl binary64 sample-far + 3 * 2 ^ (1094 - 53) ≤ pl binary64 spiral-far
unfolding of_bits pl
far-wider = lit≤ tt

turn-wider : pl binary64 sample-turn + 3 * 2 ^ (1086 - 53) ≤ pl binary64 spiral-turn
unfolding of_bits pl
turn-wider = lit≤ tt

-- between two samples, at a fraction from 0 to 1 (2 ^ 1074 units)
pub between-within : (a b : Sample) (t : Float) → SampleWithin a → SampleWithin b → Plus binary64 t (2 ^ 1074) → PoseWithin (between a b t) spiral-far spiral-turn
between-within a b t v w p =
    record {
      x = interpolate-within binary64 a.x b.x t sample-far spiral-far 1094 v.x w.x p.value p.plus p.le (const-at_most _ _ tt) (lit< tt) (const-real _ tt) (const-plus _ tt) far-wider;
      y = interpolate-within binary64 a.y b.y t sample-far spiral-far 1094 v.y w.y p.value p.plus p.le (const-at_most _ _ tt) (lit< tt) (const-real _ tt) (const-plus _ tt) far-wider;
      heading = interpolate-within binary64 a.heading b.heading t sample-turn spiral-turn 1086 v.heading w.heading p.value p.plus p.le (const-at_most _ _ tt) (lit< tt) (const-real _ tt) (const-plus _ tt) turn-wider;
    }

-- for any two samples or more that keep to their bounds, the first at distance 0
pub spiral_pose-within : (samples : List Float) (first n : ℕ) (ds : Float) → 2 ≤ n → ((k : ℕ) → k < n → SampleWithin (sample_at samples first k)) → (sample_at samples first 0).distance ≡ zero64 → Real binary64 ds
    → PoseWithin (spiral_pose samples first n ds) spiral-far spiral-turn
unfolding spiral_pose
spiral_pose-within samples first n ds two ok zero-first r =
    let end = (ok (n - 1) (let o : n - 1 < n = omega arith in o)).distance in
    let d = held (sample_at samples first (n - 1)).distance ds in
    let h = held_in (sample_at samples first (n - 1)).distance ds end.value end.above r in
    let l = leading samples first d n in
    let i = segment l n in
    let j = segment-in l n two in
    let some = lead-some samples first n d two (subst (λ (z : Float). T (le z d)) (sym zero-first) h.1) in
    let a = ok i (let o : i < n = omega arith in o) in
    let b = ok (i + 1) j in
    let up = segment-above samples first n d two some in
    let down = segment-below samples first n d two some h.0 b.distance.value h.2 in
    between-within (sample_at samples first i) (sample_at samples first (i + 1)) (fraction_of (sample_at samples first i).distance (sample_at samples first (i + 1)).distance d) a b
    (fraction-in (sample_at samples first i).distance (sample_at samples first (i + 1)).distance d a.distance.value a.distance.above b.distance.value h.0 up down)

-- ---- every pose of an admitted road

-- 1,300,000
abbrev pub pose-far : Float
pose-far = f64 0x4133_d620_0000_0000

abbrev no_sample : Sample
no_sample = record { distance = nan; x = nan; y = nan; heading = nan }

module _ (road : Road) (fit : RoadFits road) (ok : limited road ≡ true) (few : samples_needed road ≤ most_samples) (rest : List Float) (i : ℕ) (below : i < length road.geoms) where
  -- each sample that the geometry reads is one of its own
  module _ {k0 k1 : Float} (e : (geom_at road i).shape ≡ Spiral k0 k1) (f0 : Fits64 k0) (f1 : Fits64 k1) where
    curves : Within binary64 k0 one × Within binary64 k1 one
    curves = spiral-within k0 k1 f0 f1 (subst (λ (x : GeomShape). shape_limited x ≡ true) e (geom-shape-passes road fit ok i below))

    pub held-within : (k : ℕ) → k < sample_count (geom_at road i) → SampleWithin (sample_at (samples_of road ++ rest) (samples_before road i) k)
    held-within k h =
        let c = count-spiral (geom_at road i) e refl in
        subst SampleWithin (sym (samples-held road rest i k no_sample h))
        (sample-within (geom_at road i) k0 k1 (geom-within road fit ok i below) curves.0 curves.1 k no_sample e (few-steps road i below e few)
        (let o : k ≤ spiral_steps (geom_at road i).length = omega arith in o))

    pub two-samples : 2 ≤ sample_count (geom_at road i)
    two-samples = let l = (geom-within road fit ok i below).length in admitted-count (geom_at road i) e (fit.geoms i).length l.above l.below

    pub first-zero : (sample_at (samples_of road ++ rest) (samples_before road i) 0).distance ≡ zero64
    first-zero =
        subst (λ (p : Sample). p.distance ≡ zero64) (sym (samples-held road rest i 0 no_sample (let t = two-samples in let o : 0 < sample_count (geom_at road i) = omega arith in o))) (first-distance (geom_at road i) no_sample e)

    pub held-rise : (k : ℕ) → suc k < sample_count (geom_at road i) → T (lt (sample_at (samples_of road ++ rest) (samples_before road i) k).distance (sample_at (samples_of road ++ rest) (samples_before road i) (suc k)).distance)
    held-rise k h =
        let g = geom_at road i in
        let c = count-spiral g e refl in
        subst (λ (p : Sample). T (lt p.distance (sample_at (samples_of road ++ rest) (samples_before road i) (suc k)).distance)) (sym (samples-held road rest i k no_sample (let o : k < sample_count g = omega arith in o)))
        (subst (λ (p : Sample). T (lt (get_or (geom_samples g) k no_sample).distance p.distance)) (sym (samples-held road rest i (suc k) no_sample h))
        (samples-rise g k0 k1 (geom-within road fit ok i below) curves.0 curves.1 e (few-steps road i below e few) no_sample k
        (let o : k < spiral_steps g.length = omega arith in o)))

  module _ (s : Float) (o : OnRoad road s) where
    away : Within binary64 (s ⊖ (geom_at road i).s) greatest_length
    away = away-within road fit ok i below s o

    on_line : PoseWithin (line_pose (geom_at road i) (s ⊖ (geom_at road i).s)) pose-far sine_range
    on_line =
        pose-mono (line_pose (geom_at road i) (s ⊖ (geom_at road i).s)) line-far pose-far greatest_heading sine_range
        (line_pose-within (geom_at road i) (geom-within road fit ok i below) (s ⊖ (geom_at road i).s) away) (const-within _ _ tt) (const-within _ _ tt)

    on-arc : (k : Float) → Fits64 k → shape_limited (Arc k) ≡ true → T (lt straight_curvature (abs_of k)) → PoseWithin (arc_pose (geom_at road i) k (s ⊖ (geom_at road i).s)) pose-far sine_range
    on-arc k f e h =
        let w = arc-within k f e in
        pose-mono (arc_pose (geom_at road i) k (s ⊖ (geom_at road i).s)) arc-far pose-far arc-turn sine_range
        (arc_pose-within (geom_at road i) (geom-within road fit ok i below) (s ⊖ (geom_at road i).s) away k w (arc-curved k w.value e h)) (const-within _ _ tt) (const-within _ _ tt)

    by_shape : (shape : GeomShape) → (geom_at road i).shape ≡ shape → ShapeFits shape → shape_limited shape ≡ true → PoseWithin (pose_by road (samples_of road ++ rest) i (s ⊖ (geom_at road i).s) shape) pose-far sine_range
    by_shape Line e f l = on_line
    by_shape (Arc k) e f l = go (lt straight_curvature (abs_of k)) refl
      where
        go : (b : Bool) → lt straight_curvature (abs_of k) ≡ b → PoseWithin (cond b (arc_pose (geom_at road i) k (s ⊖ (geom_at road i).s)) (line_pose (geom_at road i) (s ⊖ (geom_at road i).s))) pose-far sine_range
        go true q = on-arc k f l (subst T (sym q) tt)
        go false q = on_line
    by_shape (Spiral k0 k1) e f l =
        pose-mono (spiral_pose (samples_of road ++ rest) (samples_before road i) (sample_count (geom_at road i)) (s ⊖ (geom_at road i).s)) spiral-far pose-far spiral-turn sine_range
        (spiral_pose-within (samples_of road ++ rest) (samples_before road i) (sample_count (geom_at road i)) (s ⊖ (geom_at road i).s) (two-samples e f.0 f.1) (held-within e f.0 f.1) (first-zero e f.0 f.1) away.value)
        (const-within _ _ tt) (const-within _ _ tt)

    -- of any geometry of the road, at any station
    pub pose-within : PoseWithin (pose_of road (samples_of road ++ rest) i s) pose-far sine_range
    unfolding pose_of
    pose-within = by_shape (geom_at road i).shape refl (fit.geoms i).shape (geom-shape-passes road fit ok i below)

-- of the geometry in use there
pub station-pose-within : (road : Road) → RoadFits road → limited road ≡ true → samples_needed road ≤ most_samples → 0 < length road.geoms → (rest : List Float) (s : Float) → OnRoad road s
    → PoseWithin (pose_of road (samples_of road ++ rest) (geom_index road s) s) pose-far sine_range
station-pose-within road fit ok few some rest s o = pose-within road fit ok few rest (geom_index road s) (index_below road s some) s o
