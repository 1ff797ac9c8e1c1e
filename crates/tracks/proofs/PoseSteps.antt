-- The walk to the segment that holds s. While the walk stands at segment i, the segment looked for is i and the leading ones of the points after it (`Walked`); it ends at the last segment, or where the next point lies beyond s.
use Prim.Native.Nat.{ℕ, zero, suc, ◌+◌, ◌-◌, ◌≤◌, ◌<◌, min}
use native.Mathlib.Nat.{min-eq_left, min-eq_right, zero-min}
use native.Mathlib.Omega.{arith}
use native.Mathlib.Numerals.{add-one}
use mathlib.Core.Path.{◌≡◌, refl, sym, ap, ◌∙◌}
use mathlib.Core.Bool.{Bool, true, false, ◌&&◌}
use lib.Ieee.{Float, le}
use Rattle.float_laws.specs.Binary32.{zero32, clamp_of}
use Rattle.float_laws.proofs.Nearest.{apart}
use Rattle.records.specs.declared.points.Point.{Point}
use Rattle.tracks.specs.Lengths.{length_to}
use Rattle.coordinates.specs.declared.vectors.Vector.{Vector}
use Rattle.coordinates.specs.Vectors.{place_between}
use Rattle.tracks.specs.declared.poses.Spot.{Spot}
use Rattle.tracks.specs.declared.poses.TrackPose.{TrackPose}
use Rattle.tracks.specs.declared.segments.Segment.{Segment}
use Rattle.tracks.specs.Lines.{segment_at}
use Rattle.tracks.specs.Poses.{leading_from, segment_of, fraction_along, spot_of, position_at, heading_at, track_pose_of}

module _ (c : ℕ → Float) (s : Float) where
  pub lead-stop : (j k : ℕ) → le (c j) s ≡ false → leading_from c s j k ≡ 0
  unfolding leading_from
  lead-stop j zero e = refl
  lead-stop j (suc k) e = rw e

  pub lead-step : (j k : ℕ) → 0 < k → le (c j) s ≡ true → leading_from c s j k ≡ suc (leading_from c s (suc j) (k - 1))
  unfolding leading_from
  lead-step j zero h e = absurd (omega arith)
  lead-step j (suc k) h e = let d : suc k - 1 ≡ k = omega arith in rw (e, d)

-- ---- the walk

module _ (p : ℕ → Point) (n : ℕ) (s : Float) where
  -- the leading points from point j on
  abbrev pub after : ℕ → ℕ
  after j = leading_from (length_to p) s j (n - j)

  pub record Walked (i : ℕ) : Type 0 where
    pub within : i ≤ n - 2
    pub on : le zero32 s ≡ true → segment_of p n s ≡ min (i + after (suc i)) (n - 2)
    pub off : le zero32 s ≡ false → i ≡ 0

  less_one : (a b : ℕ) → a ≡ suc b → a - 1 ≡ 0 + b
  less_one a b e = omega arith

  none-less : (a : ℕ) → a ≡ 0 → a - 1 ≡ 0
  none-less a e = omega arith

  -- where s is below 0 or a NaN no point leads, not even the first
  pub segment-off : le zero32 s ≡ false → segment_of p n s ≡ 0
  unfolding segment_of length_to
  segment-off e = ap (λ (m : ℕ). min m (n - 2)) (none-less (leading_from (length_to p) s 0 n) (lead-stop (length_to p) s 0 n e)) ∙ zero-min (n - 2)

  first_on_lem : (m : ℕ) → n ≡ m → le zero32 s ≡ true → segment_of p n s ≡ min (0 + after 1) (n - 2)
  unfolding segment_of length_to
  first_on_lem zero z e = min-eq_right (omega arith) ∙ sym (min-eq_right (omega arith))
  first_on_lem (suc m) z e = ap (λ (m : ℕ). min m (n - 2)) (less_one (leading_from (length_to p) s 0 n) (after 1) (lead-step (length_to p) s 0 n (omega arith) e))

  pub walk_none : Walked 0
  walk_none = record { within = omega arith; on = first_on_lem n refl; off = λ _. refl }

  sum-suc : (i a b : ℕ) → a ≡ suc b → i + a ≡ suc i + b
  sum-suc i a b e = omega arith

  walk_turn : (i : ℕ) {to : Float} → Walked i → to ≡ length_to p (suc i) → i + 2 < n → le to s ≡ true → le zero32 s ≡ true → Walked (suc i)
  walk_turn i {to} w t l e z =
      let g : n - suc i - 1 ≡ n - suc (suc i) = omega arith in
      let k : after (suc i) ≡ suc (after (suc (suc i))) =
      lead-step (length_to p) s (suc i) (n - suc i) (omega arith) (ap (λ (x : Float). le x s) (sym t) ∙ e) ∙ ap (λ (x : ℕ). suc (leading_from (length_to p) s (suc (suc i)) x)) g in
      record {
        within = omega arith;
        on = λ o. w.on o ∙ ap (λ (x : ℕ). min x (n - 2)) (sum-suc i (after (suc i)) (after (suc (suc i))) k);
        off = λ o. absurd (apart (sym z ∙ o));
      }

  pub walk_next : (i : ℕ) {to : Float} → Walked i → to ≡ length_to p (suc i) → i + 2 < n → le zero32 s && le to s ≡ true → Walked (suc i)
  walk_next i {to} w t l = go (le zero32 s) (le to s) refl refl
    where
      go : (z b : Bool) → le zero32 s ≡ z → le to s ≡ b → z && b ≡ true → Walked (suc i)
      go true true ez eb e = walk_turn i w t l eb ez
      go true false ez eb e = absurd (apart (sym e))
      go false b ez eb e = absurd (apart (sym e))

  -- at the last segment the walk is there
  pub walk_ends : (i : ℕ) → Walked i → n ≤ i + 2 → i ≡ segment_of p n s
  walk_ends i w l = go (le zero32 s) refl
    where
      go : (c : Bool) → le zero32 s ≡ c → i ≡ segment_of p n s
      go true e = let h = w.within in sym (w.on e ∙ min-eq_right (omega arith) ∙ (omega arith))
      go false e = w.off e ∙ sym (segment-off e)

  -- where the next point lies beyond s, too
  at-stop : (i : ℕ) {to : Float} → Walked i → to ≡ length_to p (suc i) → le zero32 s ≡ true → le to s ≡ false → i ≡ segment_of p n s
  at-stop i w t e l =
      let h = w.within in
      let z : after (suc i) ≡ 0 = lead-stop (length_to p) s (suc i) (n - suc i) (ap (λ (x : Float). le x s) (sym t) ∙ l) in
      let y : i + after (suc i) ≡ i = omega arith in
      sym (w.on e ∙ ap (λ (x : ℕ). min x (n - 2)) y ∙ min-eq_left h)

  pub walk_stops : (i : ℕ) {to : Float} → Walked i → to ≡ length_to p (suc i) → le zero32 s && le to s ≡ false → i ≡ segment_of p n s
  walk_stops i {to} w t = go (le zero32 s) (le to s) refl refl
    where
      go : (z b : Bool) → le zero32 s ≡ z → le to s ≡ b → z && b ≡ false → i ≡ segment_of p n s
      go true true ez eb e = absurd (apart e)
      go true false ez eb e = at-stop i w t ez eb
      go false b ez eb e = w.off ez ∙ sym (segment-off ez)

-- ---- the spot, and the pose there

abbrev posed : Point → Vector → TrackPose
posed x h = record { position = x; heading = h }

joined : {x y : Point} {h k : Vector} → x ≡ y → h ≡ k → posed x h ≡ posed y k
joined e f = rw (e, f)

module _ (p : ℕ → Point) (n : ℕ) (s : Float) where
  pub spot_is : {d from to t : Float} {i : ℕ} → d ≡ clamp_of zero32 (length_to p (n - 1)) s → i ≡ segment_of p n d → from ≡ length_to p i → to ≡ length_to p (suc i) → t ≡ fraction_along from to d
      → ◌≡◌ {A = Spot} (record { segment = i; t = t }) (spot_of p n s)
  unfolding spot_of
  spot_is hd hi hf ht h = rw (h, hf, ht, hi, hd)

  pub pose_is : {at : Spot} {on : Segment} {x : Point} {h : Vector} → at ≡ spot_of p n s → on ≡ segment_at p at.segment → x ≡ place_between on.from on.to at.t → h ≡ heading_at p n at.segment at.t
      → posed x h ≡ track_pose_of p n s
  unfolding track_pose_of
  pose_is {at} e ho hx hh =
      let there : at.segment + 1 ≡ suc at.segment = add-one at.segment in
      joined (rw (hx, ho, there)) hh ∙ ap (λ (y : Spot). posed (position_at p y.segment y.t) (heading_at p n y.segment y.t)) e
