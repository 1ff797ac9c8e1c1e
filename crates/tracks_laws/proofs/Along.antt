-- The projection's arc length lies in 0..length: what a segment adds is at most its own length, since the fraction is at most 1, and arc lengths never fall.
use Prim.Native.Nat.{ℕ, zero, suc, ◌+◌, ◌-◌, ◌*◌, ◌^◌, ◌≤◌, ◌<◌}
use native.Mathlib.Nat.{mul-le-mul_left}
use native.Mathlib.Omega.{arith}
use mathlib.Core.Path.{◌≡◌, ap, ◌∙◌, subst}
use mathlib.Core.Bool.{Bool, true, false, cond}
use lib.Dec.{T}
use lib.Pow.{pow_pos}
use lib.Ieee.{Float, binary32, low, of_bits, le, lt}
use lib.Ieee.Scale.{finite}
use Rattle.std.proofs.lemmas.Float.{le_trans as float_trans}
use Rattle.float_laws.specs.Binary32.{◌⊕◌, ◌⊗◌, one32}
use Rattle.float_laws.proofs.Units.{rnd, rnd-zero}
use Rattle.float_laws.proofs.Value.{pl, mi, Real, le_refl}
use Rattle.float_laws.proofs.Operation.{mul-Is}
use Rattle.float_laws.proofs.Size.{add-fin}
use Rattle.float_laws.proofs.Exact.{self-Is, is_le, add-grow-l}
use Rattle.float_laws.proofs.Order.{add-mono}
use Rattle.float_laws.proofs.Interval.{In, nil, nil-real, from_zero, le→parts}
use Rattle.records.specs.declared.points.Point.{Point}
use Rattle.coordinates.specs.Vectors.{from_to}
use Rattle.tracks.specs.Lengths.{distance_of, length_to}
use Rattle.tracks.specs.Projections.{Nearest, foot_of, candidate_of, closest_of, square_to, nearer_of, nearest_of, project_of}
use Rattle.tracks_laws.proofs.Admitted.{Placed}
use Rattle.tracks_laws.proofs.ArcLengths.{distance-in, lengths, lengths_rise}
use Rattle.tracks_laws.proofs.Fractions.{one-pl, length-in, whole_length}
use Rattle.tracks_laws.proofs.Finite.{foot-in}
use Rattle.tracks_laws.proofs.Projected.{candidate-real}

-- ---- a part of a length

no_minus : (a b c d : ℕ) → b ≡ 0 → d ≡ 0 → a * d + b * c - (a * c + b * d) ≡ 0
no_minus a b c d e f = rw (e, f) (omega arith)

at_most : (a b c d L : ℕ) → b ≡ 0 → c ≤ L → (a * c + b * d) * 1 + b * L ≤ a * L + (a * d + b * c) * 1
at_most a b c d L e h = rw e (let k : a * c ≤ a * L = mul-le-mul_left a h in omega arith)

module _ (x t : Float) (rx : Real binary32 x) (zx : mi binary32 x ≡ 0) (i : In binary32 nil one32 t) (fine : T (finite (x ⊗ t))) where
  zt : mi binary32 t ≡ 0
  zt = from_zero binary32 t i.value i.above

  part-real : Real binary32 (x ⊗ t)
  part-real = record { finite = fine; fits = (mul-Is binary32 x t rx i.value).fits }

  part-plus : mi binary32 (x ⊗ t) ≡ 0
  part-plus =
      (mul-Is binary32 x t rx i.value).minus fine ∙ ap (λ (k : ℕ). rnd binary32 k (2 ^ low binary32)) (no_minus (pl binary32 x) (mi binary32 x) (pl binary32 t) (mi binary32 t) zx zt) ∙ rnd-zero binary32 (2 ^ low binary32) (pow_pos (low binary32))

  part-le : T (le (x ⊗ t) x)
  part-le =
      let h = (le→parts binary32 t one32 i.value i.high i.below).0 in
      is_le binary32 (x ⊗ t) x (pl binary32 x * pl binary32 t + mi binary32 x * mi binary32 t) (pl binary32 x * mi binary32 t + mi binary32 x * pl binary32 t) (2 ^ low binary32) (pl binary32 x) (mi binary32 x) 1 (pow_pos (low binary32)) (omega arith)
      (mul-Is binary32 x t rx i.value) (self-Is binary32 x rx) fine rx.finite
      (at_most (pl binary32 x) (mi binary32 x) (pl binary32 t) (mi binary32 t) (2 ^ low binary32) zx (subst (λ (k : ℕ). pl binary32 t ≤ k) one-pl h))

-- ---- over the track

module _ (p : ℕ → Point) (n : ℕ) (placed : (i : ℕ) → i < n → Placed (p i)) (small : n ≤ 512) (two : 2 ≤ n) where
  abbrev whole : Float
  whole = length_to p (n - 1)

  pub record OnTrack (x : Float) : Type 0 where
    pub above : T (le nil x)
    pub below : T (le x whole)

  whole-real : Real binary32 whole
  whole-real = (lengths p n placed small (n - 1) (omega arith)).real

  module _ (at : Point) (r : Placed at) where
    -- segment k
    along : (k : ℕ) → suc k < n → OnTrack (length_to p k ⊕ distance_of (p k) (p (suc k)) ⊗ foot_of (from_to (p k) (p (suc k))) (from_to (p k) at))
    unfolding length_to candidate_of
    along k h =
        let a = placed k (omega arith) in
        let b = placed (suc k) h in
        let d = distance-in (p k) (p (suc k)) a b in
        let from = length_to p k in
        let x = distance_of (p k) (p (suc k)) in
        let t = foot_of (from_to (p k) (p (suc k))) (from_to (p k) at) in
        let i = foot-in (p k) (p (suc k)) at a b r in
        let l = lengths p n placed small k (omega arith) in
        let m = lengths p n placed small (suc k) h in
        let z = from_zero binary32 x d.value d.above in
        let s : Real binary32 (from ⊕ x ⊗ t) = (candidate-real (p k) (p (suc k)) at a b r from (length-in p n placed small two k (omega arith))).s in
        let fine = (add-fin binary32 from (x ⊗ t) s.finite).1 in
        let q = part-real x t d.value z i fine in
        let up = add-mono binary32 from from (x ⊗ t) x l.real l.real q d.value (le_refl binary32 from l.real) (part-le x t d.value z i fine) s.finite m.real.finite in
        record {
          above = float_trans nil from (from ⊕ x ⊗ t) l.above (add-grow-l binary32 from (x ⊗ t) l.real q (part-plus x t d.value z i fine) s.finite);
          below = float_trans (from ⊕ x ⊗ t) (from ⊕ x) whole up (lengths_rise p n placed small (suc k) (n - 1) (omega arith) (omega arith));
        }

    nearer-on : (k : ℕ) → suc k < n → (best : Nearest) → OnTrack best.projection.s → OnTrack (nearer_of best (p k) (p (suc k)) at (length_to p k)).projection.s
    unfolding nearer_of candidate_of
    nearer-on k h best o = go (lt (square_to (closest_of (p k) (p (suc k)) at) at) best.square)
      where
        go : (c : Bool) → OnTrack (cond c (record { square = square_to (closest_of (p k) (p (suc k)) at) at; projection = candidate_of (from_to (p k) (p (suc k))) (foot_of (from_to (p k) (p (suc k))) (from_to (p k) at)) (closest_of (p k) (p (suc k)) at) (from_to (closest_of (p k) (p (suc k)) at) at) (length_to p k) }) best).projection.s
        go true = along k h
        go false = o

    nearest-on : (k : ℕ) → k < n → OnTrack (nearest_of p at k).projection.s
    unfolding nearest_of of_bits
    nearest-on zero h = record { above = le_refl binary32 nil (nil-real binary32); below = whole_length p n placed small two }
    nearest-on (suc k) h = nearer-on k h (nearest_of p at k) (nearest-on k (omega arith))

    -- the projection's s
    pub project_on-track : OnTrack (project_of p n at).s
    unfolding project_of
    project_on-track = nearest-on (n - 1) (omega arith)
