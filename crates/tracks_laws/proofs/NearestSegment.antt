-- `project` keeps the earliest of the nearest segments. After k segments the best so far is on one of them to which none of the k is nearer, and each earlier one is farther (`Best`): the first takes the place of the infinity, and another only where it is strictly nearer.
use Prim.Native.Nat.{ℕ, zero, suc, ◌-◌, ◌≤◌, ◌<◌}
use native.Mathlib.Nat.{eq-or-lt_of_le, le_of_suc-le-suc}
use native.Mathlib.Omega.{arith}
use mathlib.Core.Path.{◌≡◌, refl, sym, subst}
use mathlib.Core.Bool.{Bool, true, false, cond}
use mathlib.Core.Logic.{⊎_elim}
use lib.Dec.{T}
use lib.Ieee.{Float, binary32, le, lt}
use Rattle.std.proofs.lemmas.Float.{T_from_false, T_from_true}
use Rattle.float_laws.proofs.Value.{Real, le→units, units→le, lt→units, units→lt, nlt→units, le_refl}
use Rattle.records.specs.declared.points.Point.{Point}
use Rattle.tracks.specs.Lengths.{length_to}
use Rattle.tracks.specs.Projections.{Nearest, nearer_of, nearest_of}
use Rattle.tracks_laws.specs.TrackLaws.{square_at, candidate_at}
use Rattle.tracks_laws.proofs.Admitted.{Placed}
use Rattle.tracks_laws.proofs.Projected.{square-real, under-infinity}

-- ---- order

lt-le-lt : (x y z : Float) → Real binary32 x → Real binary32 y → Real binary32 z → T (lt x y) → T (le y z) → T (lt x z)
lt-le-lt x y z rx ry rz h k = let a = lt→units binary32 x y rx ry h in let b = le→units binary32 y z ry rz k in units→lt binary32 x z rx rz (omega arith)

lt-le : (x y : Float) → Real binary32 x → Real binary32 y → T (lt x y) → T (le x y)
lt-le x y rx ry h = let a = lt→units binary32 x y rx ry h in units→le binary32 x y rx ry (omega arith)

not-lt-le : (x y : Float) → Real binary32 x → Real binary32 y → lt x y ≡ false → T (le y x)
not-lt-le x y rx ry e = units→le binary32 y x ry rx (nlt→units binary32 x y rx ry (T_from_false (lt x y) e))

-- ---- the best of k segments

module _ (p : ℕ → Point) (at : Point) where
  pub record Best (k : ℕ) (best : Nearest) : Type 0 where
    pub segment : ℕ
    pub there : segment < k
    pub square : best.square ≡ square_at p at segment
    pub is : best.projection ≡ candidate_at p at segment
    pub nearest : (i : ℕ) → i < k → T (le (square_at p at segment) (square_at p at i))
    pub earliest : (i : ℕ) → i < segment → T (lt (square_at p at segment) (square_at p at i))

  module _ (k : ℕ) (real : (i : ℕ) → i ≤ k → Real binary32 (square_at p at i)) (best : Nearest) (b : Best k best) where
    j : ℕ
    j = b.segment

    j-real : Real binary32 (square_at p at j)
    unfolding j
    j-real = real j (let h = b.there in omega arith)

    taken : lt (square_at p at k) best.square ≡ true → Best (suc k) (record { square = square_at p at k; projection = candidate_at p at k })
    unfolding j
    taken e =
        let d : T (lt (square_at p at k) (square_at p at j)) = subst (λ (x : Float). T (lt (square_at p at k) x)) b.square (T_from_true (lt (square_at p at k) best.square) e) in
        let farther : (i : ℕ) → i < k → T (lt (square_at p at k) (square_at p at i)) = (λ i h. lt-le-lt (square_at p at k) (square_at p at j) (square_at p at i) (real k (omega arith)) j-real (real i (omega arith)) d (b.nearest i h)) in
        record {
          segment = k;
          there = omega arith;
          square = refl;
          is = refl;
          nearest = λ i h. ⊎_elim
              (λ (q : i ≡ k). subst (λ (m : ℕ). T (le (square_at p at k) (square_at p at m))) (sym q) (le_refl binary32 (square_at p at k) (real k (omega arith))))
              (λ (l : i < k). lt-le (square_at p at k) (square_at p at i) (real k (omega arith)) (real i (omega arith)) (farther i l))
              (eq-or-lt_of_le (le_of_suc-le-suc h));
          earliest = farther;
        }

    left : lt (square_at p at k) best.square ≡ false → Best (suc k) best
    unfolding j
    left e =
        let d : lt (square_at p at k) (square_at p at j) ≡ false = subst (λ (x : Float). lt (square_at p at k) x ≡ false) b.square e in
        record {
          segment = j;
          there = (let h = b.there in omega arith);
          square = b.square;
          is = b.is;
          nearest = λ i h. ⊎_elim
              (λ (q : i ≡ k). subst (λ (m : ℕ). T (le (square_at p at j) (square_at p at m))) (sym q) (not-lt-le (square_at p at k) (square_at p at j) (real k (omega arith)) j-real d))
              (λ (l : i < k). b.nearest i l)
              (eq-or-lt_of_le (le_of_suc-le-suc h));
          earliest = b.earliest;
        }

    next : Best (suc k) (nearer_of best (p k) (p (suc k)) at (length_to p k))
    unfolding nearer_of
    next = go (lt (square_at p at k) best.square) refl
      where
        go : (c : Bool) → lt (square_at p at k) best.square ≡ c → Best (suc k) (cond c (record { square = square_at p at k; projection = candidate_at p at k }) best)
        go true e = taken e
        go false e = left e

-- ---- all of them

module _ (p : ℕ → Point) (n : ℕ) (placed : (i : ℕ) → i < n → Placed (p i)) (at : Point) (r : Placed at) where
  real : (i : ℕ) → suc i < n → Real binary32 (square_at p at i)
  real i h = square-real (p i) (p (suc i)) at (placed i (omega arith)) (placed (suc i) h) r

  first : 1 < n → Best p at 1 (nearest_of p at 1)
  unfolding nearest_of nearer_of
  first h = rw (under-infinity (square_at p at 0) (real 0 h)) (record { segment = 0; there = omega arith; square = refl; is = refl; nearest = λ i l. subst (λ (m : ℕ). T (le (square_at p at 0) (square_at p at m))) (let e : 0 ≡ i = omega arith in e) (le_refl binary32 (square_at p at 0) (real 0 h)); earliest = λ i l. absurd (omega arith) })

  after : (k : ℕ) → suc k < n → Best p at (suc k) (nearest_of p at (suc k))
  unfolding nearest_of
  after zero h = first h
  after (suc k) h = next p at (suc k) (λ i l. real i (omega arith)) (nearest_of p at (suc k)) (after k (omega arith))

  pub best_of : 2 ≤ n → Best p at (n - 1) (nearest_of p at (n - 1))
  best_of h = let e : suc (n - 2) ≡ n - 1 = omega arith in subst (λ (k : ℕ). Best p at k (nearest_of p at k)) e (after (n - 2) (omega arith))
