-- The error of one rounding, relative: |z - v| ≤ |v| / 2 ^ prec in the normal range, and half a unit more where v may be subnormal. A sum and a difference are exact there, so they never need the half unit.
-- The idea: 2 ^ (j - 1) ≤ v < 2 ^ j for some j, and half a unit in v's last place, 2 ^ (j - 1 - prec), is then at most v / 2 ^ prec. Assumes nothing.
use mathlib.Core.Path.{◌≡◌, sym, ap, ◌∙◌, subst}
use Prim.Native.Nat.{ℕ, suc, ◌+◌, ◌-◌, ◌*◌, ◌/◌, ◌^◌, ◌≤◌, ◌<◌}
use native.Mathlib.Nat.{le_trans, le_of_eq, mul-one, mul-le-mul_right, mul_right_comm, sub-add_cancel, le-div_iff_mul-le, div-lt_iff_lt-mul, pow-suc, sub_self, sub-le}
use native.Mathlib.Omega.{arith}
use mathlib.Core.Logic.{inl, inr}
use mathlib.Core.Bool.{Bool, true, false, not}
use lib.Dec.{T, ltb, ltb→lt, nltb→le}
use lib.Pow.{pow-add, pow_pos, pow_mono}
use lib.Ieee.{Float, Format, prec, low, size, add, sub, mul, div}
use lib.Ieee.Digits.{size-lt, size_reaches}
use lib.Ieee.Fits.{two, two-le_pos}
use lib.Ieee.Scale.{finite}
use Rattle.float_laws.proofs.Units.{rnd, rnd-err, rnd-exact, rnd-zero, size-gt}
use Rattle.float_laws.proofs.Value.{mag, pl, mi, Real}
use Rattle.float_laws.proofs.Operation.{Is, Differ, differ-le, mul-differ, scale-differ, add-Is, sub-Is, mul-Is}
use Rattle.float_laws.proofs.Interval.{div-Is'}
use Rattle.float_laws.proofs.Error.{is-off}

-- ---- of `rnd`
-- j digits, of which the first is in use: a unit in the last of prec places is at most 2 * n / 2 ^ prec
last-place : (j p n c : ℕ) → 0 < j → p ≤ j → 2 ^ (j - 1) * c ≤ n → 2 ^ (j - p) * c * 2 ^ p ≤ n * 2
last-place j p n c J h l =
    let a : 2 ^ (j - p) * 2 ^ p ≡ 2 ^ j = sym (pow-add 2 (j - p) p) ∙ ap (λ (x : ℕ). 2 ^ x) (sub-add_cancel h) in
    let s : suc (j - 1) ≡ j = omega arith in
    let b : 2 ^ j ≡ 2 ^ (j - 1) * 2 = ap (λ (x : ℕ). 2 ^ x) (sym s) ∙ pow-suc 2 (j - 1) in
    let e : 2 ^ (j - p) * c * 2 ^ p ≡ 2 ^ (j - 1) * c * 2 = mul_right_comm (2 ^ (j - p)) c (2 ^ p) ∙ ap (λ (x : ℕ). x * c) (a ∙ b) ∙ mul_right_comm (2 ^ (j - 1)) 2 c in
    le_trans (le_of_eq e) (mul-le-mul_right 2 l)

scale : (r n E K : ℕ) → (r * 2 ≤ n * 2 + E) × (n * 2 ≤ r * 2 + E) → E * K ≤ n * 2 → (r * K ≤ n * (K + 1)) × (n * K ≤ r * K + n)
scale r n E K h l =
    let a : r * 2 * K ≤ (n * 2 + E) * K = mul-le-mul_right K h.0 in
    let b : n * 2 * K ≤ (r * 2 + E) * K = mul-le-mul_right K h.1 in
    (omega arith, omega arith)

-- the normal range begins at 2 ^ (prec - 1) units
pub rnd-rel : (f : Format) (n c : ℕ) → 0 < c → 2 ^ (prec f - 1) * c ≤ n → (rnd f n c * c * 2 ^ prec f ≤ n * (2 ^ prec f + 1)) × (n * 2 ^ prec f ≤ rnd f n c * c * 2 ^ prec f + n)
rnd-rel f n c C h =
    let p = prec f in
    let P : 0 < p = two-le_pos p (two f) in
    let j = size (n / c) in
    let g : p - 1 < j = size-gt (n / c) (p - 1) ((le-div_iff_mul-le C).1 h) in
    let J : 0 < j = omega arith in
    let l : 2 ^ (j - 1) * c ≤ n = (le-div_iff_mul-le C).0 (size_reaches (n / c) (j - 1) (omega arith)) in
    scale (rnd f n c * c) n (2 ^ (j - p) * c) (2 ^ p) (rnd-err f n c j C ((div-lt_iff_lt-mul C).0 (size-lt (n / c)))) (last-place j p n c J (omega arith) l)

-- every n: with half a unit more
pub rnd-rel-any : (f : Format) (n c : ℕ) → 0 < c → (rnd f n c * c * 2 * 2 ^ prec f ≤ n * 2 * (2 ^ prec f + 1) + 2 ^ prec f * c) × (n * 2 * 2 ^ prec f ≤ rnd f n c * c * 2 * 2 ^ prec f + n * 2 + 2 ^ prec f * c)
rnd-rel-any f n c C = go (ltb n (2 ^ prec f * c)) (ltb→lt n (2 ^ prec f * c)) (nltb→le n (2 ^ prec f * c))
  where
    K : ℕ
    K = 2 ^ prec f

    low_half : 2 ^ (prec f - 1) * c ≤ 2 ^ prec f * c
    low_half = mul-le-mul_right c (pow_mono (sub-le (prec f) 1))

    normal : (r n K e : ℕ) → (r * K ≤ n * (K + 1)) × (n * K ≤ r * K + n) → (r * 2 * K ≤ n * 2 * (K + 1) + e) × (n * 2 * K ≤ r * 2 * K + n * 2 + e)
    normal r n K e h = let a = h.0 in let b = h.1 in (omega arith, omega arith)

    small : (r n K E c : ℕ) → E ≡ 1 → (r * 2 ≤ n * 2 + E * c) × (n * 2 ≤ r * 2 + E * c) → (r * 2 * K ≤ n * 2 * (K + 1) + K * c) × (n * 2 * K ≤ r * 2 * K + n * 2 + K * c)
    small r n K E c e h =
        let g : (r * 2 ≤ n * 2 + 1 * c) × (n * 2 ≤ r * 2 + 1 * c) = subst (λ (x : ℕ). (r * 2 ≤ n * 2 + x * c) × (n * 2 ≤ r * 2 + x * c)) e h in
        let a : r * 2 * K ≤ (n * 2 + 1 * c) * K = mul-le-mul_right K g.0 in
        let b : n * 2 * K ≤ (r * 2 + 1 * c) * K = mul-le-mul_right K g.1 in
        (omega arith, omega arith)

    go : (b : Bool) → (T b → n < K * c) → (T (not b) → K * c ≤ n) → (rnd f n c * c * 2 * K ≤ n * 2 * (K + 1) + K * c) × (n * 2 * K ≤ rnd f n c * c * 2 * K + n * 2 + K * c)
    go true a b = small (rnd f n c * c) n K (2 ^ (prec f - prec f)) c (ap (λ (x : ℕ). 2 ^ x) (sub_self (prec f))) (rnd-err f n c (prec f) C (a tt))
    go false a b = normal (rnd f n c * c) n K (K * c) (rnd-rel f n c C (le_trans low_half (b tt)))

-- a whole number of units: below 2 ^ prec it is exact, so no half unit is needed
pub rnd-rel-whole : (f : Format) (n : ℕ) → (rnd f n 1 * 1 * 2 ^ prec f ≤ n * (2 ^ prec f + 1)) × (n * 2 ^ prec f ≤ rnd f n 1 * 1 * 2 ^ prec f + n)
rnd-rel-whole f n = go (ltb n (2 ^ prec f)) (ltb→lt n (2 ^ prec f)) (nltb→le n (2 ^ prec f))
  where
    exact : (r n K : ℕ) → r ≡ n → (r * 1 * K ≤ n * (K + 1)) × (n * K ≤ r * 1 * K + n)
    exact r n K e = subst (λ (x : ℕ). (x * 1 * K ≤ n * (K + 1)) × (n * K ≤ x * 1 * K + n)) (sym e) (omega arith, omega arith)

    go : (b : Bool) → (T b → n < 2 ^ prec f) → (T (not b) → 2 ^ prec f ≤ n) → (rnd f n 1 * 1 * 2 ^ prec f ≤ n * (2 ^ prec f + 1)) × (n * 2 ^ prec f ≤ rnd f n 1 * 1 * 2 ^ prec f + n)
    go true a b = exact (rnd f n 1) n (2 ^ prec f) (ap (λ (x : ℕ). rnd f x 1) (sym (mul-one (n * 2 ^ 0) ∙ mul-one n)) ∙ rnd-exact f n 0 1 (pow_pos 0) (a tt) ∙ mul-one n)
    go false a b = rnd-rel f n 1 (pow_pos 0) (le_trans (le_of_eq (mul-one (2 ^ (prec f - 1)))) (le_trans (pow_mono (sub-le (prec f) 1)) (b tt)))

-- ---- of a result: |z - (P - N) / c| ≤ A / c / 2 ^ prec + h / 2 units, where A is at least |P - N|; h is 0 in the normal range and for sums, else 1
pub record Relative (f : Format) (z : Float) (P N c A h : ℕ) : Type 0 where
  pub above : (pl f z * c + N) * (2 * 2 ^ prec f) ≤ (mi f z * c + P) * (2 * 2 ^ prec f) + (A * 2 + h * 2 ^ prec f * c)
  pub below : (mi f z * c + P) * (2 * 2 ^ prec f) ≤ (pl f z * c + N) * (2 * 2 ^ prec f) + (A * 2 + h * 2 ^ prec f * c)

sized : (r n A K c : ℕ) → n ≤ A → (r * K ≤ n * (K + 1)) × (n * K ≤ r * K + n) → (r * (2 * K) ≤ n * (2 * K) + (A * 2 + 0 * K * c)) × (n * (2 * K) ≤ r * (2 * K) + (A * 2 + 0 * K * c))
sized r n A K c l h = let a = h.0 in let b = h.1 in (omega arith, omega arith)

sized-any : (r n A K c : ℕ) → n ≤ A → (r * 2 * K ≤ n * 2 * (K + 1) + K * c) × (n * 2 * K ≤ r * 2 * K + n * 2 + K * c) → (r * (2 * K) ≤ n * (2 * K) + (A * 2 + 1 * K * c)) × (n * (2 * K) ≤ r * (2 * K) + (A * 2 + 1 * K * c))
sized-any r n A K c l h = let a = h.0 in let b = h.1 in (omega arith, omega arith)

zero-rel : (f : Format) (c : ℕ) → 0 < c → (rnd f 0 c * c * 2 ^ prec f ≤ 0 * (2 ^ prec f + 1)) × (0 * 2 ^ prec f ≤ rnd f 0 c * c * 2 ^ prec f + 0)
zero-rel f c C = none (rnd f 0 c) c (2 ^ prec f) (rnd-zero f c C)
  where
    none : (r c K : ℕ) → r ≡ 0 → (r * c * K ≤ 0 * (K + 1)) × (0 * K ≤ r * c * K + 0)
    none r c K e = subst (λ (x : ℕ). (x * c * K ≤ 0 * (K + 1)) × (0 * K ≤ x * c * K + 0)) (sym e) (omega arith, omega arith)

module _ (f : Format) (z : Float) (P N c D : ℕ) (C : 0 < c) (i : Is f z P N c) (t : T (finite z)) (d : Differ P N D) where
  -- an exact size in the normal range
  pub is-relative : 2 ^ (prec f - 1) * c ≤ D → Relative f z P N c D 0
  is-relative h =
      let w = is-off f z P N c (2 * 2 ^ prec f) (D * 2 + 0 * 2 ^ prec f * c) C i t (sized (rnd f (P - N) c * c) (P - N) D (2 ^ prec f) c (differ-le P N D d).0 (left d)) (sized (rnd f (N - P) c * c) (N - P) D (2 ^ prec f) c (differ-le P N D d).1 (right d)) in
      record { above = w.0; below = w.1 }
    where
      Bounds : ℕ → Type 0
      Bounds n = (rnd f n c * c * 2 ^ prec f ≤ n * (2 ^ prec f + 1)) × (n * 2 ^ prec f ≤ rnd f n c * c * 2 ^ prec f + n)

      left : Differ P N D → Bounds (P - N)
      left (inl e) = subst Bounds (sym e.0) (rnd-rel f D c C h)
      left (inr e) = subst Bounds (sym e.1) (zero-rel f c C)

      right : Differ P N D → Bounds (N - P)
      right (inl e) = subst Bounds (sym e.1) (zero-rel f c C)
      right (inr e) = subst Bounds (sym e.0) (rnd-rel f D c C h)

  -- every exact size, subnormal results included: half a unit more
  pub is-relative-any : Relative f z P N c D 1
  is-relative-any =
      let w = is-off f z P N c (2 * 2 ^ prec f) (D * 2 + 1 * 2 ^ prec f * c) C i t (sized-any (rnd f (P - N) c * c) (P - N) D (2 ^ prec f) c (differ-le P N D d).0 (rnd-rel-any f (P - N) c C)) (sized-any (rnd f (N - P) c * c) (N - P) D (2 ^ prec f) c (differ-le P N D d).1 (rnd-rel-any f (N - P) c C)) in
      record { above = w.0; below = w.1 }

-- a whole number of units, as sums and differences are: never the half unit; A is any bound on the exact size
pub is-relative-whole : (f : Format) (z : Float) (P N A : ℕ) → Is f z P N 1 → T (finite z) → P ≤ A + N → N ≤ A + P → Relative f z P N 1 A 0
is-relative-whole f z P N A i t a b =
    let w = is-off f z P N 1 (2 * 2 ^ prec f) (A * 2 + 0 * 2 ^ prec f * 1) (pow_pos 0) i t (sized (rnd f (P - N) 1 * 1) (P - N) A (2 ^ prec f) 1 (omega arith) (rnd-rel-whole f (P - N))) (sized (rnd f (N - P) 1 * 1) (N - P) A (2 ^ prec f) 1 (omega arith) (rnd-rel-whole f (N - P))) in
    record { above = w.0; below = w.1 }

-- ---- the operations. For a sum and a difference A is any bound on the exact result's size, so that one which cancels is seen as the small number it is
pub add-relative : (f : Format) (x y : Float) (A : ℕ) → Real f x → Real f y → T (finite (add f x y)) → pl f x + pl f y ≤ A + (mi f x + mi f y) → mi f x + mi f y ≤ A + (pl f x + pl f y) → Relative f (add f x y) (pl f x + pl f y) (mi f x + mi f y) 1 A 0
add-relative f x y A r q t a b = is-relative-whole f (add f x y) (pl f x + pl f y) (mi f x + mi f y) A (add-Is f x y r q) t a b

pub sub-relative : (f : Format) (x y : Float) (A : ℕ) → Real f x → Real f y → T (finite (sub f x y)) → pl f x + mi f y ≤ A + (mi f x + pl f y) → mi f x + pl f y ≤ A + (pl f x + mi f y) → Relative f (sub f x y) (pl f x + mi f y) (mi f x + pl f y) 1 A 0
sub-relative f x y A r q t a b = is-relative-whole f (sub f x y) (pl f x + mi f y) (mi f x + pl f y) A (sub-Is f x y r q) t a b

module _ (f : Format) (x y : Float) (r : Real f x) (q : Real f y) (t : T (finite (mul f x y))) where
  -- a product, and a quotient by a divisor above zero: for every size, and in the normal range
  pub mul-relative-any : Relative f (mul f x y) (pl f x * pl f y + mi f x * mi f y) (pl f x * mi f y + mi f x * pl f y) (2 ^ low f) (mag f x * mag f y) 1
  mul-relative-any = is-relative-any f (mul f x y) _ _ (2 ^ low f) (mag f x * mag f y) (pow_pos (low f)) (mul-Is f x y r q) t (mul-differ f x y)

  pub mul-relative : 2 ^ (prec f - 1) * 2 ^ low f ≤ mag f x * mag f y → Relative f (mul f x y) (pl f x * pl f y + mi f x * mi f y) (pl f x * mi f y + mi f x * pl f y) (2 ^ low f) (mag f x * mag f y) 0
  mul-relative = is-relative f (mul f x y) _ _ (2 ^ low f) (mag f x * mag f y) (pow_pos (low f)) (mul-Is f x y r q) t (mul-differ f x y)

module _ (f : Format) (x y : Float) (r : Real f x) (q : Real f y) (p : 0 < pl f y) (t : T (finite (div f x y))) where
  pub div-relative-any : Relative f (div f x y) (pl f x * 2 ^ low f) (mi f x * 2 ^ low f) (pl f y) (mag f x * 2 ^ low f) 1
  div-relative-any = is-relative-any f (div f x y) _ _ (pl f y) (mag f x * 2 ^ low f) p (div-Is' f x y r q p) t (scale-differ f x (2 ^ low f))

  pub div-relative : 2 ^ (prec f - 1) * pl f y ≤ mag f x * 2 ^ low f → Relative f (div f x y) (pl f x * 2 ^ low f) (mi f x * 2 ^ low f) (pl f y) (mag f x * 2 ^ low f) 0
  div-relative = is-relative f (div f x y) _ _ (pl f y) (mag f x * 2 ^ low f) p (div-Is' f x y r q p) t (scale-differ f x (2 ^ low f))
