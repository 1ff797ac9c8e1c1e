-- The f32 pattern that an f64 of m * 2 ^ x smallest values narrows to. `gone` digits of m are dropped and k is the f32's own exponent, x + 149 + gone = 1074 + k: the fraction rounded for f32 and m / 2 ^ gone are then the same quotient (`cross`),
-- so `closest m (2 ^ gone)` is what is kept over k dropped digits, and the pattern is that of the rounding fact which serves the root too (`round-pattern`, in `narrow-pattern`).
use mathlib.Core.Path.{◌≡◌, refl, sym, ap, ◌∙◌}
use mathlib.Core.Logic.{◌⊎◌, inl, inr, ⊎_elim}
use mathlib.Core.Bool.{Bool, cond}
use Prim.Native.Nat.{ℕ, ◌+◌, ◌*◌, ◌/◌, ◌%◌, ◌^◌, ◌≤◌, ◌<◌, compare, min}
use native.Mathlib.Nat.{mul_assoc, le_trans, le_of_eq, lt_of_lt_of_le, mul-lt-mul_of_pos_right, mul-le-mul_right, mul-le-mul_left, le-div_iff_mul-le, div-lt_iff_lt-mul, div-eq_of_lt, mod-eq_of_lt, min-eq_left, min-eq_right}
use native.Mathlib.Omega.{arith}
use lib.Pow.{pow-add, pow_pos, pow_mono}
use lib.Ieee.{Float, nan, inf, fin, binary32, up, down, round, top, of_bits}
use lib.Ieee.Fits.{down_pos, nearest-le}
use lib.Ieee.Nearest.{closest, closest_same, nearest-ge}
use lib.Ieee.Exact.{HasValue}
use lib.Ieee.Scale.{round_same}
use Rattle.arithmetic.specs.Narrow.{infinity32, narrowed}
use Rattle.float_laws.proofs.Pattern.{drops, round-pattern}
use Rattle.float_laws.proofs.Nearest.{rounds-down}

narrow-round : (x : Float) (s : Bool) (a : ℕ) → HasValue x s a (2 ^ 1074) → narrowed x ≡ round binary32 s a (2 ^ 1074)
unfolding narrowed
narrow-round nan s a h = absurd h
narrow-round (inf t) s a h = absurd h
narrow-round (fin t m e) s a h =
    ap (λ (b : Bool). round binary32 b (m * up e) (down e)) h.0 ∙ round_same binary32 s (m * up e) (down e) a (2 ^ 1074) (down_pos e) (pow_pos 1074) h.1

-- m * 2 ^ x smallest values of an f64, at an f32: `gone` digits of m are dropped, at k
module _ (m x gone k : ℕ) (e : x + 149 + gone ≡ 1074 + k) (small : m < 2 ^ 53) (w : 29 ≤ gone) (full : (k ≡ 0) ⊎ ((gone ≡ 29) × (2 ^ 52 ≤ m))) where
  n : ℕ
  n = m * 2 ^ x * 2 ^ 149

  n-is : n ≡ m * 2 ^ (x + 149)
  unfolding n
  n-is = mul_assoc m (2 ^ x) (2 ^ 149) ∙ ap (λ (z : ℕ). m * z) (sym (pow-add 2 x 149))

  n-lt : n < 2 ^ (24 + k) * 2 ^ 1074
  n-lt =
      let a : m * 2 ^ (x + 149) < 2 ^ 53 * 2 ^ (x + 149) = mul-lt-mul_of_pos_right small (pow_pos (x + 149)) in
      let b : 53 + (x + 149) ≤ 24 + k + 1074 = omega arith in
      rw n-is (lt_of_lt_of_le a (rw (← pow-add 2 53 (x + 149), ← pow-add 2 (24 + k) 1074) (pow_mono b)))

  n-ge : (k ≡ 0) ⊎ (2 ^ (23 + k) * 2 ^ 1074 ≤ n)
  n-ge =
      ⊎_elim inl
      (λ (g : (gone ≡ 29) × (2 ^ 52 ≤ m)).
      let a : 2 ^ 52 * 2 ^ (x + 149) ≤ m * 2 ^ (x + 149) = mul-le-mul_right (2 ^ (x + 149)) g.1 in
      let b : 23 + k + 1074 ≡ 52 + (x + 149) = let z = g.0 in omega arith in
      inr (rw n-is (le_trans (le_of_eq (sym (pow-add 2 (23 + k) 1074) ∙ ap (λ (z : ℕ). 2 ^ z) b ∙ pow-add 2 52 (x + 149))) a)))
      full

  cross : n * 2 ^ gone ≡ m * (2 ^ 1074 * 2 ^ k)
  cross = ap (λ (z : ℕ). z * 2 ^ gone) n-is ∙ mul_assoc m (2 ^ (x + 149)) (2 ^ gone) ∙ ap (λ (z : ℕ). m * z) (sym (pow-add 2 (x + 149) gone) ∙ ap (λ (z : ℕ). 2 ^ z) e ∙ pow-add 2 1074 k)

  kept-is : closest n (2 ^ 1074 * 2 ^ k) ≡ closest m (2 ^ gone)
  kept-is = closest_same n (2 ^ 1074 * 2 ^ k) m (2 ^ gone) (rw (← pow-add 2 1074 k) (pow_pos (1074 + k))) (pow_pos gone) cross

  -- the pattern of the value narrowed, by the fact that root and narrowing share: k is the exponent's field, m without `gone` digits is added to it
  pub narrow-pattern : (s : Bool) (v : Float) → HasValue v s (m * 2 ^ x) (2 ^ 1074) → of_bits binary32 (cond s (top binary32) 0 + min (k * 2 ^ 23 + closest m (2 ^ gone)) infinity32) ≡ narrowed v
  unfolding n
  narrow-pattern s v h = round-pattern binary32 s (m * 2 ^ x) (2 ^ 1074) (drops binary32 n (2 ^ 1074) k (pow_pos 1074) n-lt n-ge) kept-is ∙ sym (narrow-round v s (m * 2 ^ x) h)

-- ---- the answers of the code

-- 24 digits are kept, or one more by a carry
pub closest-le : (m gone : ℕ) → m < 2 ^ 53 → 29 ≤ gone → closest m (2 ^ gone) ≤ 2 ^ 24
closest-le m gone h w =
    let u = 2 ^ gone in
    let a : 2 ^ 24 * 2 ^ 29 ≤ 2 ^ 24 * u = mul-le-mul_left (2 ^ 24) (pow_mono w) in
    let b : m / u < 2 ^ 24 = (div-lt_iff_lt-mul (pow_pos gone)).1 (lt_of_lt_of_le h a) in
    le_trans (nearest-le (m / u) (compare (m % u * 2) u)) b

closest-ge : (m : ℕ) → 2 ^ 52 ≤ m → 2 ^ 23 ≤ closest m (2 ^ 29)
closest-ge m h = le_trans ((le-div_iff_mul-le (pow_pos 29)).1 h) (nearest-ge (m / 2 ^ 29) (compare (m % 2 ^ 29 * 2) (2 ^ 29)))

closest-none : (m gone : ℕ) → m < 2 ^ 53 → 54 ≤ gone → closest m (2 ^ gone) ≡ 0
closest-none m gone h w =
    let a : 2 ^ 54 ≤ 2 ^ gone = pow_mono w in
    let l : m < 2 ^ gone = omega arith in
    let r : m % 2 ^ gone ≡ m = mod-eq_of_lt l in
    sym (rounds-down m (2 ^ gone) (rw r (omega arith))) ∙ div-eq_of_lt l

-- under the normal range: the pattern is what is kept
pub low_bits : (s : Bool) (v : Float) (m x gone : ℕ) → HasValue v s (m * 2 ^ x) (2 ^ 1074) → x + 149 + gone ≡ 1074 → m < 2 ^ 53 → 29 ≤ gone
    → of_bits binary32 (cond s (top binary32) 0 + closest m (2 ^ gone)) ≡ narrowed v
low_bits s v m x gone h e b w =
    let z : x + 149 + gone ≡ 1074 + 0 = omega arith in
    let c = closest-le m gone b w in
    let l : 0 * 2 ^ 23 + closest m (2 ^ gone) ≤ infinity32 = omega arith in
    let t : 0 * 2 ^ 23 + closest m (2 ^ gone) ≡ closest m (2 ^ gone) = omega arith in
    rw (min-eq_left l, t) at (narrow-pattern m x gone 0 z b w (inl refl) s v h)

-- so small that nothing is kept
pub none-bits : (s : Bool) (v : Float) (m x gone : ℕ) → HasValue v s (m * 2 ^ x) (2 ^ 1074) → x + 149 + gone ≡ 1074 → m < 2 ^ 53 → 54 ≤ gone
    → of_bits binary32 (cond s (top binary32) 0 + 0) ≡ narrowed v
none-bits s v m x gone h e b w =
    rw (closest-none m gone b w) at (low_bits s v m x gone h e b (omega arith))

-- in the normal range and beyond it
module _ (s : Bool) (v : Float) (m k : ℕ) (h : HasValue v s (m * 2 ^ (896 + k)) (2 ^ 1074)) (b : m < 2 ^ 53) (c : 2 ^ 52 ≤ m) where
  at-full : of_bits binary32 (cond s (top binary32) 0 + min (k * 2 ^ 23 + closest m (2 ^ 29)) infinity32) ≡ narrowed v
  at-full = let z : 896 + k + 149 + 29 ≡ 1074 + k = omega arith in narrow-pattern m (896 + k) 29 k z b (omega arith) (inr (refl, c)) s v h

  -- up to k = 253 the pattern is at most the infinity's, which a carry reaches
  pub high_bits : k ≤ 253 → of_bits binary32 (cond s (top binary32) 0 + (k * 2 ^ 23 + closest m (2 ^ 29))) ≡ narrowed v
  high_bits r =
      let g = closest-le m 29 b (omega arith) in
      let l : k * 2 ^ 23 + closest m (2 ^ 29) ≤ infinity32 = omega arith in
      rw (min-eq_left l) at at-full

  -- too large: the infinity
  pub over-bits : 254 ≤ k → of_bits binary32 (cond s (top binary32) 0 + infinity32) ≡ narrowed v
  over-bits r =
      let g = closest-ge m c in
      let l : infinity32 ≤ k * 2 ^ 23 + closest m (2 ^ 29) = omega arith in
      rw (min-eq_right l) at at-full
