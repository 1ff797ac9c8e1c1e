-- The operations keep or turn the order, for values of any sign; a quotient's size; and a running sum of terms of size 2 ^ j at most. Assumes nothing.
use mathlib.Core.Path.{◌≡◌, sym, ap, ◌∙◌, subst}
use Prim.Native.Nat.{ℕ, suc, ◌+◌, ◌-◌, ◌*◌, ◌^◌, ◌≤◌, ◌<◌}
use native.Mathlib.Nat.{le_trans, le_of_eq, lt_of_le_of_lt, lt_of_lt_of_le, mul-one, zero-mul, add_comm, mul-le-mul, mul-le-mul_right}
use native.Mathlib.Omega.{arith}
use mathlib.Core.Bool.{Bool, true, false, cond}
use lib.Dec.{T}
use lib.Pow.{pow_pos}
use lib.Ieee.{Float, Format, prec, low, le, add, sub, mul, div}
use lib.Ieee.Fits.{div-fits}
use lib.Ieee.Scale.{finite, overflow}
use Rattle.float_laws.proofs.Units.{rnd, rnd-mono, rnd-exact}
use Rattle.float_laws.proofs.Value.{sign, mag, pl, mi, Real, mag_is, le→units}
use Rattle.float_laws.proofs.Operation.{add-Is, sub-Is, mul-Is, div-Is}
use Rattle.float_laws.proofs.Size.{Within, is-bounded, bound_of_lem}
use Rattle.float_laws.proofs.Interval.{le→parts, div-Is', nil, nil-real, nil-pl, nil-mi}
use Rattle.float_laws.proofs.Exact.{is_le}

-- ---- order: x ≤ y ≤ x only for one number (-0 and +0 are one)
pub le_antisym : (f : Format) (x y : Float) → Real f x → Real f y → T (le x y) → T (le y x) → (pl f x ≡ pl f y) × (mi f x ≡ mi f y)
le_antisym f x y r q h k =
    let a = le→parts f x y r q h in
    let b = le→parts f y x q r k in
    let a0 = a.0 in
    let a1 = a.1 in
    let b0 = b.0 in
    let b1 = b.1 in
    (omega arith, omega arith)

-- sums and differences: x ≤ x' and y ≤ y' (turned for the subtrahend)
pub add-mono : (f : Format) (x x' y y' : Float) → Real f x → Real f x' → Real f y → Real f y' → T (le x x') → T (le y y') → T (finite (add f x y)) → T (finite (add f x' y')) → T (le (add f x y) (add f x' y'))
add-mono f x x' y y' r r' q q' h k t u =
    let a = le→units f x x' r r' h in
    let b = le→units f y y' q q' k in
    is_le f (add f x y) (add f x' y') (pl f x + pl f y) (mi f x + mi f y) 1 (pl f x' + pl f y') (mi f x' + mi f y') 1 (pow_pos 0) (pow_pos 0) (add-Is f x y r q) (add-Is f x' y' r' q') t u (omega arith)

pub sub-mono : (f : Format) (x x' y y' : Float) → Real f x → Real f x' → Real f y → Real f y' → T (le x x') → T (le y' y) → T (finite (sub f x y)) → T (finite (sub f x' y')) → T (le (sub f x y) (sub f x' y'))
sub-mono f x x' y y' r r' q q' h k t u =
    let a = le→units f x x' r r' h in
    let b = le→units f y' y q' q k in
    is_le f (sub f x y) (sub f x' y') (pl f x + mi f y) (mi f x + pl f y) 1 (pl f x' + mi f y') (mi f x' + pl f y') 1 (pow_pos 0) (pow_pos 0) (sub-Is f x y r q) (sub-Is f x' y' r' q') t u (omega arith)

-- by a factor that is not below zero
scaled-up : (a b a' b' c d L : ℕ) → d ≡ 0 → a + b' ≤ a' + b → (a * c + b * d) * L + (a' * d + b' * c) * L ≤ (a' * c + b' * d) * L + (a * d + b * c) * L
scaled-up a b a' b' c d L z h = subst (λ (w : ℕ). (a * c + b * w) * L + (a' * w + b' * c) * L ≤ (a' * c + b' * w) * L + (a * w + b * c) * L) (sym z) (let k : (a + b') * (c * L) ≤ (a' + b) * (c * L) = mul-le-mul_right (c * L) h in omega arith)

pub mul_mono : (f : Format) (x x' y : Float) → Real f x → Real f x' → Real f y → mi f y ≡ 0 → T (le x x') → T (finite (mul f x y)) → T (finite (mul f x' y)) → T (le (mul f x y) (mul f x' y))
mul_mono f x x' y r r' q z h t u =
    is_le f (mul f x y) (mul f x' y) _ _ (2 ^ low f) _ _ (2 ^ low f) (pow_pos (low f)) (pow_pos (low f)) (mul-Is f x y r q) (mul-Is f x' y r' q) t u
    (scaled-up (pl f x) (mi f x) (pl f x') (mi f x') (pl f y) (mi f y) (2 ^ low f) z (le→units f x x' r r' h))

-- a factor that is not above zero turns the order
scaled-down : (a b a' b' c d L : ℕ) → c ≡ 0 → a + b' ≤ a' + b → (a' * c + b' * d) * L + (a * d + b * c) * L ≤ (a * c + b * d) * L + (a' * d + b' * c) * L
scaled-down a b a' b' c d L z h = subst (λ (w : ℕ). (a' * w + b' * d) * L + (a * d + b * w) * L ≤ (a * w + b * d) * L + (a' * d + b' * w) * L) (sym z) (let k : (a + b') * (d * L) ≤ (a' + b) * (d * L) = mul-le-mul_right (d * L) h in omega arith)

pub mul-anti : (f : Format) (x x' y : Float) → Real f x → Real f x' → Real f y → pl f y ≡ 0 → T (le x x') → T (finite (mul f x y)) → T (finite (mul f x' y)) → T (le (mul f x' y) (mul f x y))
mul-anti f x x' y r r' q z h t u =
    is_le f (mul f x' y) (mul f x y) _ _ (2 ^ low f) _ _ (2 ^ low f) (pow_pos (low f)) (pow_pos (low f)) (mul-Is f x' y r' q) (mul-Is f x y r q) u t
    (scaled-down (pl f x) (mi f x) (pl f x') (mi f x') (pl f y) (mi f y) (2 ^ low f) z (le→units f x x' r r' h))

-- by a divisor above zero
pub div_mono : (f : Format) (x x' y : Float) → Real f x → Real f x' → Real f y → 0 < pl f y → T (le x x') → T (finite (div f x y)) → T (finite (div f x' y)) → T (le (div f x y) (div f x' y))
div_mono f x x' y r r' q z h t u =
    is_le f (div f x y) (div f x' y) _ _ (pl f y) _ _ (pl f y) z z (div-Is' f x y r q z) (div-Is' f x' y r' q z) t u
    (over (pl f x) (mi f x) (pl f x') (mi f x') (2 ^ low f) (pl f y) (le→units f x x' r r' h))
  where
    over : (a b a' b' L c : ℕ) → a + b' ≤ a' + b → a * L * c + b' * L * c ≤ a' * L * c + b * L * c
    over a b a' b' L c h = let k : (a + b') * (L * c) ≤ (a' + b) * (L * c) = mul-le-mul_right (L * c) h in omega arith

-- ---- |x / y| ≤ A / b for |x| ≤ A and |y| ≥ b > 0
pub div-within : (f : Format) (x y A b : Float) → Within f x A → Real f y → Real f b → 0 < pl f b → pl f b ≤ mag f y → T (finite (div f A b)) → Within f (div f x y) (div f A b)
div-within f x y A b w ry rb B h t =
    let L = 2 ^ low f in
    let Y : 0 < mag f y = lt_of_lt_of_le B h in
    let m = mag_is f x in
    let k = bound_of_lem f (div f A b) (pl f A * L) (mi f A * L) (pl f b) B (div-Is' f A b w.bound rb B) (ap (λ (n : ℕ). n * L) w.plus ∙ zero-mul L) t in
    let g : rnd f (mag f x * L) (mag f y) ≤ rnd f (pl f A * L) (pl f b) = rnd-mono f (mag f x * L) (mag f y) (pl f A * L) (pl f b) Y B (mul-le-mul (mul-le-mul_right L w.le) h) in
    let s = is-bounded f (div f x y) (cond (sign y) (mi f x) (pl f x) * L) (cond (sign y) (pl f x) (mi f x) * L) (mag f y) (mag f x * L) Y (div-Is f x y w.value ry Y)
    (part (sign y) (pl f x) (mi f x) (mag f x) L m) (part' (sign y) (pl f x) (mi f x) (mag f x) L m) (lt_of_le_of_lt g k.2) in
    record { value = s.0; bound = record { finite = t; fits = div-fits f A b }; plus = k.1; le = le_trans s.1 (le_trans g (le_of_eq k.0)) }
  where
    part : (s : Bool) (p n m L : ℕ) → m ≡ p + n → cond s n p * L - cond s p n * L ≤ m * L
    part true p n m L e = subst (λ (v : ℕ). n * L - p * L ≤ v * L) (sym e) (omega arith)
    part false p n m L e = subst (λ (v : ℕ). p * L - n * L ≤ v * L) (sym e) (omega arith)

    part' : (s : Bool) (p n m L : ℕ) → m ≡ p + n → cond s p n * L - cond s n p * L ≤ m * L
    part' true p n m L e = subst (λ (v : ℕ). p * L - n * L ≤ v * L) (sym e) (omega arith)
    part' false p n m L e = subst (λ (v : ℕ). n * L - p * L ≤ v * L) (sym e) (omega arith)

-- ---- a running sum, for a loop's invariant: i terms of at most 2 ^ j units each come to at most i * 2 ^ j, as computed.
-- There is no slack for rounding, since i * 2 ^ j is a value of the format while i < 2 ^ prec, and rounding does not go past a value.
-- The invariant is `mag f s ≤ i * 2 ^ j` with `Real f s`; it starts with a zero at i = 0 (`sum-none`), and one turn is `sum_step`.
pub sum-none : (f : Format) (j : ℕ) → Real f nil × (mag f nil ≤ 0 * 2 ^ j)
sum-none f j = (nil-real f, (let p = nil-pl f in let n = nil-mi f in let m = mag_is f nil in let o : mag f nil ≤ 0 * 2 ^ j = omega arith in o))

pub sum_step : (f : Format) (s x : Float) (i j : ℕ) → Real f s → Real f x → suc i < 2 ^ prec f → suc i * 2 ^ j < overflow f → mag f s ≤ i * 2 ^ j → mag f x ≤ 2 ^ j → Real f (add f s x) × (mag f (add f s x) ≤ suc i * 2 ^ j)
sum_step f s x i j r q h o hs hx =
    let S = suc i * 2 ^ j in
    let e : rnd f S 1 ≡ S = ap (λ (n : ℕ). rnd f n 1) (sym (mul-one S)) ∙ rnd-exact f (suc i) j 1 (pow_pos 0) h in
    let m = mag_is f s in
    let n = mag_is f x in
    let b = is-bounded f (add f s x) (pl f s + pl f x) (mi f s + mi f x) 1 S (pow_pos 0) (add-Is f s x r q)
    (fits_in (pl f s) (mi f s) (mag f s) (pl f x) (mi f x) (mag f x) i (2 ^ j) m n hs hx) (fits_in (mi f s) (pl f s) (mag f s) (mi f x) (pl f x) (mag f x) i (2 ^ j) (m ∙ add_comm (pl f s) (mi f s)) (n ∙ add_comm (pl f x) (mi f x)) hs hx)
    (subst (λ (k : ℕ). k < overflow f) (sym e) o) in
    (b.0, le_trans b.1 (le_of_eq e))
  where
    fits_in : (sp sm s xp xm x i J : ℕ) → s ≡ sp + sm → x ≡ xp + xm → s ≤ i * J → x ≤ J → sp + xp - (sm + xm) ≤ suc i * J
    fits_in sp sm s xp xm x i J a b c d = omega arith
