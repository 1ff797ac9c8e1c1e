-- What callers use of narrowing: it is one rounding to f32 of a value counted in f64's smallest values (`narrow-Is`), so it keeps the order (`narrow-mono`) and keeps a value within every bound that is itself an f32 (`narrow_within`).
use mathlib.Core.Path.{◌≡◌, sym, ap, ◌∙◌}
use mathlib.Core.Bool.{Bool, true, false}
use mathlib.Core.Logic.{◌⊎◌, inl, inr}
use Prim.Native.Nat.{ℕ, suc, ◌+◌, ◌-◌, ◌*◌, ◌^◌, ◌≤◌, ◌<◌}
use native.Mathlib.Nat.{le_trans, le_of_eq, lt_of_le_of_lt, lt_of_lt_of_le, mul_assoc, mul-lt-mul_of_pos_right}
use native.Mathlib.Omega.{arith}
use lib.Dec.{T}
use lib.Pow.{pow-add, pow_pos, pow_mono}
use lib.Ieee.{Float, nan, inf, fin, binary32, binary64, prec, emax, low, up, down, le}
use lib.Ieee.Fits.{down_pos}
use lib.Ieee.Scale.{finite, overflow}
use Rattle.float_laws.proofs.Units.{rnd, rnd-le, rnd-exact}
use Rattle.float_laws.proofs.Value.{mag, pl, mi, sp, sn, Real, units_of, mag_is, one_side, le→units}
use Rattle.float_laws.proofs.Interval.{spread}
use Rattle.float_laws.proofs.Operation.{Is, round-Is}
use Rattle.float_laws.proofs.Exact.{is_le}
use Rattle.arithmetic.specs.Narrow.{narrowed}

-- ---- one rounding

-- How many of f64's smallest values make one of f32's. Shut, so that `omega` never meets the number.
unfoldable pub step : ℕ
step = 2 ^ (low binary64 - low binary32)

step-pos : 0 < step
unfolding step
step-pos = pow_pos (low binary64 - low binary32)

-- 2 ^ 1074 is 2 ^ 149 steps
steps-in : 2 ^ low binary32 * step ≡ 2 ^ low binary64
unfolding step
steps-in = sym (pow-add 2 (low binary32) (low binary64 - low binary32))

whole : (n L S T g d : ℕ) → L * S ≡ T → n * T ≡ g * d → n * L * S ≡ g * d
whole n L S T g d e h = mul_assoc n L S ∙ ap (λ (z : ℕ). n * z) e ∙ h

plus-part : (s : Bool) (n : ℕ) → sp s n ≡ sp s n - sn s n
plus-part true n = omega arith
plus-part false n = omega arith

minus-part : (s : Bool) (n : ℕ) → sn s n ≡ sn s n - sp s n
minus-part true n = omega arith
minus-part false n = omega arith

-- narrowing is one rounded operation: x over `step`, in f32's smallest values
pub narrow-Is : (x : Float) → Real binary64 x → Is binary32 (narrowed x) (pl binary64 x) (mi binary64 x) step
unfolding narrowed pl mi
narrow-Is nan r = absurd r.finite
narrow-Is (inf s) r = absurd r.finite
narrow-Is (fin s m e) r =
    let n = mag binary64 (fin s m e) in
    round-Is binary32 s (m * up e) (down e) (sp s n) (sn s n) step n (down_pos e) step-pos
    (whole (m * up e) (2 ^ low binary32) step (2 ^ low binary64) n (down e) steps-in (units_of binary64 (fin s m e) r))
    (plus-part s n) (minus-part s n)

-- ---- the order

-- narrowing keeps the order, of values that do not overflow
pub narrow-mono : (x y : Float) → Real binary64 x → Real binary64 y → T (finite (narrowed x)) → T (finite (narrowed y)) → T (le x y) → T (le (narrowed x) (narrowed y))
narrow-mono x y r q s t h =
    is_le binary32 (narrowed x) (narrowed y) (pl binary64 x) (mi binary64 x) step (pl binary64 y) (mi binary64 y) step step-pos step-pos (narrow-Is x r) (narrow-Is y q) s t
    (spread (pl binary64 x) (mi binary64 x) (pl binary64 y) (mi binary64 y) step (le→units binary64 x y r q h))

-- ---- bounds

parts-le : (P N M B : ℕ) → M ≡ P + N → M ≤ B → (P - N ≤ B) × (N - P ≤ B)
parts-le P N M B e h = (omega arith, omega arith)

side-le : (p m M B : ℕ) → M ≡ p + m → p ≤ B → m ≤ B → (p ≡ 0) ⊎ (m ≡ 0) → M ≤ B
side-le p m M B e h k (inl z) = omega arith
side-le p m M B e h k (inr z) = omega arith

-- |x| is at most q * 2 ^ j of f32's smallest values, where q has no more digits than an f32: then so is the narrowed value, with no rounding beyond the bound
pub narrow-bound : (x : Float) (q j : ℕ) → Real binary64 x → q < 2 ^ prec binary32 → q * 2 ^ j < overflow binary32 → mag binary64 x ≤ q * 2 ^ j * step
    → Real binary32 (narrowed x) × (mag binary32 (narrowed x) ≤ q * 2 ^ j)
narrow-bound x q j r few under h =
    let P = pl binary64 x in
    let N = mi binary64 x in
    let i = narrow-Is x r in
    let b = parts-le P N (mag binary64 x) (q * 2 ^ j * step) (mag_is binary64 x) h in
    let own : rnd binary32 (q * 2 ^ j * step) step ≡ q * 2 ^ j = rnd-exact binary32 q j step step-pos few in
    let u : rnd binary32 (P - N) step ≤ q * 2 ^ j = le_trans (rnd-le binary32 (P - N) (q * 2 ^ j * step) step step-pos b.0) (le_of_eq own) in
    let v : rnd binary32 (N - P) step ≤ q * 2 ^ j = le_trans (rnd-le binary32 (N - P) (q * 2 ^ j * step) step step-pos b.1) (le_of_eq own) in
    let t : T (finite (narrowed x)) = i.small (lt_of_le_of_lt u under) (lt_of_le_of_lt v under) in
    (record { finite = t; fits = i.fits }, side-le (pl binary32 (narrowed x)) (mi binary32 (narrowed x)) (mag binary32 (narrowed x)) (q * 2 ^ j) (mag_is binary32 (narrowed x)) (le_trans (le_of_eq (i.plus t)) u) (le_trans (le_of_eq (i.minus t)) v) (one_side binary32 (narrowed x)))

whole-under : (k : ℕ) → k < 2 ^ prec binary32 → k * 2 ^ low binary32 < overflow binary32
whole-under k h =
    let l : prec binary32 + low binary32 ≤ low binary32 + suc (emax binary32) = omega arith in
    lt_of_lt_of_le (mul-lt-mul_of_pos_right h (pow_pos (low binary32))) (le_trans (le_of_eq (sym (pow-add 2 (prec binary32) (low binary32)))) (pow_mono l))

-- |x| ≤ k metres, a whole number below 2 ^ 24: the narrowed value is finite and keeps to the bound
pub narrow_within : (x : Float) (k : ℕ) → Real binary64 x → k < 2 ^ 24 → mag binary64 x ≤ k * 2 ^ low binary64 → Real binary32 (narrowed x) × (mag binary32 (narrowed x) ≤ k * 2 ^ low binary32)
narrow_within x k r few h =
    narrow-bound x k (low binary32) r few (whole-under k few) (le_trans h (le_of_eq (sym (mul_assoc k (2 ^ low binary32) step ∙ ap (λ (z : ℕ). k * z) steps-in))))
