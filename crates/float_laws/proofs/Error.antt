-- The error of one rounding, absolute: a result that is exactly v, with |v| < 2 ^ j units, is off by 2 ^ (j - prec) / 2 units at most; where j ≤ prec, subnormals included, by half a unit.
-- One unit of an `f64` is 2 ^ -1074, so |v| < 2 ^ k gives an error of at most 2 ^ (k - 54), for j = k + 1074. Assumes nothing.
use mathlib.Core.Path.{◌≡◌, sym, ap, ◌∙◌, subst}
use Prim.Native.Nat.{ℕ, suc, ◌+◌, ◌-◌, ◌*◌, ◌^◌, ◌≤◌, ◌<◌}
use native.Mathlib.Nat.{le_trans, le_of_eq, lt_of_le_of_lt, add-sub_of_le, le_of_lt, le_of_mul-le-mul_right, lt_of_lt_of_le, lt_of_mul-lt-mul_right, mul_assoc, mul-le-mul_right, mul-lt-mul_of_pos_right, mul_right_comm, sub-eq-zero_of_le}
use native.Mathlib.Omega.{arith}
use mathlib.Core.Bool.{Bool, true, false, not}
use lib.Dec.{T, leb, leb→le, nleb→lt}
use lib.Pow.{pow_pos, pow-lt}
use lib.Ieee.{Float, Format, prec, emax, low, add, sub, mul, div}
use lib.Ieee.Scale.{finite, overflow}
use Rattle.float_laws.proofs.Units.{rnd, rnd-err, rnd-err-le, rnd-pow, rnd-zero}
use Rattle.float_laws.proofs.Value.{mag, pl, mi, Real, mag_is}
use Rattle.float_laws.proofs.Operation.{Is, differ-le, mul-differ, scale-differ, add-Is, sub-Is, mul-Is}
use Rattle.float_laws.proofs.Interval.{div-Is'}
use Rattle.float_laws.proofs.Size.{is-bounded}

-- |z - (P - N) / c| ≤ E / 2 units
pub record Near (f : Format) (z : Float) (P N c E : ℕ) : Type 0 where
  pub above : (pl f z * c + N) * 2 ≤ (mi f z * c + P) * 2 + E * c
  pub below : (mi f z * c + P) * 2 ≤ (pl f z * c + N) * 2 + E * c

one_way : (p n P N c A r k e : ℕ) → p ≡ r → n ≡ 0 → P ≡ N + A → r * c * k ≤ A * k + e → A * k ≤ r * c * k + e → ((p * c + N) * k ≤ (n * c + P) * k + e) × ((n * c + P) * k ≤ (p * c + N) * k + e)
one_way p n P N c A r k e u z d h g =
    subst (λ (m : ℕ). ((p * c + N) * k ≤ (m * c + P) * k + e) × ((m * c + P) * k ≤ (p * c + N) * k + e)) (sym z)
    (subst (λ (q : ℕ). ((q * c + N) * k ≤ (0 * c + P) * k + e) × ((0 * c + P) * k ≤ (q * c + N) * k + e)) (sym u)
    (subst (λ (w : ℕ). ((r * c + N) * k ≤ (0 * c + w) * k + e) × ((0 * c + w) * k ≤ (r * c + N) * k + e)) (sym d) (omega arith, omega arith)))

-- what `rnd` is off by at the sizes P - N and N - P, a result is off by: |z * c - (P - N)| * k ≤ e
pub is-off : (f : Format) (z : Float) (P N c k e : ℕ) → 0 < c → Is f z P N c → T (finite z)
    → (rnd f (P - N) c * c * k ≤ (P - N) * k + e) × ((P - N) * k ≤ rnd f (P - N) c * c * k + e)
    → (rnd f (N - P) c * c * k ≤ (N - P) * k + e) × ((N - P) * k ≤ rnd f (N - P) c * c * k + e)
    → ((pl f z * c + N) * k ≤ (mi f z * c + P) * k + e) × ((mi f z * c + P) * k ≤ (pl f z * c + N) * k + e)
is-off f z P N c k e C i t h g = go (leb N P) (leb→le N P) (nleb→lt N P)
  where
    none : (a b : ℕ) → a ≤ b → rnd f (a - b) c ≡ 0
    none a b l = ap (λ (x : ℕ). rnd f x c) (sub-eq-zero_of_le l) ∙ rnd-zero f c C

    go : (b : Bool) → (T b → N ≤ P) → (T (not b) → P < N) → ((pl f z * c + N) * k ≤ (mi f z * c + P) * k + e) × ((mi f z * c + P) * k ≤ (pl f z * c + N) * k + e)
    go true a b = one_way (pl f z) (mi f z) P N c (P - N) (rnd f (P - N) c) k e (i.plus t) (i.minus t ∙ none N P (a tt)) (sym (add-sub_of_le (a tt))) h.0 h.1
    go false a b =
        let l = le_of_lt (b tt) in
        let w = one_way (mi f z) (pl f z) N P c (N - P) (rnd f (N - P) c) k e (i.minus t) (i.plus t ∙ none P N l) (sym (add-sub_of_le l)) g.0 g.1 in
        (w.1, w.0)

-- of any result, by bounds on its exact size
pub is-near : (f : Format) (z : Float) (P N c j : ℕ) → 0 < c → Is f z P N c → T (finite z) → P - N < 2 ^ j * c → N - P < 2 ^ j * c → Near f z P N c (2 ^ (j - prec f))
is-near f z P N c j C i t h k =
    let w = is-off f z P N c 2 (2 ^ (j - prec f) * c) C i t (rnd-err f (P - N) c j C h) (rnd-err f (N - P) c j C k) in
    record { above = w.0; below = w.1 }

-- the same with no overflow to be shown: at most 2 ^ j units, below the overflow, give a finite value of that size at most
pub is-near-le : (f : Format) (z : Float) (P N c j : ℕ) → 0 < c → Is f z P N c → P - N ≤ 2 ^ j * c → N - P ≤ 2 ^ j * c → j < low f + suc (emax f) → Real f z × (mag f z ≤ 2 ^ j) × Near f z P N c (2 ^ (j - prec f))
is-near-le f z P N c j C i h k o =
    let e = rnd-pow f c j C in
    let b = is-bounded f z P N c (2 ^ j * c) C i h k (subst (λ (n : ℕ). n < overflow f) (sym e) (pow-lt o)) in
    let w = is-off f z P N c 2 (2 ^ (j - prec f) * c) C i b.0.finite (rnd-err-le f (P - N) c j C h) (rnd-err-le f (N - P) c j C k) in
    (b.0, le_trans b.1 (le_of_eq e), record { above = w.0; below = w.1 })

-- ---- the operations, by bounds on the sizes
pub add-near : (f : Format) (x y : Float) (j : ℕ) → Real f x → Real f y → T (finite (add f x y)) → mag f x + mag f y < 2 ^ j → Near f (add f x y) (pl f x + pl f y) (mi f x + mi f y) 1 (2 ^ (j - prec f))
add-near f x y j r q t h =
    let a = mag_is f x in
    let b = mag_is f y in
    is-near f (add f x y) (pl f x + pl f y) (mi f x + mi f y) 1 j (pow_pos 0) (add-Is f x y r q) t (omega arith) (omega arith)

pub sub-near : (f : Format) (x y : Float) (j : ℕ) → Real f x → Real f y → T (finite (sub f x y)) → pl f x + mi f y < 2 ^ j + (mi f x + pl f y) → mi f x + pl f y < 2 ^ j + (pl f x + mi f y) → Near f (sub f x y) (pl f x + mi f y) (mi f x + pl f y) 1 (2 ^ (j - prec f))
sub-near f x y j r q t h k =
    is-near f (sub f x y) (pl f x + mi f y) (mi f x + pl f y) 1 j (pow_pos 0) (sub-Is f x y r q) t (less (pl f x + mi f y) (mi f x + pl f y) (2 ^ j) (pow_pos j) h) (less (mi f x + pl f y) (pl f x + mi f y) (2 ^ j) (pow_pos j) k)
  where
    less : (p n e : ℕ) → 0 < e → p < e + n → p - n < e * 1
    less p n e E h = omega arith

pub mul-near : (f : Format) (x y : Float) (j : ℕ) → Real f x → Real f y → T (finite (mul f x y)) → mag f x * mag f y < 2 ^ j * 2 ^ low f
    → Near f (mul f x y) (pl f x * pl f y + mi f x * mi f y) (pl f x * mi f y + mi f x * pl f y) (2 ^ low f) (2 ^ (j - prec f))
mul-near f x y j r q t h =
    let d = differ-le _ _ _ (mul-differ f x y) in
    is-near f (mul f x y) (pl f x * pl f y + mi f x * mi f y) (pl f x * mi f y + mi f x * pl f y) (2 ^ low f) j (pow_pos (low f)) (mul-Is f x y r q) t (lt_of_le_of_lt d.0 h) (lt_of_le_of_lt d.1 h)

pub div-near : (f : Format) (x y : Float) (j : ℕ) → Real f x → Real f y → 0 < pl f y → T (finite (div f x y)) → mag f x * 2 ^ low f < 2 ^ j * pl f y
    → Near f (div f x y) (pl f x * 2 ^ low f) (mi f x * 2 ^ low f) (pl f y) (2 ^ (j - prec f))
div-near f x y j r q p t h =
    let d = differ-le _ _ _ (scale-differ f x (2 ^ low f)) in
    is-near f (div f x y) (pl f x * 2 ^ low f) (mi f x * 2 ^ low f) (pl f y) j p (div-Is' f x y r q p) t (lt_of_le_of_lt d.0 h) (lt_of_le_of_lt d.1 h)

-- ---- a product with a constant y = q / s that is not negative: linear in x
const_step : (a b x x' y m q s L E : ℕ) → m ≡ 0 → y * s ≡ q * L → 0 < L → (a * L + (x * m + x' * y)) * 2 ≤ (b * L + (x * y + x' * m)) * 2 + E * L → (a * s + x' * q) * 2 ≤ (b * s + x * q) * 2 + E * s
const_step a b x x' y m q s L E z e l h =
    let g : (a * L + (x * 0 + x' * y)) * 2 ≤ (b * L + (x * y + x' * 0)) * 2 + E * L = subst (λ (w : ℕ). (a * L + (x * w + x' * y)) * 2 ≤ (b * L + (x * y + x' * w)) * 2 + E * L) z h in
    let k : (a * L + (x * 0 + x' * y)) * 2 * s ≤ ((b * L + (x * y + x' * 0)) * 2 + E * L) * s = mul-le-mul_right s g in
    let u : x' * (y * s) ≡ x' * (q * L) = ap (λ (w : ℕ). x' * w) e in
    let v : x * (y * s) ≡ x * (q * L) = ap (λ (w : ℕ). x * w) e in
    let c : ((a * s + x' * q) * 2) * L ≤ ((b * s + x * q) * 2 + E * s) * L = omega arith in
    le_of_mul-le-mul_right c l

const_step' : (a b x x' y m q s L E : ℕ) → m ≡ 0 → y * s ≡ q * L → 0 < L → (b * L + (x * y + x' * m)) * 2 ≤ (a * L + (x * m + x' * y)) * 2 + E * L → (b * s + x * q) * 2 ≤ (a * s + x' * q) * 2 + E * s
const_step' a b x x' y m q s L E z e l h =
    let g : (b * L + (x * y + x' * 0)) * 2 ≤ (a * L + (x * 0 + x' * y)) * 2 + E * L = subst (λ (w : ℕ). (b * L + (x * y + x' * w)) * 2 ≤ (a * L + (x * w + x' * y)) * 2 + E * L) z h in
    let k : (b * L + (x * y + x' * 0)) * 2 * s ≤ ((a * L + (x * 0 + x' * y)) * 2 + E * L) * s = mul-le-mul_right s g in
    let u : x' * (y * s) ≡ x' * (q * L) = ap (λ (w : ℕ). x' * w) e in
    let v : x * (y * s) ≡ x * (q * L) = ap (λ (w : ℕ). x * w) e in
    let c : ((b * s + x * q) * 2) * L ≤ ((a * s + x' * q) * 2 + E * s) * L = omega arith in
    le_of_mul-le-mul_right c l

size_of : (m y q s J L : ℕ) → 0 < s → 0 < L → y * s ≡ q * L → m * q < J * s → m * y < J * L
size_of m y q s J L S l e h =
    lt_of_mul-lt-mul_right s
    (lt_of_le_of_lt (le_of_eq (mul_assoc m y s ∙ ap (λ (w : ℕ). m * w) e ∙ sym (mul_assoc m q L)))
    (lt_of_lt_of_le (mul-lt-mul_of_pos_right h l) (le_of_eq (mul_right_comm J s L))))

-- |z - x * q / s| ≤ E / 2 units, without the factor 2 ^ low
pub record Scaled (f : Format) (z x : Float) (q s E : ℕ) : Type 0 where
  pub above : (pl f z * s + mi f x * q) * 2 ≤ (mi f z * s + pl f x * q) * 2 + E * s
  pub below : (mi f z * s + pl f x * q) * 2 ≤ (pl f z * s + mi f x * q) * 2 + E * s

-- the error of x * y, for a constant y that is q / s exactly, as a linear fact about x: for bounds that `omega` joins over several steps
pub mul-const : (f : Format) (x y : Float) (j q s : ℕ) → Real f x → Real f y → T (finite (mul f x y)) → mi f y ≡ 0 → 0 < s → pl f y * s ≡ q * 2 ^ low f → mag f x * q < 2 ^ j * s → Scaled f (mul f x y) x q s (2 ^ (j - prec f))
mul-const f x y j q s rx ry t m S e h =
    let g = mag_is f y in
    let k : mag f y ≡ pl f y = omega arith in
    let n = mul-near f x y j rx ry t (lt_of_le_of_lt (le_of_eq (ap (λ (w : ℕ). mag f x * w) k)) (size_of (mag f x) (pl f y) q s (2 ^ j) (2 ^ low f) S (pow_pos (low f)) e h)) in
    record {
      above = const_step (pl f (mul f x y)) (mi f (mul f x y)) (pl f x) (mi f x) (pl f y) (mi f y) q s (2 ^ low f) (2 ^ (j - prec f)) m e (pow_pos (low f)) n.above;
      below = const_step' (pl f (mul f x y)) (mi f (mul f x y)) (pl f x) (mi f x) (pl f y) (mi f y) q s (2 ^ low f) (2 ^ (j - prec f)) m e (pow_pos (low f)) n.below;
    }
