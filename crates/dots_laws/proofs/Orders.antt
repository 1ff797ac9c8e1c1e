-- Laws of order that the steps of `station_at` and the multiples go by, in either format: a difference, a product and a quotient that are not below zero, those that may overflow to +∞ too, and `clamp`.
use Prim.Native.Nat.{ℕ, zero, suc, ◌+◌, ◌-◌, ◌*◌, ◌/◌, ◌^◌, ◌≤◌, ◌<◌}
use native.Mathlib.Nat.{lt_irrefl, zero-mul, zero-div, mul-le-mul_left, mul-le-mul_right}
use native.Mathlib.Omega.{arith}
use mathlib.Core.Path.{◌≡◌, refl, sym, ap, ◌∙◌, subst}
use mathlib.Core.Logic.{◌⊎◌, inl, inr}
use mathlib.Core.Bool.{Bool, true, false, cond}
use lib.IntN.{ℤ}
use lib.Dec.{T, ltb, eqb, eqb→eq}
use lib.Pow.{pow_pos}
use lib.Ieee.{Float, nan, inf, fin, Format, prec, emax, low, up, down, unlike, round, units, odd, le, lt, eq, sub, mul, div}
use lib.Ieee.Bits.{is_true}
use lib.Ieee.Fits.{round_is}
use lib.Ieee.Order.{drop, kept}
use lib.Ieee.Scale.{finite, overflow}
use Rattle.std.proofs.lemmas.Float.{lt_of_le_of_lt as float-lt_of_le_of_lt, lt_of_lt_of_le as float-lt_of_lt_of_le, T_from_true}
use Rattle.float_laws.specs.Binary32.{clamp_of}
use Rattle.float_laws.proofs.Nearest.{apart}
use Rattle.float_laws.proofs.Units.{rnd, rnd-zero}
use Rattle.float_laws.proofs.Value.{mag, pl, mi, Real, le→units}
use Rattle.float_laws.proofs.Operation.{sub-Is, mul-Is, between}
use Rattle.float_laws.proofs.Exact.{self-Is, is_le}
use Rattle.float_laws.proofs.Interval.{In, nil, nil-real, nil-pl, nil-mi, div-Is'}

-- ---- a difference

-- y - x for x ≤ y
pub sub_plus : (f : Format) (x y : Float) → Real f x → Real f y → T (le x y) → T (finite (sub f y x)) → T (le nil (sub f y x))
sub_plus f x y rx ry h t =
    let e = le→units f x y rx ry h in
    let a = nil-pl f in
    let b = nil-mi f in
    is_le f nil (sub f y x) (pl f nil) (mi f nil) 1 (pl f y + mi f x) (mi f y + pl f x) 1 (pow_pos 0) (pow_pos 0) (self-Is f nil (nil-real f)) (sub-Is f y x ry rx) (nil-real f).finite t (omega arith)

-- ---- a product by x, which is not below zero

product-up : (p m a b c d L : ℕ) → m ≡ 0 → a + d ≤ c + b → (p * a + m * b) * L + (p * d + m * c) * L ≤ (p * c + m * d) * L + (p * b + m * a) * L
product-up p m a b c d L z h = rw z (let k : (a + d) * (p * L) ≤ (c + b) * (p * L) = mul-le-mul_right (p * L) h in omega arith)

pub mul_mono_r : (f : Format) (x y z : Float) → Real f x → mi f x ≡ 0 → Real f y → Real f z → T (le y z) → T (finite (mul f x y)) → T (finite (mul f x z)) → T (le (mul f x y) (mul f x z))
mul_mono_r f x y z rx e ry rz h t u =
    is_le f (mul f x y) (mul f x z) _ _ (2 ^ low f) _ _ (2 ^ low f) (pow_pos (low f)) (pow_pos (low f)) (mul-Is f x y rx ry) (mul-Is f x z rx rz) t u
    (product-up (pl f x) (mi f x) (pl f y) (mi f y) (pl f z) (mi f z) (2 ^ low f) e (le→units f y z ry rz h))

product-plus : (p m a b L z w : ℕ) → m ≡ 0 → b ≡ 0 → z ≡ 0 → z * L + (p * b + m * a) * 1 ≤ (p * a + m * b) * 1 + w * L
product-plus p m a b L z w e f g = rw (e, f, g) (omega arith)

pub mul_plus : (f : Format) (x y : Float) → Real f x → mi f x ≡ 0 → Real f y → mi f y ≡ 0 → T (finite (mul f x y)) → T (le nil (mul f x y))
mul_plus f x y rx ex ry ey t =
    is_le f nil (mul f x y) (pl f nil) (mi f nil) 1 _ _ (2 ^ low f) (pow_pos 0) (pow_pos (low f)) (self-Is f nil (nil-real f)) (mul-Is f x y rx ry) (nil-real f).finite t
    (product-plus (pl f x) (mi f x) (pl f y) (mi f y) (2 ^ low f) (pl f nil) (mi f nil) ex ey (nil-pl f))

part : (p m a b L : ℕ) → m ≡ 0 → a ≤ L → (p * a + m * b) * 1 + m * L ≤ p * L + (p * b + m * a) * 1
part p m a b L e h = rw e (let k : p * a ≤ p * L = mul-le-mul_left p h in omega arith)

-- a part of it
pub mul_part : (f : Format) (x y : Float) → Real f x → mi f x ≡ 0 → Real f y → pl f y ≤ 2 ^ low f → T (finite (mul f x y)) → T (le (mul f x y) x)
mul_part f x y rx e ry h t =
    is_le f (mul f x y) x _ _ (2 ^ low f) (pl f x) (mi f x) 1 (pow_pos (low f)) (pow_pos 0) (mul-Is f x y rx ry) (self-Is f x rx) t rx.finite
    (part (pl f x) (mi f x) (pl f y) (mi f y) (2 ^ low f) e h)

-- ---- what is rounded from a fraction that is not below zero: finite, or +∞

abbrev pub Counted : Float → Type 0
Counted q = T (finite q) ⊎ (q ≡ inf false)

odd-finite : (d : ℕ) (s : Bool) (q k l : ℕ) → T (finite (odd d s q k l))
unfolding odd
odd-finite d s zero k l = tt
odd-finite d s (suc q) k l = tt

units-counted : (f : Format) (q k : ℕ) → Counted (units f false q k)
unfolding units
units-counted f q k = go (ltb (q * 2 ^ k) (overflow f))
  where
    go : (b : Bool) → Counted (cond b (odd (suc (prec f)) false q k (low f)) (inf false))
    go true = inl (odd-finite (suc (prec f)) false q k (low f))
    go false = inr refl

pub round-counted : (f : Format) (a c : ℕ) → Counted (round f false a c)
round-counted f a c = subst Counted (sym (round_is f false a c)) (units-counted f (kept (prec f) (a * 2 ^ low f) c) (drop (prec f) (a * 2 ^ low f) c))

pub counted_le : (q : Float) → Counted q → T (le q (inf false))
unfolding le lt eq
counted_le q (inr e) = subst (λ (w : Float). T (le w (inf false))) (sym e) tt
counted_le nan (inl t) = absurd t
counted_le (inf s) (inl t) = absurd t
counted_le (fin s m e) (inl t) = tt

zero_by : (f : Format) (k c : ℕ) → 0 < c → k ≡ 0 → rnd f k c < overflow f
zero_by f k c C e = subst (λ (n : ℕ). n < overflow f) (sym (ap (λ (n : ℕ). rnd f n c) e ∙ rnd-zero f c C)) (pow_pos (low f + suc (emax f)))

-- nothing does not overflow
nothing : (f : Format) (P N c : ℕ) → 0 < c → P ≡ 0 → N ≡ 0 → (rnd f (P - N) c < overflow f) × (rnd f (N - P) c < overflow f)
nothing f P N c C e h = (zero_by f (P - N) c C (omega arith), zero_by f (N - P) c C (omega arith))

-- what is above zero has digits
pub digits : (f : Format) (n : ℕ) (d : ℤ) → 0 < pl f (fin false n d) → n ≡ 0 → ⊥
unfolding pl mag
digits f n d o e = lt_irrefl 0 (subst (λ (k : ℕ). 0 < k) (ap (λ (k : ℕ). k * up d * 2 ^ low f / down d) e ∙ ap (λ (k : ℕ). k * 2 ^ low f / down d) (zero-mul (up d)) ∙ ap (λ (k : ℕ). k / down d) (zero-mul (2 ^ low f)) ∙ zero-div (down d)) o)

-- ---- a quotient

pub div-counted : (f : Format) (x y : Float) → Real f x → mi f x ≡ 0 → Real f y → 0 < pl f y → Counted (div f x y)
unfolding div pl
div-counted f nan y rx z ry o = absurd rx.finite
div-counted f (inf s) y rx z ry o = absurd rx.finite
div-counted f (fin s m e) nan rx z ry o = absurd ry.finite
div-counted f (fin s m e) (inf t) rx z ry o = absurd ry.finite
div-counted f (fin s m e) (fin true n d) rx z ry o = absurd (lt_irrefl 0 o)
div-counted f (fin true m e) (fin false n d) rx z ry o =
    let x = fin true m e in
    let y = fin false n d in
    let i = div-Is' f x y rx ry o in
    let L = 2 ^ low f in
    let w = nothing f (pl f x * L) (mi f x * L) (pl f y) o (zero-mul L) (ap (λ (k : ℕ). k * L) z ∙ zero-mul L) in
    inl (i.small w.0 w.1)
div-counted f (fin false m e) (fin false n d) rx z ry o = go (eqb n 0) (eqb→eq n 0)
  where
    go : (b : Bool) → (T b → n ≡ 0) → Counted (cond b (cond (eqb m 0) nan (inf (unlike false false))) (round f (unlike false false) (m * up e * down d) (n * up d * down e)))
    go true h = absurd (digits f n d o (h tt))
    go false h = round-counted f (m * up e * down d) (n * up d * down e)

from-none : (p m c q n L : ℕ) → p ≡ 0 → n ≡ 0 → p * c + n * L * 1 ≤ q * L * 1 + m * c
from-none p m c q n L e h = rw (e, h) (omega arith)

scaled : (a b a' b' L c : ℕ) → a + b' ≤ a' + b → a * L * c + b' * L * c ≤ a' * L * c + b * L * c
scaled a b a' b' L c h = let k : (a + b') * (L * c) ≤ (a' + b) * (L * c) = mul-le-mul_right (L * c) h in omega arith

-- a finite quotient is above those of smaller numbers
pub div-order : (f : Format) (x x' y : Float) → Real f x → mi f x ≡ 0 → Real f x' → Real f y → 0 < pl f y → T (le x x') → T (finite (div f x' y)) → T (le (div f x y) (div f x' y))
div-order f x x' y rx z rx' ry o h t =
    let L = 2 ^ low f in
    let c = pl f y in
    (between f nil (div f x y) (div f x' y) (pl f nil) (mi f nil) 1 (pl f x * L) (mi f x * L) c (pl f x' * L) (mi f x' * L) c (pow_pos 0) o o (self-Is f nil (nil-real f)) (div-Is' f x y rx ry o) (div-Is' f x' y rx' ry o) (nil-real f).finite t
    (from-none (pl f nil) (mi f nil) c (pl f x) (mi f x) L (nil-pl f) z) (scaled (pl f x) (mi f x) (pl f x') (mi f x') L c (le→units f x x' rx rx' h))).2

-- ---- a product by y, which is above zero, and may overflow

no_part : (a b p m : ℕ) → a ≡ 0 → b ≡ 0 → (a * p + b * m ≡ 0) × (a * m + b * p ≡ 0)
no_part a b p m e h = rw (e, h) (omega arith, omega arith)

pub mul-counted : (f : Format) (x y : Float) → Real f x → mi f x ≡ 0 → Real f y → 0 < pl f y → Counted (mul f x y)
unfolding mul pl mi
mul-counted f nan y rx z ry o = absurd rx.finite
mul-counted f (inf s) y rx z ry o = absurd rx.finite
mul-counted f (fin s m e) nan rx z ry o = absurd ry.finite
mul-counted f (fin s m e) (inf t) rx z ry o = absurd ry.finite
mul-counted f (fin s m e) (fin true n d) rx z ry o = absurd (lt_irrefl 0 o)
mul-counted f (fin true m e) (fin false n d) rx z ry o =
    let x = fin true m e in
    let y = fin false n d in
    let k = no_part (pl f x) (mi f x) (pl f y) (mi f y) refl z in
    let w = nothing f (pl f x * pl f y + mi f x * mi f y) (pl f x * mi f y + mi f x * pl f y) (2 ^ low f) (pow_pos (low f)) k.0 k.1 in
    inl ((mul-Is f x y rx ry).small w.0 w.1)
mul-counted f (fin false m e) (fin false n d) rx z ry o = round-counted f (m * up e * (n * up d)) (down e * down d)

product-scale : (a b c d p m L : ℕ) → m ≡ 0 → a + d ≤ c + b → (a * p + b * m) * L + (c * m + d * p) * L ≤ (c * p + d * m) * L + (a * m + b * p) * L
product-scale a b c d p m L z h = let k = product-up p m a b c d L z h in omega arith

-- a finite product is above those of smaller numbers
pub mul_order : (f : Format) (x x' y : Float) → Real f x → mi f x ≡ 0 → Real f x' → Real f y → mi f y ≡ 0 → T (le x x') → T (finite (mul f x' y)) → T (le (mul f x y) (mul f x' y))
mul_order f x x' y rx z rx' ry w h t =
    let L = 2 ^ low f in
    (between f nil (mul f x y) (mul f x' y) (pl f nil) (mi f nil) 1 _ _ L _ _ L (pow_pos 0) (pow_pos (low f)) (pow_pos (low f)) (self-Is f nil (nil-real f)) (mul-Is f x y rx ry) (mul-Is f x' y rx' ry) (nil-real f).finite t
    (product-plus (pl f x) (mi f x) (pl f y) (mi f y) L (pl f nil) (mi f nil) z w (nil-pl f)) (product-scale (pl f x) (mi f x) (pl f x') (mi f x') (pl f y) (mi f y) L w (le→units f x x' rx rx' h))).2

-- ---- clamp

pub clamp_mono : (f : Format) (lo hi x y : Float) → In f lo hi (clamp_of lo hi x) → In f lo hi (clamp_of lo hi y) → T (le x y) → T (le (clamp_of lo hi x) (clamp_of lo hi y))
clamp_mono f lo hi x y i j h = go (lt x lo) (lt hi x) (lt y lo) (lt hi y) refl refl refl refl i j
  where
    go : (a b c d : Bool) → lt x lo ≡ a → lt hi x ≡ b → lt y lo ≡ c → lt hi y ≡ d → In f lo hi (cond a lo (cond b hi x)) → In f lo hi (cond c lo (cond d hi y)) → T (le (cond a lo (cond b hi x)) (cond c lo (cond d hi y)))
    go true b c d ea eb ec ed i j = j.above
    go false b true d ea eb ec ed i j = absurd (apart (sym (is_true (lt x lo) (float-lt_of_le_of_lt x y lo h (T_from_true (lt y lo) ec))) ∙ ea))
    go false b false true ea eb ec ed i j = i.below
    go false true false false ea eb ec ed i j = absurd (apart (sym (is_true (lt hi y) (float-lt_of_lt_of_le hi x y (T_from_true (lt hi x) eb) h)) ∙ ed))
    go false false false false ea eb ec ed i j = h
