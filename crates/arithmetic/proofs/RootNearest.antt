-- The root is the value of the format nearest to the exact one, and the only one that is (`root_is`), at any format.
-- With x = a smallest values, a * 2 ^ low is m * 2 ^ (prec + 1) * 4 ^ t (`normal`), whose root lies between r * 2 ^ t and (r + 1) * 2 ^ t for an r of prec + 1 digits. The value b = (r + 1) / 2 * 2 ^ (t + 1) is one of the two,
-- and another value c is a whole step of 2 ^ (t + 1) away from b wherever it has prec digits, so the root is on b's side of (b + c) / 2 (`up-all`, `down-odd-at`, `down-even-at`).
use mathlib.Core.Path.{◌≡◌, refl, sym, ap, ◌∙◌, subst}
use mathlib.Core.Logic.{◌⊎◌, inl, inr}
use mathlib.Core.Bool.{Bool, true, false, ◌&&◌}
use Prim.Native.Nat.{ℕ, zero, suc, ◌+◌, ◌-◌, ◌*◌, ◌/◌, ◌%◌, ◌^◌, ◌≤◌, ◌<◌}
use native.Mathlib.Nat.{le_refl, le_trans, le_of_eq, lt_of_lt_of_le, lt_of_le_of_lt, lt_of_not-le, not-le_of_lt, lt_irrefl, le_of_suc-le-suc, le_of_lt, lt_trans, le_antisymm, add_comm, mul-le-mul, mul-le-mul_right, mul-lt-mul_of_pos_right, lt_of_mul-lt-mul_right, mul_assoc, mul_comm, mul-one, mul-pos, zero-mul, mul_right_comm, pow-suc, zero-lt-suc, eq_of_mul-eq-mul_right}
use native.Mathlib.Omega.{arith}
use lib.IntN.{ℤ, pos, negsuc}
use lib.Dec.{T, leb, ltb, eqb, leb→le, ltb→lt}
use lib.Pow.{pow-add, pow_pos, pow_mono}
use lib.Ieee.{Float, nan, inf, fin, Format, prec, emax, low, up, down, size, fits, hid, of_bits}
use lib.Ieee.Bits.{of_bits-to_bits}
use Rattle.float_laws.proofs.Exact.{exponent}
use Rattle.float_laws.proofs.Pattern.{bits_of, twice_hid}
use lib.Ieee.Digits.{size-lt, size-le, size_reaches}
use lib.Ieee.Fits.{and_l, and_r, two, down_pos}
use lib.Ieee.Exact.{HasValue}
use lib.Ieee.Positive.{positive, positive_of_value, value_pos}
use Rattle.float_laws.proofs.Value.{mag, units_of, mag_of}
use borrow.Author.Tests.{ltb-true, ltb-false}
use Rattle.arithmetic.specs.Root.{whole_root}
use Rattle.arithmetic.specs.Root.{root_units, root_of, NearestRoot}
use Rattle.arithmetic.proofs.RootRounded.{RootOf, whole_is, even-or-odd, half-even, half-odd, root_ge, root-value, square-ge, square-gt, square-lt}
use Rattle.arithmetic.proofs.RootValues.{root_of-value, root-fits}
use Rattle.arithmetic.proofs.RootCases.{wide}

-- ---- a value of the format is M * 2 ^ j smallest values, M of its digits

record Digits (f : Format) (c : ℕ) : Type 0 where
  M : ℕ
  j : ℕ
  few : M < 2 ^ prec f
  is : c ≡ M * 2 ^ j
  under : c < 2 ^ (low f + suc (emax f))

few-digits : (f : Format) (s : Bool) (m : ℕ) (e : ℤ) → T (fits f (fin s (suc m) e)) → (suc m < 2 ^ prec f) × (down e ≤ 2 ^ low f) × (suc m * up e < 2 ^ suc (emax f) * down e)
unfolding fits
few-digits f s m e t =
    let a = eqb (suc m % 2) 1 in
    let b = ltb (suc m) (2 ^ prec f) in
    let c = leb (down e) (2 ^ low f) in
    let d = ltb (suc m * up e) (2 ^ suc (emax f) * down e) in
    let u = and_l (a && b && c) d t in
    (ltb→lt (suc m) (2 ^ prec f) (and_r a b (and_l (a && b) c u)), leb→le (down e) (2 ^ low f) (and_r (a && b) c u), ltb→lt (suc m * up e) (2 ^ suc (emax f) * down e) (and_r (a && b && c) d t))

under_top : (f : Format) (m u d c : ℕ) → 0 < d → m * u < 2 ^ suc (emax f) * d → m * u * 2 ^ low f ≡ c * d → c < 2 ^ (low f + suc (emax f))
under_top f m u d c D h e =
    let k : m * u * 2 ^ low f < 2 ^ suc (emax f) * d * 2 ^ low f = mul-lt-mul_of_pos_right h (pow_pos (low f)) in
    let l : c * d < 2 ^ (low f + suc (emax f)) * d =
    lt_of_le_of_lt (le_of_eq (sym e)) (lt_of_lt_of_le k (le_of_eq (mul_right_comm (2 ^ suc (emax f)) d (2 ^ low f) ∙ ap (λ (z : ℕ). z * d) (mul_comm (2 ^ suc (emax f)) (2 ^ low f) ∙ sym (pow-add 2 (low f) (suc (emax f))))))) in
    lt_of_mul-lt-mul_right d l

digits_of_lem : (f : Format) (x : Float) (s : Bool) (c : ℕ) → T (fits f x) → HasValue x s c (2 ^ low f) → Digits f c
digits_of_lem f nan s c t h = absurd h
digits_of_lem f (inf u) s c t h = absurd h
digits_of_lem f (fin u zero e) s c t h =
    let z : c * down e ≡ 0 * down e = sym h.1 ∙ ap (λ (y : ℕ). y * 2 ^ low f) (zero-mul (up e)) ∙ zero-mul (2 ^ low f) ∙ sym (zero-mul (down e)) in
    let o : c ≡ 0 = eq_of_mul-eq-mul_right (down e) (down_pos e) c 0 z in
    record { M = 0; j = 0; few = pow_pos (prec f); is = o; under = subst (λ (y : ℕ). y < 2 ^ (low f + suc (emax f))) (sym o) (pow_pos (low f + suc (emax f))) }
digits_of_lem f (fin u (suc m) (pos k)) s c t h =
    let d = few-digits f u m (pos k) t in
    record {
      M = suc m;
      j = k + low f;
      few = d.0;
      is = sym (mul-one c) ∙ sym h.1 ∙ mul_assoc (suc m) (2 ^ k) (2 ^ low f) ∙ ap (λ (z : ℕ). suc m * z) (sym (pow-add 2 k (low f)));
      under = under_top f (suc m) (2 ^ k) 1 c (zero-lt-suc 0) d.2 h.1;
    }
digits_of_lem f (fin u (suc m) (negsuc k)) s c t h =
    let d = few-digits f u m (negsuc k) t in
    let l : suc k ≤ low f = exponent (suc k) (low f) d.1 in
    let g = low f - suc k in
    let v : low f ≡ g + suc k = back (low f) (suc k) l in
    let i : c * 2 ^ suc k ≡ suc m * 2 ^ g * 2 ^ suc k =
    sym h.1 ∙ ap (λ (z : ℕ). z * 2 ^ low f) (mul-one (suc m)) ∙ ap (λ (z : ℕ). suc m * z) (ap (λ (z : ℕ). 2 ^ z) v ∙ pow-add 2 g (suc k)) ∙ sym (mul_assoc (suc m) (2 ^ g) (2 ^ suc k)) in
    record {
      M = suc m;
      j = g;
      few = d.0;
      is = eq_of_mul-eq-mul_right (2 ^ suc k) (pow_pos (suc k)) c (suc m * 2 ^ g) i;
      under = under_top f (suc m) 1 (2 ^ suc k) c (pow_pos (suc k)) d.2 h.1;
    }
  where
    back : (a l : ℕ) → l ≤ a → a ≡ a - l + l
    back a l h = omega arith

-- from 2 ^ (prec + t) on a value is a multiple of 2 ^ (t + 1)
multiple : (f : Format) (c t : ℕ) → Digits f c → 2 ^ prec f * 2 ^ t ≤ c → (w : ℕ) × (c ≡ w * (2 ^ t * 2))
multiple f c t d h =
    let j = d.j in
    let l : t < j = lt_of_not-le (λ (g : j ≤ t).
    let a : d.M * 2 ^ j ≤ d.M * 2 ^ t = mul-le-mul (le_refl d.M) (pow_mono g) in
    let b : d.M * 2 ^ t < 2 ^ prec f * 2 ^ t = mul-lt-mul_of_pos_right d.few (pow_pos t) in
    lt_irrefl c (lt_of_le_of_lt (le_of_eq d.is) (lt_of_le_of_lt a (lt_of_lt_of_le b h)))) in
    let g = j - suc t in
    let v : j ≡ g + suc t = omega arith in
    (d.M * 2 ^ g, d.is ∙ ap (λ (z : ℕ). d.M * z) (ap (λ (z : ℕ). 2 ^ z) v ∙ pow-add 2 g (suc t)) ∙ sym (mul_assoc d.M (2 ^ g) (2 ^ suc t)) ∙ ap (λ (z : ℕ). d.M * 2 ^ g * z) (pow-suc 2 t))

-- ---- the half-way points

module _ (P W c : ℕ) (mult : P * W ≤ c → (w : ℕ) × (c ≡ w * (W * 2))) (some : 0 < W) where
  up-even : (h : ℕ) → P ≤ 2 * h → h * (W * 2) < c → 2 * (suc (2 * h) * W) ≤ h * (W * 2) + c
  up-even h p l =
      let a : P * W ≤ 2 * h * W = mul-le-mul_right W p in
      let m = mult (omega arith) in
      let w = m.0 in
      let e : c ≡ w * (W * 2) = m.1 in
      let g : h < w = lt_of_mul-lt-mul_right (W * 2) (lt_of_lt_of_le l (le_of_eq e)) in
      let k : suc h * (W * 2) ≤ w * (W * 2) = mul-le-mul_right (W * 2) g in
      omega arith

  up-all : (r h : ℕ) → P ≤ r → (r ≡ 2 * h) ⊎ (r ≡ 2 * h + 1) → (r + 1) / 2 * (W * 2) < c → 2 * (suc r * W) ≤ (r + 1) / 2 * (W * 2) + c
  up-all r h p (inl e) l =
      let l' : h * (W * 2) < c = rw (half-even h) at (rw e at l) in
      rw (e, half-even h) (up-even h (rw e at p) l')
  up-all r h p (inr e) l =
      let l' : suc h * (W * 2) < c = rw (half-odd h) at (rw e at l) in
      rw (e, half-odd h) (omega arith)

  -- below: at most twice r times W, and less where r is even
  down-odd : (h Q : ℕ) → P ≡ Q + Q → P ≤ 2 * h + 1 → c < suc h * (W * 2) → suc h * (W * 2) + c ≤ 2 * ((2 * h + 1) * W)
  down-odd h Q q p l = go (ltb c (P * W)) refl
    where
      go : (b : Bool) → ltb c (P * W) ≡ b → suc h * (W * 2) + c ≤ 2 * ((2 * h + 1) * W)
      go true e =
          let a = ltb-true c (P * W) e in
          let k : P ≤ 2 * h = omega arith in
          let g : P * W ≤ 2 * h * W = mul-le-mul_right W k in
          omega arith
      go false e =
          let m = mult (ltb-false c (P * W) e) in
          let w = m.0 in
          let i : c ≡ w * (W * 2) = m.1 in
          let g : w < suc h = lt_of_mul-lt-mul_right (W * 2) (lt_of_le_of_lt (le_of_eq (sym i)) l) in
          let k : w * (W * 2) ≤ h * (W * 2) = mul-le-mul_right (W * 2) (le_of_suc-le-suc g) in
          omega arith

  down-even-at : (r h : ℕ) → r ≡ 2 * h → c < (r + 1) / 2 * (W * 2) → (r + 1) / 2 * (W * 2) + c < 2 * (r * W)
  down-even-at r h e l =
      let l' : c < h * (W * 2) = rw (half-even h) at (rw e at l) in
      rw (e, half-even h) (omega arith)

  down-odd-at : (r h Q : ℕ) → P ≡ Q + Q → P ≤ r → r ≡ 2 * h + 1 → c < (r + 1) / 2 * (W * 2) → (r + 1) / 2 * (W * 2) + c ≤ 2 * (r * W)
  down-odd-at r h Q q p e l =
      let l' : c < suc h * (W * 2) = rw (half-odd h) at (rw e at l) in
      rw (e, half-odd h) (down-odd h Q q (rw e at p) l')

sq-double : (x : ℕ) → 2 * x * (2 * x) ≡ 4 * (x * x)
sq-double x = omega arith

above-sq : (S x y : ℕ) → S < x * x → 2 * x ≤ y → 4 * S < y * y
above-sq S x y h k = let a : 2 * x * (2 * x) ≤ y * y = mul-le-mul k k in let b = sq-double x in omega arith

below-sq : (S x y : ℕ) → x * x ≤ S → y < 2 * x → y * y < 4 * S
below-sq S x y h k =
    let a : y * y ≤ y * (2 * x) = mul-le-mul (le_refl y) (le_of_lt k) in
    let b : y * (2 * x) < 2 * x * (2 * x) = mul-lt-mul_of_pos_right k (omega arith) in
    let c = sq-double x in
    omega arith

below-sq' : (S x y : ℕ) → x * x < S → y ≤ 2 * x → y * y < 4 * S
below-sq' S x y h k = let a : y * y ≤ 2 * x * (2 * x) = mul-le-mul k k in let b = sq-double x in omega arith

-- ---- the normal form of a value that is not 0

record Normal (f : Format) (a : ℕ) : Type 0 where
  m : ℕ
  t : ℕ
  lo : hid f ≤ m
  hi : m < 2 ^ suc (prec f)
  is : a * 2 ^ low f ≡ m * 2 ^ suc (prec f) * 2 ^ (2 * t)
  fine : prec f + t < low f + emax f

pow_lt_back : (a l : ℕ) → 2 ^ a < 2 ^ l → a < l
pow_lt_back a l h = lt_of_not-le (λ (g : l ≤ a). not-le_of_lt h (pow_mono g))

parity : (E : ℕ) → E ≡ E % 2 + 2 * (E / 2)
parity E = omega arith

normal : (f : Format) (a : ℕ) → 0 < a → Digits f a → Normal f a
normal f a A d =
    let p = prec f in
    let t2 = two f in
    let wd = wide f in
    let M = d.M in
    let s = size M in
    let M-pos : 0 < M = lt_of_mul-lt-mul_right (2 ^ d.j) (lt_of_le_of_lt (le_of_eq (zero-mul (2 ^ d.j))) (lt_of_lt_of_le A (le_of_eq d.is))) in
    let s-le : s ≤ p = size-le M p d.few in
    let s-pos : 0 < s = lt_of_not-le (λ (g : s ≤ 0). not-le_of_lt (size-lt M) (le_trans (pow_mono g) M-pos)) in
    let z = p - s in
    let E = d.j + low f - z - suc p in
    let o = E % 2 in
    let t = E / 2 in
    let par = parity E in
    let sum : d.j + low f ≡ z + o + suc p + 2 * t = omega arith in
    let m = M * 2 ^ (z + o) in
    let r1 : s - 1 < s = omega arith in
    let r2 : p - 1 ≡ s - 1 + z = omega arith in
    let r3 : z ≤ z + o = omega arith in
    let r4 : s + (z + o) ≤ suc p = omega arith in
    let lo : 2 ^ (p - 1) ≤ m =
    le_trans (le_of_eq (ap (λ (y : ℕ). 2 ^ y) r2 ∙ pow-add 2 (s - 1) z)) (mul-le-mul (size_reaches M (s - 1) r1) (pow_mono r3)) in
    let hi : m < 2 ^ suc p =
    lt_of_lt_of_le (mul-lt-mul_of_pos_right (size-lt M) (pow_pos (z + o))) (le_trans (le_of_eq (sym (pow-add 2 s (z + o)))) (pow_mono r4)) in
    let is : a * 2 ^ low f ≡ m * 2 ^ suc p * 2 ^ (2 * t) =
    ap (λ (y : ℕ). y * 2 ^ low f) d.is ∙ mul_assoc M (2 ^ d.j) (2 ^ low f)
    ∙ ap (λ (y : ℕ). M * y) (sym (pow-add 2 d.j (low f)) ∙ ap (λ (y : ℕ). 2 ^ y) sum ∙ pow-add 2 (z + o + suc p) (2 * t) ∙ ap (λ (y : ℕ). y * 2 ^ (2 * t)) (pow-add 2 (z + o) (suc p)))
    ∙ sym (mul_assoc M (2 ^ (z + o) * 2 ^ suc p) (2 ^ (2 * t))) ∙ ap (λ (y : ℕ). y * 2 ^ (2 * t)) (sym (mul_assoc M (2 ^ (z + o)) (2 ^ suc p))) in
    let big : 2 ^ (p - 1 + suc p + 2 * t) ≤ a * 2 ^ low f =
    le_trans (le_of_eq (pow-add 2 (p - 1 + suc p) (2 * t) ∙ ap (λ (y : ℕ). y * 2 ^ (2 * t)) (pow-add 2 (p - 1) (suc p)))) (le_trans (mul-le-mul_right (2 ^ (2 * t)) (mul-le-mul_right (2 ^ suc p) lo)) (le_of_eq (sym is))) in
    let small : a * 2 ^ low f < 2 ^ (low f + suc (emax f) + low f) = lt_of_lt_of_le (mul-lt-mul_of_pos_right d.under (pow_pos (low f))) (le_of_eq (sym (pow-add 2 (low f + suc (emax f)) (low f)))) in
    let ex : p - 1 + suc p + 2 * t < low f + suc (emax f) + low f = pow_lt_back _ _ (lt_of_le_of_lt big small) in
    record { m = m; t = t; lo = lo; hi = hi; is = is; fine = omega arith }

-- ---- the square of the root, by bounds: r times W is at most the root of N and at most b, and r + 1 times W is above the one and not below the other

-- b is the root of N but for one part in P / 3 of the squares
pub record SquareNear (P N b : ℕ) : Type 0 where
  pub above : b * b * P ≤ N * (P + 3)
  pub below : N * P ≤ b * b * (P + 3)

next-square : (r P : ℕ) → 0 < P → P ≤ r → suc r * suc r * P ≤ r * r * (P + 3)
next-square r P o h =
    let a : (2 * r + 1) * P ≤ (2 * r + 1) * r = mul-le-mul (le_refl (2 * r + 1)) h in
    let c : 1 * r ≤ r * r = mul-le-mul_right r (le_trans o h) in
    omega arith

-- u and v lie both between r * W and (r + 1) * W, given by their squares
squares-near : (r P W u v : ℕ) → 0 < P → P ≤ r → r * W * (r * W) ≤ v → u ≤ suc r * W * (suc r * W) → u * P ≤ v * (P + 3)
squares-near r P W u v o h lo hi =
    let a : suc r * suc r * P * (W * W) ≤ r * r * (P + 3) * (W * W) = mul-le-mul_right (W * W) (next-square r P o h) in
    let c : u * P ≤ suc r * W * (suc r * W) * P = mul-le-mul_right P hi in
    let d : r * W * (r * W) * (P + 3) ≤ v * (P + 3) = mul-le-mul_right (P + 3) lo in
    omega arith

half-bounds : (r W : ℕ) → (r * W ≤ (r + 1) / 2 * (W * 2)) × ((r + 1) / 2 * (W * 2) ≤ suc r * W)
half-bounds r W =
    let q = (r + 1) / 2 in
    let i : r ≤ q * 2 = omega arith in
    let j : q * 2 ≤ suc r = omega arith in
    let a : r * W ≤ q * 2 * W = mul-le-mul_right W i in
    let c : q * 2 * W ≤ suc r * W = mul-le-mul_right W j in
    (omega arith, omega arith)

-- ---- the theorem

whole_root_lem : (n : ℕ) → RootOf n (whole_root (size n) n) (n - whole_root (size n) n * whole_root (size n) n)
whole_root_lem n =
    let h = whole_is (size n) n (size-lt n) in
    let a = h.at_most in
    let b = h.above in
    record { square = omega arith; below = omega arith }

odd_is : (r : ℕ) → r ≡ 2 * (r / 2) + 1 → r % 2 ≡ 1
odd_is r e = omega arith

module _ (f : Format) (a : ℕ) (d : Normal f a) where
  n : ℕ
  n = d.m * 2 ^ suc (prec f)

  r : ℕ
  r = whole_root (size n) n

  R : RootOf (d.m * 2 ^ suc (prec f)) r (n - r * r)
  unfolding n r
  R = whole_root_lem n

  b : ℕ
  b = (r + 1) / 2 * (2 ^ d.t * 2)

  value : HasValue (root_units f a) false b (2 ^ low f)
  unfolding b
  value = subst (λ (z : ℕ). HasValue (root_units f a) false ((r + 1) / 2 * z) (2 ^ low f)) (pow-suc 2 d.t) (root-value f d.m d.t a r _ R d.lo d.hi d.is d.fine)

  ge : 2 ^ prec f ≤ r
  ge = root_ge f d.m d.t a r _ R d.lo d.hi d.is d.fine

  up-side : (c : ℕ) → Digits f c → b < c → 4 * (a * 2 ^ low f) < (b + c) * (b + c)
  unfolding b
  up-side c k l =
      above-sq (a * 2 ^ low f) (suc r * 2 ^ d.t) (b + c) (square-lt f d.m d.t a r _ R d.lo d.hi d.is d.fine)
      (up-all (2 ^ prec f) (2 ^ d.t) c (multiple f c d.t k) (pow_pos d.t) r (r / 2) ge (even-or-odd r) l)

  down-side : (c : ℕ) → Digits f c → c < b → (b + c) * (b + c) < 4 * (a * 2 ^ low f)
  unfolding b
  down-side c k l = go (even-or-odd r)
    where
      go : (r ≡ 2 * (r / 2)) ⊎ (r ≡ 2 * (r / 2) + 1) → (b + c) * (b + c) < 4 * (a * 2 ^ low f)
      go (inl e) = below-sq (a * 2 ^ low f) (r * 2 ^ d.t) (b + c) (square-ge f d.m d.t a r _ R d.lo d.hi d.is d.fine) (down-even-at (2 ^ prec f) (2 ^ d.t) c (multiple f c d.t k) (pow_pos d.t) r (r / 2) e l)
      go (inr e) = below-sq' (a * 2 ^ low f) (r * 2 ^ d.t) (b + c) (square-gt f d.m d.t a r _ R d.lo d.hi d.is d.fine (odd_is r e)) (down-odd-at (2 ^ prec f) (2 ^ d.t) c (multiple f c d.t k) (pow_pos d.t) r (r / 2) (2 ^ (prec f - 1)) (twice_hid f) ge e l)

  b-near : SquareNear (2 ^ prec f) (a * 2 ^ low f) b
  unfolding b
  b-near =
      let W = 2 ^ d.t in
      let P = 2 ^ prec f in
      let h = half-bounds r W in
      let lt : a * 2 ^ low f < suc r * W * (suc r * W) = square-lt f d.m d.t a r _ R d.lo d.hi d.is d.fine in
      record {
        above = squares-near r P W (b * b) (a * 2 ^ low f) (pow_pos (prec f)) ge (square-ge f d.m d.t a r _ R d.lo d.hi d.is d.fine) (mul-le-mul h.1 h.1);
        below = squares-near r P W (a * 2 ^ low f) (b * b) (pow_pos (prec f)) ge (mul-le-mul h.0 h.0) (le_of_lt lt);
      }

  above_zero : T (positive (root_units f a))
  unfolding b
  above_zero =
      let g : 0 < r = lt_of_lt_of_le (pow_pos (prec f)) ge in
      let h : 0 < (r + 1) / 2 = omega arith in
      positive_of_value (root_units f a) b (2 ^ low f) value (mul-pos h (mul-pos (pow_pos d.t) (omega arith)))

  nearest-units : (x : Float) → HasValue x false a (2 ^ low f) → NearestRoot f x (root_units f a)
  nearest-units x h =
      record {
        a = a;
        b = b;
        x_is = h;
        y_is = value;
        above = λ z c t k l. up-side c (digits_of_lem f z false c t k) l;
        below = λ z c t k l. down-side c (digits_of_lem f z false c t k) l;
      }

-- what a value above 0 is, in smallest values
held : (f : Format) (x : Float) → T (fits f x) → T (positive x) → HasValue x false (mag f x) (2 ^ low f)
held f nan t p = absurd p
held f (inf s) t p = absurd p
held f (fin true m e) t p = absurd p
held f (fin false m e) t p = (refl, units_of f (fin false m e) (record { finite = tt; fits = t }))

module _ (f : Format) (x : Float) (t : T (fits f x)) (p : T (positive x)) where
  some : 0 < mag f x
  some = value_pos x (mag f x) (2 ^ low f) p (pow_pos (low f)) (held f x t p)

  form : Normal f (mag f x)
  form = normal f (mag f x) some (digits_of_lem f x false (mag f x) t (held f x t p))

  -- the root of a value above 0 is the nearest
  pub root-nearest : NearestRoot f x (root_of f x)
  root-nearest = subst (λ (y : Float). NearestRoot f x y) (sym (root_of-value f x (mag f x) p (held f x t p))) (nearest-units f (mag f x) form x (held f x t p))

  -- finite and above 0: the root neither overflows nor vanishes
  pub root-positive : T (positive (root_of f x))
  root-positive = subst (λ (y : Float). T (positive y)) (sym (root_of-value f x (mag f x) p (held f x t p))) (above_zero f (mag f x) form)

  -- the root in smallest values, and how near its square is
  pub root-squared : SquareNear (2 ^ prec f) (mag f x * 2 ^ low f) (mag f (root_of f x))
  root-squared =
      let v = subst (λ (y : Float). HasValue y false (b f (mag f x) form) (2 ^ low f)) (sym (root_of-value f x (mag f x) p (held f x t p))) (value f (mag f x) form) in
      subst (λ (z : ℕ). SquareNear (2 ^ prec f) (mag f x * 2 ^ low f) z) (sym (mag_of f (root_of f x) false _ v).1) (b-near f (mag f x) form)

-- ---- and no other value is

same_units : (x : Float) (s : Bool) (a a' c : ℕ) → HasValue x s a c → HasValue x s a' c → a ≡ a'
same_units nan s a a' c h k = absurd h
same_units (inf t) s a a' c h k = absurd h
same_units (fin t m e) s a a' c h k = eq_of_mul-eq-mul_right (down e) (down_pos e) a a' (sym h.1 ∙ k.1)

same-value : (f : Format) (x y : Float) (a : ℕ) → T (fits f x) → T (fits f y) → HasValue x false a (2 ^ low f) → HasValue y false a (2 ^ low f) → x ≡ y
same-value f x y a t u h k = sym (of_bits-to_bits f x t) ∙ ap (of_bits f) (bits_of f x false a h ∙ sym (bits_of f y false a k)) ∙ of_bits-to_bits f y u

not-above : (f : Format) (x y z : Float) → T (fits f y) → T (fits f z) → (n : NearestRoot f x y) (m : NearestRoot f x z) → n.b < m.b → ⊥
not-above f x y z t u n m l =
    let e : n.a ≡ m.a = same_units x false n.a m.a (2 ^ low f) n.x_is m.x_is in
    let p = n.above z m.b u m.y_is l in
    let q = m.below y n.b t n.y_is l in
    let q' : (n.b + m.b) * (n.b + m.b) < 4 * (n.a * 2 ^ low f) = rw (e, add_comm n.b m.b) q in
    lt_irrefl (4 * (n.a * 2 ^ low f)) (lt_trans p q')

-- two values that are nearest are one
pub nearest-one : (f : Format) (x y z : Float) → T (fits f y) → T (fits f z) → NearestRoot f x y → NearestRoot f x z → y ≡ z
nearest-one f x y z t u n m =
    let l = le_of-not-lt' m.b n.b (λ h. not-above f x z y u t m n h) in
    let g = le_of-not-lt' n.b m.b (λ h. not-above f x y z t u n m h) in
    let e : n.b ≡ m.b = le_antisymm l g in
    same-value f y z m.b t u (subst (λ (c : ℕ). HasValue y false c (2 ^ low f)) e n.y_is) m.y_is
  where
    le_of-not-lt' : (a b : ℕ) → (a < b → ⊥) → b ≤ a
    le_of-not-lt' a b h = le_of_suc-le-suc (lt_of_not-le (λ (g : suc a ≤ b). h g))

-- The theorem that specs/Root.antt points to: of a value above 0 `root_of` is nearest to the exact root, and no other value of the format is.
pub root_is : (f : Format) (x : Float) → T (fits f x) → T (positive x) → NearestRoot f x (root_of f x) × ((y : Float) → T (fits f y) → NearestRoot f x y → y ≡ root_of f x)
root_is f x t p = (root-nearest f x t p, λ y u n. nearest-one f x y (root_of f x) u (root-fits f x t) n (root-nearest f x t p))
