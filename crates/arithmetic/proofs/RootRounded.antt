-- The pattern of a rounded root, at any format, from prec + 1 digits of it (`root-pattern`).
-- The number a * 2 ^ low under the root is n * W * W with n = m * 2 ^ (prec + 1) and W = 2 ^ t. The root R of the whole then lies from r * W to (r + 1) * W, r the root of n, and of the prec + 1 digits of r the last is rounded: an even r is
-- kept, and an odd r goes up, since n is even and so r * r is not n (`odd-inexact`). What `round` drops and keeps is found by these bounds (`closest-is`, `drops`).
use mathlib.Core.Path.{◌≡◌, refl, sym, ap, ◌∙◌, subst}
use mathlib.Core.Logic.{◌⊎◌, inl, inr}
use mathlib.Core.Bool.{Bool, true, false, cond}
use Prim.Native.Nat.{ℕ, zero, suc, ◌+◌, ◌-◌, ◌*◌, ◌/◌, ◌%◌, ◌^◌, ◌≤◌, ◌<◌, min}
use native.Mathlib.Nat.{le_trans, le_of_lt, le_of_eq, lt_of_lt_of_le, lt_of_le_of_lt, lt_of_not-le, not-le_of_lt, le_of_suc-le-suc, mul-le-mul, mul-le-mul_right, mul-pos, mul-lt-mul_of_pos_right, mul_assoc, mul-mod_left, pow-suc, zero-add, zero-mul, min-eq_left, div-eq_of_lt-le, div-add-mod', eq_of_mul-eq-mul_right}
use native.Mathlib.Omega.{arith}
use native.Mathlib.Numerals.{add-one}
use lib.Dec.{leb, ltb, eqb}
use lib.Pow.{pow-add, pow_pos, pow-lt}
use lib.Ieee.{Format, prec, emax, low, size, units, round, hid, ones, of_bits, Float}
use lib.Ieee.Exact.{HasValue, units_val}
use lib.Arith.{lt_of_le-ne}
use lib.Ieee.Digits.{size-lt}
use lib.Ieee.Fits.{two, round_is}
use lib.Ieee.Nearest.{closest, closest_same}
use lib.Ieee.Order.{drop}
use lib.Ieee.Scale.{overflow}
use borrow.Author.Tests.{leb-true, leb-false, eqb-true, ltb-true, ltb-false}
use Rattle.float_laws.proofs.Pattern.{twice_hid, drops, below-infinite, round-pattern}
use Rattle.float_laws.proofs.Nearest.{rounds-down, rounds-up}
use Rattle.arithmetic.specs.Root.{grown, whole_root, root_units}

-- ---- squares

pub sq-lt : (x y : ℕ) → x * x < y * y → x < y
sq-lt x y h = lt_of_not-le (λ (g : y ≤ x). not-le_of_lt h (mul-le-mul g g))

-- r is the whole part of the root of n
pub record WholePart (n r : ℕ) : Type 0 where
  pub at_most : r * r ≤ n
  pub above : n < suc r * suc r

-- root is the largest number whose square is at most n, and rem what n is above that square
pub record RootOf (n root rem : ℕ) : Type 0 where
  pub square : root * root + rem ≡ n
  pub below : rem ≤ 2 * root

pub root-whole : {n r q : ℕ} → RootOf n r q → WholePart n r
root-whole {n} {r} {q} h = let a = h.square in let b = h.below in record { at_most = omega arith; above = omega arith }

grown-at_most : (n s : ℕ) → s * s ≤ n / 4 → 2 * s * (2 * s) ≤ n
grown-at_most n s h = omega arith

grown-above : (n s : ℕ) → n / 4 < suc s * suc s → n < suc (suc (2 * s)) * suc (suc (2 * s))
grown-above n s h = omega arith

grown-is : (n s : ℕ) → WholePart (n / 4) s → WholePart n (grown n (2 * s))
grown-is n s h = go (leb (suc (2 * s) * suc (2 * s)) n) refl
  where
    go : (b : Bool) → leb (suc (2 * s) * suc (2 * s)) n ≡ b → WholePart n (cond b (suc (2 * s)) (2 * s))
    go true e = record { at_most = leb-true _ _ e; above = grown-above n s h.above }
    go false e = record { at_most = grown-at_most n s h.at_most; above = leb-false _ _ e }

-- `whole_root` is the whole part of a root
pub whole_is : (k n : ℕ) → n < 2 ^ k → WholePart n (whole_root k n)
unfolding whole_root
whole_is zero n h = record { at_most = omega arith; above = omega arith }
whole_is (suc k) n h = let p = pow-suc 2 k in grown-is n (whole_root k (n / 4)) (whole_is k (n / 4) (omega arith))

-- ---- what `round` keeps and drops, by bounds

div-mod-is : (n u w r : ℕ) → n ≡ w * u + r → r < u → (n / u ≡ w) × (n % u ≡ r)
div-mod-is n u w r e l =
    let a : n / u ≡ w = div-eq_of_lt-le u (omega arith) (omega arith) in
    let b = div-add-mod' n u in
    let c : w * u + n % u ≡ n = rw a at b in
    (a, omega arith)

-- a quotient rounded to nearest, by two strict bounds: no tie
pub closest-is : (n u q : ℕ) → 2 * n < (2 * q + 1) * u → 2 * q * u < 2 * n + u → closest n u ≡ q
closest-is n u q h l = go (leb (q * u) n) refl q refl
  where
    go : (b : Bool) → leb (q * u) n ≡ b → (w : ℕ) → w ≡ q → closest n u ≡ q
    go true e w i =
        let g = leb-true (q * u) n e in
        let d = div-mod-is n u q (n - q * u) (omega arith) (omega arith) in
        let y : n % u * 2 < u = rw d.1 (omega arith) in
        sym (rounds-down n u y) ∙ d.0
    go false e zero i =
        let g = leb-false (q * u) n e in
        let z : q * u ≡ 0 = ap (λ (z : ℕ). z * u) (sym i) ∙ zero-mul u in
        absurd (omega arith)
    go false e (suc w) i =
        let g : n < suc w * u = rw i (leb-false (q * u) n e) in
        let l' : 2 * suc w * u < 2 * n + u = rw i l in
        let d = div-mod-is n u w (n - w * u) (omega arith) (omega arith) in
        let y : u < n % u * 2 = rw d.1 (omega arith) in
        sym (rounds-up n u (omega arith) (λ j. omega arith)) ∙ ap (λ (z : ℕ). z + 1) d.0 ∙ add-one w ∙ i

-- ---- the root of a smallest values, by prec + 1 digits of the root of m * 2 ^ (prec + 1): that number, t times four, is a * 2 ^ low

-- what is put on twice the whole part r of the root of N: 1 where the root is not r itself
abbrev pub sticky : ℕ → ℕ → ℕ
sticky N r = cond (eqb (r * r) N) 0 1

pub sticky-le : (N r : ℕ) → sticky N r ≤ 1
sticky-le N r = go (eqb (r * r) N)
  where
    go : (b : Bool) → cond b 0 1 ≤ 1
    go true = omega arith
    go false = omega arith

sticky-none : (N r : ℕ) → sticky N r ≡ 0 → r * r ≡ N
sticky-none N r = go (eqb (r * r) N) refl
  where
    go : (b : Bool) → eqb (r * r) N ≡ b → ◌≡◌ {A = ℕ} (cond b 0 1) 0 → r * r ≡ N
    go true e h = eqb-true (r * r) N e
    go false e h = absurd (omega arith)

sq-scale : (x w : ℕ) → x * w * (x * w) ≡ x * x * (w * w)
sq-scale x w = omega arith

square-odd : (h : ℕ) → (2 * h + 1) * (2 * h + 1) ≡ 2 * (h * (2 * h + 2)) + 1
square-odd h = omega arith

odd-square : (r n : ℕ) → r * r ≡ n → n % 2 ≡ 0 → r % 2 ≡ 1 → ⊥
odd-square r n v ev od =
    let h = r / 2 in
    let a : r ≡ 2 * h + 1 = omega arith in
    let b : r * r ≡ 2 * (h * (2 * h + 2)) + 1 = ap (λ (z : ℕ). z * z) a ∙ square-odd h in
    omega arith

-- a number x of quarters of W * 4, between r and r + 1 times W * 2, above r times where r is odd
pub even-or-odd : (r : ℕ) → (r ≡ 2 * (r / 2)) ⊎ (r ≡ 2 * (r / 2) + 1)
even-or-odd r = go (ltb (r % 2) 1) refl
  where
    go : (b : Bool) → ltb (r % 2) 1 ≡ b → (r ≡ 2 * (r / 2)) ⊎ (r ≡ 2 * (r / 2) + 1)
    go true e = let l = ltb-true (r % 2) 1 e in inl (omega arith)
    go false e = let l = ltb-false (r % 2) 1 e in inr (omega arith)

pub half-even : (h : ℕ) → (2 * h + 1) / 2 ≡ h
half-even h = omega arith

pub half-odd : (h : ℕ) → (2 * h + 1 + 1) / 2 ≡ suc h
half-odd h = omega arith

abbrev Between : (r W x : ℕ) → Type 0
Between r W x = (2 * ((r + 1) / 2) * (W * 4) < 2 * x + W * 4) × (2 * x < (2 * ((r + 1) / 2) + 1) * (W * 4))

between-even : (h W x : ℕ) → 0 < W → 2 * h * W * 2 ≤ x → x < suc (2 * h) * W * 2 → (2 * h * (W * 4) < 2 * x + W * 4) × (2 * x < (2 * h + 1) * (W * 4))
between-even h W x w a b = (omega arith, omega arith)

between-odd : (h W x : ℕ) → 0 < W → (2 * h + 1) * W * 2 < x → x < suc (2 * h + 1) * W * 2 → (2 * suc h * (W * 4) < 2 * x + W * 4) × (2 * x < (2 * suc h + 1) * (W * 4))
between-odd h W x w a b = (omega arith, omega arith)

between : (r h W x : ℕ) → 0 < W → r * W * 2 ≤ x → x < suc r * W * 2 → (r % 2 ≡ 1 → r * W * 2 < x) → (r ≡ 2 * h) ⊎ (r ≡ 2 * h + 1) → Between r W x
between r h W x w a b c (inl e) = subst (λ (z : ℕ). Between z W x) (sym e) (rw (half-even h) (between-even h W x w (rw e at a) (rw e at b)))
between r h W x w a b c (inr e) =
    let d : r * W * 2 < x = c (omega arith) in
    subst (λ (z : ℕ). Between z W x) (sym e) (rw (half-odd h) (between-odd h W x w (rw e at d) (rw e at b)))

-- n is m * 2 ^ (prec + 1), N is n * W * W, W is 2 ^ t
module _ (n N r R W : ℕ) (w : 0 < W) (F : WholePart n r) (G : WholePart N R) (e : N ≡ n * (W * W)) where
  big-ge : r * W ≤ R
  big-ge =
      let a : r * r * (W * W) ≤ n * (W * W) = mul-le-mul_right (W * W) F.at_most in
      let b = G.above in
      let c = sq-scale r W in
      le_of_suc-le-suc (sq-lt (r * W) (suc R) (lt_of_le_of_lt (rw (c, e) a) b))

  big_lt : R < suc r * W
  big_lt =
      let a : n * (W * W) < suc r * suc r * (W * W) = mul-lt-mul_of_pos_right F.above (mul-le-mul w w) in
      sq-lt R (suc r * W) (lt_of_le_of_lt G.at_most (rw (e, sq-scale (suc r) W) a))

  -- an odd root is not the root of an even number
  odd-inexact : n % 2 ≡ 0 → r % 2 ≡ 1 → r * W * 2 < 2 * R + sticky N R
  odd-inexact ev od =
      let g = big-ge in
      lt_of_not-le (λ (l : 2 * R + sticky N R ≤ r * W * 2).
      let z : sticky N R ≡ 0 = omega arith in
      let q : R ≡ r * W = omega arith in
      let s : r * r * (W * W) ≡ n * (W * W) = sym (sq-scale r W) ∙ ap (λ (z : ℕ). z * z) (sym q) ∙ sticky-none N R z ∙ e in
      let v : r * r ≡ n = eq_of_mul-eq-mul_right (W * W) (mul-le-mul w w) (r * r) n s in
      odd-square r n v ev od)

  num-ge : r * W * 2 ≤ 2 * R + sticky N R
  num-ge = let g = big-ge in omega arith

  num-lt : 2 * R + sticky N R < suc r * W * 2
  num-lt = let g = big_lt in let s = sticky-le N R in omega arith

  num-between : n % 2 ≡ 0 → Between r W (2 * R + sticky N R)
  num-between ev = between r (r / 2) W (2 * R + sticky N R) w num-ge num-lt (odd-inexact ev) (even-or-odd r)

-- ---- at a format

shift-sum : (x L W P : ℕ) → P ≡ W * 2 → x * L * (W * 4) ≡ x * (2 * L * P)
shift-sum x L W P e = rw e (omega arith)

bound-lt : (x r P W L : ℕ) → 0 < L → x < suc r * W * 2 → suc r ≤ P * 2 → x * L < P * (W * 2) * (2 * L)
bound-lt x r P W L l h k =
    let a : suc r * W ≤ P * 2 * W = mul-le-mul_right W k in
    let b : x < P * 2 * W * 2 = omega arith in
    let c : x * L < P * 2 * W * 2 * L = mul-lt-mul_of_pos_right b l in
    omega arith

bound-ge : (x r P W L : ℕ) → r * W * 2 ≤ x → P ≤ r → P * W * (2 * L) ≤ x * L
bound-ge x r P W L h k =
    let a : P * W ≤ r * W = mul-le-mul_right W k in
    let b : P * W * 2 ≤ x = omega arith in
    let c : P * W * 2 * L ≤ x * L = mul-le-mul_right L b in
    omega arith

half_le : (r P : ℕ) → r < P * 2 → (r + 1) / 2 ≤ P
half_le r P h = omega arith

half-ge : (r P : ℕ) → P + P ≤ r → P ≤ (r + 1) / 2
half-ge r P h = omega arith

module _ (f : Format) (m t a r q : ℕ) (root : RootOf (m * 2 ^ suc (prec f)) r q) (lo : hid f ≤ m) (hi : m < 2 ^ suc (prec f))
    (e : a * 2 ^ low f ≡ m * 2 ^ suc (prec f) * 2 ^ (2 * t)) (fine : prec f + t < low f + emax f) where
  n : ℕ
  n = m * 2 ^ suc (prec f)

  N : ℕ
  N = a * 2 ^ low f

  R : ℕ
  R = whole_root (size N) N

  abbrev W : ℕ
  W = 2 ^ t

  F : WholePart n r
  unfolding n
  F = root-whole root

  G : WholePart N R
  unfolding R
  G = whole_is (size N) N (size-lt N)

  at : N ≡ n * (W * W)
  unfolding N n
  at = e ∙ ap (λ (z : ℕ). m * 2 ^ suc (prec f) * z) (ap (λ (z : ℕ). 2 ^ z) (twice t) ∙ pow-add 2 t t)
    where
      twice : (t : ℕ) → 2 * t ≡ t + t
      twice t = omega arith

  w : 0 < W
  w = pow_pos t

  even : n % 2 ≡ 0
  unfolding n
  even = ap (λ (z : ℕ). m * z % 2) (pow-suc 2 (prec f)) ∙ ap (λ (z : ℕ). z % 2) (sym (mul_assoc m (2 ^ prec f) 2)) ∙ mul-mod_left (m * 2 ^ prec f) 2

  -- the root has prec + 1 digits
  pub root_ge : 2 ^ prec f ≤ r
  unfolding n
  root_ge =
      let p = prec f in
      let t2 = two f in
      let s : p - 1 + suc p ≡ p + p = omega arith in
      let b : 2 ^ p * 2 ^ p ≤ n = le_trans (le_of_eq (sym (pow-add 2 p p) ∙ ap (λ (z : ℕ). 2 ^ z) (sym s) ∙ pow-add 2 (p - 1) (suc p))) (mul-le-mul_right (2 ^ suc p) lo) in
      le_of_suc-le-suc (sq-lt (2 ^ p) (suc r) (lt_of_le_of_lt b F.above))

  pub root-lt : r < 2 ^ suc (prec f)
  unfolding n
  root-lt = sq-lt r (2 ^ suc (prec f)) (lt_of_le_of_lt F.at_most (mul-lt-mul_of_pos_right hi (pow_pos (suc (prec f)))))

  num : ℕ
  num = 2 * R + sticky N R

  kept : closest (num * 2 ^ low f) (2 * 2 ^ low f * 2 ^ suc t) ≡ (r + 1) / 2
  unfolding num
  kept =
      let b = num-between n N r R W w F G at even in
      closest_same (num * 2 ^ low f) (2 * 2 ^ low f * 2 ^ suc t) num (W * 4) (mul-pos (mul-pos (omega arith) (pow_pos (low f))) (pow_pos (suc t))) (mul-pos w (omega arith)) (shift-sum num (2 ^ low f) W (2 ^ suc t) (pow-suc 2 t))
      ∙ closest-is num (W * 4) ((r + 1) / 2) b.1 b.0

  gone : drop (prec f) (num * 2 ^ low f) (2 * 2 ^ low f) ≡ suc t
  unfolding num
  gone =
      let p = prec f in
      let L = 2 ^ low f in
      let t2 = two f in
      let l : 0 < L = pow_pos (low f) in
      let s : 2 ^ (p + suc t) ≡ 2 ^ p * (W * 2) = pow-add 2 p (suc t) ∙ ap (λ (z : ℕ). 2 ^ p * z) (pow-suc 2 t) in
      let i : p - 1 + suc t ≡ p + t = omega arith in
      let v : 2 ^ (p - 1 + suc t) ≡ 2 ^ p * W = ap (λ (z : ℕ). 2 ^ z) i ∙ pow-add 2 p t in
      let k : suc r ≤ 2 ^ p * 2 = subst (λ (z : ℕ). suc r ≤ z) (pow-suc 2 p) root-lt in
      drops f (num * L) (2 * L) (suc t) (mul-pos (omega arith) l)
      (subst (λ (z : ℕ). num * L < z * (2 * L)) (sym s) (bound-lt num r (2 ^ p) W L l (num-lt n N r R W w F G at) k))
      (inr (subst (λ (z : ℕ). z * (2 * L) ≤ num * L) (sym v) (bound-ge num r (2 ^ p) W L (num-ge n N r R W w F G at) root_ge)))

  half-small : (r + 1) / 2 ≤ 2 ^ prec f
  half-small = half_le r (2 ^ prec f) (subst (λ (z : ℕ). suc r ≤ z) (pow-suc 2 (prec f)) root-lt)

  half_full : hid f ≤ (r + 1) / 2
  half_full = half-ge r (hid f) (le_trans (le_of_eq (sym (twice_hid f))) root_ge)

  inside : (r + 1) / 2 * 2 ^ suc t < overflow f
  inside =
      let a : (r + 1) / 2 * 2 ^ suc t ≤ 2 ^ prec f * 2 ^ suc t = mul-le-mul_right (2 ^ suc t) half-small in
      let b : prec f + suc t < low f + suc (emax f) = omega arith in
      lt_of_le_of_lt (le_trans a (le_of_eq (sym (pow-add 2 (prec f) (suc t))))) (pow-lt b)

  -- a root is finite
  pub pattern_lt : suc t * hid f + (r + 1) / 2 < ones f * hid f
  pattern_lt = below-infinite f ((r + 1) / 2) (suc t) half-small (inr half_full) inside

  pub root-pattern : of_bits f (suc t * hid f + (r + 1) / 2) ≡ root_units f a
  unfolding num R N root_units
  root-pattern =
      let own : 0 + min (suc t * hid f + (r + 1) / 2) (ones f * hid f) ≡ suc t * hid f + (r + 1) / 2 = zero-add _ ∙ min-eq_left (le_of_lt pattern_lt) in
      ap (of_bits f) (sym own) ∙ round-pattern f false num (2 * 2 ^ low f) gone kept

  -- and its value in smallest values
  pub root-value : HasValue (root_units f a) false ((r + 1) / 2 * 2 ^ suc t) (2 ^ low f)
  unfolding num R N root_units
  root-value =
      let x = num * 2 ^ low f in
      let d = 2 * 2 ^ low f in
      let i : round f false num d ≡ units f false ((r + 1) / 2) (suc t) =
      round_is f false num d ∙ ap (λ (z : ℕ). units f false (closest x (d * 2 ^ z)) z) gone ∙ ap (λ (z : ℕ). units f false z (suc t)) kept in
      subst (λ (v : Float). HasValue v false ((r + 1) / 2 * 2 ^ suc t) (2 ^ low f)) (sym i) (units_val f false ((r + 1) / 2) (suc t) inside)

  -- the exact root lies from r * W on, above it where r is odd, and below (r + 1) * W
  pub square-ge : r * W * (r * W) ≤ a * 2 ^ low f
  unfolding N
  square-ge = le_trans (le_of_eq (sq-scale r W)) (le_trans (mul-le-mul_right (W * W) F.at_most) (le_of_eq (sym at)))

  pub square-gt : r % 2 ≡ 1 → r * W * (r * W) < a * 2 ^ low f
  unfolding N
  square-gt od =
      let l : r * r < n = lt_of_le-ne F.at_most (λ v. odd-square r n v even od) in
      lt_of_le_of_lt (le_of_eq (sq-scale r W)) (lt_of_lt_of_le (mul-lt-mul_of_pos_right l (mul-le-mul w w)) (le_of_eq (sym at)))

  pub square-lt : a * 2 ^ low f < suc r * W * (suc r * W)
  unfolding N
  square-lt = lt_of_le_of_lt (le_of_eq at) (lt_of_lt_of_le (mul-lt-mul_of_pos_right F.above (mul-le-mul w w)) (le_of_eq (sym (sq-scale (suc r) W))))
