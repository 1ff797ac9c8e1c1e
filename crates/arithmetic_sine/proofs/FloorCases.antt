-- The answers of `below`, one law for each way through it.
use mathlib.Core.Path.{◌≡◌, refl, sym, ap, ◌∙◌, subst}
use Prim.Native.Nat.{ℕ, ◌+◌, ◌-◌, ◌*◌, ◌%◌, ◌^◌, ◌≤◌, ◌<◌}
use native.Mathlib.Nat.{le_refl, le_trans, le_of_eq, zero-mul, lt_of_mul-lt-mul_right}
use native.Mathlib.Omega.{arith}
use mathlib.Core.Bool.{Bool, true, false, not, cond}
use lib.Dec.{T, leb, leb→le, nleb→lt, lit≤}
use lib.Ieee.{Float, nan, inf, fin, Format, binary64, low, hid, add, sub, neg, lt, le, eq, fits, is_nan, to_bits, of_bits}
use Rattle.std.specs.Bool.{passes, fails}
use Rattle.std.specs.Float.Ieee.{of_int}
use Rattle.std.specs.Int.{from_bool}
use lib.IntN.{pos}
use Rattle.float_laws.proofs.Value.{mag, pl, mi, Real, mag_is, mi-le, lt→units, neg-real}
use Rattle.float_laws.proofs.Interval.{nil, finite-between}
use Rattle.float_laws.proofs.Size.{within-of_le}
use Rattle.float_laws.proofs.Zero.{sub-zero}
use Rattle.float_laws.proofs.Whole.{Whole, Nearest, nearest-magic, whole-bits, one-whole, steps-sub, magic, magic-number, unit, one, is_zero, not-zero}
use Rattle.arithmetic_sine.specs.Floor.{floor_of, below_reach, quarter_of}
use Rattle.arithmetic_sine.proofs.FloorLaws.{nearby, stays, falls, less_one, floor-zero, quarter-whole}

-- ---- `below`: |x| is at most 2 ^ 50
reach-real : Real binary64 below_reach
unfolding of_bits fits
reach-real = record { finite = tt; fits = tt }

reach-pl : pl binary64 below_reach ≡ 2 ^ 50 * unit
unfolding of_bits pl unit
reach-pl = refl

-- the low bits of the sum are those of the whole number, since 2 ^ 52 and 1.5 * 2 ^ 52 are multiples of 4
quarter-stays : (k : ℕ) → (1074 * 2 ^ 52 + k) % 4 ≡ (k - magic-number + (4 - (magic-number - k) % 4)) % 4
quarter-stays k = omega arith

quarter-falls : (k : ℕ) → ((1074 * 2 ^ 52 + k) % 4 + 3) % 4 ≡ (k - magic-number + 0 - (magic-number - k + 1) + (4 - (magic-number - k + 1 - (k - magic-number + 0)) % 4)) % 4
quarter-falls k = go (leb k magic-number) (leb→le k magic-number) (nleb→lt k magic-number)
  where
    down : (k p q : ℕ) → p ≡ 0 → k + q ≡ magic-number → ((1074 * 2 ^ 52 + k) % 4 + 3) % 4 ≡ (p + 0 - (q + 1) + (4 - (q + 1 - (p + 0)) % 4)) % 4
    down k p q a b =
        let c : p + 0 - (q + 1) ≡ 0 = omega arith in
        let d : q + 1 - (p + 0) ≡ q + 1 = omega arith in
        rw (c, d) (omega arith)

    up : (k p q : ℕ) → q ≡ 0 → k ≡ magic-number + p → 0 < p → ((1074 * 2 ^ 52 + k) % 4 + 3) % 4 ≡ (p + 0 - (q + 1) + (4 - (q + 1 - (p + 0)) % 4)) % 4
    up k p q a b h =
        let c : p + 0 - (q + 1) ≡ p - 1 = omega arith in
        let d : q + 1 - (p + 0) ≡ 0 = omega arith in
        rw (c, d) (omega arith)

    go : (b : Bool) → (T b → k ≤ magic-number) → (T (not b) → magic-number < k) → ((1074 * 2 ^ 52 + k) % 4 + 3) % 4 ≡ (k - magic-number + 0 - (magic-number - k + 1) + (4 - (magic-number - k + 1 - (k - magic-number + 0)) % 4)) % 4
    go true h l = let h' = h tt in down k (k - magic-number) (magic-number - k) (omega arith) (omega arith)
    go false h l = let l' = l tt in up k (k - magic-number) (magic-number - k) (omega arith) (omega arith) (omega arith)

zero-whole : (f : Format) (x : Float) → Real f x → mag f x ≡ 0 → Whole f x 0 0
zero-whole f x r z =
    let g = mag_is f x in
    let p : pl f x ≡ 0 = omega arith in
    let m : mi f x ≡ 0 = omega arith in
    record { value = r; plus = p ∙ sym (zero-mul (2 ^ low f)); minus = m ∙ sym (zero-mul (2 ^ low f)) }

pub real-no_nan : (f : Format) (x : Float) → Real f x → T (not (is_nan x))
unfolding is_nan
real-no_nan f nan r = r.finite
real-no_nan f (inf s) r = tt
real-no_nan f (fin s m e) r = tt

unit-is : unit ≡ 2 ^ low binary64
unfolding unit
unit-is = refl

-- a test as a float, as the code converts it
pub over_is : (b : Bool) → of_int binary64 (pos (from_bool b)) ≡ cond b one nil
unfolding of_int of_bits
over_is true = refl
over_is false = refl

module _ (x : Float) (fit : T (fits binary64 x)) (a : T (le (neg below_reach) x)) (b : T (le x below_reach)) where
  real : Real binary64 x
  real = record { finite = finite-between (neg below_reach) x below_reach (neg-real binary64 below_reach reach-real).finite reach-real.finite a b; fits = fit }

  sum_is : Nearest binary64 x magic magic-number
  sum_is = nearest-magic x real (le_trans (within-of_le binary64 x below_reach real reach-real a b).le (le_of_eq reach-pl))

  pub below-zero : eq x nil ≡ true → (x ≡ floor_of binary64 x) × (0 ≡ quarter_of (floor_of binary64 x))
  below-zero e =
      let z = is_zero binary64 x fit (passes _ e) in
      let w = floor-zero binary64 x z.0 z.1 in
      (w, sym (quarter-whole binary64 x 0 0 (zero-whole binary64 x z.0 z.1)) ∙ ap quarter_of w)

  pub below_stays : eq x nil ≡ false → lt x (nearby binary64 x magic) ≡ false
      → (nearby binary64 x magic ≡ floor_of binary64 x) × (to_bits binary64 (add binary64 x magic) % 4 ≡ quarter_of (floor_of binary64 x))
  below_stays e h =
      let n = nearby binary64 x magic in
      let i = sum_is in
      let k = i.k in
      let w = stays binary64 x magic magic-number real (not-zero binary64 x real (fails _ e)) i (lit≤ tt) (fails _ h) in
      (w, ap (λ (b : ℕ). b % 4) i.bits ∙ quarter-stays k ∙ sym (quarter-whole binary64 n (k - magic-number) (magic-number - k) i.is) ∙ ap quarter_of w)

  pub below-falls : eq x nil ≡ false → lt x (nearby binary64 x magic) ≡ true
      → (sub binary64 (nearby binary64 x magic) one ≡ floor_of binary64 x) × ((to_bits binary64 (add binary64 x magic) % 4 + 3) % 4 ≡ quarter_of (floor_of binary64 x))
  below-falls e h =
      let n = sub binary64 (nearby binary64 x magic) one in
      let i = sum_is in
      let k = i.k in
      let s = not-zero binary64 x real (fails _ e) in
      let w = falls binary64 x magic magic-number real s i (lit≤ tt) (passes _ h) in
      (w, ap (λ (b : ℕ). (b % 4 + 3) % 4) i.bits ∙ quarter-falls k ∙ sym (quarter-whole binary64 n _ _ (less_one binary64 x magic magic-number real s i (lit≤ tt))) ∙ ap quarter_of w)

  -- ---- what is taken off, of n and of the sum, is 1 or 0
  abbrev over : Float
  over = cond (lt x (nearby binary64 x magic)) one nil

  -- the sum less 1, where n lies above x
  fallen : lt x (nearby binary64 x magic) ≡ true → Whole binary64 (sub binary64 (add binary64 x magic) one) (sum_is.k - 1) 0 × (hid binary64 ≤ sum_is.k - 1)
  fallen h =
      let i = sum_is in
      let k = i.k in
      let n = nearby binary64 x magic in
      let m = le_trans (mi-le binary64 x) (le_trans (within-of_le binary64 x below_reach real reach-real a b).le (le_of_eq (reach-pl ∙ ap (λ (u : ℕ). 2 ^ 50 * u) unit-is))) in
      let l = reaches k (2 ^ low binary64) (pl binary64 n) (mi binary64 n) (pl binary64 x) (mi binary64 x) i.is.plus i.is.minus (lt→units binary64 x n real i.is.value (passes _ h)) m in
      let u = i.most in
      let s = steps-sub binary64 (low binary64) (add binary64 x magic) one k 0 1 0 i.sum (one-whole binary64) (le_refl (low binary64)) (omega arith) (omega arith) in
      (subst (λ (v : ℕ). Whole binary64 (sub binary64 (add binary64 x magic) one) (k - 1) v) (let z : 0 + 1 - (k + 0) ≡ 0 = omega arith in z) (subst (λ (v : ℕ). Whole binary64 (sub binary64 (add binary64 x magic) one) v (0 + 1 - (k + 0))) (let z : k + 0 - (0 + 1) ≡ k - 1 = omega arith in z) s), l)
    where
      -- n lies above x, which is not below -2 ^ 50
      reaches : (k U pn mn px mx : ℕ) → pn ≡ (k - magic-number) * U → mn ≡ (magic-number - k) * U → px + mn < pn + mx → mx ≤ 2 ^ 50 * U → 2 ^ 52 ≤ k - 1
      reaches k U pn mn px mx e g l m = go (leb magic-number k) (leb→le magic-number k) (nleb→lt magic-number k)
        where
          go : (b : Bool) → (T b → magic-number ≤ k) → (T (not b) → k < magic-number) → 2 ^ 52 ≤ k - 1
          go true p q = let p' = p tt in omega arith
          go false p q =
              let q' = q tt in
              let z : k - magic-number ≡ 0 = omega arith in
              let none : pn ≡ 0 = e ∙ ap (λ (v : ℕ). v * U) z ∙ zero-mul U in
              let d = lt_of_mul-lt-mul_right U (let o : (magic-number - k) * U < 2 ^ 50 * U = omega arith in o) in
              omega arith

  pub less-no_nan : T (not (is_nan (sub binary64 (add binary64 x magic) over)))
  less-no_nan = go (lt x (nearby binary64 x magic)) refl
    where
      go : (b : Bool) → lt x (nearby binary64 x magic) ≡ b → T (not (is_nan (sub binary64 (add binary64 x magic) (cond b one nil))))
      go true h = real-no_nan binary64 _ (fallen h).0.value
      go false h = let s = sum_is.sum.value in subst (λ (y : Float). T (not (is_nan y))) (sym (sub-zero binary64 (add binary64 x magic) s)) (real-no_nan binary64 _ s)

  pub below_other : eq x nil ≡ false
      → (sub binary64 (nearby binary64 x magic) over ≡ floor_of binary64 x) × (to_bits binary64 (sub binary64 (add binary64 x magic) over) % 4 ≡ quarter_of (floor_of binary64 x))
  below_other e = go (lt x n) refl
    where
      n : Float
      n = nearby binary64 x magic

      y : Float
      y = add binary64 x magic

      go : (b : Bool) → lt x n ≡ b → (sub binary64 n (cond b one nil) ≡ floor_of binary64 x) × (to_bits binary64 (sub binary64 y (cond b one nil)) % 4 ≡ quarter_of (floor_of binary64 x))
      go true h =
          let s = below-falls e h in
          let f = fallen h in
          let k = sum_is.k in
          (s.0, ap (λ (b : ℕ). b % 4) (whole-bits binary64 (sub binary64 y one) (k - 1) f.0 f.1 (omega (arith, sum_is.most))) ∙ one_less k f.1 ∙ ap (λ (b : ℕ). (b % 4 + 3) % 4) (sym sum_is.bits) ∙ s.1)
        where
          one_less : (k : ℕ) → 2 ^ 52 ≤ k - 1 → (1074 * 2 ^ 52 + (k - 1)) % 4 ≡ ((1074 * 2 ^ 52 + k) % 4 + 3) % 4
          one_less k h = omega arith
      go false h =
          let s = below_stays e h in
          (sub-zero binary64 n sum_is.is.value ∙ s.0, ap (λ (v : Float). to_bits binary64 v % 4) (sub-zero binary64 y sum_is.sum.value) ∙ s.1)
