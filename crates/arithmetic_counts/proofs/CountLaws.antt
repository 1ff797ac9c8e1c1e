-- The rounding of a count. In units, `nearest_away` is the k with k ≤ |x| + 1/2 < k + 1; the sum with 2 ^ 52 gives a nearest n, which is that k but where x is n + 1/2.
-- The product lies within 800,000, where the library's rounding and its cast are the definition's too. The only laws that know the tie rule are `away-is`, `case-half`, `case-keeps` and `rounded_is`. Assumes nothing.
use mathlib.Core.Path.{◌≡◌, refl, sym, ap, ◌∙◌, subst}
use Prim.Native.Nat.{ℕ, zero, suc, ◌+◌, ◌-◌, ◌*◌, ◌^◌, ◌≤◌, ◌<◌}
use native.Mathlib.Nat.{le_trans, le_of_eq, lt_of_le_of_lt, le_of_suc-le-suc, lt_of_not-le, mul-le-mul_right, mul-lt-mul_of_pos_right, lt_of_mul-lt-mul_right, le_of_mul-le-mul_right, div-lt_iff_lt-mul, zero-mul, suc-mul, lt_irrefl}
use native.Mathlib.Omega.{arith}
use mathlib.Core.Bool.{Bool, true, false, not}
use lib.Dec.{T, lit≤, lit<, le→leb, lt→ltb, T_not}
use lib.Pow.{pow_pos}
use lib.IntN.{ℤ, pos, negsuc, neg_ℤ, nat_abs, ◌-ℤ◌, +ℤ_idl}
use lib.Ieee.{Float, nan, inf, fin, Format, binary32, binary64, prec, low, up, down, hid, add, neg, mul, lt, le, fits, is_nan, to_bits, of_bits, of_int, in_float, to_signed, round}
use lib.Ieee.Positive.{num, den, den_pos}
use lib.Ieee.Scale.{finite}
use lib.Ieee.Fits.{add-fits, and_l, and_r}
use lib.Ieee.Bits.{to_bits-lt}
use lib.Ieee.Back.{positive_back, negative_back}
use mir.Syntax.{w64}
use mir.Val.{SFits, to_z, of_z}
use mir.ValLaws.{to_z_pos, to_z-of_z}
use Rattle.std.specs.Bool.{passes, fails}
use Rattle.std.specs.Float.{round_with, float_round}
use Rattle.float_laws.proofs.Value.{mag, pl, mi, Real, mag_is, units_of, le→units, units→le, lt→units, nlt→units, neg-real, neg-pl, neg-mi}
use Rattle.float_laws.proofs.Interval.{nil, nil-real, nil-pl, nil-mi, finite-between, from_zero}
use Rattle.float_laws.proofs.Size.{Within, within-of_le, le_of-within, mul-within}
use Rattle.float_laws.proofs.Whole.{Steps, Whole, Nearest, nearest-is, twice_hid, steps-add}
use Rattle.arithmetic_sine.proofs.FloorLaws.{cut-plus, nearby}
use Rattle.arithmetic_sine.proofs.FloorCases.{real-no_nan}
use Rattle.refusals.specs.Answer.{value, refused}
use Rattle.arithmetic_ranges.specs.Ranges.{in_range}
use Rattle.arithmetic_counts.specs.Count.{nearest_away, nearest_whole, greatest_counted, counts_per_metre, counts_call}
use Rattle.arithmetic_counts.specs.CountSizes.{CountSizes}
use Rattle.arithmetic_counts.proofs.WholeReach.{reach-plus}

-- ---- the definition, in units
pub away-is : (f : Format) (x : Float) (k : ℕ) → Real f x → k * (2 * 2 ^ low f) ≤ 2 * mag f x + 2 ^ low f → 2 * mag f x + 2 ^ low f < k * (2 * 2 ^ low f) + 2 * 2 ^ low f → nearest_away (num x) (den x) ≡ k
unfolding nearest_away
away-is f x k r h l =
    let U = 2 ^ low f in
    cut-plus (2 * num x + den x) (2 * den x) (2 * mag f x + U) (2 * U) k (twice (pow_pos (low f))) (crossed (num x) (den x) (mag f x) U (units_of f x r)) (twice (den_pos x)) h l
  where
    twice : {a : ℕ} → 0 < a → 0 < 2 * a
    twice h = omega arith

    crossed : (n d M U : ℕ) → n * U ≡ M * d → (2 * n + d) * (2 * U) ≡ (2 * M + U) * (2 * d)
    crossed n d M U e = omega arith

-- what is at most a whole number is not rounded past it
pub away-le : (f : Format) (x : Float) (a : ℕ) → Real f x → mag f x ≤ a * 2 ^ low f → nearest_away (num x) (den x) ≤ a
unfolding nearest_away
away-le f x a r h =
    let U = 2 ^ low f in
    let n = num x in
    let d = den x in
    let e = units_of f x r in
    let D = den_pos x in
    let s : n * U ≤ a * d * U = under n d (mag f x) U a e (mul-le-mul_right d h) in
    let t : n ≤ a * d = le_of_mul-le-mul_right s (pow_pos (low f)) in
    let z : 2 * n + d < suc a * (2 * d) = omega arith in
    le_of_suc-le-suc ((div-lt_iff_lt-mul (let o : 0 < 2 * d = omega arith in o)).1 z)
  where
    under : (n d M U a : ℕ) → n * U ≡ M * d → M * d ≤ a * U * d → n * U ≤ a * d * U
    under n d M U a e h = omega arith

-- ---- the code: n = (x + c) - c with c = hid f, and n + 1/2 against x
abbrev pub half : Float
half = fin false 1 (negsuc 0)

half-steps : (f : Format) → Steps f (low f - 1) half 1 0
unfolding pl mi fits
half-steps binary32 = record { value = record { finite = tt; fits = tt }; plus = refl; minus = refl }
half-steps binary64 = record { value = record { finite = tt; fits = tt }; plus = refl; minus = refl }

two-halves : (f : Format) → 2 ^ low f ≡ 2 * 2 ^ (low f - 1)
two-halves binary32 = refl
two-halves binary64 = refl

fewer : (f : Format) → low f - 1 ≤ low f
fewer f = omega arith

module _ (f : Format) (x c : Float) (a : ℕ) (r : Real f x) (z : mi f x ≡ 0) (w : Whole f c (hid f) 0) (h : pl f x ≤ a * 2 ^ low f) (s : 2 * a + 2 ≤ 2 ^ prec f) where
  sum_is : Nearest f x c (hid f)
  sum_is =
      let t = twice_hid f in
      let b : a < hid f = omega arith in
      nearest-is f x c (hid f) r w (reach-plus f x z (lt_of_le_of_lt h (mul-lt-mul_of_pos_right b (pow_pos (low f)))))

  pub sum_number : T (not (is_nan (add f x c)))
  sum_number = real-no_nan f (add f x c) sum_is.sum.value

  -- the whole number n, off the pattern of the sum
  abbrev k : ℕ
  k = sum_is.k - hid f

  pub bits-least : suc (low f) * hid f ≤ to_bits f (add f x c)
  bits-least =
      let i = sum_is in
      let e = i.bits in
      let l = i.least in
      let m = suc-mul (low f) (hid f) in
      omega arith

  bits-less : to_bits f (add f x c) - suc (low f) * hid f ≡ k
  bits-less =
      let i = sum_is in
      let e = i.bits in
      let l = i.least in
      let m = suc-mul (low f) (hid f) in
      omega arith

  n-plus : pl f (nearby f x c) ≡ k * 2 ^ low f
  n-plus = sum_is.is.plus

  n-minus : mi f (nearby f x c) ≡ 0
  n-minus =
      let i = sum_is in
      let l = i.least in
      let e : hid f - i.k ≡ 0 = omega arith in
      i.is.minus ∙ ap (λ (v : ℕ). v * 2 ^ low f) e ∙ zero-mul (2 ^ low f)

  -- n ≤ x + 1/2 and x ≤ n + 1/2
  n-over : k * 2 ^ low f * 2 ≤ pl f x * 2 + 2 ^ low f
  n-over = let p = n-plus in let m = n-minus in let b = sum_is.above in omega arith

  n-under : pl f x * 2 ≤ k * 2 ^ low f * 2 + 2 ^ low f
  n-under = let p = n-plus in let m = n-minus in let b = sum_is.below in omega arith

  k-le : 2 * k + 1 ≤ 2 ^ prec f
  k-le =
      let U = 2 ^ low f in
      let q : 2 * k < 2 * a + 2 = lt_of_mul-lt-mul_right U (bound k a U (pl f x) (pow_pos (low f)) n-over h) in
      omega arith
    where
      bound : (m a U p : ℕ) → 0 < U → m * U * 2 ≤ p * 2 + U → p ≤ a * U → 2 * m * U < (2 * a + 2) * U
      bound m a U p u h l = omega arith

  -- n + 1/2 is exact
  raised : Steps f (low f - 1) (add f (nearby f x c) half) (2 * k + 1 - (0 + 0)) (0 + 0 - (2 * k + 1))
  raised =
      let H = 2 ^ (low f - 1) in
      let p : pl f (nearby f x c) ≡ 2 * k * H = n-plus ∙ ap (λ (v : ℕ). k * v) (two-halves f) ∙ doubled k H in
      let m : mi f (nearby f x c) ≡ 0 * H = n-minus ∙ sym (zero-mul H) in
      let l = k-le in
      steps-add f (low f - 1) (nearby f x c) half (2 * k) 0 1 0 (record { value = sum_is.is.value; plus = p; minus = m }) (half-steps f) (fewer f) (omega arith) (omega arith)
    where
      doubled : (m H : ℕ) → m * (2 * H) ≡ 2 * m * H
      doubled m H = omega arith

  raised-plus : pl f (add f (nearby f x c) half) * 2 ≡ k * 2 ^ low f * 2 + 2 ^ low f
  raised-plus = ap (λ (v : ℕ). v * 2) raised.plus ∙ spread k (2 ^ (low f - 1)) (2 ^ low f) (two-halves f)
    where
      spread : (m H U : ℕ) → U ≡ 2 * H → (2 * m + 1 - (0 + 0)) * H * 2 ≡ m * U * 2 + U
      spread m H U e = let o : 2 * m + 1 - (0 + 0) ≡ 2 * m + 1 = omega arith in ap (λ (v : ℕ). v * H * 2) o ∙ (let q : (2 * m + 1) * H * 2 ≡ m * U * 2 + U = subst (λ (v : ℕ). (2 * m + 1) * H * 2 ≡ m * v * 2 + v) (sym e) (omega arith) in q)

  raised-minus : mi f (add f (nearby f x c) half) ≡ 0
  raised-minus = raised.minus ∙ ap (λ (v : ℕ). v * 2 ^ (low f - 1)) (let o : 0 + 0 - (2 * k + 1) ≡ 0 = omega arith in o) ∙ zero-mul (2 ^ (low f - 1))

  -- the half went down: one more
  pub case-half : T (le (add f (nearby f x c) half) x) → to_bits f (add f x c) - suc (low f) * hid f + 1 ≡ nearest_away (num x) (den x)
  case-half t =
      let b = le→units f (add f (nearby f x c) half) x raised.value r t in
      let rp = raised-plus in
      let rm = raised-minus in
      let o = n-over in
      let u = n-under in
      let g = mag_is f x in
      ap (λ (v : ℕ). v + 1) bits-less ∙ sym (away-is f x (k + 1) r (up k (2 ^ low f) (mag f x) (pl f x) (omega arith) (omega arith)) (down k (2 ^ low f) (mag f x) (pl f x) (pow_pos (low f)) (omega arith) u))
    where
      up : (m U M p : ℕ) → M ≡ p → m * U * 2 + U ≤ p * 2 → (m + 1) * (2 * U) ≤ 2 * M + U
      up m U M p e h = omega arith

      down : (m U M p : ℕ) → 0 < U → M ≡ p → p * 2 ≤ m * U * 2 + U → 2 * M + U < (m + 1) * (2 * U) + 2 * U
      down m U M p u e h = omega arith

  -- n is nearest, or a half that went up
  pub case-keeps : T (not (le (add f (nearby f x c) half) x)) → to_bits f (add f x c) - suc (low f) * hid f ≡ nearest_away (num x) (den x)
  case-keeps t =
      let v = add f (nearby f x c) half in
      let b : pl f x + mi f v < pl f v + mi f x = lt_of_not-le (λ (q : pl f v + mi f x ≤ pl f x + mi f v). T_not (le v x) t (units→le f v x raised.value r q)) in
      let rp = raised-plus in
      let rm = raised-minus in
      let o = n-over in
      let g = mag_is f x in
      bits-less ∙ sym (away-is f x k r (up k (2 ^ low f) (mag f x) (pl f x) (omega arith) o) (down k (2 ^ low f) (mag f x) (pl f x) (omega arith) (omega arith)))
    where
      up : (m U M p : ℕ) → M ≡ p → m * U * 2 ≤ p * 2 + U → m * (2 * U) ≤ 2 * M + U
      up m U M p e h = omega arith

      down : (m U M p : ℕ) → M ≡ p → p * 2 < m * U * 2 + U → 2 * M + U < m * (2 * U) + 2 * U
      down m U M p e h = omega arith

-- ---- the sign put back
pub nearest-minus : (f : Format) (p : Float) → Real f p → 0 < mi f p → nearest_whole p ≡ neg_ℤ (pos (nearest_away (num (neg p)) (den (neg p))))
unfolding nearest_whole neg mi
nearest-minus f nan r h = absurd r.finite
nearest-minus f (inf s) r h = absurd r.finite
nearest-minus f (fin false m e) r h = absurd (lt_irrefl 0 h)
nearest-minus f (fin true m e) r h = refl

pub nearest-plus : (f : Format) (p : Float) → Real f p → mi f p ≡ 0 → nearest_whole p ≡ pos (nearest_away (num p) (den p))
unfolding nearest_whole mi
nearest-plus f nan r h = absurd r.finite
nearest-plus f (inf s) r h = absurd r.finite
nearest-plus f (fin false m e) r h = refl
nearest-plus f (fin true m e) r h =
    let k = nearest_away (m * up e) (down e) in
    let l : k ≤ 0 = away-le f (fin true m e) 0 r (le_of_eq (h ∙ sym (zero-mul (2 ^ low f)))) in
    let z : k ≡ 0 = omega arith in
    ap (λ (v : ℕ). neg_ℤ (pos v)) z ∙ ap pos (sym z)

abs-minus : (k : ℕ) → nat_abs (neg_ℤ (pos k)) ≡ k
abs-minus zero = refl
abs-minus (suc k) = refl

pub nearest-bound : (f : Format) (p : Float) (a : ℕ) → Real f p → mag f p ≤ a * 2 ^ low f → nat_abs (nearest_whole p) ≤ a
unfolding nearest_whole
nearest-bound f nan a r h = absurd r.finite
nearest-bound f (inf s) a r h = absurd r.finite
nearest-bound f (fin false m e) a r h = away-le f (fin false m e) a r h
nearest-bound f (fin true m e) a r h = le_trans (le_of_eq (abs-minus (nearest_away (m * up e) (down e)))) (away-le f (fin true m e) a r h)

-- ---- the library's rounding and cast

-- of a whole number that is not large
cast-plus : (k : ℕ) → k ≤ 800000 → to_signed 63 (round binary64 false k 1) ≡ pos k
unfolding in_float of_int
cast-plus k h = (positive_back binary64 63 k (le→leb k (2 ^ 53) (omega arith)) (omega arith)).1

cast-minus : (k : ℕ) → k ≤ 800000 → to_signed 63 (round binary64 true k 1) ≡ neg_ℤ (pos k)
unfolding in_float of_int to_signed round
cast-minus zero h = refl
cast-minus (suc k) h = (negative_back binary64 63 k (lt→ltb k (2 ^ 53) (omega arith)) (omega arith)).1

pub rounded_is : (p : Float) → T (finite p) → nat_abs (nearest_whole p) ≤ 800000 → to_signed 63 (float_round binary64 p) ≡ nearest_whole p
unfolding nearest_whole nearest_away round_with
rounded_is nan t h = absurd t
rounded_is (inf s) t h = absurd t
rounded_is (fin false m e) t h = cast-plus (nearest_away (m * up e) (down e)) h
rounded_is (fin true m e) t h = cast-minus (nearest_away (m * up e) (down e)) (le_trans (le_of_eq (sym (abs-minus (nearest_away (m * up e) (down e))))) h)

-- ---- `nearest_size`, at 800,000
abbrev limit : Float
limit = of_bits binary64 0x4128_6a00_0000_0000

limit-whole : Whole binary64 limit 800000 0
unfolding of_bits fits pl mi
limit-whole = record { value = record { finite = tt; fits = tt }; plus = refl; minus = refl }

whole_below : (f : Format) (x l : Float) (a : ℕ) → Real f x → mi f x ≡ 0 → Whole f l a 0 → T (le x l) → pl f x ≤ a * 2 ^ low f
whole_below f x l a r z w h =
    let b = le→units f x l r w.value h in
    let p = w.plus in
    let m = w.minus in
    omega arith

-- the code's 2 ^ 52
pub hid-whole : Whole binary64 (of_bits binary64 0x4330_0000_0000_0000) (hid binary64) 0
unfolding of_bits fits pl mi
hid-whole = record { value = record { finite = tt; fits = tt }; plus = refl; minus = refl }

module _ (a : Float) (fit : T (fits binary64 a)) (lo : T (le nil a)) (hi : T (le a limit)) where
  size-real : Real binary64 a
  size-real = record { finite = finite-between nil a limit tt limit-whole.value.finite lo hi; fits = fit }

  size-mi : mi binary64 a ≡ 0
  size-mi = from_zero binary64 a size-real lo

  size-pl : pl binary64 a ≤ 800000 * 2 ^ low binary64
  size-pl = whole_below binary64 a limit 800000 size-real size-mi limit-whole hi

  abbrev c : Float
  c = of_bits binary64 0x4330_0000_0000_0000

  pub size_number : T (not (is_nan (add binary64 a c)))
  size_number = sum_number binary64 a c 800000 size-real size-mi hid-whole size-pl (lit≤ tt)

  pub size-least : 0x4330_0000_0000_0000 ≤ to_bits binary64 (add binary64 a c)
  size-least = bits-least binary64 a c 800000 size-real size-mi hid-whole size-pl (lit≤ tt)

  pub size_fits : to_bits binary64 (add binary64 a c) - 0x4330_0000_0000_0000 + 1 < 2 ^ 64
  size_fits = let b = to_bits-lt binary64 (add binary64 a c) (add-fits binary64 a c) in small (to_bits binary64 (add binary64 a c)) b
    where
      small : (n : ℕ) → n < 2 ^ 64 → n - 0x4330_0000_0000_0000 + 1 < 2 ^ 64
      small n h = omega arith

  pub size-half : le (add binary64 (nearby binary64 a c) half) a ≡ true → to_bits binary64 (add binary64 a c) - 0x4330_0000_0000_0000 + 1 ≡ nearest_away (num a) (den a)
  size-half e = case-half binary64 a c 800000 size-real size-mi hid-whole size-pl (lit≤ tt) (passes _ e)

  pub size-keeps : le (add binary64 (nearby binary64 a c) half) a ≡ false → to_bits binary64 (add binary64 a c) - 0x4330_0000_0000_0000 ≡ nearest_away (num a) (den a)
  size-keeps e = case-keeps binary64 a c 800000 size-real size-mi hid-whole size-pl (lit≤ tt) (fails _ e)

  pub size-le : nearest_away (num a) (den a) ≤ 800000
  size-le = away-le binary64 a 800000 size-real (le_trans (le_of_eq (only-plus binary64 a size-mi)) size-pl)
    where
      only-plus : (f : Format) (x : Float) → mi f x ≡ 0 → mag f x ≡ pl f x
      only-plus f x z = let g = mag_is f x in omega arith

-- ---- `nearest_whole`
minus-fits' : (r : ℕ) → r ≤ 800000 → SFits w64 (neg_ℤ (pos r))
minus-fits' zero h = record { sfits = lit< tt }
minus-fits' (suc r) h = record { sfits = omega arith }

minus_is' : (r : ℕ) → r ≤ 800000 → pos 0 -ℤ to_z w64 r ≡ neg_ℤ (pos r)
minus_is' r h = ap (λ (z : ℤ). pos 0 -ℤ z) (to_z_pos w64 r (omega arith)) ∙ +ℤ_idl (neg_ℤ (pos r))

pub minus-fits : (r : ℕ) → r ≤ 800000 → SFits w64 (pos 0 -ℤ to_z w64 r)
minus-fits r h = subst (λ (z : ℤ). SFits w64 z) (sym (minus_is' r h)) (minus-fits' r h)

pub minus_is : (r : ℕ) → r ≤ 800000 → to_z w64 (of_z w64 (pos 0 -ℤ to_z w64 r)) ≡ neg_ℤ (pos r)
minus_is r h = to_z-of_z w64 (pos 0 -ℤ to_z w64 r) (minus-fits r h) ∙ minus_is' r h

neg-le : (f : Format) (x b : Float) → Real f x → Real f b → T (le (neg b) x) → T (le (neg x) b)
neg-le f x b r q h =
    let k = le→units f (neg b) x (neg-real f b q) r h in
    let bp = neg-pl f b q in
    let bm = neg-mi f b q in
    let xp = neg-pl f x r in
    let xm = neg-mi f x r in
    units→le f (neg x) b (neg-real f x r) q (omega arith)

below-zero : (f : Format) (x : Float) → Real f x → T (lt x nil) → T (le nil (neg x)) × (0 < mi f x)
below-zero f x r h =
    let k = lt→units f x nil r (nil-real f) h in
    let zp = nil-pl f in
    let zm = nil-mi f in
    let xp = neg-pl f x r in
    let xm = neg-mi f x r in
    (units→le f nil (neg x) (nil-real f) (neg-real f x r) (omega arith), omega arith)

not-below : (f : Format) (x : Float) → Real f x → T (not (lt x nil)) → T (le nil x)
not-below f x r h = units→le f nil x (nil-real f) r (nlt→units f x nil r (nil-real f) h)

module _ (p : Float) (fit : T (fits binary64 p)) (lo : T (le (neg limit) p)) (hi : T (le p limit)) where
  whole-real : Real binary64 p
  whole-real = record { finite = finite-between (neg limit) p limit (neg-real binary64 limit limit-whole.value).finite limit-whole.value.finite lo hi; fits = fit }

  pub turned : lt p nil ≡ true → T (le nil (neg p)) × T (le (neg p) limit)
  turned e = ((below-zero binary64 p whole-real (passes _ e)).0, neg-le binary64 p limit whole-real limit-whole.value lo)

  pub whole-minus : lt p nil ≡ true → nearest_whole p ≡ neg_ℤ (pos (nearest_away (num (neg p)) (den (neg p))))
  whole-minus e = nearest-minus binary64 p whole-real (below-zero binary64 p whole-real (passes _ e)).1

  pub kept : lt p nil ≡ false → T (le nil p)
  kept e = not-below binary64 p whole-real (fails _ e)

  pub whole-plus : lt p nil ≡ false → nearest_whole p ≡ pos (nearest_away (num p) (den p))
  whole-plus e = nearest-plus binary64 p whole-real (from_zero binary64 p whole-real (kept e))

-- ---- `counts`
abbrev counted : Float → Bool
counted v = in_range (neg greatest_counted) greatest_counted v

pub count-in : (v : Float) → counted v ≡ true → counts_call v ≡ value (nearest_whole (mul binary64 v counts_per_metre))
unfolding counts_call
count-in v e = rw e

pub count-out : (v : Float) → counted v ≡ false → counts_call v ≡ refused 12
unfolding counts_call
count-out v e = rw e

counted-real : Real binary64 greatest_counted
unfolding of_bits fits
counted-real = record { finite = tt; fits = tt }

ten-within : Within binary64 counts_per_metre counts_per_metre
unfolding of_bits fits pl mi mag
ten-within = record { value = record { finite = tt; fits = tt }; bound = record { finite = tt; fits = tt }; plus = refl; le = lit≤ tt }

product-limit : mul binary64 greatest_counted counts_per_metre ≡ limit
unfolding mul of_bits
product-limit = refl

product-finite : T (finite (mul binary64 greatest_counted counts_per_metre))
unfolding mul of_bits
product-finite = tt

module _ (v : Float) (fit : T (fits binary64 v)) (e : counted v ≡ true) where
  -- |v × 10,000| is at most 800,000, rounded too
  product-within : Within binary64 (mul binary64 v counts_per_metre) limit
  product-within =
      let lo : T (le (neg greatest_counted) v) = and_l (le (neg greatest_counted) v) (le v greatest_counted) (passes (counted v) e) in
      let hi : T (le v greatest_counted) = and_r (le (neg greatest_counted) v) (le v greatest_counted) (passes (counted v) e) in
      let r : Real binary64 v = record { finite = finite-between (neg greatest_counted) v greatest_counted (neg-real binary64 greatest_counted counted-real).finite counted-real.finite lo hi; fits = fit } in
      subst (λ (b : Float). Within binary64 (mul binary64 v counts_per_metre) b) product-limit (mul-within binary64 v counts_per_metre greatest_counted counts_per_metre (within-of_le binary64 v greatest_counted r counted-real lo hi) ten-within product-finite)

  pub product-in : T (le (neg limit) (mul binary64 v counts_per_metre)) × T (le (mul binary64 v counts_per_metre) limit)
  product-in = le_of-within binary64 (mul binary64 v counts_per_metre) limit product-within

  product-bound : nat_abs (nearest_whole (mul binary64 v counts_per_metre)) ≤ 800000
  product-bound = nearest-bound binary64 (mul binary64 v counts_per_metre) 800000 product-within.value (le_trans product-within.le (le_of_eq limit-whole.plus))

-- the count by the library's rounding and cast
pub count-rounded : (v : Float) → T (fits binary64 v) → counted v ≡ true → value (to_signed 63 (float_round binary64 (mul binary64 v counts_per_metre))) ≡ counts_call v
count-rounded v fit e = ap value (rounded_is (mul binary64 v counts_per_metre) (product-within v fit e).value.finite (product-bound v fit e)) ∙ sym (count-in v e)

-- a count is at most 800,000 either way
pub count-bounded : CountSizes
count-bounded v z fit e = go (counted v) refl
  where
    same : (y : ℤ) → counts_call v ≡ value y → z ≡ y
    same y h = cc

    apart : counts_call v ≡ refused 12 → ⊥
    apart h = cc

    go : (a : Bool) → counted v ≡ a → nat_abs z ≤ 800000
    go true a = le_trans (le_of_eq (ap nat_abs (same (nearest_whole (mul binary64 v counts_per_metre)) (count-in v a)))) (product-bound v fit a)
    go false a = absurd (apart (count-out v a))
