-- Heights across a lane whose heights at its borders are within 840: they are within 841, at every t in -80..80 with the fraction kept to 0..1, and between the lane's borders, both included, with the fraction as it comes out.
-- Past the borders there is no such bound for the second: over a tiny width the fraction may be as large as any number. The interpolation law takes a fraction in 0..1; the fractions are those of Quotients.
use mathlib.Core.Path.{◌≡◌, refl}
use mathlib.Core.Logic.{inl, inr}
use mathlib.Core.Bool.{Bool, true, false, not, cond}
use Prim.Native.Nat.{ℕ, ◌+◌, ◌*◌, ◌^◌, ◌≤◌, ◌<◌, zero-le}
use native.Mathlib.Nat.{le_of_eq, le_antisymm, mul-le-mul_right}
use native.Mathlib.Omega.{arith}
use lib.Dec.{T, lit≤, lit<}
use lib.Ieee.{Float, nan, inf, fin, Format, binary64, low, le, lt, eq, neg, add, fits, is_nan, of_bits}
use lib.Ieee.Fits.{div-fits}
use lib.Ieee.Scale.{finite}
use Rattle.std.proofs.lemmas.Float.{le_trans as float_trans}
use Rattle.float_laws.specs.Binary64.{◌⊕◌, ◌⊖◌, ◌⊘◌, f64, zero64}
use Rattle.float_laws.proofs.Value.{mag, pl, mi, Real, one_side, nlt→units}
use Rattle.float_laws.proofs.Interval.{in-of_le}
use Rattle.float_laws.proofs.Size.{Within, within-of_le, le_of-within, sub_within}
use Rattle.float_laws.proofs.Whole.{Whole, not-zero}
use Rattle.float_laws.proofs.Interpolate.{interpolate-within}
use Rattle.arithmetic_sine.specs.Sine.{one}
use Rattle.admission_laws.proofs.Fitting.{Fits64}
use Rattle.arithmetic_ranges.specs.Ranges.{blend}
use Rattle.lanes_laws.proofs.Fractions.{Fraction}
use Rattle.lanes_heights.specs.declared.across.Across.{Across}
use Rattle.lanes_heights.specs.HeightAcross.{fraction_at, kept, height_across, height_within}
use Rattle.lanes_borders.proofs.Outward.{Ahead}
use Rattle.lanes_borders.proofs.BorderLaws.{eighty, zero-whole}
use Rattle.lanes_laws.proofs.BorderHeights.{border-most}
use Rattle.lanes_laws.proofs.Quotients.{div-number, rising, falling}

-- a lane across: its borders within 80, its heights there within 840
pub record LaneKept (a : Across) : Type 0 where
  pub of_inner_t : Within binary64 a.inner_t eighty
  pub of_outer_t : Within binary64 a.outer_t eighty
  pub of_inner_height : Within binary64 a.inner_height border-most
  pub of_outer_height : Within binary64 a.outer_height border-most

-- ---- the constants

-- 841
abbrev pub across-most : Float
across-most = f64 0x408a_4800_0000_0000

across-whole : Whole binary64 across-most 841 0
unfolding of_bits fits pl mi
across-whole = record { value = record { finite = tt; fits = tt }; plus = refl; minus = refl }

border-size : pl binary64 border-most ≤ 2 ^ 1084
unfolding of_bits pl
border-size = lit≤ tt

across-room : pl binary64 border-most + 3 * 2 ^ 1031 ≤ pl binary64 across-most
unfolding of_bits pl
across-room = lit≤ tt

twice-eighty : T (finite (eighty ⊕ eighty))
unfolding of_bits add
twice-eighty = tt

one-whole : Whole binary64 one 1 0
unfolding of_bits fits pl mi
one-whole = record { value = record { finite = tt; fits = tt }; plus = refl; minus = refl }

-- ---- fractions in 0..1

whole-inside : (f : Format) (x : Float) (p : ℕ) → Whole f x p 0 → p ≤ 1 → Fraction f x 0
whole-inside f x p w h =
    let e = w.plus in
    let m = w.minus in
    let l : p * 2 ^ low f ≤ 1 * 2 ^ low f = mul-le-mul_right (2 ^ low f) h in
    record { value = w.value; below = omega arith; above = omega arith }

-- x not below z, which is 0, and not above o, which is 1
between-inside : (f : Format) (z o x : Float) → Whole f z 0 0 → Whole f o 1 0 → Real f x → pl f z + mi f x ≤ pl f x + mi f z → pl f x + mi f o ≤ pl f o + mi f x → Fraction f x 0
between-inside f z o x wz wo r h k =
    let zp = wz.plus in
    let zm = wz.minus in
    let op = wo.plus in
    let om = wo.minus in
    let e : mi f x ≡ 0 = elim (one_side f x) [ inl e ↦ omega arith | inr e ↦ e ] in
    record { value = r; below = le_of_eq e; above = omega arith }

zero-inside : Fraction binary64 zero64 0
zero-inside = whole-inside binary64 zero64 0 zero-whole zero-le

zero_number : T (not (is_nan zero64))
unfolding of_bits is_nan
zero_number = tt

one_inside : Fraction binary64 one 0
one_inside = whole-inside binary64 one 1 one-whole (lit≤ tt)

-- "kept to 0..1"
kept-inside : (x : Float) → Fits64 x → T (not (is_nan x)) → Fraction binary64 (kept x) 0
unfolding is_nan lt of_bits
kept-inside nan f n = absurd n
kept-inside (inf true) f n = zero-inside
kept-inside (inf false) f n = one_inside
kept-inside (fin s m e) f n = up (lt x zero64) (nlt→units binary64 x zero64 r zero-whole.value)
  where
    x : Float
    x = fin s m e

    r : Real binary64 x
    r = record { finite = tt; fits = f }

    up : (b : Bool) → (T (not b) → pl binary64 zero64 + mi binary64 x ≤ pl binary64 x + mi binary64 zero64) → Fraction binary64 (cond (lt one (cond b zero64 x)) one (cond b zero64 x)) 0
    up true h = zero-inside
    up false h = down (lt one x) (nlt→units binary64 one x one-whole.value r)
      where
        down : (c : Bool) → (T (not c) → pl binary64 x + mi binary64 one ≤ pl binary64 one + mi binary64 x) → Fraction binary64 (cond c one x) 0
        down true k = one_inside
        down false k = between-inside binary64 zero64 one x zero-whole one-whole r (h tt) (k tt)

module _ (a : Across) (w : LaneKept a) (t : Float) (wt : Within binary64 t eighty) where
  from_inner : Within binary64 (t ⊖ a.inner_t) (eighty ⊕ eighty)
  from_inner = sub_within binary64 t a.inner_t eighty eighty wt w.of_inner_t twice-eighty

  width : Within binary64 (a.outer_t ⊖ a.inner_t) (eighty ⊕ eighty)
  width = sub_within binary64 a.outer_t a.inner_t eighty eighty w.of_outer_t w.of_inner_t twice-eighty

  -- a width that the test for zero lets through
  wide : T (not (eq (a.outer_t ⊖ a.inner_t) zero64)) → 0 < mag binary64 (a.outer_t ⊖ a.inner_t)
  unfolding of_bits
  wide n = not-zero binary64 (a.outer_t ⊖ a.inner_t) width.value n

  -- the fraction is 0, or its quotient where the width is not zero
  fraction-by : (P : Float → Type 0) → P zero64 → (0 < mag binary64 (a.outer_t ⊖ a.inner_t) → P ((t ⊖ a.inner_t) ⊘ (a.outer_t ⊖ a.inner_t))) → P (fraction_at a t)
  fraction-by P p q = go (eq (a.outer_t ⊖ a.inner_t) zero64) (λ n. n)
    where
      go : (b : Bool) → (T (not b) → T (not (eq (a.outer_t ⊖ a.inner_t) zero64))) → P (cond b zero64 ((t ⊖ a.inner_t) ⊘ (a.outer_t ⊖ a.inner_t)))
      go true n = p
      go false n = q (wide (n tt))

  kept-fraction : Fraction binary64 (kept (fraction_at a t)) 0
  kept-fraction =
      fraction-by (λ (x : Float). Fraction binary64 (kept x) 0) (kept-inside zero64 zero-whole.value.fits zero_number)
      (λ h.
      kept-inside ((t ⊖ a.inner_t) ⊘ (a.outer_t ⊖ a.inner_t)) (div-fits binary64 (t ⊖ a.inner_t) (a.outer_t ⊖ a.inner_t))
      (div-number binary64 (t ⊖ a.inner_t) (a.outer_t ⊖ a.inner_t) from_inner.value width.value h))

  between-fraction : (down : Bool) → Ahead down a.inner_t t → Ahead down t a.outer_t → Fraction binary64 (fraction_at a t) 0
  between-fraction down p q = fraction-by (λ (x : Float). Fraction binary64 x 0) zero-inside (λ h. go down p q h)
    where
      go : (down : Bool) → Ahead down a.inner_t t → Ahead down t a.outer_t → 0 < mag binary64 (a.outer_t ⊖ a.inner_t) → Fraction binary64 ((t ⊖ a.inner_t) ⊘ (a.outer_t ⊖ a.inner_t)) 0
      go false p q h = rising binary64 a.inner_t a.outer_t t w.of_inner_t.value w.of_outer_t.value wt.value from_inner.value width.value h p q
      go true p q h = falling binary64 a.inner_t a.outer_t t w.of_inner_t.value w.of_outer_t.value wt.value from_inner.value width.value h q p

-- ---- the heights

blend-most : (a b t : Float) → Within binary64 a border-most → Within binary64 b border-most → Fraction binary64 t 0 → Within binary64 (blend a b t) across-most
blend-most a b t wa wb f =
    interpolate-within binary64 a b t border-most across-most 1084 wa wb f.value (le_antisymm f.below zero-le) f.above border-size (lit< tt) across-whole.value across-whole.minus across-room

-- "the fraction across that lane kept to 0..1", at every t in -80..80
pub within-most : (a : Across) → LaneKept a → (t : Float) → Within binary64 t eighty → Within binary64 (height_within a t) across-most
unfolding height_within
within-most a w t wt = blend-most a.inner_height a.outer_height (kept (fraction_at a t)) w.of_inner_height w.of_outer_height (kept-fraction a w t wt)

-- t between two values within 80
from_to-eighty : (x y t : Float) → Within binary64 x eighty → Within binary64 y eighty → Fits64 t → T (le x t) → T (le t y) → Within binary64 t eighty
from_to-eighty x y t wx wy f p q =
    let r = (in-of_le binary64 x y t wx.value wy.value f p q).value in
    within-of_le binary64 t eighty r wx.bound
    (float_trans (neg eighty) x t (le_of-within binary64 x eighty wx).0 p)
    (float_trans t y eighty q (le_of-within binary64 y eighty wy).1)

between-eighty : (down : Bool) (x y t : Float) → Within binary64 x eighty → Within binary64 y eighty → Fits64 t → Ahead down x t → Ahead down t y → Within binary64 t eighty
between-eighty false x y t wx wy f p q = from_to-eighty x y t wx wy f p q
between-eighty true x y t wx wy f p q = from_to-eighty y x t wy wx f q p

-- "where t lies between that lane's inner and outer at s, both included"
pub between-most : (a : Across) → LaneKept a → (down : Bool) (t : Float) → Fits64 t → Ahead down a.inner_t t → Ahead down t a.outer_t → Within binary64 (height_across a t) across-most
unfolding height_across
between-most a w down t f p q =
    let wt = between-eighty down a.inner_t a.outer_t t w.of_inner_t w.of_outer_t f p q in
    blend-most a.inner_height a.outer_height (fraction_at a t) w.of_inner_height w.of_outer_height (between-fraction a w t wt down p q)
