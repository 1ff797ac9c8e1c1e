-- The answers of `magnitude`, one law for each range of the exponent's field: `case-none` to 872 (under half the smallest f32), `case-low` to 896 (subnormal), `case-high` to 1150, `case-top` beyond. Each gives the record `NarrowsTo`,
-- which holds for either sign; then the sign's bit and the fields of a value's own pattern.
use mathlib.Core.Path.{◌≡◌, refl, ap, ◌∙◌, subst}
use mathlib.Core.Bool.{Bool, true, false, cond, not}
use Prim.Native.Nat.{ℕ, zero, suc, ◌+◌, ◌-◌, ◌*◌, ◌/◌, ◌%◌, ◌^◌, ◌≤◌, ◌<◌}
use native.Mathlib.Nat.{le_antisymm, le_of_suc-le-suc, le_trans, add_comm}
use native.Mathlib.Omega.{arith}
use lib.Ieee.{Float, nan, inf, fin, binary32, binary64, of_fields, of_bits, to_bits, nan_bits, is_nan, fits}
use lib.Ieee.Bits.{of_bits-to_bits, to_bits-lt, nan_bits_is, nan_bits_above, is_false}
use lib.Dec.{T, leb, ltb, eqb}
use borrow.Author.Tests.{leb-true, leb-false, eq-eqb, eqb-true, not-false, le-ltb, ltb-true, ltb-false}
use lib.Ieee.Nearest.{closest}
use lib.Ieee.Exact.{HasValue}
use Rattle.arithmetic.specs.Narrow.{infinity32, narrowed, NarrowsTo}
use Rattle.arithmetic.proofs.Fields.{value-fields, value_low, of-fields}
use Rattle.arithmetic.proofs.NarrowBits.{low_bits, none-bits, high_bits, over-bits, closest-le}
use Rattle.float_laws.proofs.Pattern.{infinite}

value-normal : (s : Bool) (x t : ℕ) → x < 2046 → HasValue (of_fields binary64 s (suc x) t) s ((2 ^ 52 + t) * 2 ^ x) (2 ^ 1074)
value-normal s x t h = value-fields binary64 s x t (λ (e : suc x ≡ 2047). omega arith)

pub case-none : (field frac : ℕ) → field < 873 → frac < 2 ^ 52 → NarrowsTo field frac 0
case-none zero frac h b = record { small = omega arith; is = λ s. none-bits s _ frac 0 925 (value_low binary64 s frac) (omega arith) (omega arith) (omega arith) }
case-none (suc x) frac h b =
    record { small = omega arith; is = λ s. none-bits s _ (2 ^ 52 + frac) x (925 - x) (value-normal s x frac (omega arith)) (omega arith) (omega arith) (omega arith) }

pub case-low : (field frac r : ℕ) → 873 ≤ field → field < 897 → frac < 2 ^ 52 → r ≡ closest (frac + 2 ^ 52) (2 ^ (926 - field)) → NarrowsTo field frac r
case-low zero frac r g h b e = absurd (omega arith)
case-low (suc x) frac r g h b e =
    let t : frac + 2 ^ 52 ≡ 2 ^ 52 + frac = add_comm frac (2 ^ 52) in
    let f : r ≡ closest (2 ^ 52 + frac) (2 ^ (926 - suc x)) = rw t at e in
    let l = closest-le (2 ^ 52 + frac) (926 - suc x) (omega arith) (omega arith) in
    record {
      small = rw f (le_trans l (omega arith));
      is = λ s. rw f (low_bits s _ (2 ^ 52 + frac) x (926 - suc x) (value-normal s x frac (omega arith)) (omega arith) (omega arith) (omega arith));
    }

pub case-high : (field frac q : ℕ) → 897 ≤ field → field ≤ 1150 → frac < 2 ^ 52 → q ≡ closest (frac + 2 ^ 52) (2 ^ 29) → NarrowsTo field frac ((field - 897) * 2 ^ 23 + q)
case-high zero frac q g h b e = absurd (omega arith)
case-high (suc x) frac q g h b e =
    let t : frac + 2 ^ 52 ≡ 2 ^ 52 + frac = add_comm frac (2 ^ 52) in
    let f : q ≡ closest (2 ^ 52 + frac) (2 ^ 29) = rw t at e in
    let l = closest-le (2 ^ 52 + frac) 29 (omega arith) (omega arith) in
    let k = suc x - 897 in
    let y : x ≡ 896 + k = omega arith in
    record {
      small = let m : q ≤ 2 ^ 24 = rw f l in omega arith;
      is = λ s.
          let v = subst (λ (z : ℕ). HasValue (of_fields binary64 s (suc x) frac) s ((2 ^ 52 + frac) * 2 ^ z) (2 ^ 1074)) y (value-normal s x frac (omega arith)) in
          rw f (high_bits s _ (2 ^ 52 + frac) k v (omega arith) (omega arith) (omega arith));
    }

case-over : (field frac : ℕ) → 1150 < field → field < 2047 → frac < 2 ^ 52 → NarrowsTo field frac infinity32
case-over zero frac g h b = absurd (omega arith)
case-over (suc x) frac g h b =
    let k = suc x - 897 in
    let y : x ≡ 896 + k = omega arith in
    record {
      small = omega arith;
      is = λ s.
          let v = subst (λ (z : ℕ). HasValue (of_fields binary64 s (suc x) frac) s ((2 ^ 52 + frac) * 2 ^ z) (2 ^ 1074)) y (value-normal s x frac (omega arith)) in
          over-bits s _ (2 ^ 52 + frac) k v (omega arith) (omega arith) (omega arith);
    }

case-inf : (field frac : ℕ) → field ≡ 2047 → frac ≡ 0 → NarrowsTo field frac infinity32
unfolding narrowed of_fields
case-inf field frac e f = record { small = omega arith; is = λ s. rw (e, f) (infinite binary32 s ∙ of_inf s) }
  where
    of_inf : (s : Bool) → inf s ≡ narrowed (of_fields binary64 s 2047 0)
    of_inf s = refl

-- too large for an f32, or the infinity itself
pub case-top : (field frac : ℕ) → 1150 < field → field < 2048 → frac < 2 ^ 52 → (field ≡ 2047 → frac ≡ 0) → NarrowsTo field frac infinity32
case-top field frac g h b z = go (ltb field 2047) refl
  where
    go : (t : Bool) → ltb field 2047 ≡ t → NarrowsTo field frac infinity32
    go true e = case-over field frac g (ltb-true field 2047 e) b
    go false e = let i : field ≡ 2047 = le_antisymm (le_of_suc-le-suc h) (ltb-false field 2047 e) in case-inf field frac i (z i)

-- ---- the sign, and the two fields of a value's own pattern

pub nan-narrows : (x : Float) → is_nan x ≡ true → nan ≡ narrowed x
unfolding narrowed is_nan
nan-narrows nan h = refl
nan-narrows (inf s) h = cc
nan-narrows (fin s m e) h = cc

sign-is : (b : ℕ) → b < 2 ^ 64 → b / 2 ^ 63 * 2 ^ 31 ≡ cond (leb (2 ^ 63) b) (2 ^ 31) 0
sign-is b h = go (leb (2 ^ 63) b) refl
  where
    go : (t : Bool) → leb (2 ^ 63) b ≡ t → b / 2 ^ 63 * 2 ^ 31 ≡ cond t (2 ^ 31) 0
    go true e = let l = leb-true (2 ^ 63) b e in omega arith
    go false e = let l = leb-false (2 ^ 63) b e in omega arith

module _ (x : Float) (fit : T (fits binary64 x)) (no : T (not (is_nan x))) where
  -- a pattern is a word of 64 bits
  pub bits-lt : to_bits binary64 x < 2 ^ 64
  bits-lt = to_bits-lt binary64 x fit

  -- a field of ones has no fraction, for x is no NaN
  pub no_payload : to_bits binary64 x % 2 ^ 63 / 2 ^ 52 ≡ 2047 → to_bits binary64 x % 2 ^ 52 ≡ 0
  unfolding nan_bits
  no_payload e =
      let n = to_bits binary64 x in
      let q : nan_bits binary64 n ≡ false = nan_bits_is binary64 n ∙ ap is_nan (of_bits-to_bits binary64 x fit) ∙ is_false (is_nan x) no in
      let p : not (eqb (n % 2 ^ 52) 0) ≡ false = rw (eq-eqb _ _ e) at q in
      eqb-true (n % 2 ^ 52) 0 (not-false (eqb (n % 2 ^ 52) 0) p)

  -- the sign's bit put on
  pub narrow-is : (r : ℕ) → NarrowsTo (to_bits binary64 x % 2 ^ 63 / 2 ^ 52) (to_bits binary64 x % 2 ^ 52) r → of_bits binary32 (to_bits binary64 x / 2 ^ 63 * 2 ^ 31 + r) ≡ narrowed x
  narrow-is r h =
      let n = to_bits binary64 x in
      rw (sign-is n bits-lt) (h.is (leb (2 ^ 63) n) ∙ ap narrowed (of-fields binary64 x fit))

  -- and the pattern is no NaN's
  pub narrow-small : (r : ℕ) → r ≤ infinity32 → T (not (nan_bits binary32 (to_bits binary64 x / 2 ^ 63 * 2 ^ 31 + r)))
  narrow-small r h =
      let n = to_bits binary64 x in
      let l = bits-lt in
      let m : (n / 2 ^ 63 * 2 ^ 31 + r) % 2 ^ 31 ≤ infinity32 = omega arith in
      rw (nan_bits_above, le-ltb _ _ m) tt
