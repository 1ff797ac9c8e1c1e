-- A constant is written by its pattern. What its units are, and what two constants keep to, is told by their patterns: the tests compute with nothing unfolded, so that `tt` proves them.
use Prim.Native.Nat.{ℕ, zero, suc, ◌+◌, ◌*◌, ◌/◌, ◌%◌, ◌^◌, ◌≤◌, ◌<◌}
use native.Mathlib.Nat.{mod-eq_of_lt}
use native.Mathlib.Omega.{arith}
use mathlib.Core.Path.{◌≡◌, refl, sym, subst}
use mathlib.Core.Bool.{Bool, false, ◌&&◌}
use lib.Dec.{T, leb, leb→le, ltb→lt}
use lib.Ieee.{binary64, prec, low, hid, ones, top, odd, of_fields, of_bits}
use lib.Ieee.Bits.{of_bits-fits}
use lib.Ieee.Exact.{HasValue, odd_sign}
use lib.Ieee.Fits.{and_l, and_r}
use borrow.Author.Numbers.{plain, units_of, worth}
use borrow.Author.Tests.{ne_eqb, lt-leb}
use Rattle.float_laws.proofs.Value.{Real, sign, mag, pl, mi, mag_of}
use Rattle.float_laws.proofs.Size.{Within}

fields-value : (x t : ℕ) → x < ones binary64 → HasValue (of_fields binary64 false x t) false (units_of binary64 x t) (2 ^ low binary64)
unfolding of_fields
fields-value zero t h = subst (λ (a : ℕ). HasValue (odd (prec binary64) false t 0 (low binary64)) false a (2 ^ low binary64)) (let e : t * 2 ^ 0 ≡ t = omega arith in e) (odd_sign (prec binary64) false t 0 (low binary64))
fields-value (suc x) t h = rw (ne_eqb (suc x) (ones binary64) (omega arith)) (odd_sign (prec binary64) false (hid binary64 + t) x (low binary64))

-- a finite value's pattern, without a sign
module _ (b : ℕ) (p : T (plain binary64 b)) where
  value : HasValue (of_bits binary64 b) false (worth binary64 b) (2 ^ low binary64)
  unfolding of_bits
  value =
      let h : b < ones binary64 * hid binary64 = ltb→lt b _ p in
      let g : b < top binary64 = omega arith in
      subst (λ (s : Bool). HasValue (of_fields binary64 s (b % top binary64 / hid binary64) (b % hid binary64)) false (worth binary64 b) (2 ^ low binary64)) (sym (lt-leb (top binary64) b g))
      (subst (λ (n : ℕ). HasValue (of_fields binary64 false (n / hid binary64) (b % hid binary64)) false (worth binary64 b) (2 ^ low binary64)) (sym (mod-eq_of_lt g))
      (fields-value (b / hid binary64) (b % hid binary64) (omega arith)))

  size_is : mag binary64 (of_bits binary64 b) ≡ worth binary64 b
  size_is = (mag_of binary64 (of_bits binary64 b) false (worth binary64 b) value).1

  sign_is : sign (of_bits binary64 b) ≡ false
  sign_is = (mag_of binary64 (of_bits binary64 b) false (worth binary64 b) value).2

  pub const-real : Real binary64 (of_bits binary64 b)
  const-real = record { finite = (mag_of binary64 (of_bits binary64 b) false (worth binary64 b) value).0; fits = of_bits-fits binary64 b }

  pub const-plus : mi binary64 (of_bits binary64 b) ≡ 0
  unfolding mi
  const-plus = rw sign_is refl

  pub const-units : pl binary64 (of_bits binary64 b) ≡ worth binary64 b
  unfolding pl
  const-units = rw sign_is size_is

pub const-at_most : (b n : ℕ) → T (plain binary64 b && leb (worth binary64 b) n) → pl binary64 (of_bits binary64 b) ≤ n
const-at_most b n t = rw (const-units b (and_l (plain binary64 b) _ t)) (leb→le _ _ (and_r (plain binary64 b) _ t))

pub const-at_least : (b n : ℕ) → T (plain binary64 b && leb n (worth binary64 b)) → n ≤ pl binary64 (of_bits binary64 b)
const-at_least b n t = rw (const-units b (and_l (plain binary64 b) _ t)) (leb→le _ _ (and_r (plain binary64 b) _ t))

pub const-within : (a b : ℕ) → T ((plain binary64 a && plain binary64 b) && leb (worth binary64 a) (worth binary64 b)) → Within binary64 (of_bits binary64 a) (of_bits binary64 b)
const-within a b t =
    let p = and_l (plain binary64 a && plain binary64 b) _ t in
    let u = and_l (plain binary64 a) _ p in
    let v = and_r (plain binary64 a) _ p in
    record { value = const-real a u; bound = const-real b v; plus = const-plus b v; le = rw (size_is a u, const-units b v) (leb→le _ _ (and_r (plain binary64 a && plain binary64 b) _ t)) }
