-- A value's pattern as its sign, exponent's field and fraction, at any format, and the value that these stand for: m * 2 ^ j smallest values, with the leading digit put on where the field is not 0.
-- Root and narrowing both start here.
use mathlib.Core.Path.{◌≡◌}
use mathlib.Core.Bool.{Bool}
use Prim.Native.Nat.{ℕ, suc, ◌+◌, ◌*◌, ◌/◌, ◌%◌, ◌^◌}
use lib.Dec.{T, leb}
use lib.Ieee.{Float, Format, prec, low, of_fields, of_bits, to_bits, fits, hid, ones, top}
use lib.Ieee.Exact.{HasValue, odd_sign}
use lib.Ieee.Bits.{of_bits-to_bits}
use borrow.Author.Tests.{ne_eqb}

-- ---- what fields stand for

-- a normal value's
pub value-fields : (f : Format) (s : Bool) (x t : ℕ) → (suc x ≡ ones f → ⊥) → HasValue (of_fields f s (suc x) t) s ((hid f + t) * 2 ^ x) (2 ^ low f)
unfolding of_fields
value-fields f s x t n = rw (ne_eqb (suc x) (ones f) n) (odd_sign (prec f) s (hid f + t) x (low f))

-- a subnormal's, and a zero's
pub value_low : (f : Format) (s : Bool) (t : ℕ) → HasValue (of_fields f s 0 t) s (t * 2 ^ 0) (2 ^ low f)
unfolding of_fields
value_low f s t = odd_sign (prec f) s t 0 (low f)

-- ---- the fields of a value's own pattern

module _ (f : Format) (x : Float) (fit : T (fits f x)) where
  -- the sign, field and fraction of a value's own pattern stand for it
  pub of-fields : of_fields f (leb (top f) (to_bits f x)) (to_bits f x % top f / hid f) (to_bits f x % hid f) ≡ x
  unfolding of_bits
  of-fields = of_bits-to_bits f x fit
