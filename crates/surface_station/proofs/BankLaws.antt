-- The bank of a road without banks.
use mathlib.Core.Path.{◌≡◌, refl}
use mathlib.Core.List.{List}
use lib.ListN.{length}
use lib.Ieee.{Float, of_bits, of_int, neg, add, sub, mul, div, le}
use Rattle.float_laws.specs.Binary64.{zero64}
use Rattle.arithmetic_sine.specs.Floor.{floor_of, quarter_of}
use Rattle.arithmetic_sine.specs.Sine.{in_sine_range, turn, turns, rest, factorial, quotient, horner, sine_kernel, cosine_kernel, one, sine_by, cosine_by, sine_of, cosine_of, sin_cos_of}
use Rattle.records_cubic.specs.declared.cubics.Cubic.{Cubic}
use Rattle.records.specs.Active.{last_start, active_in, value_in}

sine-zero : sine_of zero64 ≡ zero64
unfolding in_sine_range turn turns rest factorial quotient horner sine_kernel cosine_kernel sine_by cosine_by sine_of cosine_of floor_of quarter_of of_bits of_int neg add sub mul div le
sine-zero = refl

cosine-zero : cosine_of zero64 ≡ one
unfolding in_sine_range turn turns rest factorial quotient horner sine_kernel cosine_kernel sine_by cosine_by sine_of cosine_of floor_of quarter_of of_bits of_int neg add sub mul div le
cosine-zero = refl

none-active : (cs : List Cubic) (s : Float) → length cs ≡ 0 → value_in cs s ≡ zero64
unfolding value_in active_in last_start
none-active cs s e = rw e

pub no_bank : (cs : List Cubic) (s : Float) → length cs ≡ 0 → record { sin = zero64; cos = one } ≡ sin_cos_of (value_in cs s)
no_bank cs s e = rw (none-active cs s e, sine-zero, cosine-zero)
