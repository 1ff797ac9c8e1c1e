-- Sine, cosine and tangent of some angles, computed by the definitions: each quarter, a negative angle, the end of the range and the next value beyond it.
use mathlib.Core.Path.{◌≡◌, refl}
use Prim.Native.Nat.{ℕ}
use lib.Ieee.{binary64, of_bits, of_int, neg, add, sub, mul, div, le}
use Rattle.arithmetic_sine.specs.Floor.{floor_of, quarter_of}
use Rattle.arithmetic_sine.specs.Sine.{in_sine_range, turn, turns, rest, factorial, quotient, horner, sine_kernel, cosine_kernel, sine_by, cosine_by, sine_of, cosine_of, tan_of}

-- the three values of an angle, as patterns
abbrev pub Gives : ℕ → ℕ → ℕ → ℕ → Type 0
Gives h s c t = (sine_of (of_bits binary64 h) ≡ of_bits binary64 s) × (cosine_of (of_bits binary64 h) ≡ of_bits binary64 c) × (tan_of (of_bits binary64 h) ≡ of_bits binary64 t)

pub examples :
    (Gives 0x3ff0_0000_0000_0000 0x3fea_ed54_8f09_0cee 0x3fe1_4a28_0fb5_068c 0x3ff8_eb24_5cbe_e3a5)
    × (Gives 0x4000_0000_0000_0000 0x3fed_18f6_ead1_b446 0xbfda_a226_5753_7205 0xc001_7af6_2e09_50f8)
    × (Gives 0x4008_0000_0000_0000 0x3fc2_1038_6db6_d55b 0xbfef_ae04_be85_e5d2 0xbfc2_3ef7_1254_b86f)
    × (Gives 0xbff0_0000_0000_0000 0xbfea_ed54_8f09_0cee 0x3fe1_4a28_0fb5_068c 0xbff8_eb24_5cbe_e3a5)
    × (Gives 0x4016_0000_0000_0000 0xbfe6_93c9_4e0a_b056 0x3fe6_ad6c_3c07_d448 0xbfef_dbd3_1615_b079)
    × (Gives 0x40c7_7000_0000_0000 0xbfe8_be64_4a31_033d 0x3fe4_4aa5_53a8_0feb 0xbff3_82b1_c81f_53b7)
    × (Gives 0x40c7_7000_0000_0001 0x7ff8_0000_0000_0000 0x7ff8_0000_0000_0000 0x7ff8_0000_0000_0000)
unfolding in_sine_range turn turns rest factorial quotient horner sine_kernel cosine_kernel sine_by cosine_by sine_of cosine_of tan_of floor_of quarter_of of_bits of_int neg add sub mul div le
examples = ((refl, refl, refl), (refl, refl, refl), (refl, refl, refl), (refl, refl, refl), (refl, refl, refl), (refl, refl, refl), (refl, refl, refl))
