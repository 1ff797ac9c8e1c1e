-- The three axes on numbers that show what each is: heading 0, so along lies over x, across over y, and up between z and them. By computation, each operation rounded once.
use mathlib.Core.Path.{◌≡◌, refl}
use lib.Ieee.{Float, of_bits, add, sub, mul, div, le, lt, eq, neg}
use Rattle.float_laws.specs.Binary64.{f64, zero64}
use Rattle.arithmetic.specs.Root.{root_of}
use Rattle.arithmetic_sine.specs.declared.sine.SinCos.{SinCos}
use Rattle.surface_station.specs.declared.axis.Axis.{Axis}
use Rattle.surface_station.specs.declared.axis.Axes.{Axes}
use Rattle.surface_station.specs.Axes.{cross_of, unit_of, along_by, up_by, axes_by}

abbrev one : Float
one = f64 0x3ff0_0000_0000_0000

-- an angle of 0
abbrev level : SinCos
level = record { sin = zero64; cos = one }

-- 0.6 and 0.8, as sine and cosine of a bank to the left
abbrev sin_b : Float
sin_b = f64 0x3fe3_3333_3333_3333

abbrev cos_b : Float
cos_b = f64 0x3fe9_9999_9999_999a

abbrev left : SinCos
left = record { sin = sin_b; cos = cos_b }

abbrev axis : Float → Float → Float → Axis
axis x y z = record { x = x; y = y; z = z }

-- grade 0: across rises to the left by the bank, up leans to the right by it
banked : ◌≡◌ {A = Axes} (axes_by level zero64 left) (record { along = axis one zero64 zero64; across = axis (neg zero64) cos_b sin_b; up = axis zero64 (neg sin_b) cos_b })
unfolding of_bits add sub mul div le lt eq neg root_of cross_of unit_of along_by up_by axes_by
banked = refl

-- bank 0, grade 0.75: along is (0.8, 0, 0.6), up is (-0.6, 0, 0.8)
graded : (along_by level (f64 0x3fe8_0000_0000_0000) ≡ axis cos_b zero64 sin_b) × (up_by level (f64 0x3fe8_0000_0000_0000) level ≡ axis (neg sin_b) (neg zero64) cos_b)
unfolding of_bits add sub mul div le lt eq neg root_of cross_of unit_of along_by up_by
graded = (refl, refl)

-- both: "normalising the second axis" would give each of its numbers another last bit
across-as_it_is : (axes_by level one left).across ≡ axis (f64 0xbfd5_33ee_2cb4_41b8) (f64 0x3fec_453d_90f0_57a1) (f64 0x3fd5_33ee_2cb4_41b8)
unfolding of_bits add sub mul div le lt eq neg root_of cross_of unit_of along_by up_by axes_by
across-as_it_is = refl
