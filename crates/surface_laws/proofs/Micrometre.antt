-- Document 01, demand 3 on locate: a miss under 0.0000009, as computed, leaves an exact distance under 0.000001. The room between the two is a tenth, the errors are some parts in 2^53.
use mathlib.Core.Path.{◌≡◌, refl}
use lib.Dec.{T, lit<}
use lib.Ieee.{Float, binary64, fits, lt, of_bits}
use Rattle.float_laws.specs.Binary64.{◌⊖◌}
use Rattle.float_laws.proofs.Value.{pl, mi, Real}
use Rattle.arithmetic.specs.Root.{hypot_of}
use Rattle.surface_locate.specs.Meeting.{meeting}
use Rattle.arithmetic_distance.proofs.MissLaws.{Under, IsRoomy, miss-under}

meeting-real : Real binary64 meeting
unfolding of_bits fits
meeting-real = record { finite = tt; fits = tt }

meeting-plus : mi binary64 meeting ≡ 0
unfolding of_bits mi
meeting-plus = refl

meeting-roomy : IsRoomy binary64 meeting 1000000000000
unfolding of_bits pl
meeting-roomy = lit< tt

-- Target x, y and a place px, py: "the sum of the squares of target x less x and target y less y, all exact", under the square of 0.000001: in units, 2^1074 to 1, times 10^12 under 1.
-- px and py come out finite; only that they are f64 is asked of them.
pub micrometre : (px x py y : Float) → T (fits binary64 px) → T (fits binary64 py) → Real binary64 x → Real binary64 y → T (lt (hypot_of (px ⊖ x) (py ⊖ y)) meeting) → Under binary64 px x py y 1000000000000
unfolding hypot_of
micrometre px x py y fpx fpy rx ry h = miss-under binary64 px x py y meeting fpx fpy rx ry meeting-real h meeting-plus 1000000000000 meeting-roomy
