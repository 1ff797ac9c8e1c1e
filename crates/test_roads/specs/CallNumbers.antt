-- What the calls of the surface layer answer, as a row of ten numbers. Read `call_numbers` first.
use Rattle.std.specs.Prelude.{ℕ, ◌/◌, ◌%◌, ◌^◌, Bool, true, false, cond, List, [], ◌∷◌, ℤ, pos, negsuc, ◌==◌, from_bits, Float, Option, Some, None}
use Rattle.std.specs.Float.{binary64}
use Rattle.std.specs.Float.Ieee.{of_int}
use Rattle.float_laws.specs.Binary64.{f64, zero64}
use Rattle.refusals.specs.Answer.{Answer, value, refused}
use Rattle.records.specs.declared.points.RefPoint.{RefPoint}
use Rattle.surface_station.specs.declared.axis.Axes.{Axes as ThreeAxes}
use Rattle.surface_points.specs.declared.points.SurfacePoint32.{SurfacePoint32}
use Rattle.surface_calls.specs.SurfaceCalls.{station_call, axes_call, surface_call, lane_surface_call}
use Rattle.surface_locate.specs.declared.points.Position.{Position}
use Rattle.surface_calls.specs.LocateCall.{locate_call}
use Rattle.test_roads.specs.declared.calls.Call.{Call}
use Rattle.test_roads.specs.declared.calls.Call.TheVariants.{Station, Axes, Surface, LaneSurface, Locate}

-- a whole number, as it is
abbrev pub whole_number : ℕ → Float
whole_number n = of_int binary64 (pos n)

abbrev pub four_zeros : List Float
four_zeros = zero64 ∷ zero64 ∷ zero64 ∷ zero64 ∷ []

-- the number of a refusal, then zeros
abbrev pub refusal_numbers : ℕ → List Float
refusal_numbers n = whole_number n ∷ zero64 ∷ zero64 ∷ zero64 ∷ zero64 ∷ zero64 ∷ four_zeros

-- 0 and the nine numbers of a value
abbrev pub row_of : Answer (List Float) → List Float
row_of (value numbers) = zero64 ∷ numbers
row_of (refused n) = refusal_numbers n

-- the row of a call by the numbers of its value
abbrev pub ten_numbers : {A : Type 0} → (A → List Float) → Answer A → List Float
ten_numbers numbers (value a) = row_of (value (numbers a))
ten_numbers numbers (refused n) = row_of (refused n)

-- ---- the nine numbers

abbrev pub station_numbers : RefPoint → List Float
station_numbers p = p.s ∷ p.x ∷ p.y ∷ p.heading ∷ p.z ∷ p.grade ∷ p.bank ∷ p.bank_rate ∷ zero64 ∷ []

abbrev pub axes_numbers : ThreeAxes → List Float
axes_numbers a = a.along.x ∷ a.along.y ∷ a.along.z ∷ a.across.x ∷ a.across.y ∷ a.across.z ∷ a.up.x ∷ a.up.y ∷ a.up.z ∷ []

abbrev pub point_numbers : SurfacePoint32 → List Float
point_numbers p = p.point.x ∷ p.point.y ∷ p.point.z ∷ p.heading ∷ zero64 ∷ four_zeros

-- met, astray
abbrev pub mark_of : Bool → Float
mark_of true = f64 0x3ff0_0000_0000_0000
mark_of false = zero64

abbrev pub position_numbers : Position → List Float
position_numbers p = p.s ∷ p.t ∷ whole_number p.moves ∷ mark_of p.converged ∷ zero64 ∷ four_zeros

-- ---- questions

-- k for 2 k, -1 - k for 2 k + 1
abbrev pub id_number : ℕ → ℤ
id_number n = cond (n % 2 == 1) (negsuc (n / 2 % 2 ^ 31)) (pos (n / 2 % 2 ^ 31))

-- the call of a letter
unfoldable pub call_of : ℕ → Option Call
call_of letter =
    cond (letter == 113) (Some Station)
    (cond (letter == 97) (Some Axes) (cond (letter == 117) (Some Surface) (cond (letter == 118) (Some LaneSurface) (cond (letter == 120) (Some Locate) None))))

-- a and b are s, or s and t; the surface of a lane is that of the id that with stands for; locate takes x and y and a guess
abbrev pub call_numbers : Call → ℕ → ℕ → ℕ → List ℕ → List Float → List Float → List Float
call_numbers Station a b with words numbers samples = ten_numbers station_numbers (station_call words numbers samples (from_bits binary64 a))
call_numbers Axes a b with words numbers samples = ten_numbers axes_numbers (axes_call words numbers samples (from_bits binary64 a))
call_numbers Surface a b with words numbers samples =
    ten_numbers point_numbers (surface_call words numbers samples (from_bits binary64 a) (from_bits binary64 b))
call_numbers LaneSurface a b with words numbers samples =
    ten_numbers point_numbers (lane_surface_call words numbers samples (id_number with) (from_bits binary64 a) (from_bits binary64 b))
call_numbers Locate a b with words numbers samples =
    ten_numbers position_numbers (locate_call words numbers samples (from_bits binary64 a) (from_bits binary64 b) (from_bits binary64 with))
