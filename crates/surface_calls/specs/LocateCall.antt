-- Document 01: the locate call, rows 3 4 5 6 7 9. "locate's guess not finite" is 7, "locate's x or y outside ±2,000,000" is 9; a finite guess off the road is taken and clamped, t has no row, and an answer that is astray is a value.
use Rattle.std.specs.Prelude.{ℕ, Bool, ◌&&◌, List, [], ◌∷◌, ◌++◌, length, Float}
use Rattle.float_laws.specs.Binary64.{f64}
use Rattle.refusals.specs.Answer.{Answer, value, Row, row, checked}
use Rattle.refusals.specs.declared.refusals.Refusal.TheVariants.{Station, Target}
use Rattle.records.specs.Roads.{road_of}
use Rattle.arithmetic_ranges.specs.Ranges.{sized, finite64}
use Rattle.admission.specs.Admission.{road_rows}
use Rattle.line_calls.specs.SampleCall.{sample_row}
use Rattle.surface_points.specs.declared.points.PlanVector.{PlanVector}
use Rattle.surface_locate.specs.declared.points.Position.{Position}
use Rattle.surface_locate.specs.Locating.{locate_of}

-- row 7: "locate's guess not finite"
abbrev pub guess_row : Float → Row
guess_row guess = row Station (finite64 guess)

-- "x or y outside ±2,000,000"
abbrev pub greatest_target : Float
greatest_target = f64 0x413e_8480_0000_0000

-- row 9: "locate's x or y outside ±2,000,000"
abbrev pub on_map : Float → Float → Bool
on_map x y = sized greatest_target x && sized greatest_target y

abbrev pub target_row : Float → Float → Row
target_row x y = row Target (on_map x y)

abbrev pub target : Float → Float → PlanVector
target x y = record { x = x; y = y }

module _ (words : List ℕ) (numbers : List Float) (samples : List Float) (x y guess : Float) where
  -- the rows after the road's: 6, 7, 9
  abbrev pub locate_rows : List Row
  locate_rows = sample_row words numbers (length samples) ∷ guess_row guess ∷ target_row x y ∷ []

  abbrev pub locate_here : Position
  locate_here = locate_of (road_of words numbers) samples (target x y) guess

  -- rows 3, 4, 5, 6, 7, 9; then the place, its count of moves and its mark
  unfoldable pub locate_call : Answer Position
  locate_call = checked (road_rows words numbers ++ locate_rows) (value locate_here)
