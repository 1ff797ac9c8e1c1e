-- What holds of locate's answers, for whatever road, samples, target and guess: two statements, `LocateAnswers` and `LocateKept`, at the end. Document 01, "Values": "`locate`'s pair, the count of moves made (0..24), and (added) met or astray"; and demand 3's words on the distance left.
-- Words from below: `AtMost`, finite and at most so large, `NotOver` (admission_laws, Fractions); `locate_call`, the call, `locate_rows`, its rows 6, 7 and 9, `locate_here`, the position of `locate` (surface_calls); `admitted`, rows 3 to 5, `pass`, all rows of a list pass (admission); `surface_at`, the point of `surface` before it narrows (surface_points).
use Rattle.std.specs.Prelude.{ℕ, ◌≤◌, ◌≡◌, true, List, T, Float}
use Rattle.std.specs.Float.Ieee.Scale.{finite}
use Rattle.refusals.specs.Answer.{value}
use Rattle.records.specs.Roads.{Road, road_of}
use Rattle.admission_laws.specs.Fractions.{IsF64, AllF64, AtMost, negative_part, NotOver}
use Rattle.admission.specs.Admission.{admitted, pass}
use Rattle.surface_points.specs.Surfaces.{surface_at}
use Rattle.surface_locate.specs.declared.points.Position.{Position}
use Rattle.surface_calls.specs.LocateCall.{locate_rows, locate_here, locate_call}
use Rattle.surface_laws.specs.Distances.{distance_squared, UnderOneIn}

-- a position marked met: s on the road, t within 80, and "the distance left": of x and y "those of `surface` at locate's pair, before they narrow", under the square of 0.000001
pub record MetKept (road : Road) (samples : List Float) (x y : Float) (p : Position) : Type 0 where
  pub s_finite : T (finite p.s)
  pub s_from : negative_part p.s ≡ 0
  pub s_to : NotOver p.s road.length
  pub t_size : AtMost 80 p.t
  pub x_finite : T (finite (surface_at road samples p.s p.t).x)
  pub y_finite : T (finite (surface_at road samples p.s p.t).y)
  pub distance : UnderOneIn 1000000000000 (distance_squared x (surface_at road samples p.s p.t).x y (surface_at road samples p.s p.t).y)

-- ---- an answer p: its road is admitted and its rows pass, it is the position of the definition, after at most 24 moves, and where it is marked met it is met
pub record LocatedKept (words : List ℕ) (numbers samples : List Float) (x y guess : Float) (p : Position) : Type 0 where
  pub road_passes : admitted words numbers ≡ true
  pub rows_pass : pass (locate_rows words numbers samples x y guess) ≡ true
  pub place : p ≡ locate_here words numbers samples x y guess
  pub moves : p.moves ≤ 24
  pub met : p.converged ≡ true → MetKept (road_of words numbers) samples x y p

-- ---- the statements

-- where all rows pass the call answers
abbrev pub LocateAnswers : Type 0
LocateAnswers =
    (words : List ℕ) (numbers samples : List Float) (x y guess : Float) → admitted words numbers ≡ true → pass (locate_rows words numbers samples x y guess) ≡ true
    → locate_call words numbers samples x y guess ≡ value (locate_here words numbers samples x y guess)

-- and of every answer so much holds
abbrev pub LocateKept : Type 0
LocateKept =
    (words : List ℕ) (numbers samples : List Float) (x y guess : Float) → AllF64 numbers → IsF64 x → IsF64 y → IsF64 guess
    → (p : Position) → locate_call words numbers samples x y guess ≡ value p → LocatedKept words numbers samples x y guess p
