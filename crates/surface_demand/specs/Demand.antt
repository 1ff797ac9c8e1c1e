-- Demand 3 as one statement, `Demand3`: read it last, at the end. Its clauses are the fields of `Kept`. A call's definition gives an `Answer`: a value, or the number of a refusal.
-- Words from below: `IsF64`, `AtMost`, finite and at most so large, and `Between` (admission_laws, Fractions); `MadeFrom`, the samples made from a road (admission_laws, RoadSizes); `SideKept`, the borders of a side (lanes_laws, BorderSizes); `MetKept`, a met position (surface_laws, Positions); `squares_of`, an axis's squares summed as a fraction (surface_laws, Squares); `on_road`, `across_road`, the tests of rows 7 and 8, s in 0..length and t in -80..80 (admission, Limits; admission_arguments, Arguments).
use Rattle.std.specs.Prelude.{ℕ, suc, ◌+◌, ◌*◌, ◌≤◌, ◌<◌, ◌≡◌, Bool, true, false, List, T, ℤ, pos, negsuc, Float, length}
use Rattle.std.specs.Float.Ieee.Scale.{finite}
use Rattle.refusals.specs.Answer.{value, Answers}
use Rattle.records.specs.Roads.{road_of}
use Rattle.admission.specs.Limits.{on_road}
use Rattle.admission_arguments.specs.Arguments.{across_road}
use Rattle.admission_laws.specs.Fractions.{IsF64, AllF64, AtMost, Between}
use Rattle.admission_laws.specs.RoadSizes.{MadeFrom}
use Rattle.admission.specs.Admission.{admitted}
use Rattle.lanes_calls.specs.LaneCalls.{lanes_at, borders_call, borders_list}
use Rattle.lanes_laws.specs.BorderSizes.{lanes_on, first_on, inner_at, outer_at, SideKept}
use Rattle.surface_station.specs.declared.axis.Axis.{Axis}
use Rattle.surface_station.specs.declared.axis.Axes.{Axes}
use Rattle.surface_laws.specs.Squares.{squares_of}
use Rattle.surface_points.specs.declared.points.SurfacePoint32.{SurfacePoint32}
use Rattle.surface_calls.specs.SurfaceCalls.{axes_call, surface_call, lane_surface_call}
use Rattle.surface_locate.specs.declared.points.Position.{Position}
use Rattle.surface_calls.specs.LocateCall.{locate_call}
use Rattle.surface_laws.specs.Positions.{MetKept}

-- ---- what is answered

-- "x, y and z are the f32 numbers": finite, x and y at most 2,000,000 in size, z at most 20,000
pub record PointKept (p : SurfacePoint32) : Type 0 where
  pub x_size : AtMost 2000000 p.point.x
  pub y_size : AtMost 2000000 p.point.y
  pub z_size : AtMost 20000 p.point.z

-- finite, and the squares, "summed exactly", are within 0.001 of 1: 999/1000 ≤ over/under ≤ 1001/1000
pub record UnitKept (v : Axis) : Type 0 where
  pub x_finite : T (finite v.x)
  pub y_finite : T (finite v.y)
  pub z_finite : T (finite v.z)
  pub from : 999 * (squares_of v).under ≤ 1000 * (squares_of v).over
  pub to : 1000 * (squares_of v).over ≤ 1001 * (squares_of v).under

-- the forward axis, and the up axis
pub record AxesKept (a : Axes) : Type 0 where
  pub forward : UnitKept a.along
  pub upward : UnitKept a.up

-- ---- lanes by their ids

-- the id of the k-th lane of a side: 1, 2, .. left, -1, -2, .. right
abbrev pub id_on : Bool → ℕ → ℤ
id_on false k = pos (suc k)
id_on true k = negsuc k

-- ---- the demand

pub record Kept (words : List ℕ) (numbers samples : List Float) : Type 0 where
  -- at whatever s from 0 to its length and whatever t from -80 to 80: the surface point
  pub surface : (s t : Float) → IsF64 s → IsF64 t → on_road (road_of words numbers) s ≡ true → across_road t ≡ true → Answers (surface_call words numbers samples s t) PointKept
  -- and a lane's inside that lane: of the k-th lane of a side, with t between its inner and outer in a list with room for the section's lanes, as the borders call leaves it
  pub of_lane_surface : (s t : Float) → IsF64 s → IsF64 t → on_road (road_of words numbers) s ≡ true → across_road t ≡ true
      → (list : List Float) → lanes_at words numbers s * 3 ≤ length list → (right : Bool) (k : ℕ) → k < lanes_on words numbers s right
      → Between (inner_at (borders_list words numbers s list) (first_on words numbers s right + k)) (outer_at (borders_list words numbers s list) (first_on words numbers s right + k)) t
      → Answers (lane_surface_call words numbers samples (id_on right k) s t) PointKept
  -- the axes
  pub axes : (s : Float) → IsF64 s → on_road (road_of words numbers) s ≡ true → Answers (axes_call words numbers samples s) AxesKept
  -- the borders at that s, in any lent list with room for the section's lanes: the call answers their number, and both sides of the list are kept
  pub borders : (s : Float) → IsF64 s → on_road (road_of words numbers) s ≡ true → (list : List Float) → lanes_at words numbers s * 3 ≤ length list
      → Answers (borders_call words numbers s (length list)) (λ (n : ℕ). n ≡ lanes_on words numbers s false + lanes_on words numbers s true)
  pub side : (s : Float) → IsF64 s → on_road (road_of words numbers) s ≡ true → (list : List Float) → lanes_at words numbers s * 3 ≤ length list → (right : Bool)
      → SideKept (borders_list words numbers s list) right (first_on words numbers s right) (lanes_on words numbers s right)
  -- whatever target and guess locate accepts
  pub locate : (x y guess : Float) → IsF64 x → IsF64 y → IsF64 guess → (p : Position) → locate_call words numbers samples x y guess ≡ value p → p.converged ≡ true → MetKept (road_of words numbers) samples x y p

-- for every admitted road with the samples made from it
abbrev pub Demand3 : Type 0
Demand3 = (words : List ℕ) (numbers samples : List Float) → AllF64 numbers → admitted words numbers ≡ true → MadeFrom words numbers samples → Kept words numbers samples
