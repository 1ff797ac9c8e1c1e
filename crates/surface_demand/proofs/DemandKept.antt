-- Demand 3 holds. Each clause is a law of the layer that it speaks of, put in the words of specs/Demand.
use Prim.Native.Nat.{ℕ, ◌+◌, ◌*◌, ◌≤◌, ◌<◌}
use native.Mathlib.Nat.{add-zero, zero-add}
use native.Mathlib.Omega.{arith}
use mathlib.Core.Path.{◌≡◌, refl, sym, ap, ◌∙◌, subst}
use mathlib.Core.Bool.{Bool, true, false, cond}
use mathlib.Core.List.{List}
use lib.Ieee.{Float, nan}
use lib.ListN.{length, get_or, drop, get_or-append}
use borrow.Author.Tests.{lt-ltb}
use Rattle.std.specs.Prelude.{Some}
use Rattle.refusals.specs.Answer.{Answer, value, Answers}
use Rattle.records.specs.Roads.{Road, road_of, section_index}
use Rattle.admission.specs.Limits.{on_road}
use Rattle.admission_arguments.specs.Arguments.{across_road}
use Rattle.admission_laws.specs.Fractions.{IsF64, AllF64, Between}
use Rattle.admission.specs.Admission.{admitted}
use Rattle.line_calls.specs.SampleCall.{samples_call, samples_list}
use Rattle.line_samples.specs.Samples.{samples_needed}
use Rattle.line_calls.proofs.SampleCalls.{made-admitted, samples-made}
use Rattle.lanes_borders.specs.Borders.{side_lanes, borders_of as lane_borders, border_list}
use Rattle.lanes_borders.proofs.BorderSteps.{three, left-written, right-written, list_length}
use Rattle.lanes_border_list.specs.BorderList.{listed_by}
use Rattle.lanes_calls.specs.LaneCalls.{lanes_at, borders_call, borders_list}
use Rattle.lanes_laws.specs.BorderSizes.{lanes_on, first_on, inner_at, outer_at, BordersKept}
use Rattle.lanes_laws.proofs.BorderSizes.{answered-list, border-sizes}
use Rattle.surface_station.specs.declared.axis.Axis.{Axis}
use Rattle.surface_laws.specs.Squares.{UnitLong}
use Rattle.surface_points.specs.declared.points.SurfacePoint32.{SurfacePoint32}
use Rattle.surface_laws.specs.Sizes.{SizedPoint}
use Rattle.surface_calls.specs.SurfaceCalls.{place_of_id, lane_there, lane_held, axes_call, surface_call, surface_here, lane_surface_call}
use Rattle.surface_laws.proofs.CallsKept.{axes-kept, surface-kept, lane_point, lane_surface-kept, axes-answered, surface-answered, lane_surface-answered}
use Rattle.surface_station.specs.Axes.{axes_at}
use Rattle.surface_laws.proofs.LocateLaws.{locate-kept}
use Rattle.surface_demand.specs.Demand.{PointKept, UnitKept, AxesKept, id_on, Kept, Demand3}

-- a call whose value is known
answers : {A : Type 0} (P : A → Type 0) {r : Answer A} (a : A) → r ≡ value a → P a → Answers r P
answers P a e h = subst (λ r. Answers r P) (sym e) h

point-of : (p : SurfacePoint32) → SizedPoint p.point.x p.point.y p.point.z → PointKept p
point-of p w = record { x_size = w.x_size; y_size = w.y_size; z_size = w.z_size }

unit_of_lem : (v : Axis) → UnitLong v → UnitKept v
unit_of_lem v w = record { x_finite = w.finite_x; y_finite = w.finite_y; z_finite = w.finite_z; from = w.squares.above; to = w.squares.below }

-- ---- the lane of an id, and its borders in the list

lane-is : (road : Road) (i : ℕ) (right : Bool) (k : ℕ) → k < length (side_lanes road i right) → lane_there road (place_of_id i (id_on right k)) ≡ Some (record { section = i; right = right; k = k })
unfolding place_of_id lane_there
lane-is road i false k l = rw (lt-ltb k (length (side_lanes road i false)) l)
lane-is road i true k l = rw (lt-ltb k (length (side_lanes road i true)) l)

module _ (road : Road) (i : ℕ) (s : Float) (xs : List Float) where
  abbrev list : List Float
  list = listed_by true road i s xs

  read : (right : Bool) (k j : ℕ) → k < length (side_lanes road i right) → j < 3
      → get_or list ((cond right (length (side_lanes road i false)) 0 + k) * 3 + j) nan ≡ get_or (three (lane_borders road i s right k)) j nan
  read false k j l m =
      let n = list_length road i s in
      ap (λ (p : ℕ). get_or list (p * 3 + j) nan) (zero-add k)
      ∙ get_or-append (border_list road i s) (drop (length (border_list road i s)) xs) nan (k * 3 + j) (omega arith)
      ∙ left-written road i s k j nan l m
  read true k j l m =
      let n = list_length road i s in
      get_or-append (border_list road i s) (drop (length (border_list road i s)) xs) nan ((length (side_lanes road i false) + k) * 3 + j) (omega arith)
      ∙ right-written road i s k j nan l m

  inner-read : (right : Bool) (k : ℕ) → k < length (side_lanes road i right) → inner_at list (cond right (length (side_lanes road i false)) 0 + k) ≡ (lane_borders road i s right k).inner
  inner-read right k l = ap (λ (m : ℕ). get_or list m nan) (sym (add-zero ((cond right (length (side_lanes road i false)) 0 + k) * 3))) ∙ read right k 0 l (omega arith)

  outer-read : (right : Bool) (k : ℕ) → k < length (side_lanes road i right) → outer_at list (cond right (length (side_lanes road i false)) 0 + k) ≡ (lane_borders road i s right k).outer
  outer-read right k l = read right k 1 l (omega arith)

-- ---- all of it

module _ (words : List ℕ) (numbers : List Float) (fitting : AllF64 numbers) (xs : List Float) (n : ℕ) (made : samples_call words numbers (length xs) ≡ value n) where
  abbrev road : Road
  road = road_of words numbers

  abbrev samples : List Float
  samples = samples_list words numbers xs

  ok : admitted words numbers ≡ true
  ok = made-admitted words numbers (length xs) n made

  surface-clause : (s t : Float) → IsF64 s → IsF64 t → on_road road s ≡ true → across_road t ≡ true → Answers (surface_call words numbers samples s t) PointKept
  surface-clause s t fs ft on in-t =
      let e = surface-answered words numbers fitting xs n made s on t in-t in
      answers PointKept (surface_here words numbers samples s t) e (point-of (surface_here words numbers samples s t) (surface-kept words numbers fitting xs n made s t fs ft (surface_here words numbers samples s t) e))

  axes-clause : (s : Float) → IsF64 s → on_road road s ≡ true → Answers (axes_call words numbers samples s) AxesKept
  axes-clause s fs on =
      let e = axes-answered words numbers fitting xs n made s on in
      let k = axes-kept words numbers fitting xs n made s fs (axes_at road samples s) e in
      answers AxesKept (axes_at road samples s) e (record { forward = unit_of_lem (axes_at road samples s).along k.0; upward = unit_of_lem (axes_at road samples s).up k.1 })

  module _ (s : Float) (fs : IsF64 s) (on : on_road road s ≡ true) (lent : List Float) (room : lanes_at words numbers s * 3 ≤ length lent) where
    borders : BordersKept words numbers s lent
    borders = border-sizes words numbers fitting ok s fs on lent room

    borders-clause : Answers (borders_call words numbers s (length lent)) (λ (m : ℕ). m ≡ lanes_on words numbers s false + lanes_on words numbers s true)
    borders-clause = answers (λ (m : ℕ). m ≡ lanes_on words numbers s false + lanes_on words numbers s true) (lanes_at words numbers s) borders.answer refl

    module _ (t : Float) (ft : IsF64 t) (in-t : across_road t ≡ true) (right : Bool) (k : ℕ) (l : k < lanes_on words numbers s right) where
      abbrev at : ℕ
      at = section_index road s

      held : lane_held words numbers (id_on right k) s ≡ Some (record { section = at; right = right; k = k })
      held = lane-is road at right k l

      lane-clause : Between (inner_at (borders_list words numbers s lent) (first_on words numbers s right + k)) (outer_at (borders_list words numbers s lent) (first_on words numbers s right + k)) t
          → Answers (lane_surface_call words numbers samples (id_on right k) s t) PointKept
      lane-clause between =
          let p = lane_point words numbers fitting xs n made (id_on right k) s t right k samples in
          let e = lane_surface-answered words numbers fitting xs n made s on t in-t (id_on right k) right k held in
          let w = answered-list words numbers s lent (lanes_at words numbers s) borders.answer in
          let inner : inner_at (borders_list words numbers s lent) (first_on words numbers s right + k) ≡ (lane_borders road at s right k).inner =
          ap (λ (list : List Float). inner_at list (first_on words numbers s right + k)) w ∙ inner-read road at s lent right k l in
          let outer : outer_at (borders_list words numbers s lent) (first_on words numbers s right + k) ≡ (lane_borders road at s right k).outer =
          ap (λ (list : List Float). outer_at list (first_on words numbers s right + k)) w ∙ outer-read road at s lent right k l in
          let b1 = subst (λ (a : Float). Between a (outer_at (borders_list words numbers s lent) (first_on words numbers s right + k)) t) inner between in
          let b2 = subst (λ (b : Float). Between (lane_borders road at s right k).inner b t) outer b1 in
          answers PointKept p e (point-of p (lane_surface-kept words numbers fitting xs n made (id_on right k) s t right k held fs ft p e b2))

  kept : Kept words numbers (samples_list words numbers xs)
  kept =
      record {
        surface = surface-clause;
        of_lane_surface = λ s t fs ft on in-t list room right k l between. lane-clause s fs on list room t ft in-t right k l between;
        axes = axes-clause;
        borders = λ s fs on list room. borders-clause s fs on list room;
        side = λ s fs on list room right. (borders s fs on list room).side right;
        locate = λ x y guess fx fy fg p e c. (locate-kept words numbers samples x y guess fitting fx fy fg p e).met c;
      }

pub demand-3 : Demand3
demand-3 words numbers _ fitting ok made =
    subst (λ (l : List Float). Kept words numbers l) (sym made.written)
    (kept words numbers fitting made.lent (samples_needed (road_of words numbers)) (samples-made words numbers ok (length made.lent) made.room))
