-- Locate walks on the surface from a pose, and both are those of the road without its marks.
use Prim.Native.Nat.{ℕ, zero, suc}
use mathlib.Core.Path.{◌≡◌, refl, ap, ◌∙◌}
use mathlib.Core.List.{List}
use lib.Ieee.{Float}
use Rattle.records.specs.Roads.{Road}
use Rattle.surface_points.specs.Plan.{plan_of}
use Rattle.surface_points.specs.declared.points.PlanVector.{PlanVector}
use Rattle.surface_locate.specs.declared.points.Place.{Place}
use Rattle.surface_locate.specs.declared.points.Walk.{Walk}
use Rattle.surface_locate.specs.declared.points.Move.{Move}
use Rattle.surface_locate.specs.declared.points.Move.TheVariants.{Stay, Last, On}
use Rattle.surface_locate.specs.Locating.{miss_on, miss_at, move_at, walk_by, walk_from, first_t, met_at, start_of, locate_of, most_moves}
use Rattle.marks_laws.specs.Unmarked.{unmarked}
use Rattle.marks_laws.proofs.ReferenceLine.{geom-pose}
use Rattle.marks_laws.proofs.Points.{surface-is}

module _ (road : Road) (samples : List Float) (target : PlanVector) where
  miss-is : (at : Place) → miss_at (unmarked road) samples target at ≡ miss_at road samples target at
  unfolding miss_at
  miss-is at = ap (λ p. miss_on target (plan_of p)) (surface-is road samples at.s at.t)

  move-is : (at : Place) → move_at (unmarked road) samples target at ≡ move_at road samples target at
  unfolding move_at
  move-is at = simp miss-is

  walk_by_lem : (again again' : Place → Walk) → ((p : Place) → again p ≡ again' p) → (at : Place) (k : ℕ) (m : Move)
      → walk_by (unmarked road) samples target again at k m ≡ walk_by road samples target again' at k m
  walk_by_lem again again' e at k Stay = refl
  walk_by_lem again again' e at k (Last p) = refl
  walk_by_lem again again' e at k (On p) = e p

  walk_is : (n : ℕ) (at : Place) (k : ℕ) → walk_from (unmarked road) samples target n at k ≡ walk_from road samples target n at k
  unfolding walk_from
  walk_is zero at k = refl
  walk_is (suc n) at k =
      walk_by_lem (λ p. walk_from (unmarked road) samples target n p (suc k)) (λ p. walk_from road samples target n p (suc k)) (λ p. walk_is n p (suc k)) at k
      (move_at (unmarked road) samples target at)
      ∙ ap (walk_by road samples target (λ p. walk_from road samples target n p (suc k)) at k) (move-is at)

  first-is : (s : Float) → first_t (unmarked road) samples target s ≡ first_t road samples target s
  unfolding first_t
  first-is s = rw (geom-pose road samples s)

  met-is : (at : Place) → met_at (unmarked road) samples target at ≡ met_at road samples target at
  unfolding met_at
  met-is at = rw (miss-is at)

  start-place : (guess : Float) → start_of (unmarked road) samples target guess ≡ start_of road samples target guess
  unfolding start_of
  start-place guess = rw first-is

  pub locate-is : (guess : Float) → locate_of (unmarked road) samples target guess ≡ locate_of road samples target guess
  unfolding locate_of
  locate-is guess = rw (start-place guess, walk_is most_moves (start_of road samples target guess) 0, met-is)
