-- How the functions of the moves meet their definitions: a miss by what is known of its station, and the moves one by one, where what is left of the walk at a place is one move and then what is left there.
use Prim.Native.Nat.{ℕ, suc, ◌+◌, ◌-◌, ◌<◌, ◌≤◌}
use native.Mathlib.Numerals.{add-one}
use native.Mathlib.Omega.{arith}
use mathlib.Core.Path.{◌≡◌, refl, ap, ◌∙◌}
use mathlib.Core.List.{List}
use mathlib.Core.Bool.{true}
use lib.Ieee.{Float, lt}
use Rattle.records.specs.Roads.{Road}
use Rattle.surface_points.specs.Plan.{footing_of, plan_on}
use Rattle.surface_points.proofs.PlanLaws.{plan-is-surface}
use Rattle.surface_points.specs.declared.points.PlanVector.{PlanVector}
use Rattle.surface_locate.specs.declared.points.Place.{Place}
use Rattle.surface_locate.specs.declared.points.Move.TheVariants.{Stay, Last, On}
use Rattle.surface_locate.specs.Locating.{tolerance, place, miss_on, miss_at, size_of, move_at, ended, walk_by, walk_from}

module _ (road : Road) (samples : List Float) (target : PlanVector) where
  pub miss_is : (s t : Float) → miss_on target (plan_on road (footing_of road samples s) t) ≡ miss_at road samples target (place s t)
  unfolding miss_at
  miss_is s t = ap (miss_on target) (plan-is-surface road samples s t)

  -- a station stands at its s
  pub station_of : (s : Float) → (footing_of road samples s).s ≡ s
  unfolding footing_of
  station_of s = refl

  -- a small miss ends the moves
  pub move_none : (at : Place) → lt (size_of (miss_at road samples target at)) tolerance ≡ true → Stay ≡ move_at road samples target at
  unfolding move_at
  move_none at small = rw small

  -- ---- the walk
  -- all moves are made
  pub walk_full : (limit : ℕ) (at : Place) (k : ℕ) → limit ≤ k → walk_from road samples target (limit - k) at k ≡ ended road samples target at k
  unfolding walk_from
  walk_full limit at k h = let e : limit - k ≡ 0 = omega arith in ap (λ (n : ℕ). walk_from road samples target n at k) e

  module _ (limit : ℕ) (at : Place) (k : ℕ) (l : k < limit) where
    one-move : walk_from road samples target (limit - k) at k ≡ walk_by road samples target (λ (p : Place). walk_from road samples target (limit - suc k) p (suc k)) at k (move_at road samples target at)
    unfolding walk_from
    one-move = let e : limit - k ≡ suc (limit - suc k) = omega arith in ap (λ (n : ℕ). walk_from road samples target n at k) e

    pub walk_stay : Stay ≡ move_at road samples target at → walk_from road samples target (limit - k) at k ≡ ended road samples target at k
    walk_stay h = one-move ∙ rw (← h)

    pub walk_last : (p : Place) → Last p ≡ move_at road samples target at → walk_from road samples target (limit - k) at k ≡ ended road samples target p (k + 1)
    walk_last p h = one-move ∙ rw (← h, add-one)

    pub walk_on : (p : Place) → On p ≡ move_at road samples target at → walk_from road samples target (limit - k) at k ≡ walk_from road samples target (limit - (k + 1)) p (k + 1)
    walk_on p h = one-move ∙ rw (← h, add-one)

-- the laws of one turn of the walk
pub ruleset turn = (miss_is, station_of, move_none, walk_full, walk_stay, walk_last, walk_on)
