-- The count of moves is at most 24: each turn of the walk counts one at most.
use Prim.Native.Nat.{ℕ, zero, suc, ◌+◌, ◌≤◌}
use native.Mathlib.Omega.{arith}
use mathlib.Core.List.{List}
use lib.Ieee.{Float}
use Rattle.records.specs.Roads.{Road}
use Rattle.surface_points.specs.declared.points.PlanVector.{PlanVector}
use Rattle.surface_locate.specs.declared.points.Place.{Place}
use Rattle.surface_locate.specs.declared.points.Move.{Move}
use Rattle.surface_locate.specs.declared.points.Move.TheVariants.{Stay, Last, On}
use Rattle.surface_locate.specs.Locating.{move_at, walk_by, walk_from, start_of, locate_of}

module _ (road : Road) (samples : List Float) (target : PlanVector) where
  walk-count : (n : ℕ) (at : Place) (k : ℕ) → (walk_from road samples target n at k).moves ≤ n + k
  unfolding walk_from
  walk-count zero at k = omega arith
  walk-count (suc n) at k = go (move_at road samples target at) (λ (p : Place). walk-count n p (suc k))
    where
      later : (m : ℕ) → m ≤ n + suc k → m ≤ suc n + k
      later m h = omega arith

      go : (m : Move) → ((p : Place) → (walk_from road samples target n p (suc k)).moves ≤ n + suc k)
          → (walk_by road samples target (λ (p : Place). walk_from road samples target n p (suc k)) at k m).moves ≤ suc n + k
      go Stay more = omega arith
      go (Last p) more = omega arith
      go (On p) more = later (walk_from road samples target n p (suc k)).moves (more p)

  pub located-count : (guess : Float) → (locate_of road samples target guess).moves ≤ 24
  unfolding locate_of
  located-count guess = walk-count 24 (start_of road samples target guess) 0
