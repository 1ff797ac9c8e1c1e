-- The scan for the last lane that passes, as the code runs it, and a place as a name.
use mathlib.Core.Path.{◌≡◌, refl, ap}
use mathlib.Core.Bool.{Bool, true, false, cond}
use Prim.Native.Nat.{ℕ, zero, suc, ◌+◌, ◌<◌}
use native.Mathlib.Omega.{arith}
use native.Mathlib.Numerals.{add-one}
use lib.IntN.{ℤ, pos, negsuc}
use lib.Ieee.{Float}
use Rattle.std.specs.declared.option.Option.{Option}
use Rattle.std.specs.declared.option.Option.TheVariants.{Some, None}
use Rattle.std.specs.Option.{MatchOption, IsSomeAnd}
use Rattle.records_lent.specs.Lists.{last_that}
use Rattle.records.specs.declared.points.LanePlace.{LanePlace}
use Rattle.records.specs.Roads.{Road}
use Rattle.lanes_naming.specs.Naming.{named_on, name_by, lane_named, beyond_on, place_by, lane_at}

-- ---- the scan

module _ (p : ℕ → Bool) where
  pub that-none : None ≡ last_that p 0
  unfolding last_that
  that-none = refl

  pub that-hit : (k : ℕ) → p k ≡ true → Some k ≡ last_that p (k + 1)
  unfolding last_that
  that-hit k h = rw (add-one, h)

  pub that-miss : (k : ℕ) {x : Option ℕ} → p k ≡ false → x ≡ last_that p k → x ≡ last_that p (k + 1)
  unfolding last_that
  that-miss k h e = rw (add-one, h) e

  pub that-below : (n k : ℕ) → last_that p n ≡ Some k → k < n
  unfolding last_that
  that-below zero k e = let z : ◌≡◌ {A = ℕ} 0 1 = cc in absurd (omega arith)
  that-below (suc n) k e = go (p n) (that-below n k) e
    where
      go : (b : Bool) → (last_that p n ≡ Some k → k < n) → cond b (Some n) (last_that p n) ≡ Some k → k < suc n
      go true f h = let i : n ≡ k = cc in omega arith
      go false f h = let l = f h in omega arith

-- ---- the names

-- the id of the lane that was found is its name
module _ (i : ℕ) {P : LanePlace → ℤ → Type 0} (says : (place : LanePlace) (id : ℤ) → P place id → id ≡ cond place.right (negsuc place.k) (pos (suc place.k))) where
  named_by : (left right : Option ℕ) (name : Option ℤ) → MatchOption (place_by i left right) (name ≡ None) (λ place. IsSomeAnd name (P place)) → name ≡ name_by left right
  named_by left (Some k) (Some id) m = ap Some (says _ id m)
  named_by left (Some k) None m = absurd m
  named_by (Some k) None (Some id) m = ap Some (says _ id m)
  named_by (Some k) None None m = absurd m
  named_by None None name m = m

  pub named-at : (road : Road) (s t : Float) {lane : Option LanePlace} {name : Option ℤ} → lane ≡ lane_at road i s t → MatchOption lane (name ≡ None) (λ place. IsSomeAnd name (P place)) → name ≡ lane_named road i s t
  unfolding lane_at lane_named beyond_on named_on
  named-at road s t {lane} {name} e m = named_by (beyond_on road i s t false) (beyond_on road i s t true) name (rw e at m)
