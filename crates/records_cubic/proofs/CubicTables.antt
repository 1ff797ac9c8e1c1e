-- The cubics that a list of numbers holds. From the laws on tables.
use Prim.Native.Nat.{ℕ, ◌*◌, ◌/◌, ◌<◌}
use mathlib.Core.Path.{◌≡◌}
use mathlib.Core.List.{List}
use lib.ListN.{length}
use lib.Ieee.{Float}
use Rattle.records_cubic.specs.Cubics.{cubics_of, cubic_at, cubic_from, no_cubic}
use Rattle.records_lent.proofs.TableLaws.{length-table, table_at}

module _ (xs : List Float) where
  pub cubic-count : length (cubics_of xs) ≡ length xs / 5
  unfolding cubics_of
  cubic-count = length-table _ _

  pub cubic_in_lem : (i : ℕ) → i < length xs / 5 → cubic_at (cubics_of xs) i ≡ cubic_from xs (i * 5)
  unfolding cubics_of
  cubic_in_lem i h = table_at _ _ i no_cubic h
