-- The heights that a list of numbers holds, and the value and the slope by the active cubic. From the laws on tables.
use Prim.Native.Nat.{ℕ, ◌*◌, ◌/◌, ◌<◌}
use mathlib.Core.Path.{◌≡◌}
use mathlib.Core.List.{List}
use lib.ListN.{length}
use lib.Ieee.{Float}
use Rattle.std.specs.declared.option.Option.{Option}
use Rattle.std.specs.declared.option.Option.TheVariants.{None, Some}
use Rattle.std.specs.Option.{MatchOption, option_map}
use Rattle.float_laws.specs.Binary64.{zero64}
use Rattle.records_cubic.specs.declared.cubics.Cubic.{Cubic}
use Rattle.records_cubic.specs.Cubics.{cubic_at, eval_at, slope_at}
use Rattle.records.specs.Active.{active_in, value_by, value_in, slope_of, slope_in}
use Rattle.records.specs.Roads.{heights_of, height_def_at, height_def_from, no_height}
use Rattle.records_lent.proofs.TableLaws.{length-table, table_at}

module _ (xs : List Float) where
  pub height-count : length (heights_of xs) ≡ length xs / 3
  unfolding heights_of
  height-count = length-table _ _

  pub height_in_lem : (i : ℕ) → i < length xs / 3 → height_def_at (heights_of xs) i ≡ height_def_from xs (i * 3)
  unfolding heights_of
  height_in_lem i h = table_at _ _ i no_height h

-- ---- by the active cubic

module _ (cs : List Cubic) (s : Float) where
  pub value-at : (i : ℕ) → active_in cs s ≡ Some i → value_in cs s ≡ eval_at (cubic_at cs i) s
  unfolding value_in
  value-at i h = rw h

  pub value_none : active_in cs s ≡ None → value_in cs s ≡ zero64
  unfolding value_in
  value_none h = rw h

  pub slope_at_lem : (i : ℕ) → active_in cs s ≡ Some i → slope_in cs s ≡ slope_at (cubic_at cs i) s
  unfolding slope_in
  slope_at_lem i h = rw h

  pub slope-none : active_in cs s ≡ None → slope_in cs s ≡ zero64
  unfolding slope_in
  slope-none h = rw h

  -- by what `map_or` of the active cubic answered, its closure asked where there is one
  pub value_of_map : {r : Float} {Q : Cubic → Type 0} → MatchOption (option_map (cubic_at cs) (active_in cs s)) (r ≡ zero64) Q → ((c : Cubic) → Q c → r ≡ eval_at c s) → r ≡ value_in cs s
  unfolding value_in
  value_of_map {r} {Q} h says = go (active_in cs s) h
    where
      go : (o : Option ℕ) → MatchOption (option_map (cubic_at cs) o) (r ≡ zero64) Q → r ≡ value_by cs s o
      go None h = h
      go (Some i) h = says (cubic_at cs i) h

  pub slope_of_map : {r : Float} {Q : Cubic → Type 0} → MatchOption (option_map (cubic_at cs) (active_in cs s)) (r ≡ zero64) Q → ((c : Cubic) → Q c → r ≡ slope_at c s) → r ≡ slope_in cs s
  unfolding slope_in
  slope_of_map {r} {Q} h says = go (active_in cs s) h
    where
      go : (o : Option ℕ) → MatchOption (option_map (cubic_at cs) o) (r ≡ zero64) Q → r ≡ slope_of cs s o
      go None h = h
      go (Some i) h = says (cubic_at cs i) h
