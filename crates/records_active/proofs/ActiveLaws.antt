-- By the cubic that is active, the place that was found: `active_cubic` answers the cubic there, and none where none was found.
use Prim.Native.Nat.{ℕ}
use mathlib.Core.Path.{◌≡◌, refl, sym}
use mathlib.Core.List.{List}
use Rattle.std.specs.declared.option.Option.{Option}
use Rattle.std.specs.declared.option.Option.TheVariants.{None, Some}
use Rattle.std.specs.Option.{option_map}
use Rattle.std.proofs.lemmas.Option.{none-some, same_Some}
use Rattle.records_cubic.specs.declared.cubics.Cubic.{Cubic}
use Rattle.records_cubic.specs.Cubics.{cubic_at}

module _ (cs : List Cubic) where
  pub place-of_some : (o : Option ℕ) (cubic : Cubic) → option_map (cubic_at cs) o ≡ Some cubic → (i : ℕ) × (o ≡ Some i) × (cubic_at cs i ≡ cubic)
  place-of_some (Some i) cubic e = (i, refl, same_Some _ _ e)
  place-of_some None cubic e = absurd (none-some cubic e)

  pub place-of_none : (o : Option ℕ) → option_map (cubic_at cs) o ≡ None → o ≡ None
  place-of_none None e = refl
  place-of_none (Some i) e = absurd (none-some _ (sym e))
