-- The active cubic by its place and one.
use Prim.Native.Nat.{ℕ, suc, ◌+◌, ◌<◌}
use native.Mathlib.Omega.{arith}
use mathlib.Core.Path.{◌≡◌, sym, ◌∙◌, ap}
use mathlib.Core.List.{List}
use lib.Ieee.{Float}
use lib.ListN.{length}
use Rattle.std.specs.declared.option.Option.{Option}
use Rattle.std.specs.declared.option.Option.TheVariants.{Some, None}
use Rattle.records_cubic.specs.declared.cubics.Cubic.{Cubic}
use Rattle.records_cubic.specs.Cubics.{cubics_of, cubic_at}
use Rattle.records.specs.Active.{active_in, found_of, active_up_to}
use Rattle.records_cubic.proofs.CubicTables.{cubic-count}
use Rattle.records.proofs.ScanLaws.{last_start-below}

-- of the list that was made of a part
pub lent-active : (part : List Float) (s : Float) {cs : List Cubic} {f : Option ℕ} → cs ≡ cubics_of part → f ≡ active_in cs s → f ≡ active_in (cubics_of part) s
lent-active part s made e = e ∙ ap (λ (cs : List Cubic). active_in cs s) made

module _ (part : List Float) (s : Float) {f : Option ℕ} (e : f ≡ active_in (cubics_of part) s) where
  pub active-below : {i : ℕ} → f ≡ Some i → i < length part
  unfolding active_in
  active-below g =
      let l = last_start-below (λ (k : ℕ). (cubic_at (cubics_of part) k).start) (active_up_to s) (length (cubics_of part)) _ (sym e ∙ g) in
      let n = cubic-count part in
      omega arith

  pub active-some : {i : ℕ} → f ≡ Some i → found_of (i + 1) ≡ active_in (cubics_of part) s
  unfolding found_of
  active-some {i} g = let n : i + 1 ≡ suc i = omega arith in ap found_of n ∙ sym g ∙ e

  pub active-none : f ≡ None → found_of 0 ≡ active_in (cubics_of part) s
  unfolding found_of
  active-none g = sym g ∙ e
