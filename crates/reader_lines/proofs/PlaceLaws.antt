-- What the place after a byte tells of the byte.
use Prim.Native.Nat.{ℕ, ◌+◌, ◌<◌}
use mathlib.Core.Path.{◌≡◌, refl, sym, ◌∙◌}
use mathlib.Core.Bool.{Bool, true, false, cond}
use mathlib.Core.List.{List}
use borrow.Author.Tests.{eqb-true, eq-eqb}
use lib.Dec.{eqb}
use lib.ListN.{length}
use Rattle.std.specs.Prelude.{Option, Some, None}
use Rattle.std.proofs.lemmas.Option.{none-some, same_Some}
use Rattle.reader_cells.specs.Cells.{byte_at}
use Rattle.reader_cells.proofs.Inside.{inside}
use Rattle.reader_lines.specs.Places.{place_after}

-- a byte that is not 0 stands in the text
pub next_fits : (text : List ℕ) (at byte : ℕ) {b : ℕ} → b ≡ byte_at text at → b ≡ byte → 0 < byte → at < length text
next_fits text at byte e f h = inside text at e (rw f h)

module _ (text : List ℕ) (at byte : ℕ) {r : Option ℕ} (e : r ≡ place_after text at byte) where
  -- the byte stands there, and the place is the next
  pub stood : {q : ℕ} → r ≡ Some q → (byte_at text at ≡ byte) × (q ≡ at + 1)
  stood {q} f = go (eqb (byte_at text at) byte) refl (sym e ∙ f)
    where
      go : (b : Bool) → eqb (byte_at text at) byte ≡ b → cond b (Some (at + 1)) None ≡ Some q → (byte_at text at ≡ byte) × (q ≡ at + 1)
      go true g h = (eqb-true (byte_at text at) byte g, sym (same_Some (at + 1) q h))
      go false g h = absurd (none-some q h)

  pub another : r ≡ None → byte_at text at ≡ byte → ⊥
  another f g = none-some (at + 1) (sym f ∙ e ∙ rw (eq-eqb (byte_at text at) byte g))
