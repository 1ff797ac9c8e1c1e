-- A byte that was matched stands in the text, so the place after it fits a machine word: why no place needs a bound from the caller.
use Prim.Native.Nat.{ℕ, ◌≤◌, ◌<◌}
use mathlib.Core.Path.{◌≡◌, refl, ◌∙◌}
use mathlib.Core.Bool.{Bool, true, false}
use mathlib.Core.List.{List}
use native.Mathlib.Omega.{arith}
use borrow.Author.Tests.{ltb-true, ltb-false}
use lib.Dec.{ltb}
use lib.ListN.{length, get_or-eq_default}
use Rattle.reader_cells.specs.Cells.{byte_at}

-- a byte that is not 0 stands in the text
pub inside : (text : List ℕ) (p : ℕ) {b : ℕ} → b ≡ byte_at text p → 0 < b → p < length text
inside text p {b} e h = go (ltb p (length text)) refl
  where
    go : (t : Bool) → ltb p (length text) ≡ t → p < length text
    go true q = ltb-true p (length text) q
    go false q =
        let l : length text ≤ p = ltb-false p (length text) q in
        let z : b ≡ 0 = e ∙ get_or-eq_default text 0 l in
        absurd (omega (arith, z, h))
