-- Which of its line's numbers, or words, a column of a table is, counted from 1; 0 where it is none.
use Prim.Native.Nat.{ℕ, zero, suc, ◌+◌, ◌<◌}
use native.Mathlib.Omega.{arith}
use mathlib.Core.Path.{◌≡◌, refl, subst}
use mathlib.Core.Bool.{Bool, true, false, cond}
use mathlib.Core.List.{List, [], ◌∷◌}
use lib.ListN.{length, get_or}
use lib.Dec.{eqb}
use borrow.Author.Tests.{eqb-true, eqb-false}
use Rattle.reader_store.specs.Layout.{number_columns, word_columns}

abbrev pub place_in : List ℕ → ℕ → ℕ
place_in [] column = 0
place_in (c ∷ cs) column = cond (eqb c column) 1 (cond (eqb (place_in cs column) 0) 0 (place_in cs column + 1))

unfoldable pub number_place : ℕ → ℕ → ℕ
number_place table column = place_in (number_columns table) column

unfoldable pub word_place : ℕ → ℕ → ℕ
word_place table column = place_in (word_columns table) column

-- a column that has a place stands there
pub place-found : (columns : List ℕ) (column i : ℕ) → place_in columns column ≡ i + 1 → (i < length columns) × (get_or columns i 0 ≡ column)
place-found [] column i e = absurd (omega arith)
place-found (c ∷ cs) column i e = here (eqb c column) refl e (λ j f. place-found cs column j f)
  where
    Found : ℕ → Type 0
    Found i = (i < suc (length cs)) × (get_or (c ∷ cs) i 0 ≡ column)

    Rest : Type 0
    Rest = (j : ℕ) → place_in cs column ≡ j + 1 → (j < length cs) × (get_or cs j 0 ≡ column)

    later : (i : ℕ) → place_in cs column ≡ i → (place_in cs column ≡ 0 → ⊥) → Rest → Found i
    later zero f n rest = absurd (n f)
    later (suc i) f n rest = let p = rest i (omega arith) in let l = p.0 in (omega arith, p.1)

    past : (b : Bool) → eqb (place_in cs column) 0 ≡ b → cond b 0 (place_in cs column + 1) ≡ i + 1 → Rest → Found i
    past true p f rest = absurd (omega arith)
    past false p f rest = later i (omega arith) (eqb-false (place_in cs column) 0 p) rest

    here : (b : Bool) → eqb c column ≡ b → cond b 1 (cond (eqb (place_in cs column) 0) 0 (place_in cs column + 1)) ≡ i + 1 → Rest → Found i
    here true p f rest = let z : 0 ≡ i = omega arith in subst Found z (omega arith, eqb-true c column p)
    here false p f rest = past (eqb (place_in cs column) 0) refl f rest
