-- What a test that passed tells: both parts of a conjunction, each test of a chain of `&&`, the test at each index of `all_below`. By induction.
-- And that a list has an element where it is not empty.
use Prim.Native.Nat.{ℕ, zero, suc, ◌<◌}
use native.Mathlib.Nat.{le_of_suc-le-suc, not-suc-le-zero, eq-or-lt_of_le}
use native.Mathlib.Omega.{arith}
use mathlib.Core.Path.{◌≡◌, refl}
use mathlib.Core.Bool.{Bool, true, ◌&&◌, not}
use mathlib.Core.Logic.{⊎_elim}
use mathlib.Core.List.{List, [], ◌∷◌}
use lib.Dec.{eqb, ltb}
use lib.ListN.{get_or}
use borrow.Author.Tests.{lt-ltb, ne_eqb}
use Rattle.std.proofs.lemmas.Bool.{and_parts}
use Rattle.records_lent.specs.Lists.{all_below}

-- either part alone of the library's `and_parts`: each use wants one
pub and-fst : (a b : Bool) → a && b ≡ true → a ≡ true
and-fst a b e = (and_parts a b e).0

pub and-snd : (a b : Bool) → a && b ≡ true → b ≡ true
and-snd a b e = (and_parts a b e).1

-- a && b && c .. as a first test and a list of the others
abbrev pub chain : Bool → List Bool → Bool
chain a [] = a
chain a (b ∷ bs) = chain (a && b) bs

chain_first : (a : Bool) (bs : List Bool) → chain a bs ≡ true → a ≡ true
chain_first a [] e = e
chain_first a (b ∷ bs) e = and-fst a b (chain_first (a && b) bs e)

-- the i-th test of a chain
pub chain-at : (a : Bool) (bs : List Bool) → chain a bs ≡ true → (i : ℕ) → get_or (a ∷ bs) i true ≡ true
chain-at a bs e zero = chain_first a bs e
chain-at a [] e (suc i) = refl
chain-at a (b ∷ bs) e (suc zero) = and-snd a b (chain_first (a && b) bs e)
chain-at a (b ∷ bs) e (suc (suc i)) = chain-at (a && b) bs e (suc i)

pub all-at : (p : ℕ → Bool) (n : ℕ) → all_below p n ≡ true → (i : ℕ) → i < n → p i ≡ true
unfolding all_below
all-at p zero e i l = absurd (not-suc-le-zero l)
all-at p (suc n) e i l =
    ⊎_elim
    (λ q. rw q (and-snd (all_below p n) (p n) e))
    (λ m. all-at p n (and-fst (all_below p n) (p n) e) i m)
    (eq-or-lt_of_le (le_of_suc-le-suc l))

pub not_empty : (n : ℕ) → not (eqb n 0) ≡ ltb 0 n
not_empty zero = refl
not_empty (suc n) = rw (ne_eqb (suc n) 0 (λ e. absurd (omega (arith, e))), lt-ltb 0 (suc n) (omega arith))
