-- The last start that the limit reaches: the starts below n alone decide, it is one of them and at most the limit, and those after it are not. By induction.
use Prim.Native.Nat.{ℕ, zero, suc, ◌<◌}
use native.Mathlib.Omega.{arith}
use mathlib.Core.Path.{◌≡◌, refl, sym, ap, ◌∙◌}
use mathlib.Core.Bool.{Bool, true, false, cond}
use mathlib.Core.Logic.{⊎_elim}
use native.Mathlib.Nat.{le_of_suc-le-suc, eq-or-lt_of_le}
use lib.Ieee.{Float, le}
use Rattle.std.specs.declared.option.Option.TheVariants.{Some}
use Rattle.records_lent.specs.Lists.{last_that}
use Rattle.records_lent.proofs.TableLaws.{last_that-same}
use Rattle.records.specs.Active.{last_start}

pub last_start-same : (f g : ℕ → Float) (limit : Float) (n : ℕ) → ((i : ℕ) → i < n → f i ≡ g i) → last_start f limit n ≡ last_start g limit n
unfolding last_start
last_start-same f g limit n h = last_that-same _ _ n (λ i l. ap (λ (x : Float). le x limit) (h i l))

same_place : {i j : ℕ} → Some i ≡ Some j → i ≡ j
same_place e = cc

pub last_start-below : (f : ℕ → Float) (limit : Float) (n i : ℕ) → last_start f limit n ≡ Some i → i < n
unfolding last_start last_that
last_start-below f limit zero i e = cc
last_start-below f limit (suc n) i e = go (last_start-below f limit n i) (le (f n) limit) e
  where
    go : (last_start f limit n ≡ Some i → i < n) → (b : Bool) → cond b (Some n) (last_start f limit n) ≡ Some i → i < suc n
    go below true h = let g = same_place h in omega arith
    go below false h = let l = below h in omega arith

pub last_start-reached : (f : ℕ → Float) (limit : Float) (n i : ℕ) → last_start f limit n ≡ Some i → le (f i) limit ≡ true
unfolding last_start last_that
last_start-reached f limit zero i e = cc
last_start-reached f limit (suc n) i e = go (last_start-reached f limit n i) (le (f n) limit) refl e
  where
    go : (last_start f limit n ≡ Some i → le (f i) limit ≡ true) → (b : Bool) → le (f n) limit ≡ b → cond b (Some n) (last_start f limit n) ≡ Some i → le (f i) limit ≡ true
    go below true t h = ap (λ (k : ℕ). le (f k) limit) (sym (same_place h)) ∙ t
    go below false t h = below h

pub last_start-after : (f : ℕ → Float) (limit : Float) (n i j : ℕ) → last_start f limit n ≡ Some i → i < j → j < n → le (f j) limit ≡ false
unfolding last_start last_that
last_start-after f limit zero i j e h k = cc
last_start-after f limit (suc n) i j e h k = go (λ g. last_start-after f limit n i j g h) (le (f n) limit) refl e
  where
    go : (last_start f limit n ≡ Some i → j < n → le (f j) limit ≡ false) → (b : Bool) → le (f n) limit ≡ b → cond b (Some n) (last_start f limit n) ≡ Some i → le (f j) limit ≡ false
    go below true t g = let o = same_place g in absurd (omega arith)
    go below false t g = ⊎_elim (λ o. ap (λ (x : ℕ). le (f x) limit) o ∙ t) (below g) (eq-or-lt_of_le (le_of_suc-le-suc k))
