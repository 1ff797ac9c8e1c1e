-- What a fold over a range answers that keeps the greater of two. By induction on the range.
use Prim.Native.Nat.{ℕ, zero, suc, ◌+◌}
use native.Mathlib.Omega.{arith}
use native.Mathlib.Numerals.{add-one}
use mathlib.Core.Path.{◌≡◌, refl, ap, ◌∙◌, sym}
use mathlib.Core.Bool.{cond}
use mathlib.Core.List.{List}
use lib.Ieee.{Float, lt}
use denote.Param.Members.{Mut}
use Rattle.std.proofs.iter.Yields.{nat_range_steps}
use Rattle.std.specs.Fn.{Called}
use Rattle.std.specs.Iterator.{Drains}
use Rattle.std.specs.List.{FoldsTo, fold, range_with_len}
use Rattle.std.proofs.lemmas.Iterator.{YieldsList-from_range}
use Rattle.std.proofs.lemmas.Iterator.Consumers.{fold_from_yields_List}
use Rattle.float_laws.specs.Binary64.{zero64}
use Rattle.admission_bounds.specs.Bounds.{greatest}

module _ (f : ℕ → Float) where
  -- the greatest so far, and the value at i
  abbrev step : Float → ℕ → Float
  step most i = cond (lt most (f i)) (f i) most

  next : (a : ℕ) → step (greatest f a) a ≡ greatest f (a + 1)
  unfolding greatest
  next a = rw add-one refl

  fold-range : (a n : ℕ) → fold step (greatest f a) (range_with_len a n) ≡ greatest f (a + n)
  fold-range a zero = ap (greatest f) (let e : a ≡ a + 0 = omega arith in e)
  fold-range a (suc n) =
      ap (λ m. fold step m (range_with_len (a + 1) n)) (next a)
      ∙ fold-range (a + 1) n
      ∙ ap (greatest f) (let e : a + 1 + n ≡ a + suc n = omega arith in e)

  none : greatest f 0 ≡ zero64
  unfolding greatest
  none = refl

  -- what `(0..n).fold(0.0, k)` answered, k keeping the greater at each index
  pub greatest_range : {F : Type 0} {g : Mut F (Float × (ℕ × Unit {0})) Float} (n : ℕ) {k : F} {r : Float}
      → ((xs : List ℕ) × (q : F) × Drains nat_range_steps (record { start = 0; end = n }) xs × FoldsTo {P = F × Float} (λ a x b. Called g a.0 (a.1, (x, tt)) b.1 b.0) (k, zero64) xs (q, r))
      → ((a : Float) (x : ℕ) (b : Float) (q : F) → Called g k (a, (x, tt)) b q → (q ≡ k) × (b ≡ cond (lt a (f x)) (f x) a))
      → r ≡ greatest f n
  greatest_range {F} {g} n {k} {r} ran says =
      fold_from_yields_List g step zero64 r ran (YieldsList-from_range 0 n n refl (omega arith)) says
      ∙ ap (λ m. fold step m (range_with_len 0 n)) (sym none)
      ∙ fold-range 0 n
      ∙ ap (greatest f) (let e : 0 + n ≡ n = omega arith in e)
