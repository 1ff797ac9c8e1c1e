-- What `rposition` over a slice answers: the last place at which the test passes. By induction on the elements that it took.
use Prim.Native.Nat.{ℕ, suc, ◌+◌}
use native.Mathlib.Omega.{arith}
use native.Mathlib.Numerals.{add-one}
use mathlib.Core.Path.{◌≡◌, refl, ap, ◌∙◌, sym, subst}
use mathlib.Core.Bool.{Bool, true, false}
use mathlib.Core.List.{List, [], ◌∷◌, ◌++◌}
use lib.ListN.{length, get_or}
use denote.Param.Members.{Mut}
use denote.Ref.{Bor}
use Rattle.std.specs.declared.option.Option.{Option}
use Rattle.std.specs.declared.option.Option.TheVariants.{None, Some}
use Rattle.std.specs.declared.slice.Iter.{Iter}
use Rattle.std.specs.Fn.{Called}
use Rattle.std.specs.Iterator.{Yields, FindsPositionBack}
use Rattle.std.specs.List.{FoldsTo}
use Rattle.std.specs.Option.{MatchOption, IsSomeAnd}
use Rattle.std.specs.Slice.Iter.{iter_steps_back}
use Rattle.std.proofs.lemmas.List.{length_push, get_or_push, get_or_append_left}
use Rattle.records_lent.specs.Lists.{last_that}
use Rattle.records_lent.proofs.TableLaws.{last_that-same}

-- one element fewer was taken of a list shorter by one
fewer :
    {A : Type 0} (o : Option A) (r : Option ℕ) (Q : A → Type 0) (n m k : ℕ) → k ≡ m + 1 → MatchOption o (r ≡ None) (λ x. IsSomeAnd r (λ i. i + 1 + suc n ≡ k) × Q x)
    → MatchOption o (r ≡ None) (λ x. IsSomeAnd r (λ i. i + 1 + n ≡ m) × Q x)
fewer None r Q n m k e h = h
fewer (Some x) None Q n m k e h = absurd h.0
fewer (Some x) (Some i) Q n m k e h = let g = h.0 in (omega arith, h.1)

module _ {A F : Type 0} {g : Mut F (Bor A × Unit {0}) Bool} (p : A → Bool) (f : F) (d : A) (says : (x : Bor A) (b : Bool) (q : F) → Called g f (x, tt) b q → (q ≡ f) × (b ≡ p x.now)) where
  last : List A → Option ℕ
  last l = last_that (λ i. p (get_or l i d)) (length l)

  last-hit : (l : List A) (y : A) → p y ≡ true → last (l ++ y ∷ []) ≡ Some (length l)
  unfolding last_that last
  last-hit l y e = rw (length_push, add-one, get_or_push l y d (length l) refl, e)

  last-miss : (l : List A) (y : A) → p y ≡ false → last (l ++ y ∷ []) ≡ last l
  unfolding last_that last
  last-miss l y e =
      rw (length_push, add-one, get_or_push l y d (length l) refl, e)
      (last_that-same _ _ (length l) (λ i h. ap p (get_or_append_left l (y ∷ []) d i h)))

  down :
      (xs : List (Bor A)) (s t u : Iter A) (o : Option (Bor A)) (r : Option ℕ) (j : F) → Yields iter_steps_back s xs t → iter_steps_back t o u → FoldsTo (λ q x v. Called g q (x, tt) false v) f xs j
      → MatchOption o (r ≡ None) (λ x. IsSomeAnd r (λ i. i + 1 + length xs ≡ length s.rest.now) × ((h : F) × Called g j (x, tt) true h)) → r ≡ last s.rest.now
  unfolding last_that last
  down [] s t u None r j y k c h =
      let none : length s.rest.now ≡ 0 = ap (λ (v : Iter A). length v.rest.now) y ∙ k.0 in
      rw none h
  down [] s t u (Some x) None j y k c h = absurd h.0
  down [] s t u (Some x) (Some i) j y k c h =
      let whole : s.rest.now ≡ u.rest.now ++ x.now ∷ [] = ap (λ (v : Iter A). v.rest.now) y ∙ k in
      let q = says x true h.1.0 (subst (λ (v : F). Called g v (x, tt) true h.1.0) (sym c) h.1.1) in
      let n : length s.rest.now ≡ length u.rest.now + 1 = ap length whole ∙ length_push u.rest.now x.now in
      let m = h.0 in
      let at : i ≡ length u.rest.now = omega arith in
      ap Some at ∙ sym (ap last whole ∙ last-hit u.rest.now x.now (sym q.1))
  down (x ∷ xs) s t u o r j y k c h =
      let v = y.0 in
      let whole : s.rest.now ≡ v.rest.now ++ x.now ∷ [] = y.1 in
      let q = says x false c.0 c.1 in
      let n : length s.rest.now ≡ length v.rest.now + 1 = ap length whole ∙ length_push v.rest.now x.now in
      down xs v t u o r j y.2 k (subst (λ (w : F). FoldsTo (λ q x v. Called g q (x, tt) false v) w xs j) q.0 c.2) (fewer o r _ (length xs) (length v.rest.now) (length s.rest.now) n h)
      ∙ sym (ap last whole ∙ last-miss v.rest.now x.now (sym q.1))

  pub last_position : {s u : Iter A} {r : Option ℕ} → FindsPositionBack iter_steps_back g s f (length s.rest.now) r u → r ≡ last_that (λ i. p (get_or s.rest.now i d)) (length s.rest.now)
  unfolding last
  last_position {s} {u} {r} ran = down ran.0 s _ u ran.1 r ran.2 ran.3.1 ran.3.2 ran.4 ran.5
