-- The list of what is kept: each that is kept stands behind as many as are kept before it, there are as many as are kept, and a later element is of a later one.
use Prim.Native.Nat.{ℕ, zero, suc, ◌+◌, ◌≤◌, ◌<◌}
use native.Mathlib.Nat.{eq-or-lt_of_le, le_of_suc-le-suc}
use native.Mathlib.Omega.{arith}
use mathlib.Core.Path.{◌≡◌, refl, sym, ap, ◌∙◌, subst}
use mathlib.Core.Logic.{⊎_elim}
use mathlib.Core.Bool.{Bool, true, false, cond}
use mathlib.Core.List.{List, [], ◌∷◌, ◌++◌}
use lib.ListN.{length, get_or}
use lib.Dec.{leb}
use borrow.Author.Tests.{leb-true, leb-false}
use lib.Ieee.{Float, nan}
use Rattle.std.proofs.lemmas.List.{length_push, get_or_push, get_or_append_left, append-nil}
use Rattle.dots.specs.Dots.{kept_of}
use Rattle.dots_laws.specs.DotsKept.{passing, kept_before, Taken, ListIs}

module _ (at : ℕ → Float) (keep : Float → Bool) where
  abbrev list : ℕ → List Float
  list m = kept_of at keep m

  abbrev before : ℕ → ℕ
  before k = kept_before at keep k

  -- one more
  kept-next : (m : ℕ) → keep (at m) ≡ true → (list (suc m) ≡ list m ++ (at m ∷ [])) × (before (suc m) ≡ before m + 1)
  unfolding kept_of passing
  kept-next m e = (ap (λ (b : Bool). kept_of at keep m ++ cond b (at m ∷ []) []) e, ap (λ (b : Bool). passing (λ j. keep (at j)) m + cond b 1 0) e)

  left-next : (m : ℕ) → keep (at m) ≡ false → (list (suc m) ≡ list m) × (before (suc m) ≡ before m)
  unfolding kept_of passing
  left-next m e = (ap (λ (b : Bool). kept_of at keep m ++ cond b (at m ∷ []) []) e ∙ append-nil (kept_of at keep m), ap (λ (b : Bool). passing (λ j. keep (at j)) m + cond b 1 0) e ∙ (let z : passing (λ j. keep (at j)) m + 0 ≡ passing (λ j. keep (at j)) m = omega arith in z))

  nothing : (list 0 ≡ []) × (before 0 ≡ 0)
  unfolding kept_of passing
  nothing = (refl, refl)

  pub kept-count : (m : ℕ) → length (list m) ≡ before m
  kept-count zero = ap length nothing.0 ∙ sym nothing.1
  kept-count (suc m) = go (keep (at m)) refl (kept-count m)
    where
      go : (b : Bool) → keep (at m) ≡ b → length (list m) ≡ before m → length (list (suc m)) ≡ before (suc m)
      go true e h = let k = kept-next m e in ap length k.0 ∙ length_push (list m) (at m) ∙ ap (λ (i : ℕ). i + 1) h ∙ sym k.1
      go false e h = let k = left-next m e in ap length k.0 ∙ h ∙ sym k.1

  before-next : (k : ℕ) → before k ≤ before (suc k)
  before-next k = go (keep (at k)) refl
    where
      go : (b : Bool) → keep (at k) ≡ b → before k ≤ before (suc k)
      go true e = let h = (kept-next k e).1 in omega arith
      go false e = let h = (left-next k e).1 in omega arith

  before_rise : (k l : ℕ) → k ≤ l → before k ≤ before l
  before_rise k zero h = let e : k ≡ 0 = omega arith in subst (λ (i : ℕ). before i ≤ before 0) (sym e) (omega arith)
  before_rise k (suc l) h =
      ⊎_elim
      (λ (e : k ≡ suc l). subst (λ (i : ℕ). before i ≤ before (suc l)) (sym e) (omega arith))
      (λ (g : k < suc l). let a = before_rise k l (le_of_suc-le-suc g) in let b = before-next l in omega arith)
      (eq-or-lt_of_le h)

  -- one that is kept counts before the later ones
  behind : (k l : ℕ) → k < l → keep (at k) ≡ true → before k < before l
  behind k l h e = let a = (kept-next k e).1 in let b = before_rise (suc k) l h in omega arith

  -- so of two that are kept, the one with no more before it is no later
  pub in_order : (k l : ℕ) → keep (at l) ≡ true → before k ≤ before l → k ≤ l
  in_order k l e h = go (leb k l) refl
    where
      go : (b : Bool) → leb k l ≡ b → k ≤ l
      go true f = leb-true k l f
      go false f = let g = behind l k (leb-false k l f) e in absurd (omega arith)

  -- what stood in the list stays there
  stays : (m i : ℕ) → i < length (list m) → get_or (list (suc m)) i nan ≡ get_or (list m) i nan
  stays m i h = go (keep (at m)) refl
    where
      go : (b : Bool) → keep (at m) ≡ b → get_or (list (suc m)) i nan ≡ get_or (list m) i nan
      go true e = ap (λ (xs : List Float). get_or xs i nan) (kept-next m e).0 ∙ get_or_append_left (list m) (at m ∷ []) nan i h
      go false e = ap (λ (xs : List Float). get_or xs i nan) (left-next m e).0

  pub kept-all : (m k : ℕ) → k < m → keep (at k) ≡ true → get_or (list m) (before k) nan ≡ at k
  kept-all zero k h e = absurd (omega arith)
  kept-all (suc m) k h e =
      ⊎_elim
      (λ (g : k ≡ m). let q : keep (at m) ≡ true = subst (λ (i : ℕ). keep (at i) ≡ true) g e in
      ap (λ (i : ℕ). get_or (list (suc m)) (before i) nan) g ∙ ap (λ (xs : List Float). get_or xs (before m) nan) (kept-next m q).0 ∙ get_or_push (list m) (at m) nan (before m) (kept-count m) ∙ ap at (sym g))
      (λ (g : k < m). stays m (before k) (let a = behind k m g e in let b = kept-count m in omega arith) ∙ kept-all m k g e)
      (eq-or-lt_of_le (le_of_suc-le-suc h))

  later : (m i : ℕ) → i < length (list m) → Taken at keep m (list m) i → Taken at keep (suc m) (list (suc m)) i
  later m i h t = let l = t.there in record { k = t.k; there = omega arith; kept = t.kept; before = t.before; is = stays m i h ∙ t.is }

  pub kept-only : (m i : ℕ) → i < length (list m) → Taken at keep m (list m) i
  kept-only zero i h = let e : length (list 0) ≡ 0 = ap length nothing.0 in absurd (omega arith)
  kept-only (suc m) i h = go (keep (at m)) refl (leb (suc i) (length (list m))) refl (kept-only m i)
    where
      go : (b : Bool) → keep (at m) ≡ b → (c : Bool) → leb (suc i) (length (list m)) ≡ c → (i < length (list m) → Taken at keep m (list m) i) → Taken at keep (suc m) (list (suc m)) i
      go b e true f r = let l = leb-true (suc i) (length (list m)) f in later m i l (r l)
      go true e false f r =
          let l = leb-false (suc i) (length (list m)) f in
          let a = kept-count m in
          let b = kept-count (suc m) in
          let d = (kept-next m e).1 in
          let w : before m ≡ i = omega arith in
          record { k = m; there = omega arith; kept = e; before = w; is = subst (λ (j : ℕ). get_or (list (suc m)) j nan ≡ at m) w (kept-all (suc m) m (omega arith) e) }
      go false e false f r =
          let l = leb-false (suc i) (length (list m)) f in
          let a = kept-count m in
          let b = kept-count (suc m) in
          let d = (left-next m e).1 in
          absurd (omega arith)

  pub list-kept : (m : ℕ) → ListIs at keep m (list m)
  list-kept m = record { all = kept-all m; count = kept-count m; only = kept-only m }
