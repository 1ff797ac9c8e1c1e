-- What `all`, `any` and `rfind` over a range answer, in the words of `Lists`.
use Prim.Native.Nat.{ℕ, zero, suc, ◌+◌}
use native.Mathlib.Nat.{add-zero, zero-add}
use native.Mathlib.Omega.{arith}
use mathlib.Core.Path.{◌≡◌, refl, ap, ◌∙◌, sym, subst}
use mathlib.Core.Bool.{Bool, true, false, ◌&&◌, ◌||◌, and-true, and_assoc, or-false, or_assoc}
use mathlib.Core.List.{List, [], ◌∷◌}
use denote.Param.Members.{Mut}
use denote.Ref.{Bor}
use Rattle.std.specs.declared.option.Option.{Option}
use Rattle.std.specs.declared.ops.Range.{Range}
use Rattle.std.proofs.iter.Yields.{nat_range_steps}
use Rattle.std.proofs.iter.runs.Sources.{nat_range_steps_back}
use Rattle.std.specs.declared.option.Option.TheVariants.{None, Some}
use Rattle.std.specs.Fn.{Called, CalledAt}
use lib.ListN.{length, get_or}
use Rattle.std.specs.Iterator.{Yields, YieldsThen, YieldsFirst}
use Rattle.std.specs.List.{FoldsTo, range_with_len, list_all, list_any}
use Rattle.std.specs.Option.{MatchOption}
use Rattle.std.proofs.lemmas.Iterator.{YieldsList-from_range}
use Rattle.std.proofs.lemmas.Iterator.Consumers.{YieldsList-from_first}
use Rattle.std.proofs.lemmas.Iterator.Search.{all_from_yields_List, any_from_yields_List}
use Rattle.records_lent.specs.Lists.{all_below, any_below, last_that}

-- the first index taken out
pub all-front : (p : ℕ → Bool) (n : ℕ) → all_below p (suc n) ≡ p 0 && all_below (λ i. p (suc i)) n
unfolding all_below
all-front p zero = sym (and-true (p 0))
all-front p (suc n) = ap (λ b. b && p (suc n)) (all-front p n) ∙ and_assoc (p 0) (all_below (λ i. p (suc i)) n) (p (suc n))

pub any-front : (p : ℕ → Bool) (n : ℕ) → any_below p (suc n) ≡ p 0 || any_below (λ i. p (suc i)) n
unfolding any_below
any-front p zero = sym (or-false (p 0))
any-front p (suc n) = ap (λ b. b || p (suc n)) (any-front p n) ∙ or_assoc (p 0) (any_below (λ i. p (suc i)) n) (p (suc n))

over : (a k : ℕ) → a + 1 + k ≡ a + suc k
over a k = omega arith

list_all-range : (p : ℕ → Bool) (a n : ℕ) → list_all p (range_with_len a n) ≡ all_below (λ i. p (a + i)) n
unfolding all_below
list_all-range p a zero = refl
list_all-range p a (suc n) =
    ap (λ b. p a && b) (list_all-range p (a + 1) n ∙ ap (λ (q : ℕ → Bool). all_below q n) (λ i k. p (over a k i)))
    ∙ ap (λ (k : ℕ). p k && all_below (λ i. p (a + suc i)) n) (sym (add-zero a))
    ∙ sym (all-front (λ i. p (a + i)) n)

list_any-range : (p : ℕ → Bool) (a n : ℕ) → list_any p (range_with_len a n) ≡ any_below (λ i. p (a + i)) n
unfolding any_below
list_any-range p a zero = refl
list_any-range p a (suc n) =
    ap (λ b. p a || b) (list_any-range p (a + 1) n ∙ ap (λ (q : ℕ → Bool). any_below q n) (λ i k. p (over a k i)))
    ∙ ap (λ (k : ℕ). p k || any_below (λ i. p (a + suc i)) n) (sym (add-zero a))
    ∙ sym (any-front (λ i. p (a + i)) n)

module _ {F : Type 0} {g : Mut F (ℕ × Unit {0}) Bool} (p : ℕ → Bool) (n : ℕ) {u : Range ℕ} {f : F} {r : Bool} where
  -- what `(0..n).all(f)` answered, f answering p at each index
  pub all_range : (xs : List ℕ) × (o : Option ℕ) × (j : F) × YieldsThen nat_range_steps (record { start = 0; end = n }) xs o u × FoldsTo (λ q x v. Called g q (x, tt) true v) f xs j × MatchOption o (r ≡ true) (λ x. (r ≡ false) × ((h : F) × Called g j (x, tt) false h))
      → ((x : ℕ) (b : Bool) (q : F) → Called g f (x, tt) b q → (q ≡ f) × (b ≡ p x))
      → r ≡ all_below p n
  all_range ran says = all_from_yields_List p u f r ran (YieldsList-from_range 0 n n refl (omega arith)) says ∙ list_all-range p 0 n ∙ ap (λ (q : ℕ → Bool). all_below q n) (λ i k. p (zero-add k i))

  -- what `(0..n).any(f)` answered
  pub any_range : (xs : List ℕ) × (o : Option ℕ) × (j : F) × YieldsThen nat_range_steps (record { start = 0; end = n }) xs o u × FoldsTo (λ q x v. Called g q (x, tt) false v) f xs j × MatchOption o (r ≡ false) (λ x. (r ≡ true) × ((h : F) × Called g j (x, tt) true h))
      → ((x : ℕ) (b : Bool) (q : F) → Called g f (x, tt) b q → (q ≡ f) × (b ≡ p x))
      → r ≡ any_below p n
  any_range ran says = any_from_yields_List p u f r ran (YieldsList-from_range 0 n n refl (omega arith)) says ∙ list_any-range p 0 n ∙ ap (λ (q : ℕ → Bool). any_below q n) (λ i k. p (zero-add k i))

module _ {F : Type 0} {g : Mut F (Bor ℕ × Unit {0}) Bool} (p : ℕ → Bool) (f : F) (says : (x : ℕ) (b : Bool) (q : F) → CalledAt g f x b q → (q ≡ f) × (b ≡ p x)) where
  -- what a search down from n answered
  down : (xs : List ℕ) (n : ℕ) (s t u : Range ℕ) (r : Option ℕ) (j : F) → s ≡ record { start = 0; end = n } → Yields nat_range_steps_back s xs t → nat_range_steps_back t r u
      → FoldsTo (λ q x v. CalledAt g q x false v) f xs j → MatchOption r (Unit {0}) (λ x. (h : F) × CalledAt g j x true h) → r ≡ last_that p n
  unfolding last_that
  down [] zero s t u None j e y k c h = refl
  down [] (suc n) s t u None j e y k c h =
      let a : t.start ≡ 0 = ap (λ (v : Range ℕ). v.start) (sym y ∙ e) in
      let b : t.end ≡ suc n = ap (λ (v : Range ℕ). v.end) (sym y ∙ e) in
      absurd (omega (arith, k.1.0))
  down [] zero s t u (Some x) j e y k c h =
      let b : t.end ≡ 0 = ap (λ (v : Range ℕ). v.end) (sym y ∙ e) in
      absurd (omega (arith, k.1.0))
  down [] (suc n) s t u (Some x) j e y k c h =
      let b : t.end ≡ suc n = ap (λ (v : Range ℕ). v.end) (sym y ∙ e) in
      let at : x ≡ n = omega (arith, k.1.1, k.1.2) in
      let q = says x true h.0 (subst (λ (v : F). CalledAt g v x true h.0) (sym c) h.1) in
      let yes : p n ≡ true = sym (q.1 ∙ ap p at) in
      ap Some at ∙ rw yes refl
  down (x ∷ xs) zero s t u r j e y k c h =
      let b : s.end ≡ 0 = ap (λ (v : Range ℕ). v.end) e in
      absurd (omega (arith, y.1.1.0))
  down (x ∷ xs) (suc n) s t u r j e y k c h =
      let b : s.end ≡ suc n = ap (λ (v : Range ℕ). v.end) e in
      let a : s.start ≡ 0 = ap (λ (v : Range ℕ). v.start) e in
      let v = y.0 in
      let start : v.start ≡ 0 = y.1.0 ∙ a in
      let end : v.end ≡ n = omega (arith, y.1.1.2) in
      let at : x ≡ n = y.1.1.1 ∙ end in
      let q = says x false c.0 c.1 in
      let no : p n ≡ false = sym (q.1 ∙ ap p at) in
      down xs n v t u r j (λ i. record { start = start i; end = end i }) y.2 k (subst (λ (w : F). FoldsTo (λ q x v. CalledAt g q x false v) w xs j) q.0 c.2) h ∙ rw no refl

  -- what `(0..n).rfind(f)` answered, f answering p at each index
  pub last_range : (n : ℕ) (u : Range ℕ) {r : Option ℕ} → (xs : List ℕ) × (j : F) × YieldsThen nat_range_steps_back (record { start = 0; end = n }) xs r u × FoldsTo (λ q x v. CalledAt g q x false v) f xs j × MatchOption r (Unit {0}) (λ x. (h : F) × CalledAt g j x true h)
      → r ≡ last_that p n
  last_range n u {r} ran = down ran.0 n _ ran.2.0 u r ran.1 refl ran.2.1 ran.2.2 ran.3 ran.4

-- ---- over a list whose `next` gives its first

list_all-below : {A : Type 0} (p : A → Bool) (xs : List A) (d : A) → list_all p xs ≡ all_below (λ i. p (get_or xs i d)) (length xs)
unfolding all_below
list_all-below p [] d = refl
list_all-below p (x ∷ xs) d = ap (λ b. p x && b) (list_all-below p xs d) ∙ sym (all-front (λ i. p (get_or (x ∷ xs) i d)) (length xs))

list_any-below : {A : Type 0} (p : A → Bool) (xs : List A) (d : A) → list_any p xs ≡ any_below (λ i. p (get_or xs i d)) (length xs)
unfolding any_below
list_any-below p [] d = refl
list_any-below p (x ∷ xs) d = ap (λ b. p x || b) (list_any-below p xs d) ∙ sym (any-front (λ i. p (get_or (x ∷ xs) i d)) (length xs))

module _ {A F : Type 0} {g : Mut F (A × Unit {0}) Bool} (p : A → Bool) (d : A) {s t u : List A} {f : F} {r : Bool} where
  -- what `all(f)` over s, which is t, answered, f answering p of each
  pub all_listed : (xs : List A) × (o : Option A) × (j : F) × YieldsThen (YieldsFirst (λ l. l)) s xs o u × FoldsTo (λ q x v. Called g q (x, tt) true v) f xs j × MatchOption o (r ≡ true) (λ x. (r ≡ false) × ((h : F) × Called g j (x, tt) false h))
      → s ≡ t → ((x : A) (b : Bool) (q : F) → Called g f (x, tt) b q → (q ≡ f) × (b ≡ p x))
      → r ≡ all_below (λ i. p (get_or t i d)) (length t)
  all_listed ran e says = all_from_yields_List p u f r ran (YieldsList-from_first (λ x. x) (λ l. l) t e) says ∙ list_all-below p t d

  -- what `any(f)` answered
  pub any_listed : (xs : List A) × (o : Option A) × (j : F) × YieldsThen (YieldsFirst (λ l. l)) s xs o u × FoldsTo (λ q x v. Called g q (x, tt) false v) f xs j × MatchOption o (r ≡ false) (λ x. (r ≡ true) × ((h : F) × Called g j (x, tt) true h))
      → s ≡ t → ((x : A) (b : Bool) (q : F) → Called g f (x, tt) b q → (q ≡ f) × (b ≡ p x))
      → r ≡ any_below (λ i. p (get_or t i d)) (length t)
  any_listed ran e says = any_from_yields_List p u f r ran (YieldsList-from_first (λ x. x) (λ l. l) t e) says ∙ list_any-below p t d
