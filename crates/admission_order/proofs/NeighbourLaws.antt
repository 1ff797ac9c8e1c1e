-- What `is_sorted_by` of a run over a range, or over a list, answers: the test at each index and the next, in the words of `Lists`.
use Prim.Native.Nat.{ℕ, zero, suc, ◌+◌, ◌-◌, ◌<◌, ◌≤◌}
use native.Mathlib.Omega.{arith}
use mathlib.Core.Path.{◌≡◌, refl, sym, ap, ◌∙◌, subst}
use mathlib.Core.Bool.{Bool, true, false}
use mathlib.Core.List.{List, map}
use lib.ListN.{length, get_or}
use denote.Param.Members.{Mut}
use Rattle.std.specs.Prelude.{slice_index_or}
use Rattle.std.specs.declared.ops.Range.{Range}
use Rattle.std.specs.declared.option.Option.{Option}
use Rattle.std.specs.declared.option.Option.TheVariants.{Some}
use Rattle.std.specs.Bool.{OnTrue, IsTrue}
use Rattle.std.specs.List.{IsAllAdjacentAnswer}
use Rattle.std.specs.Iterator.{ActsAs, YieldsFirst}
use Rattle.std.specs.Iterator.Order.{IsSortedAnswer}
use Rattle.std.specs.Iterator.Runs.{Run, IsMapRun, ItemsAre}
use Rattle.std.specs.Option.{unwrap_or}
use Rattle.std.proofs.iter.Yields.{nat_range_steps}
use Rattle.std.proofs.iter.runs.Sources.{range_runs}
use Rattle.std.proofs.iter.Rest.{run_of_first}
use Rattle.std.proofs.lemmas.List.{get_or-map}
use Rattle.records_lent.specs.Lists.{all_below}
use Rattle.records_lent.proofs.TestLaws.{all-at}

-- a test that passes at each index passes below n
all-of : (p : ℕ → Bool) (n : ℕ) → ((i : ℕ) → i < n → p i ≡ true) → all_below p n ≡ true
unfolding all_below
all-of p zero h = refl
all-of p (suc n) h = rw (all-of p n (λ i l. h i (omega arith)), h n (omega arith)) refl

-- one that fails somewhere below n does not
not-all : (p : ℕ → Bool) (n i : ℕ) → i < n → p i ≡ false → false ≡ all_below p n
not-all p n i l e = go (all_below p n) (λ t. all-at p n t i l)
  where
    go : (b : Bool) → (b ≡ true → p i ≡ true) → false ≡ b
    go true h = sym e ∙ h refl
    go false h = refl

-- xs are the first of n starts, all of them if the answer is true
neighbours : {A : Type 0} (start : ℕ → A) (h : A → A → Bool) (n : ℕ) (xs : List A) (r : Bool) → length xs ≤ n → (r ≡ true → length xs ≡ n) → ((k : ℕ) (d : A) → k < length xs → slice_index_or xs k d ≡ start k)
    → IsAllAdjacentAnswer (λ x y b. h x y ≡ b) xs r → r ≡ all_below (λ i. h (start i) (start (i + 1))) (n - 1)
neighbours start h n xs true few all at is =
    let long = all refl in
    sym (all-of (λ i. h (start i) (start (i + 1))) (n - 1) (λ i l.
    rw (← at i (start 0) (omega arith), ← at (i + 1) (start 0) (omega arith)) (is i (start 0) (omega arith))))
neighbours start h n xs false few all at (k, l, is) =
    not-all (λ i. h (start i) (start (i + 1))) (n - 1) k (omega arith) (rw (← at k (start 0) (omega arith), ← at (k + 1) (start 0) (omega arith)) (is (start 0)))

-- the k-th item of a range from 0 is k
index : (q : Run nat_range_steps) (n : ℕ) → q.from ≡ record { start = 0; end = n } → (k : ℕ) (d : ℕ) → k < q.len → slice_index_or q.items k d ≡ k
index q n e k d l =
    let up = range_runs q q.seen in
    let a : q.from.start ≡ 0 = ap (λ (s : Range ℕ). s.start) e in
    let b : Some (slice_index_or q.items k d) ≡ Some (q.from.start + k) = sym (q.reads k d l) ∙ up.3 k l in
    ap (λ o. unwrap_or o d) b ∙ (let o : q.from.start + k ≡ k = omega arith in o)

module _ {A F S : Type 0} {steps : S → Option A → S → Type 0} {g : Mut F (ℕ × Unit {0}) A} {f : F} (p : Run steps) (q : Run nat_range_steps) (start : ℕ → A) (h : A → A → Bool) (n : ℕ) where
  -- what `(0..n).map(f).is_sorted_by(g)` answered, f answering start at each index and g answering h
  pub sorted_range : {r : Bool} → q.from ≡ record { start = 0; end = n } → IsMapRun p q g f → ActsAs g f start → OnTrue r (IsTrue p.whole) → IsSortedAnswer h p.items r → r ≡ all_below (λ i. h (start i) (start (i + 1))) (n - 1)
  sorted_range {r} e m acts whole is =
      let up = range_runs q q.seen in
      let a : q.from.start ≡ 0 = ap (λ (s : Range ℕ). s.start) e in
      let b : q.from.end ≡ n = ap (λ (s : Range ℕ). s.end) e in
      let items : p.items ≡ map start q.items = m.3 start acts in
      let long : length p.items ≡ q.len = sym p.long ∙ m.1 in
      neighbours start h n p.items r (omega (arith, up.0)) (λ t. long ∙ up.1 (m.0 ∙ w r whole t) ∙ (let o : q.from.end - q.from.start ≡ n = omega arith in o))
      (λ k d l. ap (λ xs. slice_index_or xs k d) items ∙ get_or-map start q.items k 0 d (omega (arith, q.long)) ∙ ap start (index q n e k 0 (omega arith))) is.0
    where
      w : (b : Bool) → OnTrue b (IsTrue p.whole) → b ≡ true → p.whole ≡ true
      w true k t = k
      w false k t = absurd (subst (λ b. elim b as (λ _. Type 0) [ true ↦ Unit {0} | false ↦ ⊥ ]) (sym t) tt)

-- the same of `xs.iter().map(f).is_sorted_by(g)`, f answering start of each
module _ {A B F S : Type 0} {steps : S → Option A → S → Type 0} {g : Mut F (B × Unit {0}) A} {f : F} (p : Run steps) (q : Run (YieldsFirst (λ (l : List B). l))) (start : B → A) (h : A → A → Bool) (xs : List B) (d : B) where
  pub sorted_listed :
      {r : Bool} → q.from ≡ xs → IsMapRun p q g f → ActsAs g f start → OnTrue r (IsTrue p.whole) → IsSortedAnswer h p.items r
      → r ≡ all_below (λ i. h (start (get_or xs i d)) (start (get_or xs (i + 1) d))) (length xs - 1)
  sorted_listed {r} e m acts whole is =
      let up = (run_of_first (λ (l : List B). l) q).1 in
      let size : length q.from ≡ length xs = ap length e in
      let items : p.items ≡ map start q.items = m.3 start acts in
      let long : length p.items ≡ q.len = sym p.long ∙ m.1 in
      neighbours (λ i. start (get_or xs i d)) h (length xs) p.items r (omega (arith, up.0)) (λ t. long ∙ up.1 (m.0 ∙ w r whole t) ∙ size)
      (λ k z l. ap (λ ys. slice_index_or ys k z) items ∙ get_or-map start q.items k d z (omega (arith, q.long)) ∙ ap start (at up k (omega arith) e)) is.0
    where
      w : (b : Bool) → OnTrue b (IsTrue p.whole) → b ≡ true → p.whole ≡ true
      w true k t = k
      w false k t = absurd (subst (λ b. elim b as (λ _. Type 0) [ true ↦ Unit {0} | false ↦ ⊥ ]) (sym t) tt)

      at : ItemsAre q q.from → (k : ℕ) → k < q.len → q.from ≡ xs → slice_index_or q.items k d ≡ get_or xs k d
      at up k l e = ap (λ o. unwrap_or o d) (sym (q.reads k d l) ∙ up.2 k d l) ∙ ap (λ ys. get_or ys k d) e
