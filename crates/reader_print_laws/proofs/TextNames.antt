-- A line of names that a text has: each of its words names a column of the table, and every column is named. Each name was still due and is then no more, so as many names as there are columns leave none due.
use Prim.Native.Nat.{ℕ, zero, suc, ◌+◌, ◌<◌}
use native.Mathlib.Omega.{arith}
use mathlib.Core.Path.{◌≡◌, refl, sym, ◌∙◌, ap, subst}
use mathlib.Core.Bool.{Bool, true, false, cond}
use mathlib.Core.List.{List, [], ◌∷◌}
use lib.ListN.{length, get_or, set, length-set}
use lib.Seq.{get_or-set_same, get_or-set_other}
use lib.Dec.{eqb}
use borrow.Author.Tests.{eqb-true, eqb-false, ltb-true}
use Rattle.records_lent.specs.Lists.{all_below}
use Rattle.records_lent.proofs.TestLaws.{all-at}
use Rattle.reader_schema.specs.Schema as schema
use Rattle.reader_schema.specs.Schema.{word_count}
use Rattle.reader_cells.specs.Cells.{byte_at}
use Rattle.reader_lines.specs.Columns.{no_order, all_due, is_due, met_in, ordered_column, ordered_by}
use Rattle.reader_lines.specs.NamesLine.{by_name, column_at, names_from, head_at}
use Rattle.reader_lines.specs.declared.columns.Order.{Order}
use Rattle.reader_lines.specs.declared.columns.Due.{Due}
use Rattle.reader_cells.specs.declared.names.Span.{Span}
use Rattle.std.specs.Prelude.{Option, Some, None}
use Rattle.std.proofs.lemmas.Option.{none-some, same_Some}
use Rattle.reader_print_laws.proofs.Places.{no-good}
use Rattle.reader_print_laws.proofs.Line.{columns-few}

-- ---- columns that are due

trues : List Bool → ℕ
trues [] = 0
trues (true ∷ bs) = suc (trues bs)
trues (false ∷ bs) = trues bs

one_less : (bs : List Bool) (c : ℕ) → get_or bs c false ≡ true → suc (trues (set bs c false)) ≡ trues bs
unfolding trues
one_less [] c e = no-good e
one_less (true ∷ bs) zero e = refl
one_less (false ∷ bs) zero e = no-good e
one_less (true ∷ bs) (suc c) e = ap suc (one_less bs c e)
one_less (false ∷ bs) (suc c) e = one_less bs c e

none_left : (bs : List Bool) (c : ℕ) → trues bs ≡ 0 → get_or bs c false ≡ false
unfolding trues
none_left [] c e = refl
none_left (true ∷ bs) c e = absurd (omega arith)
none_left (false ∷ bs) zero e = refl
none_left (false ∷ bs) (suc c) e = none_left bs c e

no_more : (bs : List Bool) (d c : ℕ) → get_or (set bs d false) c false ≡ true → get_or bs c false ≡ true
no_more [] d c e = e
no_more (b ∷ bs) zero zero e = no-good e
no_more (b ∷ bs) zero (suc c) e = e
no_more (b ∷ bs) (suc d) zero e = e
no_more (b ∷ bs) (suc d) (suc c) e = no_more bs d c e

due_below : (n c : ℕ) → is_due (all_due n) c ≡ true → c < n
due_below n zero e = ltb-true 0 n e
due_below n (suc zero) e = ltb-true 1 n e
due_below n (suc (suc zero)) e = ltb-true 2 n e
due_below n (suc (suc (suc zero))) e = ltb-true 3 n e
due_below n (suc (suc (suc (suc zero)))) e = ltb-true 4 n e
due_below n (suc (suc (suc (suc (suc zero))))) e = ltb-true 5 n e
due_below n (suc (suc (suc (suc (suc (suc zero)))))) e = ltb-true 6 n e
due_below n (suc (suc (suc (suc (suc (suc (suc zero))))))) e = ltb-true 7 n e
due_below n (suc (suc (suc (suc (suc (suc (suc (suc c)))))))) e = no-good e

all-test : all_below (λ t. all_below (λ c. is_due (all_due (word_count t)) c) (word_count t)) 16 ≡ true
unfolding all_below schema.word_count schema.counts
all-test = refl

trues-test : all_below (λ t. eqb (trues (all_due (word_count t)).of) (word_count t)) 16 ≡ true
unfolding all_below trues schema.word_count schema.counts
trues-test = refl

-- ---- the names

-- column c is named by one of the first i words
pub record Named (order : Order) (i c : ℕ) : Type 0 where
  pub word : ℕ
  pub below : word < i
  pub is : ordered_column order word ≡ c

-- every word names a column of the table, every column is named
pub record Full (t : ℕ) (order : Order) : Type 0 where
  pub columns : (j : ℕ) → j < word_count t → ordered_column order j < word_count t
  pub named : (c : ℕ) → c < word_count t → Named order (word_count t) c

module _ (t : ℕ) (small : t < 16) where
  record Naming (i : ℕ) (due : Due) (order : Order) : Type 0 where
    long : length order.of ≡ 8
    left : trues due.of + i ≡ word_count t
    inside : (c : ℕ) → is_due due c ≡ true → c < word_count t
    columns : (j : ℕ) → j < i → ordered_column order j < word_count t
    named : (c : ℕ) → c < word_count t → is_due due c ≡ false → Named order i c

  naming-start : Naming 0 (all_due (word_count t)) no_order
  naming-start =
      record {
        long = refl;
        left = let e = eqb-true (trues (all_due (word_count t)).of) (word_count t) (all-at (λ t. eqb (trues (all_due (word_count t)).of) (word_count t)) 16 trues-test t small) in omega arith;
        inside = due_below (word_count t);
        columns = λ j l. absurd (omega arith);
        named = λ c l e. let f : is_due (all_due (word_count t)) c ≡ true = all-at (λ c. is_due (all_due (word_count t)) c) (word_count t) (all-at (λ t. all_below (λ c. is_due (all_due (word_count t)) c) (word_count t)) 16 all-test t small) c l in no-good (sym e ∙ f);
      }

  naming-next : (i : ℕ) (due : Due) (order : Order) (d : ℕ) → i < word_count t → is_due due d ≡ true → Naming i due order → Naming (i + 1) (met_in due d) (ordered_by order i d)
  naming-next i due order d l e a =
      record {
        long = length-set order.of i d ∙ a.long;
        left = omega (arith, one_less due.of d e, a.left);
        inside = λ c f. a.inside c (no_more due.of d c f);
        columns = columns;
        named = named;
      }
    where
      here : ordered_column (ordered_by order i d) i ≡ d
      here = get_or-set_same order.of i d 0 (omega (arith, a.long, columns-few t small))

      columns : (j : ℕ) → j < i + 1 → ordered_column (ordered_by order i d) j < word_count t
      columns j m = go (eqb j i) refl
        where
          go : (b : Bool) → eqb j i ≡ b → ordered_column (ordered_by order i d) j < word_count t
          go true f = rw (eqb-true j i f, here) (a.inside d e)
          go false f = let z = eqb-false j i f in rw (get_or-set_other order.of i j d 0 z) (a.columns j (omega (arith, z)))

      named : (c : ℕ) → c < word_count t → is_due (met_in due d) c ≡ false → Named (ordered_by order i d) (i + 1) c
      named c m f = go (eqb c d) refl
        where
          go : (b : Bool) → eqb c d ≡ b → Named (ordered_by order i d) (i + 1) c
          go true g = record { word = i; below = omega arith; is = here ∙ sym (eqb-true c d g) }
          go false g =
              let n = a.named c m (sym (get_or-set_other due.of d c false false (eqb-false c d g)) ∙ f) in
              record { word = n.word; below = omega (arith, n.below); is = get_or-set_other order.of i n.word d 0 (λ z. omega (arith, n.below)) ∙ n.is }

  names-full : (n : ℕ) (text : List ℕ) (at i : ℕ) (due : Due) (order : Order) → n + i ≡ word_count t → Naming i due order → (h : Span Order) → names_from n text at t i due order ≡ Some h → Full t h.value
  unfolding names_from
  names-full zero text at i due order c a h = go (eqb (byte_at text at) 10)
    where
      full : Full t order
      full =
          let z : i ≡ word_count t = omega arith in
          record { columns = λ j l. a.columns j (omega arith); named = λ d l. subst (λ (m : ℕ). Named order m d) z (a.named d l (none_left due.of d (omega (arith, a.left)))) }

      go : (b : Bool) → cond b (Some (let h : Span Order = record { value = order; next = at + 1 } in h)) None ≡ Some h → Full t h.value
      go true e = subst (Full t) (ap (λ (x : Span Order). x.value) (same_Some _ _ e)) full
      go false e = absurd (none-some h e)
  names-full (suc n) text at i due order c a h =
      go (column_at text at t) (λ column next e. names-full n text next (i + 1) (met_in due column) (ordered_by order i column) (omega arith) (naming-next i due order column (omega arith) e a) h)
    where
      by : (b : Bool) {x : Option (Span Order)} → (b ≡ true → x ≡ Some h → Full t h.value) → cond b x None ≡ Some h → Full t h.value
      by true f e = f refl e
      by false f e = absurd (none-some h e)

      go : (w : Option (Span ℕ))
          → ((column next : ℕ) → is_due due column ≡ true → names_from n text next t (i + 1) (met_in due column) (ordered_by order i column) ≡ Some h → Full t h.value)
          → by_name w (λ column next. cond (is_due due column) (names_from n text next t (i + 1) (met_in due column) (ordered_by order i column)) None) ≡ Some h → Full t h.value
      go (Some w) f e = by (is_due due w.value) (f w.value w.next) e
      go None f e = absurd (none-some h e)

  pub head-full : (text : List ℕ) (at : ℕ) (h : Span Order) → head_at text at t ≡ Some h → Full t h.value
  unfolding head_at
  head-full text at = names-full (word_count t) text at 0 (all_due (word_count t)) no_order (omega arith) naming-start
