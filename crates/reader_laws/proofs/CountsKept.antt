-- An accepted text's counts: the word of each table that has one holds how many lines the text has of it (`count_kept`). No other word that is kept lies among the counts.
use Prim.Native.Nat.{ℕ, zero, suc, ◌+◌, ◌<◌, ◌≤◌}
use native.Mathlib.Omega.{arith}
use native.Mathlib.Nat.{le_of_suc-le-suc, not-suc-le-zero, zero-add}
use mathlib.Core.Path.{◌≡◌, refl, sym, ◌∙◌, ap, subst}
use mathlib.Core.Bool.{Bool, true, false, ◌&&◌, ◌||◌, cond}
use mathlib.Core.List.{List, [], ◌∷◌}
use lib.ListN.{length, get_or, set, length-set}
use lib.Seq.{get_or-set_same, get_or-set_other}
use lib.Dec.{eqb, ltb, leb}
use lib.Ieee.{Float}
use borrow.Author.Tests.{ltb-true, leb-true, eqb-true, ne_eqb}
use Rattle.records_lent.specs.Lists.{all_below}
use Rattle.records_lent.proofs.TestLaws.{chain-at, all-at}
use Rattle.reader_schema.specs.Schema.{name_of, limit_of}
use Rattle.reader_cells.specs.Cells.{byte_at, name_span}
use Rattle.reader_lines.specs.NamesLine.{head_at}
use Rattle.reader_lines.specs.ValuesLine.{values_at}
use Rattle.std.specs.Prelude.{Option, Some, None}
use Rattle.std.proofs.lemmas.Option.{none-some, same_Some}
use Rattle.reader_cells.specs.declared.names.Span.{Span}
use Rattle.reader_lines.specs.declared.columns.Order.{Order}
use Rattle.reader_lines.specs.declared.columns.Cells.{Cells}
use Rattle.reader_store.specs.Layout.{word_lines, word_columns, count_place, put_at, count_kept, numbers_kept, wants_kept}
use Rattle.reader_store.specs.Progress.{start_progress, ended_progress}
use Rattle.reader_store.specs.Keep.{kept_words, kept_progress}
use Rattle.reader_store.specs.declared.progress.Progress.{Progress}
use Rattle.reader_calls.specs.Reading.{Outcome, done, stop, by_outcome, lines_from, table_at, counted_progress, tables_from, zeros, zero_numbers, by_values, by_head}
use Rattle.reader_laws.specs.Lines.{Lines, lines, broken, by_lines, table_lines, tables_lines, lines_of}
use Rattle.reader_laws.proofs.LowWords.{or_else, Low, low_same, low-then, kept_low}
use Rattle.reader_laws.proofs.ReadTables.{RightForm}
use Rattle.reader_laws.proofs.LinesKept.{Agree, table-agree}

-- ---- the layout's tests: words of lines and ranges stand past the counts; each count has its own word

words-test : all_below (λ t. eqb (length (word_columns t)) 0 || leb 7 (word_lines t).first) 16 ≡ true
unfolding all_below word_lines word_columns
words-test = refl

-- the table whose count a word is
abbrev pub owner : ℕ → ℕ
owner p = get_or (1 ∷ 2 ∷ 3 ∷ 4 ∷ 5 ∷ 6 ∷ 10 ∷ []) p 0

owned : Option ℕ → ℕ → Bool
owned (Some p) t = ltb p 7 && eqb t (owner p)
owned None t = true

owners-test : all_below (λ t. owned (count_place t) t) 16 ≡ true
unfolding all_below count_place owned
owners-test = refl

pub word-past : (t : ℕ) → t < 16 → 0 < length (word_columns t) → 7 ≤ (word_lines t).first
word-past t small h =
    leb-true 7 (word_lines t).first
    (or_else (eqb (length (word_columns t)) 0) (leb 7 (word_lines t).first) (all-at (λ t. eqb (length (word_columns t)) 0 || leb 7 (word_lines t).first) 16 words-test t small) (ne_eqb (length (word_columns t)) 0 (λ z. omega arith)))

-- ---- a table

-- its count's word has the count, the others are as they were
pub record Tallied (t : ℕ) (ws : List ℕ) (n : ℕ) (us : List ℕ) : Type 0 where
  pub same : length us ≡ length ws
  pub other : (i : ℕ) → i < 7 → (count_place t ≡ Some i → ⊥) → get_or us i 0 ≡ get_or ws i 0
  pub count : (p : ℕ) → count_place t ≡ Some p → 7 ≤ length ws → get_or us p 0 ≡ n

abbrev pub TalliedBy : ℕ → List ℕ → Outcome → Type 0
TalliedBy t ws (stop m) = Unit {0}
TalliedBy t ws (done at n progress us ns vs) = Tallied t ws n us

module _ (t : ℕ) (small : t < 16) where
  row : (p : ℕ) → count_place t ≡ Some p → (ltb p 7 ≡ true) × (eqb t (owner p) ≡ true)
  unfolding owned
  row p e =
      let a : owned (Some p) t ≡ true = rw e at (all-at (λ t. owned (count_place t) t) 16 owners-test t small) in
      let c = chain-at (ltb p 7) (eqb t (owner p) ∷ []) a in
      (c 0, c 1)

  pub count-few : (p : ℕ) → count_place t ≡ Some p → p < 7
  count-few p e = ltb-true p 7 (row p e).0

  pub count-owner : (p : ℕ) → count_place t ≡ Some p → t ≡ owner p
  count-owner p e = eqb-true t (owner p) (row p e).1

  count-tallied : (n : ℕ) (xs ws : List ℕ) → Low 7 xs ws → Tallied t ws n (count_kept t n xs)
  unfolding count_kept
  count-tallied n xs ws h = go (count_place t) refl
    where
      go : (o : Option ℕ) → count_place t ≡ o → Tallied t ws n (put_at o n xs)
      go (Some p) e =
          let f = count-few p e in
          let l = h.0 in
          record {
            same = length-set xs p n ∙ h.0;
            other = λ i s q. get_or-set_other xs p i n 0 (λ z. q (e ∙ ap (λ (k : ℕ). Some k) (sym z))) ∙ h.1 i s;
            count = λ q d long. let z = same_Some q p (sym d ∙ e) in ap (λ (k : ℕ). get_or (set xs p n) k 0) z ∙ get_or-set_same xs p n 0 (omega arith);
          }
      go None e = record { same = h.0; other = λ i s q. h.1 i s; count = λ p d. absurd (none-some p (sym e ∙ d)) }

  lines-tallied : (fuel : ℕ) (order : Order) (text : List ℕ) (at k : ℕ) (progress : Progress) (ws : List ℕ) (ns : List Float) (vs : List ℕ) (from : List ℕ) → Low 7 ws from
      → TalliedBy t from (lines_from fuel t order text at k progress ws ns vs)
  unfolding lines_from
  lines-tallied zero order text at k progress ws ns vs from h = go (eqb (byte_at text at) 10) (values_at text at t order)
    where
      go : (a : Bool) (x : Option (Span Cells)) → TalliedBy t from (cond a (done (at + 1) k (ended_progress progress) (count_kept t k ws) ns vs) (by_values x (λ cells next. stop 2)))
      go true x = count-tallied k ws from h
      go false (Some row) = tt
      go false None = tt
  lines-tallied (suc fuel) order text at k progress ws ns vs from h =
      go (eqb (byte_at text at) 10) (values_at text at t order)
      (λ cells next.
      lines-tallied fuel order text next (k + 1) (kept_progress t k cells progress ws) (kept_words t k cells progress ws) (numbers_kept t k cells ns) (wants_kept t k cells vs) from
      (low-then 7 (kept_words t k cells progress ws) ws from (kept_low 7 (omega arith) t (word-past t small) k cells progress ws) h))
    where
      go : (a : Bool) (x : Option (Span Cells)) → ((cells : Cells) (next : ℕ) → TalliedBy t from (lines_from fuel t order text next (k + 1) (kept_progress t k cells progress ws) (kept_words t k cells progress ws) (numbers_kept t k cells ns) (wants_kept t k cells vs))) → TalliedBy t from (cond a (done (at + 1) k (ended_progress progress) (count_kept t k ws) ns vs) (by_values x (λ cells next. lines_from fuel t order text next (k + 1) (kept_progress t k cells progress ws) (kept_words t k cells progress ws) (numbers_kept t k cells ns) (wants_kept t k cells vs))))
      go true x ih = count-tallied k ws from h
      go false (Some row) ih = ih row.value row.next
      go false None ih = tt

  table-tallied : (text : List ℕ) (at : ℕ) (progress : Progress) (ws : List ℕ) (ns : List Float) (vs : List ℕ) → ((p : ℕ) → count_place t ≡ Some p → get_or ws p 0 ≡ 0) → TalliedBy t ws (table_at t text at progress ws ns vs)
  unfolding table_at
  table-tallied text at progress ws ns vs blank =
      go (eqb (name_span text at).value (name_of t)) (head_at text (name_span text at).next t) (λ order next. lines-tallied (limit_of t) order text next 0 progress ws ns vs ws (low_same 7 ws))
    where
      go : (a : Bool) (x : Option (Span Order)) → ((order : Order) (next : ℕ) → TalliedBy t ws (lines_from (limit_of t) t order text next 0 progress ws ns vs))
          → TalliedBy t ws (cond a (by_head x (λ order next. lines_from (limit_of t) t order text next 0 progress ws ns vs)) (done at 0 progress ws ns vs))
      go true (Some head) ih = ih head.value head.next
      go true None ih = tt
      go false x ih = record { same = refl; other = λ i s q. refl; count = λ p e long. blank p e }

-- ---- tables, one after another

-- n tables from t on, kept in ws as us
pub record Counts (n t : ℕ) (ws us : List ℕ) (tables : List (List Cells)) : Type 0 where
  pub same : length us ≡ length ws
  pub other : (i : ℕ) → i < 7 → ((u : ℕ) → t ≤ u → u < t + n → count_place u ≡ Some i → ⊥) → get_or us i 0 ≡ get_or ws i 0
  pub count : (i u p : ℕ) → u ≡ t + i → i < n → count_place u ≡ Some p → get_or us p 0 ≡ length (get_or tables i [])

abbrev pub CountsBy : ℕ → ℕ → List ℕ → List (List Cells) → Outcome → Type 0
CountsBy n t ws tables (stop m) = Unit {0}
CountsBy n t ws tables (done at count progress us ns vs) = Counts n t ws us tables

-- no count yet of a table from t on
abbrev pub Blank : ℕ → List ℕ → Type 0
Blank t ws = (u p : ℕ) → t ≤ u → u < 16 → count_place u ≡ Some p → get_or ws p 0 ≡ 0

module _ (n t : ℕ) (most : t + suc n ≤ 16) (ws : List ℕ) (long : 7 ≤ length ws) (rows : List Cells) (k : ℕ) (all : k ≡ 0 + length rows) (us : List ℕ) (tally : Tallied t ws k us) where
  small : t < 16
  small = omega arith

  apart : (u v p : ℕ) → u < 16 → v < 16 → u < v → count_place u ≡ Some p → count_place v ≡ Some p → ⊥
  apart u v p l m h d e = let f = count-owner u l p d in let g = count-owner v m p e in omega arith

  still-blank : Blank t ws → Blank (t + 1) us
  still-blank b u p h l e = tally.other p (count-few u l p e) (λ d. apart t u p small l (omega arith) d e) ∙ b u p (omega arith) l e

  join : (tables : List (List Cells)) (o : Outcome) → CountsBy n (t + 1) us tables o → CountsBy (suc n) t ws (rows ∷ tables) o
  join tables (stop m) h = tt
  join tables (done at count progress xs ns vs) h =
      record {
        same = h.same ∙ tally.same;
        other = λ i s f. h.other i s (λ u a b. f u (omega arith) (omega arith)) ∙ tally.other i s (f t (omega arith) (omega arith));
        count = counted-as;
      }
    where
      first : (p : ℕ) → count_place t ≡ Some p → get_or xs p 0 ≡ length rows
      first p e =
          h.other p (count-few t small p e) (λ u a b d. apart t u p small (omega arith) (omega arith) e d) ∙ tally.count p e long ∙ all ∙ zero-add (length rows)

      counted-as : (i u p : ℕ) → u ≡ t + i → i < suc n → count_place u ≡ Some p → get_or xs p 0 ≡ length (get_or (rows ∷ tables) i [])
      counted-as zero u p e l d = let r : u ≡ t = omega arith in first p (subst (λ (w : ℕ). count_place w ≡ Some p) r d)
      counted-as (suc i) u p e l d = h.count i u p (omega arith) (le_of_suc-le-suc l) d

pub tables-counted : (n t : ℕ) (text : List ℕ) (at count : ℕ) (progress : Progress) (ws : List ℕ) (ns : List Float) (vs : List ℕ) → t + n ≤ 16 → 7 ≤ length ws → Blank t ws
    → CountsBy n t ws (tables_lines n t text at) (tables_from n t text at count progress ws ns vs)
unfolding tables_lines tables_from
tables-counted zero t text at count progress ws ns vs most long blank = go (ltb at (length text))
  where
    go : (b : Bool) → CountsBy 0 t ws [] (cond b (stop 1) (done at count progress ws ns vs))
    go true = tt
    go false = record { same = refl; other = λ i s f. refl; count = λ i u p e h. absurd (not-suc-le-zero h) }
tables-counted (suc n) t text at count progress ws ns vs most long blank =
    step (table_lines t text at) (table_at t text at progress ws ns vs) (table-agree t text at progress ws ns vs) (table-tallied t (omega arith) text at progress ws ns vs (λ p e. blank t p (omega arith) (omega arith) e))
    (λ at' count' progress' us xs vs' long' blank'. tables-counted n (t + 1) text at' count' progress' us xs vs' (omega arith) long' blank')
  where
    step : (p : Lines) (o : Outcome) → Agree t (limit_of t) 0 ns p o → TalliedBy t ws o
        → ((at' count' : ℕ) (progress' : Progress) (us : List ℕ) (xs : List Float) (vs' : List ℕ) → 7 ≤ length us → Blank (t + 1) us → CountsBy n (t + 1) us (tables_lines n (t + 1) text at') (tables_from n (t + 1) text at' count' progress' us xs vs'))
        → CountsBy (suc n) t ws (by_lines p (λ rows next. rows ∷ tables_lines n (t + 1) text next))
        (by_outcome o (λ at' count' progress' us xs vs'. tables_from n (t + 1) text at' count' (counted_progress t count' progress') us xs vs'))
    step p (stop m) a b ih = tt
    step broken (done at' count' progress' us xs vs') a b ih = absurd a
    step (lines rows next) (done at' count' progress' us xs vs') a b ih =
        let l : 7 ≤ length us = let e = b.same in omega arith in
        join n t most ws long rows count' a.1 us b (tables_lines n (t + 1) text next) (tables_from n (t + 1) text at' count' (counted_progress t count' progress') us xs vs')
        (subst (λ (q : ℕ). CountsBy n (t + 1) us (tables_lines n (t + 1) text q) (tables_from n (t + 1) text at' count' (counted_progress t count' progress') us xs vs')) a.0
        (ih at' count' (counted_progress t count' progress') us xs vs' l (still-blank n t most ws long rows count' a.1 us b blank)))

-- ---- a whole text

pub zeros-blank : (n i : ℕ) → get_or (zeros n) i 0 ≡ 0
unfolding zeros
zeros-blank zero i = refl
zeros-blank (suc n) zero = refl
zeros-blank (suc n) (suc i) = zeros-blank n i

module _ (text : List ℕ) (l m n at count : ℕ) (progress : Progress) (ws : List ℕ) (ns : List Float) (vs : List ℕ) (form : RightForm text l m n (done at count progress ws ns vs)) where
  all-counts : Counts 16 0 (zeros l) ws (tables_lines 16 0 text 0)
  all-counts =
      let long = form.words_long in
      subst (λ (o : Outcome). CountsBy 16 0 (zeros l) (tables_lines 16 0 text 0) o) form.tables
      (tables-counted 16 0 text 0 0 start_progress (zeros l) (zero_numbers m) (zeros n) (omega arith) (omega arith) (λ u p h i e. zeros-blank l p))

  -- of geom, elev, bank, offset, tshift, section and profile
  pub count_kept_lem : (t p : ℕ) → t < 16 → count_place t ≡ Some p → get_or ws p 0 ≡ length (lines_of text t)
  unfolding lines_of
  count_kept_lem t p h = all-counts.count t t p (sym (zero-add t)) h
