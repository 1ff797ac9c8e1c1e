-- An accepted text's kinds of geometries: word 7 + k is the place of line k's kind in its list (`kind-kept`). No other table keeps a word between the counts and the sections' words.
use Prim.Native.Nat.{ℕ, zero, suc, ◌+◌, ◌*◌, ◌<◌, ◌≤◌}
use native.Mathlib.Omega.{arith}
use native.Mathlib.Nat.{le_of_suc-le-suc, not-suc-le-zero, zero-add, add-zero}
use mathlib.Core.Path.{◌≡◌, refl, sym, ◌∙◌, ap, subst}
use mathlib.Core.Bool.{Bool, true, false, ◌||◌, cond}
use Rattle.reader_store.proofs.Puts.{one_on}
use mathlib.Core.List.{List, [], ◌∷◌}
use lib.ListN.{length, get_or, set, length-set}
use lib.Seq.{get_or-set_same, get_or-set_other}
use lib.Dec.{eqb, ltb, leb}
use lib.Ieee.{Float}
use borrow.Author.Tests.{leb-true, eqb-true, eqb-false, ne_eqb}
use Rattle.records_lent.specs.Lists.{all_below}
use Rattle.records_lent.proofs.TestLaws.{all-at}
use Rattle.reader_schema.specs.Schema.{name_of, limit_of}
use Rattle.reader_cells.specs.Cells.{byte_at, name_span}
use Rattle.reader_lines.specs.NamesLine.{head_at}
use Rattle.reader_lines.specs.ValuesLine.{values_at}
use Rattle.std.specs.Prelude.{Option, Some, None}
use Rattle.reader_cells.specs.declared.names.Span.{Span}
use Rattle.reader_lines.specs.declared.columns.Order.{Order}
use Rattle.reader_lines.specs.Columns.{cell_of, no_cells}
use Rattle.reader_lines.specs.declared.columns.Cells.{Cells}
use Rattle.reader_store.specs.Layout.{word_lines, word_columns, code_of, cells_kept, codes_kept, count_place, put_at, count_kept, rule_of, numbers_kept, wants_kept}
use Rattle.reader_store.specs.Progress.{start_progress, ended_progress}
use Rattle.reader_store.specs.Keep.{ruled_words, kept_words, kept_progress}
use Rattle.reader_store.specs.declared.progress.Progress.{Progress}
use Rattle.reader_calls.specs.Reading.{Outcome, done, stop, by_outcome, lines_from, table_at, counted_progress, tables_from, zeros, zero_numbers, by_values, by_head}
use Rattle.reader_laws.specs.Lines.{Lines, lines, broken, after, by_lines, lines_at, table_lines, tables_lines, lines_of, by_row, by_names}
use Rattle.reader_laws.proofs.LowWords.{or_else, Low, low_same, low-then, kept_low}
use Rattle.reader_laws.proofs.CountsKept.{count-few}
use Rattle.reader_laws.proofs.LineLimits.{line_limits}
use Rattle.reader_laws.proofs.ReadTables.{RightForm}
use Rattle.reader_laws.proofs.LinesKept.{Agree, table-agree}

-- ---- the lines of geom

unfoldable kinds_put : ℕ → List Cells → List ℕ → List ℕ
kinds_put k [] ws = ws
kinds_put k (r ∷ rs) ws = kinds_put (k + 1) rs (set ws (7 + k) (code_of (cell_of r 5)))

kinds-other : (rows : List Cells) (k j : ℕ) (ws : List ℕ) → j < 7 + k → get_or (kinds_put k rows ws) j 0 ≡ get_or ws j 0
unfolding kinds_put
kinds-other [] k j ws h = refl
kinds-other (r ∷ rs) k j ws h = kinds-other rs (k + 1) j (set ws (7 + k) (code_of (cell_of r 5))) (omega arith) ∙ get_or-set_other ws (7 + k) j (code_of (cell_of r 5)) 0 (λ e. omega arith)

kinds-same : (rows : List Cells) (k i : ℕ) (ws : List ℕ) → i < length rows → 7 + (k + length rows) ≤ length ws → get_or (kinds_put k rows ws) (7 + (k + i)) 0 ≡ code_of (cell_of (get_or rows i no_cells) 5)
unfolding kinds_put
kinds-same [] k i ws h l = absurd (not-suc-le-zero h)
kinds-same (r ∷ rs) k zero ws h l =
    ap (λ (j : ℕ). get_or (kinds_put (k + 1) rs (set ws (7 + k) (code_of (cell_of r 5)))) (7 + j) 0) (add-zero k)
    ∙ kinds-other rs (k + 1) (7 + k) (set ws (7 + k) (code_of (cell_of r 5))) (omega arith)
    ∙ get_or-set_same ws (7 + k) (code_of (cell_of r 5)) 0 (omega arith)
kinds-same (r ∷ rs) k (suc i) ws h l =
    ap (λ (j : ℕ). get_or (kinds_put (k + 1) rs (set ws (7 + k) (code_of (cell_of r 5)))) (7 + j) 0) (one_on k i)
    ∙ kinds-same rs (k + 1) i (set ws (7 + k) (code_of (cell_of r 5))) (le_of_suc-le-suc h) (let e = length-set ws (7 + k) (code_of (cell_of r 5)) in omega arith)

kind-line : (k : ℕ) (cells : Cells) (progress : Progress) (ws : List ℕ) → kept_words 1 k cells progress ws ≡ set ws (7 + k) (code_of (cell_of cells 5))
unfolding kept_words ruled_words codes_kept cells_kept word_columns word_lines rule_of
kind-line k cells progress ws = ap (λ (p : ℕ). set ws p (code_of (cell_of cells 5))) (place k)
  where
    place : (k : ℕ) → 7 + k * 1 ≡ 7 + k
    place k = omega arith

-- a count is kept below 7
count_past : (t : ℕ) → t < 16 → (n : ℕ) (ws : List ℕ) (j : ℕ) → 7 ≤ j → get_or (count_kept t n ws) j 0 ≡ get_or ws j 0
unfolding count_kept
count_past t small n ws j h = go (count_place t) refl
  where
    go : (o : Option ℕ) → count_place t ≡ o → get_or (put_at o n ws) j 0 ≡ get_or ws j 0
    go (Some p) e = let f = count-few t small p e in get_or-set_other ws p j n 0 (λ q. omega arith)
    go None e = refl

abbrev KindsBy : ℕ → List ℕ → Lines → Outcome → Type 0
KindsBy k ws p (stop m) = Unit {0}
KindsBy k ws broken (done at n progress us ns vs) = Unit {0}
KindsBy k ws (lines rows next) (done at n progress us ns vs) = (j : ℕ) → 7 ≤ j → get_or us j 0 ≡ get_or (kinds_put k rows ws) j 0

kinds-after : (k : ℕ) (cells : Cells) (progress : Progress) (ws : List ℕ) (p : Lines) (o : Outcome) → KindsBy (k + 1) (kept_words 1 k cells progress ws) p o → KindsBy k ws (after cells p) o
unfolding kinds_put
kinds-after k cells progress ws p (stop m) a = tt
kinds-after k cells progress ws broken (done at n progress' us ns vs) a = tt
kinds-after k cells progress ws (lines rows next) (done at n progress' us ns vs) a = λ j h. a j h ∙ ap (λ (xs : List ℕ). get_or (kinds_put (k + 1) rows xs) j 0) (kind-line k cells progress ws)

kinds-lines : (fuel : ℕ) (order : Order) (text : List ℕ) (at k : ℕ) (progress : Progress) (ws : List ℕ) (ns : List Float) (vs : List ℕ) → KindsBy k ws (lines_at fuel 1 order text at) (lines_from fuel 1 order text at k progress ws ns vs)
unfolding lines_at lines_from kinds_put
kinds-lines zero order text at k progress ws ns vs = go (eqb (byte_at text at) 10) (values_at text at 1 order)
  where
    go : (a : Bool) (x : Option (Span Cells)) → KindsBy k ws (cond a (lines [] (at + 1)) broken) (cond a (done (at + 1) k (ended_progress progress) (count_kept 1 k ws) ns vs) (by_values x (λ cells next. stop 2)))
    go true x = count_past 1 (omega arith) k ws
    go false (Some row) = tt
    go false None = tt
kinds-lines (suc fuel) order text at k progress ws ns vs = go (eqb (byte_at text at) 10) (values_at text at 1 order) (λ cells next. kinds-lines fuel order text next (k + 1) (kept_progress 1 k cells progress ws) (kept_words 1 k cells progress ws) (numbers_kept 1 k cells ns) (wants_kept 1 k cells vs))
  where
    go : (a : Bool) (x : Option (Span Cells)) → ((cells : Cells) (next : ℕ) → KindsBy (k + 1) (kept_words 1 k cells progress ws) (lines_at fuel 1 order text next) (lines_from fuel 1 order text next (k + 1) (kept_progress 1 k cells progress ws) (kept_words 1 k cells progress ws) (numbers_kept 1 k cells ns) (wants_kept 1 k cells vs)))
        → KindsBy k ws (cond a (lines [] (at + 1)) (by_row x (λ cells next. after cells (lines_at fuel 1 order text next)))) (cond a (done (at + 1) k (ended_progress progress) (count_kept 1 k ws) ns vs) (by_values x (λ cells next. lines_from fuel 1 order text next (k + 1) (kept_progress 1 k cells progress ws) (kept_words 1 k cells progress ws) (numbers_kept 1 k cells ns) (wants_kept 1 k cells vs))))
    go true x ih = count_past 1 (omega arith) k ws
    go false (Some row) ih = kinds-after k row.value progress ws (lines_at fuel 1 order text row.next) _ (ih row.value row.next)
    go false None ih = tt

kinds-table : (text : List ℕ) (at : ℕ) (progress : Progress) (ws : List ℕ) (ns : List Float) (vs : List ℕ) → KindsBy 0 ws (table_lines 1 text at) (table_at 1 text at progress ws ns vs)
unfolding table_lines table_at kinds_put
kinds-table text at progress ws ns vs =
    go (eqb (name_span text at).value (name_of 1)) (head_at text (name_span text at).next 1) (λ order next. kinds-lines (limit_of 1) order text next 0 progress ws ns vs)
  where
    go : (a : Bool) (x : Option (Span Order)) → ((order : Order) (next : ℕ) → KindsBy 0 ws (lines_at (limit_of 1) 1 order text next) (lines_from (limit_of 1) 1 order text next 0 progress ws ns vs))
        → KindsBy 0 ws (cond a (by_names x (λ order next. lines_at (limit_of 1) 1 order text next)) (lines [] at)) (cond a (by_head x (λ order next. lines_from (limit_of 1) 1 order text next 0 progress ws ns vs)) (done at 0 progress ws ns vs))
    go true (Some head) ih = ih head.value head.next
    go true None ih = tt
    go false x ih = λ j h. refl

-- ---- the other tables

others-test : all_below (λ t. eqb t 1 || (eqb (length (word_columns t)) 0 || leb 71 (word_lines t).first)) 16 ≡ true
unfolding all_below word_lines word_columns
others-test = refl

abbrev OthersBy : List ℕ → Outcome → Type 0
OthersBy ws (stop m) = Unit {0}
OthersBy ws (done at n progress us ns vs) = (length us ≡ length ws) × ((j : ℕ) → 7 ≤ j → j < 71 → get_or us j 0 ≡ get_or ws j 0)

count-length : (t n : ℕ) (ws : List ℕ) → length (count_kept t n ws) ≡ length ws
unfolding count_kept
count-length t n ws = go (count_place t)
  where
    go : (o : Option ℕ) → length (put_at o n ws) ≡ length ws
    go (Some p) = length-set ws p n
    go None = refl

module _ (t : ℕ) (small : t < 16) (unlike : t ≡ 1 → ⊥) where
  word-past : 0 < length (word_columns t) → 71 ≤ (word_lines t).first
  word-past h =
      let past = leb 71 (word_lines t).first in
      let none = eqb (length (word_columns t)) 0 in
      let a = all-at (λ t. eqb t 1 || (eqb (length (word_columns t)) 0 || leb 71 (word_lines t).first)) 16 others-test t small in
      leb-true 71 (word_lines t).first (or_else none past (or_else (eqb t 1) (none || past) a (ne_eqb t 1 unlike)) (ne_eqb (length (word_columns t)) 0 (λ z. omega arith)))

  ended : (k : ℕ) (ws from : List ℕ) → Low 71 ws from → (length (count_kept t k ws) ≡ length from) × ((j : ℕ) → 7 ≤ j → j < 71 → get_or (count_kept t k ws) j 0 ≡ get_or from j 0)
  ended k ws from h = (count-length t k ws ∙ h.0, λ j p q. count_past t small k ws j p ∙ h.1 j q)

  others-lines : (fuel : ℕ) (order : Order) (text : List ℕ) (at k : ℕ) (progress : Progress) (ws : List ℕ) (ns : List Float) (vs : List ℕ) (from : List ℕ) → Low 71 ws from
      → OthersBy from (lines_from fuel t order text at k progress ws ns vs)
  unfolding lines_from
  others-lines zero order text at k progress ws ns vs from h = go (eqb (byte_at text at) 10) (values_at text at t order)
    where
      go : (a : Bool) (x : Option (Span Cells)) → OthersBy from (cond a (done (at + 1) k (ended_progress progress) (count_kept t k ws) ns vs) (by_values x (λ cells next. stop 2)))
      go true x = ended k ws from h
      go false (Some row) = tt
      go false None = tt
  others-lines (suc fuel) order text at k progress ws ns vs from h =
      go (eqb (byte_at text at) 10) (values_at text at t order)
      (λ cells next.
      others-lines fuel order text next (k + 1) (kept_progress t k cells progress ws) (kept_words t k cells progress ws) (numbers_kept t k cells ns) (wants_kept t k cells vs) from
      (low-then 71 (kept_words t k cells progress ws) ws from (kept_low 71 (omega arith) t word-past k cells progress ws) h))
    where
      go : (a : Bool) (x : Option (Span Cells)) → ((cells : Cells) (next : ℕ) → OthersBy from (lines_from fuel t order text next (k + 1) (kept_progress t k cells progress ws) (kept_words t k cells progress ws) (numbers_kept t k cells ns) (wants_kept t k cells vs))) → OthersBy from (cond a (done (at + 1) k (ended_progress progress) (count_kept t k ws) ns vs) (by_values x (λ cells next. lines_from fuel t order text next (k + 1) (kept_progress t k cells progress ws) (kept_words t k cells progress ws) (numbers_kept t k cells ns) (wants_kept t k cells vs))))
      go true x ih = ended k ws from h
      go false (Some row) ih = ih row.value row.next
      go false None ih = tt

  others-table : (text : List ℕ) (at : ℕ) (progress : Progress) (ws : List ℕ) (ns : List Float) (vs : List ℕ) → OthersBy ws (table_at t text at progress ws ns vs)
  unfolding table_at
  others-table text at progress ws ns vs =
      go (eqb (name_span text at).value (name_of t)) (head_at text (name_span text at).next t) (λ order next. others-lines (limit_of t) order text next 0 progress ws ns vs ws (low_same 71 ws))
    where
      go : (a : Bool) (x : Option (Span Order)) → ((order : Order) (next : ℕ) → OthersBy ws (lines_from (limit_of t) t order text next 0 progress ws ns vs))
          → OthersBy ws (cond a (by_head x (λ order next. lines_from (limit_of t) t order text next 0 progress ws ns vs)) (done at 0 progress ws ns vs))
      go true (Some head) ih = ih head.value head.next
      go true None ih = tt
      go false x ih = (refl, λ j p q. refl)

-- ---- tables, one after another

record Kinds (n t : ℕ) (ws us : List ℕ) (tables : List (List Cells)) : Type 0 where
  other : 1 < t → (j : ℕ) → 7 ≤ j → j < 71 → get_or us j 0 ≡ get_or ws j 0
  kind : (i k : ℕ) → t + i ≡ 1 → i < n → k < length (get_or tables i []) → get_or us (7 + k) 0 ≡ code_of (cell_of (get_or (get_or tables i []) k no_cells) 5)

abbrev KindsOf : ℕ → ℕ → List ℕ → List (List Cells) → Outcome → Type 0
KindsOf n t ws tables (stop m) = Unit {0}
KindsOf n t ws tables (done at count progress us ns vs) = Kinds n t ws us tables

-- any table but geom, then the rest
join-other : (n t : ℕ) → (t ≡ 1 → ⊥) → (ws us : List ℕ) → ((j : ℕ) → 7 ≤ j → j < 71 → get_or us j 0 ≡ get_or ws j 0) → (rows : List Cells) (tables : List (List Cells)) (o : Outcome)
    → KindsOf n (t + 1) us tables o → KindsOf (suc n) t ws (rows ∷ tables) o
join-other n t unlike ws us same rows tables (stop m) h = tt
join-other n t unlike ws us same rows tables (done at count progress xs ns vs) h = record { other = λ l j p q. h.other (omega arith) j p q ∙ same j p q; kind = kinds }
  where
    kinds : (i k : ℕ) → t + i ≡ 1 → i < suc n → k < length (get_or (rows ∷ tables) i []) → get_or xs (7 + k) 0 ≡ code_of (cell_of (get_or (get_or (rows ∷ tables) i []) k no_cells) 5)
    kinds zero k e l m = absurd (unlike (omega arith))
    kinds (suc i) k e l m = h.kind i k (omega arith) (le_of_suc-le-suc l) m

-- geom, then the rest
join-geom : (n : ℕ) (ws us : List ℕ) (rows : List Cells) → 71 ≤ length ws → length rows ≤ limit_of 1 → ((j : ℕ) → 7 ≤ j → get_or us j 0 ≡ get_or (kinds_put 0 rows ws) j 0) → (tables : List (List Cells)) (o : Outcome)
    → KindsOf n (1 + 1) us tables o → KindsOf (suc n) 1 ws (rows ∷ tables) o
join-geom n ws us rows long few put tables (stop m) h = tt
join-geom n ws us rows long few put tables (done at count progress xs ns vs) h = record { other = λ l. absurd (omega arith); kind = kinds }
  where
    kinds : (i k : ℕ) → 1 + i ≡ 1 → i < suc n → k < length (get_or (rows ∷ tables) i []) → get_or xs (7 + k) 0 ≡ code_of (cell_of (get_or (get_or (rows ∷ tables) i []) k no_cells) 5)
    kinds zero k e l m =
        let g = line_limits.geoms in
        h.other (omega arith) (7 + k) (omega arith) (omega arith) ∙ put (7 + k) (omega arith)
        ∙ ap (λ (j : ℕ). get_or (kinds_put 0 rows ws) (7 + j) 0) (sym (zero-add k))
        ∙ kinds-same rows 0 k ws m (omega arith)
    kinds (suc i) k e l m = absurd (omega arith)

tables-kinds : (n t : ℕ) (text : List ℕ) (at count : ℕ) (progress : Progress) (ws : List ℕ) (ns : List Float) (vs : List ℕ) → t + n ≤ 16 → (t ≤ 1 → 71 ≤ length ws)
    → KindsOf n t ws (tables_lines n t text at) (tables_from n t text at count progress ws ns vs)
unfolding tables_lines tables_from
tables-kinds zero t text at count progress ws ns vs most long = go (ltb at (length text))
  where
    go : (b : Bool) → KindsOf 0 t ws [] (cond b (stop 1) (done at count progress ws ns vs))
    go true = tt
    go false = record { other = λ l j p q. refl; kind = λ i k e h. absurd (not-suc-le-zero h) }
tables-kinds (suc n) t text at count progress ws ns vs most long =
    step (table_lines t text at) (table_at t text at progress ws ns vs) (table-agree t text at progress ws ns vs)
    (λ e. subst (λ (w : ℕ). KindsBy 0 ws (table_lines w text at) (table_at w text at progress ws ns vs)) (sym e) (kinds-table text at progress ws ns vs)) (λ u. others-table t (omega arith) u text at progress ws ns vs)
    (eqb t 1) refl (λ at' count' progress' us xs vs' long'. tables-kinds n (t + 1) text at' count' progress' us xs vs' (omega arith) long')
  where
    geom-step : t ≡ 1 → (rows : List Cells) (us : List ℕ) → length rows ≤ limit_of t → ((j : ℕ) → 7 ≤ j → get_or us j 0 ≡ get_or (kinds_put 0 rows ws) j 0) → (tables : List (List Cells)) (o : Outcome)
        → KindsOf n (t + 1) us tables o → KindsOf (suc n) t ws (rows ∷ tables) o
    geom-step u rows us few put tables o h =
        let long' = long (omega arith) in
        subst (λ (w : ℕ). KindsOf (suc n) w ws (rows ∷ tables) o) (sym u)
        (join-geom n ws us rows long' (subst (λ (w : ℕ). length rows ≤ limit_of w) u few) put tables o (subst (λ (w : ℕ). KindsOf n (w + 1) us tables o) u h))

    step : (p : Lines) (o : Outcome) → Agree t (limit_of t) 0 ns p o → (t ≡ 1 → KindsBy 0 ws p o) → ((t ≡ 1 → ⊥) → OthersBy ws o) → (b : Bool) → eqb t 1 ≡ b
        → ((at' count' : ℕ) (progress' : Progress) (us : List ℕ) (xs : List Float) (vs' : List ℕ) → (t + 1 ≤ 1 → 71 ≤ length us) → KindsOf n (t + 1) us (tables_lines n (t + 1) text at') (tables_from n (t + 1) text at' count' progress' us xs vs'))
        → KindsOf (suc n) t ws (by_lines p (λ rows next. rows ∷ tables_lines n (t + 1) text next))
        (by_outcome o (λ at' count' progress' us xs vs'. tables_from n (t + 1) text at' count' (counted_progress t count' progress') us xs vs'))
    step p (stop m) a g f b e ih = tt
    step broken (done at' count' progress' us xs vs') a g f b e ih = absurd a
    step (lines rows next) (done at' count' progress' us xs vs') a g f true e ih =
        let u = eqb-true t 1 e in
        geom-step u rows us a.2 (g u) (tables_lines n (t + 1) text next) (tables_from n (t + 1) text at' count' (counted_progress t count' progress') us xs vs')
        (subst (λ (q : ℕ). KindsOf n (t + 1) us (tables_lines n (t + 1) text q) (tables_from n (t + 1) text at' count' (counted_progress t count' progress') us xs vs')) a.0
        (ih at' count' (counted_progress t count' progress') us xs vs' (λ h. absurd (omega arith))))
    step (lines rows next) (done at' count' progress' us xs vs') a g f false e ih =
        let u = eqb-false t 1 e in
        join-other n t u ws us (f u).1 rows (tables_lines n (t + 1) text next) (tables_from n (t + 1) text at' count' (counted_progress t count' progress') us xs vs')
        (subst (λ (q : ℕ). KindsOf n (t + 1) us (tables_lines n (t + 1) text q) (tables_from n (t + 1) text at' count' (counted_progress t count' progress') us xs vs')) a.0
        (ih at' count' (counted_progress t count' progress') us xs vs' (λ h. let l = (f u).0 in let m = long (omega arith) in omega arith)))

-- ---- a whole text

pub kind-kept : (text : List ℕ) (l m n at count : ℕ) (progress : Progress) (ws : List ℕ) (ns : List Float) (vs : List ℕ) → RightForm text l m n (done at count progress ws ns vs)
    → (k : ℕ) → k < length (lines_of text 1) → get_or ws (7 + k) 0 ≡ code_of (cell_of (get_or (lines_of text 1) k no_cells) 5)
unfolding lines_of
kind-kept text l m n at count progress ws ns vs form k h =
    let all : Kinds 16 0 (zeros l) ws (tables_lines 16 0 text 0) =
    subst (λ (o : Outcome). KindsOf 16 0 (zeros l) (tables_lines 16 0 text 0) o) form.tables
    (tables-kinds 16 0 text 0 0 start_progress (zeros l) (zero_numbers m) (zeros n) (omega arith) (λ z. let w = form.words_long in omega arith))
    in
    all.kind 1 k refl (omega arith) h
