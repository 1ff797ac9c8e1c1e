-- A table, and the sixteen tables, read where they stand: their lines come back, and the reader goes on after them. By induction on the lines, then on the tables.
use Prim.Native.Nat.{ℕ, zero, suc, ◌+◌, ◌<◌, ◌≤◌}
use native.Mathlib.Omega.{arith}
use native.Mathlib.Nat.{le_of_suc-le-suc}
use mathlib.Core.Path.{◌≡◌, refl, ◌∙◌, ap}
use mathlib.Core.List.{List, [], ◌∷◌, ◌++◌, append_assoc}
use lib.ListN.{length, get_or, drop, length-append, length-drop}
use lib.Ieee.{Float}
use borrow.Author.Tests.{eq-eqb, le-ltb}
use Rattle.reader_schema.specs.Schema.{name_of, limit_of, word_count}
use Rattle.reader_lines.specs.Columns.{no_cells}
use Rattle.reader_lines.specs.declared.columns.Order.{Order}
use Rattle.reader_lines.specs.declared.columns.Cells.{Cells}
use Rattle.reader_store.specs.Layout.{numbers_kept, wants_kept}
use Rattle.reader_store.specs.Keep.{kept_words, kept_progress}
use Rattle.reader_store.specs.declared.progress.Progress.{Progress}
use Rattle.reader_calls.specs.Reading.{Outcome, done, stop, by_outcome, lines_from, table_at, counted_progress, tables_from}
use Rattle.reader_laws.specs.Lines.{lines, after, lines_at, table_lines, tables_lines}
use Rattle.reader_print_laws.specs.Printing.{columns_line, values_line, values_lines, table_of, tables_of}
use Rattle.reader_print_laws.specs.PrintReads.{LineFits, Within, Done}
use Rattle.reader_print_laws.proofs.Places.{here, past}
use Rattle.reader_print_laws.proofs.Names.{in_order, names-read}
use Rattle.reader_print_laws.proofs.Line.{line_read, line-starts}

-- lines that are read up to a place
abbrev DoneAt : ℕ → Outcome → Type 0
DoneAt q (done at count progress ws ns vs) = at ≡ q
DoneAt q (stop m) = ⊥

module _ (text : List ℕ) (t : ℕ) (small : t < 16) where
  abbrev order : Order
  order = in_order (word_count t)

  abbrev AllFit : List Cells → Type 0
  AllFit rows = (k : ℕ) → k < length rows → LineFits t (get_or rows k no_cells)

  -- the places after a line and after the lines
  lines-place : (at : ℕ) (cells : Cells) (rows : List Cells) → at + length (values_line t cells) + length (values_lines t rows) + 1 ≡ at + length (values_lines t (cells ∷ rows)) + 1
  unfolding values_lines
  lines-place at cells rows = omega (arith, length-append (values_line t cells) (values_lines t rows))

  lines_split : (at : ℕ) (cells : Cells) (rows : List Cells) (rest : List ℕ) → drop at text ≡ values_lines t (cells ∷ rows) ++ rest → drop at text ≡ values_line t cells ++ (values_lines t rows ++ rest)
  unfolding values_lines
  lines_split at cells rows rest e = e ∙ append_assoc (values_line t cells) (values_lines t rows) rest

  lines-read : (rows : List Cells) (fuel at : ℕ) (rest : List ℕ) → AllFit rows → length rows ≤ fuel → drop at text ≡ values_lines t rows ++ (10 ∷ rest)
      → lines_at fuel t order text at ≡ lines rows (at + length (values_lines t rows) + 1)
  unfolding lines_at values_lines
  lines-read [] zero at rest f l e = let p : at + 0 ≡ at = omega arith in rw (here text at e, p)
  lines-read [] (suc fuel) at rest f l e = let p : at + 0 ≡ at = omega arith in rw (here text at e, p)
  lines-read (cells ∷ rows) zero at rest f l e = absurd (omega arith)
  lines-read (cells ∷ rows) (suc fuel) at rest f l e =
      let h = f 0 (omega arith) in
      let g = lines_split at cells rows (10 ∷ rest) e in
      rw (line-starts t small cells h text at (values_lines t rows ++ (10 ∷ rest)) g, line_read t small cells h text at (values_lines t rows ++ (10 ∷ rest)) g)
      (ap (after cells) (lines-read rows fuel (at + length (values_line t cells)) rest (λ k m. f (suc k) (omega arith)) (le_of_suc-le-suc l) (past text at (values_line t cells) g))
      ∙ ap (lines (cells ∷ rows)) (lines-place at cells rows))

  lines-done : (rows : List Cells) (fuel at : ℕ) (rest : List ℕ) (k : ℕ) (progress : Progress) (ws : List ℕ) (ns : List Float) (vs : List ℕ) → AllFit rows → length rows ≤ fuel → drop at text ≡ values_lines t rows ++ (10 ∷ rest)
      → DoneAt (at + length (values_lines t rows) + 1) (lines_from fuel t order text at k progress ws ns vs)
  unfolding lines_from values_lines
  lines-done [] zero at rest k progress ws ns vs f l e = rw (here text at e) (omega arith)
  lines-done [] (suc fuel) at rest k progress ws ns vs f l e = rw (here text at e) (omega arith)
  lines-done (cells ∷ rows) zero at rest k progress ws ns vs f l e = absurd (omega arith)
  lines-done (cells ∷ rows) (suc fuel) at rest k progress ws ns vs f l e =
      let h = f 0 (omega arith) in
      let g = lines_split at cells rows (10 ∷ rest) e in
      rw (line-starts t small cells h text at (values_lines t rows ++ (10 ∷ rest)) g, line_read t small cells h text at (values_lines t rows ++ (10 ∷ rest)) g, ← (lines-place at cells rows))
      (lines-done rows fuel (at + length (values_line t cells)) rest (k + 1) (kept_progress t k cells progress ws) (kept_words t k cells progress ws) (numbers_kept t k cells ns) (wants_kept t k cells vs)
      (λ k m. f (suc k) (omega arith)) (le_of_suc-le-suc l) (past text at (values_line t cells) g))

  module _ (rows : List Cells) (f : AllFit rows) (l : length rows ≤ limit_of t) (at : ℕ) (rest : List ℕ) (e : drop at text ≡ table_of t rows ++ rest) where
    split : drop at text ≡ columns_line t ++ (values_lines t rows ++ (10 ∷ rest))
    unfolding table_of
    split =
        e ∙ append_assoc (columns_line t) (values_lines t rows ++ (10 ∷ [])) rest
        ∙ ap (λ (xs : List ℕ). columns_line t ++ xs) (append_assoc (values_lines t rows) (10 ∷ []) rest)

    place : at + length (columns_line t) + length (values_lines t rows) + 1 ≡ at + length (table_of t rows)
    unfolding table_of
    place = omega (arith, length-append (columns_line t) (values_lines t rows ++ (10 ∷ [])), length-append (values_lines t rows) (10 ∷ []))

    pub table-read : table_lines t text at ≡ lines rows (at + length (table_of t rows))
    unfolding table_lines
    table-read =
        let n = names-read text at t small (values_lines t rows ++ (10 ∷ rest)) split in
        rw (n.0, eq-eqb (name_of t) (name_of t) refl, n.1)
        (lines-read rows (limit_of t) (at + length (columns_line t)) rest f l (past text at (columns_line t) split) ∙ ap (lines rows) place)

    pub table_done : (progress : Progress) (ws : List ℕ) (ns : List Float) (vs : List ℕ) → DoneAt (at + length (table_of t rows)) (table_at t text at progress ws ns vs)
    unfolding table_at
    table_done progress ws ns vs =
        let n = names-read text at t small (values_lines t rows ++ (10 ∷ rest)) split in
        rw (n.0, eq-eqb (name_of t) (name_of t) refl, n.1, ← place)
        (lines-done rows (limit_of t) (at + length (columns_line t)) rest 0 progress ws ns vs f l (past text at (columns_line t) split))

-- ---- n tables, from table t on, with nothing after them

module _ (text : List ℕ) (T : ℕ → List Cells) (w : Within T) where
  pub tables-read : (n t at : ℕ) → t + n ≤ 16 → drop at text ≡ tables_of n t T → (i u : ℕ) → u ≡ t + i → i < n → get_or (tables_lines n t text at) i [] ≡ T u
  unfolding tables_of tables_lines
  tables-read zero t at most e i u q l = absurd (omega arith)
  tables-read (suc n) t at most e i u q l =
      rw (table-read text t (omega arith) (T t) (w.line t (omega arith)) (w.few t (omega arith)) at (tables_of n (t + 1) T) e)
      (go i u q l (tables-read n (t + 1) (at + length (table_of t (T t))) (omega arith) (past text at (table_of t (T t)) e)))
    where
      go : (i u : ℕ) → u ≡ t + i → i < suc n → ((i u : ℕ) → u ≡ t + 1 + i → i < n → get_or (tables_lines n (t + 1) text (at + length (table_of t (T t)))) i [] ≡ T u)
          → get_or (T t ∷ tables_lines n (t + 1) text (at + length (table_of t (T t)))) i [] ≡ T u
      go zero u q l ih = ap T (omega arith)
      go (suc i) u q l ih = ih i u (omega arith) (le_of_suc-le-suc l)

  pub tables-done : (n t at : ℕ) → t + n ≤ 16 → drop at text ≡ tables_of n t T → (count : ℕ) (progress : Progress) (ws : List ℕ) (ns : List Float) (vs : List ℕ) → Done (tables_from n t text at count progress ws ns vs)
  unfolding tables_of tables_from
  tables-done zero t at most e count progress ws ns vs = rw (le-ltb at (length text) (omega (arith, length-drop at text, ap length e))) tt
  tables-done (suc n) t at most e count progress ws ns vs =
      go (table_at t text at progress ws ns vs)
      (table_done text t (omega arith) (T t) (w.line t (omega arith)) (w.few t (omega arith)) at (tables_of n (t + 1) T) e progress ws ns vs)
      (tables-done n (t + 1) (at + length (table_of t (T t))) (omega arith) (past text at (table_of t (T t)) e))
    where
      go : (o : Outcome) → DoneAt (at + length (table_of t (T t))) o
          → ((count : ℕ) (progress : Progress) (ws : List ℕ) (ns : List Float) (vs : List ℕ) → Done (tables_from n (t + 1) text (at + length (table_of t (T t))) count progress ws ns vs))
          → Done (by_outcome o (λ at' lines' progress' ws' ns' vs'. tables_from n (t + 1) text at' lines' (counted_progress t lines' progress') ws' ns' vs'))
      go (stop m) d ih = d
      go (done at' count' progress' ws' ns' vs') d ih = rw d (ih count' (counted_progress t count' progress') ws' ns' vs')
