-- The lines that any text says are within the limits. A line is kept as cells of its columns word by word, lines are at most the table's limit, and so through the tables; listed words are reader_text_laws' `rows-listed`.
use Prim.Native.Nat.{ℕ, zero, suc, ◌+◌, ◌<◌, ◌≤◌}
use native.Mathlib.Omega.{arith}
use native.Mathlib.Nat.{zero-add, le_of_suc-le-suc}
use mathlib.Core.Path.{◌≡◌, refl, sym, ◌∙◌, ap, subst}
use mathlib.Core.Bool.{Bool, true, false, cond}
use mathlib.Core.List.{List, [], ◌∷◌}
use lib.ListN.{length, get_or, length-set}
use lib.Seq.{get_or-set_same, get_or-set_other}
use lib.Dec.{eqb}
use borrow.Author.Tests.{eqb-true, eqb-false}
use Rattle.reader_schema.specs.Schema.{name_of, limit_of, word_count, column_kind}
use Rattle.reader_cells.specs.Cells.{byte_at, span_of, name_span, cell_at}
use Rattle.std.specs.Prelude.{Option, Some, None}
use Rattle.std.proofs.lemmas.Option.{none-some, same_Some}
use Rattle.reader_cells.specs.declared.names.Span.{Span}
use Rattle.reader_lines.specs.Columns.{no_cells, ordered_column, cell_of, valued_by}
use Rattle.reader_lines.specs.NamesLine.{head_at}
use Rattle.reader_lines.specs.ValuesLine.{by_cell, stop_of, values_read, values_at}
use Rattle.reader_lines.specs.declared.columns.Order.{Order}
use Rattle.reader_lines.specs.declared.columns.Cells.{Cells}
use Rattle.reader_laws.specs.Lines.{Lines, lines, broken, after, by_row, by_names, by_lines, lines_at, table_lines, tables_lines, lines_of}
use Rattle.reader_print_laws.specs.PrintReads.{LineFits, TextWithin}
use Rattle.reader_text_laws.proofs.Listed.{no_cells_lem, rows-listed}
use Rattle.reader_print_laws.proofs.Line.{columns-few}
use Rattle.reader_print_laws.proofs.TextCells.{Sized, cell-sized}
use Rattle.reader_print_laws.proofs.TextNames.{Full, head-full}

-- ---- a line

record LineSized (t : ℕ) (cells : Cells) : Type 0 where
  places : length cells.of ≡ 8
  sized : (c : ℕ) → c < word_count t → Sized (column_kind t c) (cell_of cells c)
  rest : (c : ℕ) → word_count t ≤ c → cell_of cells c ≡ 0

module _ (t : ℕ) (small : t < 16) where
  module _ (order : Order) (full : Full t order) where
    -- i words are kept
    record Kept (i : ℕ) (acc : Cells) : Type 0 where
      places : length acc.of ≡ 8
      sized : (j : ℕ) → j < i → Sized (column_kind t (ordered_column order j)) (cell_of acc (ordered_column order j))
      rest : (c : ℕ) → word_count t ≤ c → cell_of acc c ≡ 0

    kept-start : Kept 0 no_cells
    kept-start = record { places = refl; sized = λ j l. absurd (omega arith); rest = λ c l. no_cells_lem c }

    kept_next : (i : ℕ) (acc : Cells) (v : ℕ) → i < word_count t → Sized (column_kind t (ordered_column order i)) v → Kept i acc → Kept (i + 1) (valued_by acc (ordered_column order i) v)
    kept_next i acc v l s a =
        record {
          places = length-set acc.of (ordered_column order i) v ∙ a.places;
          sized = sized;
          rest = λ c m. get_or-set_other acc.of (ordered_column order i) c v 0 (λ z. omega (arith, full.columns i l)) ∙ a.rest c m;
        }
      where
        sized : (j : ℕ) → j < i + 1 → Sized (column_kind t (ordered_column order j)) (cell_of (valued_by acc (ordered_column order i) v) (ordered_column order j))
        sized j m = go (eqb (ordered_column order j) (ordered_column order i)) refl
          where
            go : (b : Bool) → eqb (ordered_column order j) (ordered_column order i) ≡ b → Sized (column_kind t (ordered_column order j)) (cell_of (valued_by acc (ordered_column order i) v) (ordered_column order j))
            go true e = rw (eqb-true (ordered_column order j) (ordered_column order i) e, get_or-set_same acc.of (ordered_column order i) v 0 (omega (arith, a.places, full.columns i l, columns-few t small))) s
            go false e =
                let z = eqb-false (ordered_column order j) (ordered_column order i) e in
                rw (get_or-set_other acc.of (ordered_column order i) (ordered_column order j) v 0 z) (a.sized j (go' (eqb j i) refl z))
              where
                go' : (b : Bool) → eqb j i ≡ b → (ordered_column order j ≡ ordered_column order i → ⊥) → j < i
                go' true f z = absurd (z (ap (ordered_column order) (eqb-true j i f)))
                go' false f z = let y = eqb-false j i f in omega (arith, y)

    kept-all : (cells : Cells) → Kept (word_count t) cells → LineSized t cells
    kept-all cells a =
        record {
          places = a.places;
          sized = λ c l. let n = full.named c l in subst (λ (d : ℕ). Sized (column_kind t d) (cell_of cells d)) n.is (a.sized n.word n.below);
          rest = a.rest;
        }

    row_from : (n : ℕ) (text : List ℕ) (at i : ℕ) (acc : Cells) → n + i ≡ word_count t → Kept i acc → (r : Span Cells) → values_read n text at t order i acc ≡ Some r → LineSized t r.value
    unfolding values_read
    row_from zero text at i acc c a r e =
        let z : i ≡ word_count t = omega arith in
        subst (LineSized t) (ap (λ (x : Span Cells). x.value) (same_Some _ _ e)) (kept-all acc (subst (λ (m : ℕ). Kept m acc) z a))
    row_from (suc n) text at i acc c a r e =
        go (cell_at text at (column_kind t (ordered_column order i))) refl
        (λ v q e. row_from n text (q + 1) (i + 1) (valued_by acc (ordered_column order i) v) (omega arith) (kept_next i acc v (omega arith) (cell-sized text at (column_kind t (ordered_column order i)) v q e) a) r) e
      where
        by : (b : Bool) {x : Option (Span Cells)} → (x ≡ Some r → LineSized t r.value) → cond b x None ≡ Some r → LineSized t r.value
        by true f g = f g
        by false f g = absurd (none-some r g)

        go : (x : Option (Span ℕ)) → cell_at text at (column_kind t (ordered_column order i)) ≡ x
            → ((v q : ℕ) → cell_at text at (column_kind t (ordered_column order i)) ≡ Some (span_of v q) → values_read n text (q + 1) t order (i + 1) (valued_by acc (ordered_column order i) v) ≡ Some r → LineSized t r.value)
            → by_cell x (λ v q. cond (eqb (byte_at text q) (stop_of n)) (values_read n text (q + 1) t order (i + 1) (valued_by acc (ordered_column order i) v)) None) ≡ Some r → LineSized t r.value
        go None e f g = absurd (none-some r g)
        go (Some x) e f g = by (eqb (byte_at text x.next) (stop_of n)) (f x.value x.next e) g

    row_sized : (text : List ℕ) (at : ℕ) (r : Span Cells) → values_at text at t order ≡ Some r → LineSized t r.value
    unfolding values_at
    row_sized text at = row_from (word_count t) text at 0 no_cells (omega arith) kept-start

  -- ---- lines, at most fuel

  abbrev LinesSized : ℕ → Lines → Type 0
  LinesSized fuel (lines rows next) = (length rows ≤ fuel) × ((k : ℕ) → k < length rows → LineSized t (get_or rows k no_cells))
  LinesSized fuel broken = Unit {0}

  none-sized : (fuel next : ℕ) → LinesSized fuel (lines [] next)
  none-sized fuel next = (omega arith, λ k l. absurd (omega arith))

  after-sized : (fuel : ℕ) (cells : Cells) (p : Lines) → LineSized t cells → LinesSized fuel p → LinesSized (suc fuel) (after cells p)
  after-sized fuel cells (lines rows next) h f = ((let l = f.0 in omega arith), go)
    where
      go : (k : ℕ) → k < length (cells ∷ rows) → LineSized t (get_or (cells ∷ rows) k no_cells)
      go zero l = h
      go (suc k) l = f.1 k (le_of_suc-le-suc l)
  after-sized fuel cells broken h f = tt

  module _ (order : Order) (full : Full t order) (text : List ℕ) where
    lines-sized : (fuel at : ℕ) → LinesSized fuel (lines_at fuel t order text at)
    unfolding lines_at
    lines-sized zero at = go (eqb (byte_at text at) 10)
      where
        go : (a : Bool) → LinesSized 0 (cond a (lines [] (at + 1)) broken)
        go true = none-sized 0 (at + 1)
        go false = tt
    lines-sized (suc fuel) at = go (eqb (byte_at text at) 10) (values_at text at t order) (row_sized order full text at) (λ next. lines-sized fuel next)
      where
        go : (a : Bool) (x : Option (Span Cells)) → ((r : Span Cells) → x ≡ Some r → LineSized t r.value) → ((next : ℕ) → LinesSized fuel (lines_at fuel t order text next))
            → LinesSized (suc fuel) (cond a (lines [] (at + 1)) (by_row x (λ cells next. after cells (lines_at fuel t order text next))))
        go true x r h = none-sized (suc fuel) (at + 1)
        go false (Some row) r h = after-sized fuel row.value (lines_at fuel t order text row.next) (r row refl) (h row.next)
        go false None r h = tt

  table-sized : (text : List ℕ) (at : ℕ) → LinesSized (limit_of t) (table_lines t text at)
  unfolding table_lines
  table-sized text at =
      go (eqb (name_span text at).value (name_of t)) (head_at text (name_span text at).next t)
      (λ head e. lines-sized head.value (head-full t small text (name_span text at).next head e) text (limit_of t) head.next)
    where
      go : (a : Bool) (x : Option (Span Order)) → ((head : Span Order) → x ≡ Some head → LinesSized (limit_of t) (lines_at (limit_of t) t head.value text head.next))
          → LinesSized (limit_of t) (cond a (by_names x (λ order next. lines_at (limit_of t) t order text next)) (lines [] at))
      go true (Some head) f = f head refl
      go true None f = tt
      go false x f = none-sized (limit_of t) at

-- ---- the tables

abbrev TableSized : ℕ → List Cells → Type 0
TableSized u rows = (length rows ≤ limit_of u) × ((k : ℕ) → k < length rows → LineSized u (get_or rows k no_cells))

nothing-sized : (u : ℕ) → TableSized u []
nothing-sized u = (omega arith, λ k m. absurd (omega arith))

tables-sized : (n t : ℕ) (text : List ℕ) (at : ℕ) → t + n ≤ 16 → (i u : ℕ) → u ≡ t + i → TableSized u (get_or (tables_lines n t text at) i [])
unfolding tables_lines
tables-sized zero t text at most i u e = nothing-sized u
tables-sized (suc n) t text at most i u e = go (table_lines t text at) (table-sized t (omega arith) text at) i e (λ next j f. tables-sized n (t + 1) text next (omega arith) j u f)
  where
    go : (p : Lines) → LinesSized t (omega arith) (limit_of t) p → (i : ℕ) → u ≡ t + i → ((next j : ℕ) → u ≡ t + 1 + j → TableSized u (get_or (tables_lines n (t + 1) text next) j []))
        → TableSized u (get_or (by_lines p (λ rows next. rows ∷ tables_lines n (t + 1) text next)) i [])
    go broken f i e ih = nothing-sized u
    go (lines rows next) f zero e ih = let z : t ≡ u = omega arith in subst (λ (w : ℕ). TableSized w rows) z f
    go (lines rows next) f (suc i) e ih = ih next i (omega arith)

rows-sized : (text : List ℕ) (t : ℕ) → TableSized t (lines_of text t)
unfolding lines_of
rows-sized text t = tables-sized 16 0 text 0 (omega arith) t t (sym (zero-add t))

pub text-within : TextWithin
text-within text = record { few = λ t l. (rows-sized text t).0; line = line }
  where
    line : (t : ℕ) → t < 16 → (k : ℕ) → k < length (lines_of text t) → LineFits t (get_or (lines_of text t) k no_cells)
    line t l k m =
        let s = (rows-sized text t).1 k m in
        record {
          places = s.places;
          cell = λ c b. record { number = (s.sized c b).0; whole = (s.sized c b).1; listed = rows-listed text t l k c };
          rest = s.rest;
        }
