-- A cell of a column of words is the place of one of them: below the count of its list (`rows-listed`). So a geometry's kind is at most 2, a lane's extent and level and a strip's side, place and relative are 0 or 1, and a cubic's term is at most 4.
use Prim.Native.Nat.{ℕ, zero, suc, ◌+◌, ◌<◌, ◌≤◌}
use native.Mathlib.Omega.{arith}
use native.Mathlib.Nat.{zero-add}
use mathlib.Core.Path.{◌≡◌, refl, sym, ◌∙◌, ap, subst}
use mathlib.Core.Bool.{Bool, true, false, ◌||◌, cond}
use mathlib.Core.List.{List, [], ◌∷◌}
use lib.ListN.{get_or, set}
use lib.Dec.{eqb, ltb, leb}
use borrow.Author.Tests.{ltb-true, lt-leb, ne_eqb}
use Rattle.records_lent.specs.Lists.{all_below}
use Rattle.records_lent.proofs.TestLaws.{all-at}
use Rattle.std.proofs.lemmas.Option.{none-some, same_Some}
use Rattle.reader_schema.specs.Schema.{name_of, limit_of, counts, word_count, kinds, column_kind, place_of}
use Rattle.reader_cells.specs.Cells.{byte_at, span_of, name_span, hex_at, whole_at, listed_at, cell_at}
use Rattle.reader_cells.specs.declared.names.Span.{Span}
use Rattle.reader_lines.specs.Columns.{cell_of, no_cells, ordered_column, valued_by}
use Rattle.reader_lines.specs.NamesLine.{head_at}
use Rattle.reader_lines.specs.ValuesLine.{by_cell, stop_of, values_read, values_at}
use Rattle.std.specs.Prelude.{Option, Some, None}
use Rattle.reader_lines.specs.declared.columns.Order.{Order}
use Rattle.reader_lines.specs.declared.columns.Cells.{Cells}
use Rattle.reader_laws.specs.Lines.{Lines, lines, broken, after, by_lines, lines_at, table_lines, tables_lines, lines_of, by_row, by_names}
use Rattle.reader_calls.specs.Reading.{zeros}
use Rattle.reader_laws.proofs.LowWords.{or_else}
use Rattle.reader_laws.proofs.CountsKept.{zeros-blank}

some-test : all_below (λ t. all_below (λ c. leb (column_kind t c) 1 || ltb 0 (word_count (column_kind t c))) 8) 16 ≡ true
unfolding all_below column_kind kinds word_count counts
some-test = refl

-- every cell of a column of words is one of them
abbrev pub Listed : ℕ → Cells → Type 0
Listed t cells = (c : ℕ) → 1 < column_kind t c → cell_of cells c < word_count (column_kind t c)

column-below : (t c : ℕ) → 1 < column_kind t c → c < 8
unfolding column_kind
column-below t c h = go (ltb c 8) refl h
  where
    go : (b : Bool) → ltb c 8 ≡ b → 1 < cond b (get_or (get_or kinds t []) c 0) 0 → c < 8
    go true e p = ltb-true c 8 e
    go false e p = absurd (omega arith)

pub no_cells_lem : (c : ℕ) → cell_of no_cells c ≡ 0
unfolding zeros
no_cells_lem c = zeros-blank 8 c

cell-listed : (text : List ℕ) (at kind v q : ℕ) → 1 < kind → cell_at text at kind ≡ Some (span_of v q) → v < word_count kind
unfolding cell_at listed_at
cell-listed text at kind v q h e = go (ltb (place_of kind (name_span text at).value) (word_count kind)) refl (subst (λ (b : Bool). cond b (hex_at text at) (cond (eqb kind 1) (whole_at text at) (listed_at text at kind)) ≡ Some (span_of v q)) (ne_eqb kind 0 (λ z. omega arith)) e)
  where
    go : (b : Bool) → ltb (place_of kind (name_span text at).value) (word_count kind) ≡ b → cond (eqb kind 1) (whole_at text at) (cond b (Some (span_of (place_of kind (name_span text at).value) (name_span text at).next)) None) ≡ Some (span_of v q) → v < word_count kind
    go b f = λ g. by b f (subst (λ (x : Bool). cond x (whole_at text at) (cond b (Some (span_of (place_of kind (name_span text at).value) (name_span text at).next)) None) ≡ Some (span_of v q)) (ne_eqb kind 1 (λ z. omega arith)) g)
      where
        by : (b : Bool) → ltb (place_of kind (name_span text at).value) (word_count kind) ≡ b → cond b (Some (span_of (place_of kind (name_span text at).value) (name_span text at).next)) None ≡ Some (span_of v q) → v < word_count kind
        by true f g = let z : place_of kind (name_span text at).value ≡ v = ap (λ (s : Span ℕ). s.value) (same_Some _ _ g) in subst (λ (n : ℕ). n < word_count kind) z (ltb-true (place_of kind (name_span text at).value) (word_count kind) f)
        by false f g = absurd (none-some (span_of v q) g)

set-either : (xs : List ℕ) (d v c : ℕ) (P : ℕ → Type 0) → (c ≡ d → P v) → P (get_or xs c 0) → P (get_or (set xs d v) c 0)
set-either [] d v c P f p = p
set-either (x ∷ xs) zero v zero P f p = f refl
set-either (x ∷ xs) zero v (suc c) P f p = p
set-either (x ∷ xs) (suc d) v zero P f p = p
set-either (x ∷ xs) (suc d) v (suc c) P f p = set-either xs d v c P (λ e. f (ap suc e)) p

module _ (t : ℕ) (small : t < 16) where
  none-listed : Listed t no_cells
  none-listed c h =
      let b = or_else (leb (column_kind t c) 1) (ltb 0 (word_count (column_kind t c))) (all-at (λ c. leb (column_kind t c) 1 || ltb 0 (word_count (column_kind t c))) 8 (all-at (λ t. all_below (λ c. leb (column_kind t c) 1 || ltb 0 (word_count (column_kind t c))) 8) 16 some-test t small) c (column-below t c h)) (lt-leb (column_kind t c) 1 h) in
      subst (λ (n : ℕ). n < word_count (column_kind t c)) (sym (no_cells_lem c)) (ltb-true 0 (word_count (column_kind t c)) b)

  -- the cells of a line, if it is one
  abbrev RowListed : Option (Span Cells) → Type 0
  RowListed (Some row) = Listed t row.value
  RowListed None = Unit {0}

  row_from : (n : ℕ) (text : List ℕ) (at : ℕ) (order : Order) (i : ℕ) (cells : Cells) → Listed t cells → RowListed (values_read n text at t order i cells)
  unfolding values_read
  row_from zero text at order i cells h = h
  row_from (suc n) text at order i cells h = go (cell_at text at (column_kind t (ordered_column order i))) refl (λ q v. row_from n text (q + 1) order (i + 1) (valued_by cells (ordered_column order i) v))
    where
      go : (x : Option (Span ℕ)) → cell_at text at (column_kind t (ordered_column order i)) ≡ x
          → ((q v : ℕ) → Listed t (valued_by cells (ordered_column order i) v) → RowListed (values_read n text (q + 1) t order (i + 1) (valued_by cells (ordered_column order i) v)))
          → RowListed (by_cell x (λ v q. cond (eqb (byte_at text q) (stop_of n)) (values_read n text (q + 1) t order (i + 1) (valued_by cells (ordered_column order i) v)) None))
      go None e ih = tt
      go (Some x) e ih = by (eqb (byte_at text x.next) (stop_of n)) (ih x.next x.value listed)
        where
          listed : Listed t (valued_by cells (ordered_column order i) x.value)
          listed c l =
              set-either cells.of (ordered_column order i) x.value c (λ (w : ℕ). w < word_count (column_kind t c))
              (λ d. subst (λ (k : ℕ). x.value < word_count (column_kind t k)) (sym d) (cell-listed text at (column_kind t (ordered_column order i)) x.value x.next (subst (λ (k : ℕ). 1 < column_kind t k) d l) e)) (h c l)

          by : (b : Bool) → RowListed (values_read n text (x.next + 1) t order (i + 1) (valued_by cells (ordered_column order i) x.value)) → RowListed (cond b (values_read n text (x.next + 1) t order (i + 1) (valued_by cells (ordered_column order i) x.value)) None)
          by true f = f
          by false f = tt

  row_listed : (text : List ℕ) (at : ℕ) (order : Order) → RowListed (values_at text at t order)
  unfolding values_at
  row_listed text at order = row_from (word_count t) text at order 0 no_cells none-listed

  abbrev LinesListed : Lines → Type 0
  LinesListed (lines rows next) = (k : ℕ) → Listed t (get_or rows k no_cells)
  LinesListed broken = Unit {0}

  after-listed : (cells : Cells) (p : Lines) → Listed t cells → LinesListed p → LinesListed (after cells p)
  after-listed cells (lines rows next) h f = go
    where
      go : (k : ℕ) → Listed t (get_or (cells ∷ rows) k no_cells)
      go zero = h
      go (suc k) = f k
  after-listed cells broken h f = tt

  lines-listed : (fuel : ℕ) (order : Order) (text : List ℕ) (at : ℕ) → LinesListed (lines_at fuel t order text at)
  unfolding lines_at
  lines-listed zero order text at = go (eqb (byte_at text at) 10)
    where
      go : (a : Bool) → LinesListed (cond a (lines [] (at + 1)) broken)
      go true = λ k. none-listed
      go false = tt
  lines-listed (suc fuel) order text at = go (eqb (byte_at text at) 10) (values_at text at t order) (row_listed text at order) (λ next. lines-listed fuel order text next)
    where
      go : (a : Bool) (x : Option (Span Cells)) → RowListed x → ((next : ℕ) → LinesListed (lines_at fuel t order text next)) → LinesListed (cond a (lines [] (at + 1)) (by_row x (λ cells next. after cells (lines_at fuel t order text next))))
      go true x r h = λ k. none-listed
      go false (Some row) r h = after-listed row.value (lines_at fuel t order text row.next) r (h row.next)
      go false None r h = tt

  table-listed : (text : List ℕ) (at : ℕ) → LinesListed (table_lines t text at)
  unfolding table_lines
  table-listed text at =
      go (eqb (name_span text at).value (name_of t)) (head_at text (name_span text at).next t) (λ order next. lines-listed (limit_of t) order text next)
    where
      go : (a : Bool) (x : Option (Span Order)) → ((order : Order) (next : ℕ) → LinesListed (lines_at (limit_of t) t order text next)) → LinesListed (cond a (by_names x (λ order next. lines_at (limit_of t) t order text next)) (lines [] at))
      go true (Some head) h = h head.value head.next
      go true None h = tt
      go false x h = λ k. none-listed

tables-listed : (n t : ℕ) (text : List ℕ) (at : ℕ) → t + n ≤ 16 → (i u : ℕ) → u ≡ t + i → u < 16 → (k : ℕ) → Listed u (get_or (get_or (tables_lines n t text at) i []) k no_cells)
unfolding tables_lines
tables-listed zero t text at most i u e h k = none-listed u h
tables-listed (suc n) t text at most i u e h k = go (table_lines t text at) (table-listed t (omega arith) text at) i e (λ next j f. tables-listed n (t + 1) text next (omega arith) j u f h k)
  where
    go : (p : Lines) → LinesListed t (omega arith) p → (i : ℕ) → u ≡ t + i → ((next j : ℕ) → u ≡ t + 1 + j → Listed u (get_or (get_or (tables_lines n (t + 1) text next) j []) k no_cells)) → Listed u (get_or (get_or (by_lines p (λ rows next. rows ∷ tables_lines n (t + 1) text next)) i []) k no_cells)
    go broken f i e ih = none-listed u h
    go (lines rows next) f zero e ih = let z : t ≡ u = omega arith in subst (λ (w : ℕ). Listed w (get_or rows k no_cells)) z (f k)
    go (lines rows next) f (suc i) e ih = ih next i (omega arith)

pub rows-listed : (text : List ℕ) (t : ℕ) → t < 16 → (k : ℕ) → Listed t (get_or (lines_of text t) k no_cells)
unfolding lines_of
rows-listed text t h k = tables-listed 16 0 text 0 (omega arith) t t (sym (zero-add t)) h k

list_counts : (column_kind 12 0 ≡ 19) × (column_kind 12 1 ≡ 18) × (column_kind 12 2 ≡ 18) × (column_kind 13 0 ≡ 19) × (column_kind 13 1 ≡ 18) × (column_kind 13 2 ≡ 20) × (word_count 19 ≡ 2) × (word_count 18 ≡ 2) × (word_count 20 ≡ 5) × (column_kind 1 5 ≡ 16) × (column_kind 7 2 ≡ 17) × (column_kind 7 3 ≡ 18) × (word_count 16 ≡ 3) × (word_count 17 ≡ 2)
unfolding column_kind kinds word_count counts
list_counts = (refl, refl, refl, refl, refl, refl, refl, refl, refl, refl, refl, refl, refl, refl)

below : (t kind c n : ℕ) (cells : Cells) → column_kind t c ≡ kind → word_count kind ≡ n → 1 < kind → Listed t cells → cell_of cells c < n
below t kind c n cells e f h g = let a = g c (omega arith) in subst (λ (m : ℕ). cell_of cells c < m) (ap word_count e ∙ f) a

pub geom-cell : (text : List ℕ) (k : ℕ) → cell_of (get_or (lines_of text 1) k no_cells) 5 < 3
geom-cell text k = below 1 16 5 3 (get_or (lines_of text 1) k no_cells) list_counts.9 list_counts.12 (omega arith) (rows-listed text 1 (omega arith) k)

pub lane-cells : (text : List ℕ) (k : ℕ) → (cell_of (get_or (lines_of text 7) k no_cells) 2 < 2) × (cell_of (get_or (lines_of text 7) k no_cells) 3 < 2)
lane-cells text k =
    let g = rows-listed text 7 (omega arith) k in
    let r = get_or (lines_of text 7) k no_cells in
    (below 7 17 2 2 r list_counts.10 list_counts.13 (omega arith) g, below 7 18 3 2 r list_counts.11 list_counts.7 (omega arith) g)

pub strip-cells : (text : List ℕ) (k : ℕ) → (cell_of (get_or (lines_of text 12) k no_cells) 0 < 2) × (cell_of (get_or (lines_of text 12) k no_cells) 1 < 2) × (cell_of (get_or (lines_of text 12) k no_cells) 2 < 2)
strip-cells text k =
    let g = rows-listed text 12 (omega arith) k in
    let r = get_or (lines_of text 12) k no_cells in
    (below 12 19 0 2 r list_counts.0 list_counts.6 (omega arith) g, below 12 18 1 2 r list_counts.1 list_counts.7 (omega arith) g, below 12 18 2 2 r list_counts.2 list_counts.7 (omega arith) g)

pub cubic-cells : (text : List ℕ) (k : ℕ) → (cell_of (get_or (lines_of text 13) k no_cells) 0 < 2) × (cell_of (get_or (lines_of text 13) k no_cells) 1 < 2) × (cell_of (get_or (lines_of text 13) k no_cells) 2 < 5)
cubic-cells text k =
    let g = rows-listed text 13 (omega arith) k in
    let r = get_or (lines_of text 13) k no_cells in
    (below 13 19 0 2 r list_counts.3 list_counts.6 (omega arith) g, below 13 18 1 2 r list_counts.4 list_counts.7 (omega arith) g, below 13 20 2 5 r list_counts.5 list_counts.8 (omega arith) g)
