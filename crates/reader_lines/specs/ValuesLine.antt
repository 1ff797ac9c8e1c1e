-- Document 01, "The job text": "lines of values in that order". "Lines end in one LF; one space parts words." Read `values_at` first, at the end.
use Rattle.std.specs.Prelude.{ℕ, zero, suc, ◌+◌, cond, List, Option, Some, None, eqb}
use Rattle.reader_schema.specs.Schema.{word_count, column_kind}
use Rattle.reader_cells.specs.Cells.{byte_at, cell_at}
use Rattle.reader_cells.specs.declared.names.Span.{Span}
use Rattle.reader_lines.specs.Columns.{no_cells, ordered_column, valued_by}
use Rattle.reader_lines.specs.declared.columns.Order.{Order}
use Rattle.reader_lines.specs.declared.columns.Cells.{Cells}

-- by a cell: what its value and the place after it lead to, or a broken line
abbrev pub by_cell : Option (Span ℕ) → (ℕ → ℕ → Option (Span Cells)) → Option (Span Cells)
by_cell (Some cell) f = f cell.value cell.next
by_cell None f = None

-- "Lines end in one LF; one space parts words": the byte after a cell, by how many cells there are after it
unfoldable pub stop_of : ℕ → ℕ
stop_of zero = 10
stop_of (suc n) = 32

-- The cells of n words more, the i-th at hand: each is read by its column's kind and kept at its column.
unfoldable pub values_read : ℕ → List ℕ → ℕ → ℕ → Order → ℕ → Cells → Option (Span Cells)
values_read zero text at table order i cells = Some (record { value = cells; next = at })
values_read (suc n) text at table order i cells =
    by_cell (cell_at text at (column_kind table (ordered_column order i)))
    (λ v q.
    cond (eqb (byte_at text q) (stop_of n)) (values_read n text (q + 1) table order (i + 1) (valued_by cells (ordered_column order i) v)) None)

-- the line of values at a place, with the columns in the order of the line of names; none where it is broken
unfoldable pub values_at : List ℕ → ℕ → ℕ → Order → Option (Span Cells)
values_at text at table order = values_read (word_count table) text at table order 0 no_cells
