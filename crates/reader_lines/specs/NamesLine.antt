-- Document 01, "The job text": "A table is a line of names (table, then columns in any order, each once)". "Lines end in one LF; one space parts words."
-- Read `head_at` first, at the end.
use Rattle.std.specs.Prelude.{ℕ, zero, suc, ◌+◌, cond, List, Option, Some, None, option_map, eqb}
use Rattle.reader_schema.specs.Schema.{word_count, listed_place}
use Rattle.reader_cells.specs.Cells.{byte_at, name_span}
use Rattle.reader_cells.specs.declared.names.Span.{Span}
use Rattle.reader_lines.specs.Columns.{no_order, all_due, is_due, met_in, ordered_by}
use Rattle.reader_lines.specs.declared.columns.Order.{Order}
use Rattle.reader_lines.specs.declared.columns.Due.{Due}

-- A space, then a name: its place among the table's columns; none where no space stands, or it is none of them.
abbrev pub named_by : ℕ → Span ℕ → Option (Span ℕ)
named_by table name = option_map (λ (column : ℕ). record { value = column; next = name.next }) (listed_place table name.value)

unfoldable pub column_at : List ℕ → ℕ → ℕ → Option (Span ℕ)
column_at text at table = cond (eqb (byte_at text at) 32) (named_by table (name_span text (at + 1))) None

-- by a name: what its column and the place after it lead to, or a broken line
abbrev pub by_name : Option (Span ℕ) → (ℕ → ℕ → Option (Span Order)) → Option (Span Order)
by_name (Some named) f = f named.value named.next
by_name None f = None

-- The names of n columns more, the i-th at hand: each is the name of a column that is still due. LF after the last.
-- `order` has the column of each name so far. As many due names as there are columns leave none missing.
unfoldable pub names_from : ℕ → List ℕ → ℕ → ℕ → ℕ → Due → Order → Option (Span Order)
names_from zero text at table i due order = cond (eqb (byte_at text at) 10) (Some (record { value = order; next = at + 1 })) None
names_from (suc n) text at table i due order =
    by_name (column_at text at table)
    (λ column next. cond (is_due due column) (names_from n text next table (i + 1) (met_in due column) (ordered_by order i column)) None)

-- the line of names of a table, from the place after the table's own name on; none where it is broken
unfoldable pub head_at : List ℕ → ℕ → ℕ → Option (Span Order)
head_at text at table = names_from (word_count table) text at table 0 (all_due (word_count table)) no_order
