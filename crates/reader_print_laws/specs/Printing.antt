-- Document 01, "The job text": a text that says given lines, T n those of table n, each with its cells by column. Read `printed` first, at the end.
-- Every table is written, with its columns in the order of 01; one without lines has its names and the empty line.
use Rattle.std.specs.Prelude.{ℕ, zero, suc, ◌+◌, ◌-◌, ◌/◌, ◌%◌, cond, List, [], ◌∷◌, ◌++◌, map, get_or, eqb, ltb}
use Prim.Native.String.{String}
use Rattle.reader_schema.specs.Tables.{road_table, table_count}
use Rattle.reader_schema.specs.declared.tables.Kind.TheVariants.{Number, Whole}
use Rattle.reader_schema.specs.Schema.{kind_by, Table, tables, lists, word_count, column_kind}
use Rattle.reader_cells.specs.Cells.{whole_bias}
use Rattle.reader_lines.specs.Columns.{cell_of}
use Rattle.reader_lines.specs.declared.columns.Cells.{Cells}
use Rattle.reader_hex.specs.Digits.{bytes_of, hex_of}

-- "Lines end in one LF; one space parts words": the line of these words
unfoldable pub printed_line : List (List ℕ) → List ℕ
printed_line [] = 10 ∷ []
printed_line (w ∷ []) = w ++ (10 ∷ [])
printed_line (w ∷ (v ∷ ws)) = w ++ (32 ∷ printed_line (v ∷ ws))

-- the words of a list of the schema: a table's columns by the table's number, a column's listed words by its kind
unfoldable pub words_of : ℕ → List (List ℕ)
words_of list = map (λ (s : String). bytes_of s) (get_or lists list [])

-- a table's name
unfoldable pub title_of : ℕ → List ℕ
title_of table = get_or (map (λ (t : Table). bytes_of t.name) tables) table []

-- "A table is a line of names (table, then columns ..)"
unfoldable pub columns_line : ℕ → List ℕ
columns_line table = printed_line (title_of table ∷ words_of table)

-- "a whole number is decimal, up to 4 digits, no leading zeros": at most k digits
unfoldable pub decimals_of : ℕ → ℕ → List ℕ
decimals_of zero n = []
decimals_of (suc k) n = cond (ltb n 10) ((48 + n) ∷ []) (decimals_of k (n / 10) ++ ((48 + n % 10) ∷ []))

-- "`-` if negative": the cell is whole_bias more than the number
unfoldable pub whole_of : ℕ → List ℕ
whole_of cell = cond (ltb cell whole_bias) (45 ∷ decimals_of 4 (whole_bias - cell)) (decimals_of 4 (cell - whole_bias))

-- a cell by its column's kind: "An f64 is its 16 lowercase hexadecimal digits", a whole number, else the word of that list at that place
unfoldable pub printed_word : ℕ → ℕ → List ℕ
printed_word kind cell = cond (eqb kind (kind_by Number)) (hex_of 16 cell) (cond (eqb kind (kind_by Whole)) (whole_of cell) (get_or (words_of kind) cell []))

-- "lines of values in that order": the words of n columns, from column i on
unfoldable pub values_from : ℕ → ℕ → ℕ → Cells → List (List ℕ)
values_from zero table i cells = []
values_from (suc n) table i cells = printed_word (column_kind table i) (cell_of cells i) ∷ values_from n table (i + 1) cells

unfoldable pub values_line : ℕ → Cells → List ℕ
values_line table cells = printed_line (values_from (word_count table) table 0 cells)

unfoldable pub values_lines : ℕ → List Cells → List ℕ
values_lines table [] = []
values_lines table (cells ∷ rows) = values_line table cells ++ values_lines table rows

-- "a line of names .., lines of values .., one empty line"
unfoldable pub table_of : ℕ → List Cells → List ℕ
table_of table rows = columns_line table ++ (values_lines table rows ++ (10 ∷ []))

-- n tables, from a table on: "Tables come in the order below"
unfoldable pub tables_of : ℕ → ℕ → (ℕ → List Cells) → List ℕ
tables_of zero table T = []
tables_of (suc n) table T = table_of table (T table) ++ tables_of n (table + 1) T

-- the text of the lines of the sixteen tables
unfoldable pub printed : (ℕ → List Cells) → List ℕ
printed T = tables_of table_count road_table T
