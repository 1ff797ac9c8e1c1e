-- Document 01, "The job text": "columns in any order, each once". The columns that are still to be named, the order that the text has, the cells by column.
use Rattle.std.specs.Prelude.{ℕ, Bool, false, List, [], ◌∷◌, get_or, set, ltb}
use Rattle.reader_lines.specs.declared.columns.Order.{Order}
use Rattle.reader_lines.specs.declared.columns.Cells.{Cells}
use Rattle.reader_lines.specs.declared.columns.Due.{Due}

abbrev pub zeros8 : List ℕ
zeros8 = 0 ∷ 0 ∷ 0 ∷ 0 ∷ 0 ∷ 0 ∷ 0 ∷ 0 ∷ []

abbrev pub no_order : Order
no_order = record { of = zeros8 }

abbrev pub no_cells : Cells
no_cells = record { of = zeros8 }

-- the columns that are still to be named: at first all n that the table has
abbrev pub all_due : ℕ → Due
all_due n = record { of = ltb 0 n ∷ ltb 1 n ∷ ltb 2 n ∷ ltb 3 n ∷ ltb 4 n ∷ ltb 5 n ∷ ltb 6 n ∷ ltb 7 n ∷ [] }

abbrev pub is_due : Due → ℕ → Bool
is_due due column = get_or due.of column false

-- the columns still to be named once one is named
abbrev pub met_in : Due → ℕ → Due
met_in due column = record { of = set due.of column false }

-- the column of word i
abbrev pub ordered_column : Order → ℕ → ℕ
ordered_column order i = get_or order.of i 0

-- an order with word i in a column
abbrev pub ordered_by : Order → ℕ → ℕ → Order
ordered_by order i column = record { of = set order.of i column }

-- the cell of a column, by the schema's order
abbrev pub cell_of : Cells → ℕ → ℕ
cell_of cells column = get_or cells.of column 0

-- a line's cells with a value in a column
abbrev pub valued_by : Cells → ℕ → ℕ → Cells
valued_by cells column v = record { of = set cells.of column v }
