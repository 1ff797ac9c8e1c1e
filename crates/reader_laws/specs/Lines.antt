-- Document 01, "The job text": the lines of values that a text has, table by table, before anything is kept. Read `lines_of` first, at the end.
use Rattle.std.specs.Prelude.{ℕ, zero, suc, ◌+◌, cond, List, [], ◌∷◌, Option, Some, None, get_or, eqb, Float}
use Rattle.float_laws.specs.Binary64.{f64}
use Rattle.records_cubic.specs.declared.cubics.Cubic.{Cubic}
use Rattle.records.specs.declared.points.GeomRec.{GeomRec}
use Rattle.records.specs.declared.points.HeightDef.{HeightDef}
use Rattle.records.specs.Roads.{geom_shape_of, unused_of}
use Rattle.reader_schema.specs.Tables.{road_table, table_count}
use Rattle.reader_schema.specs.Schema.{name_of, limit_of}
use Rattle.reader_cells.specs.Cells.{byte_at, name_span}
use Rattle.reader_lines.specs.Columns.{cell_of}
use Rattle.reader_lines.specs.NamesLine.{head_at}
use Rattle.reader_lines.specs.ValuesLine.{values_at}
use Rattle.reader_lines.specs.declared.columns.Order.{Order}
use Rattle.reader_lines.specs.declared.columns.Cells.{Cells}
use Rattle.reader_cells.specs.declared.names.Span.{Span}
use Rattle.reader_store.specs.Layout.{code_of}

-- lines with the place after them, or a form that is broken or too long
pub data Lines : Type 0 where
  lines : List Cells → ℕ → Lines
  broken : Lines

abbrev pub after : Cells → Lines → Lines
after cells (lines rows at) = lines (cells ∷ rows) at
after cells broken = broken

-- by a line of values, and by one of names: what it leads to, or a broken form
abbrev pub by_row : Option (Span Cells) → (Cells → ℕ → Lines) → Lines
by_row (Some row) f = f row.value row.next
by_row None f = broken

abbrev pub by_names : Option (Span Order) → (Order → ℕ → Lines) → Lines
by_names (Some head) f = f head.value head.next
by_names None f = broken

-- lines of values up to an empty one, at most `fuel`
unfoldable pub lines_at : ℕ → ℕ → Order → List ℕ → ℕ → Lines
lines_at zero table order text at = cond (eqb (byte_at text at) 10) (lines [] (at + 1)) broken
lines_at (suc fuel) table order text at =
    cond (eqb (byte_at text at) 10) (lines [] (at + 1))
    (by_row (values_at text at table order) (λ cells next. after cells (lines_at fuel table order text next)))

-- the lines of a table, none where its name does not stand
unfoldable pub table_lines : ℕ → List ℕ → ℕ → Lines
table_lines table text at =
    cond (eqb (name_span text at).value (name_of table))
    (by_names (head_at text (name_span text at).next table) (λ order next. lines_at (limit_of table) table order text next))
    (lines [] at)

abbrev pub by_lines : Lines → (List Cells → ℕ → List (List Cells)) → List (List Cells)
by_lines (lines rows at) f = f rows at
by_lines broken f = []

-- n tables, from a table on
unfoldable pub tables_lines : ℕ → ℕ → List ℕ → ℕ → List (List Cells)
tables_lines zero table text at = []
tables_lines (suc n) table text at = by_lines (table_lines table text at) (λ rows next. rows ∷ tables_lines n (table + 1) text next)

-- the lines of a table of a text, each with its cells by column
unfoldable pub lines_of : List ℕ → ℕ → List Cells
lines_of text table = get_or (tables_lines table_count road_table text 0) table []

-- ---- what a line says

-- a cell's f64, by its pattern
abbrev pub number_in : Cells → ℕ → Float
number_in cells column = f64 (cell_of cells column)

-- start a b c d, from a column on
abbrev pub cubic_in : ℕ → Cells → Cubic
cubic_in column cells =
    record { start = number_in cells column; a = number_in cells (column + 1); b = number_in cells (column + 2); c = number_in cells (column + 3); d = number_in cells (column + 4) }

-- height: section id start inner outer
abbrev pub height_in : Cells → HeightDef
height_in cells = record { s_offset = number_in cells 2; inner = number_in cells 3; outer = number_in cells 4 }

-- geom: s x y hdg length kind k0 k1; kind is kept as a word
abbrev pub geom_said : Cells → GeomRec
geom_said cells =
    record {
      s = number_in cells 0;
      x = number_in cells 1;
      y = number_in cells 2;
      hdg = number_in cells 3;
      length = number_in cells 4;
      shape = geom_shape_of (code_of (cell_of cells 5)) (number_in cells 6) (number_in cells 7);
    }

abbrev pub unused_said : Cells → List Float
unused_said cells = unused_of (code_of (cell_of cells 5)) (number_in cells 6) (number_in cells 7)
