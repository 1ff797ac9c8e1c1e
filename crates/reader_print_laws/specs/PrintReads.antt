-- Document 01, "The job text": what a text can say. `PrintReads`: every list of lines within the limits; `printed` (specs/Printing) is a text that is read as these lines,
-- and its form is right, so no line of it is answered with 1 or 2. `TextWithin`: nothing else. So print, then read, is the identity, and the lines that texts say are these and no more.
-- Row 2's other test, "the text is over 65,536 bytes", precedes all lines and is outside: at the limits of all tables together the lines need more bytes.
use Rattle.std.specs.Prelude.{ℕ, ◌+◌, ◌^◌, ◌<◌, ◌≤◌, ◌≡◌, List, length, get_or, Float}
use Rattle.reader_schema.specs.Tables.{road_table, table_count, columns_most}
use Rattle.reader_schema.specs.declared.tables.Kind.TheVariants.{Number, Whole}
use Rattle.reader_schema.specs.Schema.{kind_by, limit_of, word_count, column_kind}
use Rattle.reader_cells.specs.Cells.{whole_bias, byte_at}
use Rattle.reader_lines.specs.Columns.{no_cells, cell_of}
use Rattle.reader_lines.specs.declared.columns.Cells.{Cells}
use Rattle.reader_store.specs.declared.progress.Progress.{Progress}
use Rattle.reader_calls.specs.Reading.{Outcome, done, stop, tables_from}
use Rattle.reader_laws.specs.Lines.{lines_of}
use Rattle.reader_print_laws.specs.Printing.{printed}

-- A cell, by what its column holds: any pattern of an f64; whole_bias + n for a whole number n of "up to 4 digits", -9,999 to 9,999; the place of one of the column's listed words
pub record CellFits (kind cell : ℕ) : Type 0 where
  pub number : kind ≡ kind_by Number → cell < 2 ^ 64
  pub whole : kind ≡ kind_by Whole → (1 ≤ cell) × (cell ≤ whole_bias + 9999)
  pub listed : 1 < kind → cell < word_count kind

-- A line of a table, its cells by column in 01's order: a cell for each column. A line has eight places, and those past the table's columns hold 0.
pub record LineFits (table : ℕ) (cells : Cells) : Type 0 where
  pub places : length cells.of ≡ columns_most
  pub cell : (i : ℕ) → i < word_count table → CellFits (column_kind table i) (cell_of cells i)
  pub rest : (i : ℕ) → word_count table ≤ i → cell_of cells i ≡ 0

-- "Line limits for 2 are the counts given": the lines T n of each table n
pub record Within (T : ℕ → List Cells) : Type 0 where
  pub few : (table : ℕ) → table < table_count → length (T table) ≤ limit_of table
  pub line : (table : ℕ) → table < table_count → (k : ℕ) → k < length (T table) → LineFits table (get_or (T table) k no_cells)

-- a form that is right: no refusal 1 or 2 at any line
abbrev pub Done : Outcome → Type 0
Done (done at lines progress ws ns vs) = Unit {0}
Done (stop m) = ⊥

-- a text of bytes that says these lines: it is read as them table by table, and its form is right, whatever the slices and the progress held before
pub record Says (text : List ℕ) (T : ℕ → List Cells) : Type 0 where
  pub bytes : (i : ℕ) → byte_at text i < 256
  pub rows : (table : ℕ) → table < table_count → lines_of text table ≡ T table
  pub form : (progress : Progress) (ws : List ℕ) (ns : List Float) (vs : List ℕ) → Done (tables_from table_count road_table text 0 0 progress ws ns vs)

-- print, then read, is the identity
abbrev pub PrintReads : Type 0
PrintReads = (T : ℕ → List Cells) → Within T → Says (printed T) T

-- the lines that a text says, whatever its bytes, are within the limits
abbrev pub TextWithin : Type 0
TextWithin = (text : List ℕ) → Within (lines_of text)
