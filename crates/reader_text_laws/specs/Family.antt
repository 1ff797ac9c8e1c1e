-- Document 01, "The job text": the references and the order of a text's lines, T n the lines of its n-th table, with no word on memory. Read `Family` first, at the end. The tables' numbers: crate reader_schema; what cells hold: Said.
-- "a parent that does not exist is 3", "Lines of a child table follow their parents' order".
use Rattle.std.specs.Prelude.{ℕ, ◌+◌, ◌-◌, ◌<◌, ◌≤◌, ◌≡◌, Bool, true, List, ◌++◌, map, length, get_or}
use Rattle.records_lent.specs.Lists.{tabulate}
use Rattle.reader_schema.specs.Tables.{road_table, section_table, lane_table, extent_table, height_table, profile_table, shape_table, strip_table, cubic_table, mark_table}
use Rattle.reader_cells.specs.Cells.{whole_bias}
use Rattle.reader_lines.specs.Columns.{cell_of, no_cells}
use Rattle.reader_lines.specs.declared.columns.Cells.{Cells}
use Rattle.reader_store.specs.Parents.{first_left, first_right}
use Rattle.reader_text_laws.specs.Said.{those, under, left_under, right_under, of_lane, of_strip}

abbrev pub line_at : List Cells → ℕ → Cells
line_at rows j = get_or rows j no_cells

-- "section counts from 0", and so do profiles: each line names one of n parents, and never an earlier one than a line before it
abbrev pub Counted : ℕ → List Cells → Type 0
Counted n rows =
    ((j : ℕ) → j < length rows → (whole_bias ≤ cell_of (line_at rows j) 0) × (cell_of (line_at rows j) 0 < whole_bias + n))
    × ((i j : ℕ) → i ≤ j → j < length rows → cell_of (line_at rows i) 0 ≤ cell_of (line_at rows j) 0)

-- the parents are lines themselves: each line has a parent that has the same names, and its parent is none before that of a line before it
abbrev pub Follow : List Cells → List Cells → (Cells → Cells → Bool) → Type 0
Follow parents rows names =
    ((j : ℕ) → j < length rows → (k : ℕ) × (k < length parents) × (names (line_at parents k) (line_at rows j) ≡ true))
    × ((i j k m : ℕ) → i ≤ j → j < length rows → k < length parents → m < length parents → names (line_at parents k) (line_at rows i) ≡ true → names (line_at parents m) (line_at rows j) ≡ true → k ≤ m)

-- the ids 1 to n, then -1 to -m
abbrev pub ids_of : ℕ → ℕ → List ℕ
ids_of n m = tabulate (λ k. first_left + k) n ++ tabulate (λ k. first_right - k) m

abbrev pub id_said : Cells → ℕ
id_said r = cell_of r 1

-- a line with the side and the place of a strip's
abbrev pub of_pair : Cells → Cells → Bool
of_pair strip r = of_strip (cell_of strip 0) (cell_of strip 1) r

pub record Family (T : ℕ → List Cells) : Type 0 where
  pub road : 0 < length (T road_table)
  pub lanes : Counted (length (T section_table)) (T lane_table)
  pub ids : (i : ℕ) → i < length (T section_table) → map id_said (those (under i) (T lane_table)) ≡ ids_of (length (those (left_under i) (T lane_table))) (length (those (right_under i) (T lane_table)))
  pub extents : Follow (T lane_table) (T extent_table) of_lane
  pub heights : Follow (T lane_table) (T height_table) of_lane
  pub shapes : Counted (length (T profile_table)) (T shape_table)
  pub strips : (i j : ℕ) → i < length (T strip_table) → j < length (T strip_table) → of_pair (line_at (T strip_table) i) (line_at (T strip_table) j) ≡ true → i ≡ j
  pub cubics : Follow (T strip_table) (T cubic_table) of_pair
  pub terms : (i j : ℕ) → i ≤ j → j < length (T cubic_table) → of_pair (line_at (T cubic_table) i) (line_at (T cubic_table) j) ≡ true → cell_of (line_at (T cubic_table) i) 2 ≤ cell_of (line_at (T cubic_table) j) 2
  -- document 02, point 2: "lines follow the sections' order, a section's ids in any order"; "any other wrong count, order, section or lane id is 3"
  pub marks : Counted (length (T section_table)) (T mark_table)
  pub mark_lanes : (j : ℕ) → j < length (T mark_table) → (k : ℕ) × (k < length (T lane_table)) × (of_lane (line_at (T lane_table) k) (line_at (T mark_table) j) ≡ true)
