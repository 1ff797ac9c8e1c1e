-- Document 01, "The program `surface`", of an accepted job, by its text alone and with no word on memory: what is written, and demand 3 on the points. Read the two statements, `WrittenSays` and `WrittenKept`, at the end.
-- Words from below: `output_of`, the bytes that the program writes (program_output, Output); `lines_of text want_table`, the lines of want, and `road_said (lines_of text)`, the road that a text says (reader_laws, Lines; reader_text_laws, Said); `on_road`, s in 0..length, and `across_road`, t in -80..80 (admission, Limits; admission_arguments, Arguments); `narrowed_point (surface_at ..)`, the f32 point of `surface` (surface_points, Surfaces); `SizedPoint`, finite, x and y at most 2,000,000 in size, z at most 20,000 (surface_laws, Sizes).
use Rattle.std.specs.Prelude.{ℕ, ◌≡◌, true, cond, List, [], ◌∷◌, ◌++◌}
use Rattle.float_laws.specs.Binary64.{f64}
use Rattle.refusals.specs.Answer.{value}
use Rattle.records.specs.Layout.{numbers_needed, words_needed, wants_needed}
use Rattle.records.specs.Roads.{Road}
use Rattle.records.specs.declared.points.Point.{Point}
use Rattle.line_samples.specs.Samples.{samples_of}
use Rattle.admission.specs.Limits.{on_road}
use Rattle.admission_arguments.specs.Arguments.{across_road}
use Rattle.reader_schema.specs.Tables.{want_table}
use Rattle.reader_lines.specs.Columns.{cell_of}
use Rattle.reader_lines.specs.declared.columns.Cells.{Cells}
use Rattle.surface_points.specs.Surfaces.{narrowed_point, surface_at}
use Rattle.surface_laws.specs.Sizes.{SizedPoint}
use Rattle.reader_calls.specs.Reading.{verdict_of, reading_of}
use Rattle.reader_laws.specs.Lines.{lines_of}
use Rattle.reader_text_laws.specs.Said.{road_said}
use Rattle.reader_hex.specs.Digits.{bytes_of, hex_of}
use Rattle.program_output.specs.Lines.{space, names_line, point_line}
use Rattle.program_output.specs.Output.{output_of}

-- a text that reading accepts, into memory as long as the program has it, with so many wants
pub record Job (text : List ℕ) : Type 0 where
  pub count : ℕ
  pub accepted : verdict_of (reading_of text words_needed numbers_needed wants_needed) ≡ value count

module _ (road : Road) where
  -- the point of `surface` at s and t, by their patterns, with the samples made from the road
  abbrev pub point_at : ℕ → ℕ → Point
  point_at s t = (narrowed_point (surface_at road (samples_of road) (f64 s) (f64 t))).point

  -- "a refused want writes .. `-` and the number": row 7, "s outside 0..length", then row 8, "t outside -80..80"; else x, y and z
  abbrev pub answer_said : ℕ → ℕ → List ℕ
  answer_said s t = cond (on_road road (f64 s)) (cond (across_road (f64 t)) (point_line (point_at s t)) (bytes_of "- 8\n")) (bytes_of "- 7\n")

  -- s and t as they were read, and the answer
  abbrev pub want_said : ℕ → ℕ → List ℕ
  want_said s t = hex_of 16 s ++ (space ∷ (hex_of 16 t ++ (space ∷ answer_said s t)))

  -- "a line per want", in their order
  abbrev pub lines_said : List Cells → List ℕ
  lines_said [] = []
  lines_said (r ∷ rs) = want_said (cell_of r 0) (cell_of r 1) ++ lines_said rs

-- "names `s t x y z`, then a line per want"
abbrev pub WrittenSays : Type 0
WrittenSays = (text : List ℕ) → Job text → output_of text ≡ names_line ++ lines_said (road_said (lines_of text)) (lines_of text want_table)

-- of every point that is written: so no NaN and no infinity ever is
abbrev pub WrittenKept : Type 0
WrittenKept =
    (text : List ℕ) → Job text → (s t : ℕ) → on_road (road_said (lines_of text)) (f64 s) ≡ true → across_road (f64 t) ≡ true
    → SizedPoint (point_at (road_said (lines_of text)) s t).x (point_at (road_said (lines_of text)) s t).y (point_at (road_said (lines_of text)) s t).z
