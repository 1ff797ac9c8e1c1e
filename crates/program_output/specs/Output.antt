-- Document 01, "The program `surface`": the bytes that it writes for a job text. Read `output_of` first.
-- A text is read into memory of the least size that reading takes. The samples are those of its road, as the samples call makes them, and each want is what the surface call answers on that memory.
use Rattle.std.specs.Prelude.{ℕ, zero, suc, ◌+◌, ◌*◌, cond, List, [], ◌++◌, leb, length, get_or, drop, Float}
use Rattle.std.specs.Float.{binary64}
use Rattle.std.specs.Float.Ieee.{of_bits}
use Rattle.records.specs.Layout.{numbers_needed, words_needed, want_stride, wants_needed}
use Rattle.records.specs.Roads.{road_of}
use Rattle.line_samples.specs.Samples.{samples_of}
use Rattle.surface_calls.specs.SurfaceCalls.{surface_call}
use Rattle.reader_calls.specs.Reading.{Outcome, done, stop, reading_of}
use Rattle.program_output.specs.Lines.{names_line, output_line, refused_line}

module _ (words : List ℕ) (numbers : List Float) where
  -- the line of a want with these patterns for s and t
  abbrev pub want_line : List Float → ℕ → ℕ → List ℕ
  want_line samples s t = output_line s t (surface_call words numbers samples (of_bits binary64 s) (of_bits binary64 t))

  -- the lines of the first n wants; the wants lie as s, t, s, t ..
  unfoldable pub want_lines : List Float → List ℕ → ℕ → List ℕ
  want_lines samples wants zero = []
  want_lines samples wants (suc k) = want_lines samples wants k ++ want_line samples (get_or wants (k * want_stride) 0) (get_or wants (k * want_stride + 1) 0)

  -- "names `s t x y z`, then a line per want"
  unfoldable pub wants_text : List ℕ → ℕ → List ℕ
  wants_text wants n = names_line ++ want_lines (samples_of (road_of words numbers)) wants n

-- by what was read: an accepted job's wants, or a refused job's one line
abbrev pub written_for : Outcome → List ℕ
written_for (done at count progress words numbers wants) = wants_text words numbers wants count
written_for (stop n) = refused_line n

-- what the program writes for a job text
unfoldable pub output_of : List ℕ → List ℕ
output_of text = written_for (reading_of text words_needed numbers_needed wants_needed)

-- the most bytes that it writes: the names' 10, and 61 for each of 16 wants
abbrev pub output_needed : ℕ
output_needed = 986

-- out afterwards: the text at its start, the rest as it was. A slice of fewer than output_needed bytes is left alone.
abbrev pub answered_in : List ℕ → List ℕ → List ℕ
answered_in text out = cond (leb output_needed (length out)) (output_of text ++ drop (length (output_of text)) out) out

-- how many bytes were written
abbrev pub bytes_written : List ℕ → List ℕ → ℕ
bytes_written text out = cond (leb output_needed (length out)) (length (output_of text)) 0
