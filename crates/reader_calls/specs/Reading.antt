-- Document 01, "What a call gives back" and "The job text": a whole text, read. "Reading checks 1 to 5"; "Row 2's slice and length tests precede all lines;
-- then a line is tested for 1 before 2. A refused reading leaves zeros in all road slices, an accepted one zeros past the last line". Read `reading_of` first.
use Rattle.std.specs.Prelude.{ℕ, zero, suc, ◌+◌, ◌&&◌, cond, List, Option, Some, None, length, replicate, eqb, ltb, leb, Float}
use Rattle.std.specs.Float.{binary64}
use Rattle.std.specs.Float.Ieee.{of_bits}
use Rattle.refusals.specs.Answer.{Answer, value, refused}
use Rattle.records.specs.Layout.{words_needed, numbers_needed, wants_needed}
use Rattle.admission.specs.Admission.{admit_call}
use Rattle.reader_schema.specs.Tables.{road_table, table_count}
use Rattle.reader_schema.specs.Schema.{name_of, limit_of}
use Rattle.reader_cells.specs.Cells.{byte_at, name_span}
use Rattle.reader_lines.specs.NamesLine.{head_at}
use Rattle.reader_lines.specs.ValuesLine.{values_at}
use Rattle.reader_lines.specs.declared.columns.Order.{Order}
use Rattle.reader_lines.specs.declared.columns.Cells.{Cells}
use Rattle.reader_cells.specs.declared.names.Span.{Span}
use Rattle.reader_store.specs.Layout.{numbers_kept, wants_kept, count_kept}
use Rattle.reader_store.specs.Progress.{start_progress, unsound_progress, ended_progress}
use Rattle.reader_store.specs.Keep.{kept_words, kept_progress}
use Rattle.reader_store.specs.declared.progress.Progress.{Progress}

-- What reading comes to: the place after it, how many lines the last table had, what is remembered of references and order, and the words, numbers and
-- wants then held; or the number of the refusal. No `Result` of a record: the definitions by cases below take the six apart by name.
pub data Outcome : Type 0 where
  done : (at lines : ℕ) (progress : Progress) (words : List ℕ) (numbers : List Float) (wants : List ℕ) → Outcome
  stop : (number : ℕ) → Outcome

-- by a line of values: what its cells and the place after it lead to, or a broken form
abbrev pub by_values : Option (Span Cells) → (Cells → ℕ → Outcome) → Outcome
by_values (Some row) f = f row.value row.next
by_values None f = stop 1

-- Lines up to an empty one, at most `fuel` more, the k-th at hand. "a line is tested for 1 before 2".
unfoldable pub lines_from : ℕ → ℕ → Order → List ℕ → ℕ → ℕ → Progress → List ℕ → List Float → List ℕ → Outcome
lines_from zero table order text at k progress ws ns vs =
    cond (eqb (byte_at text at) 10) (done (at + 1) k (ended_progress progress) (count_kept table k ws) ns vs)
    (by_values (values_at text at table order) (λ cells next. stop 2))
lines_from (suc fuel) table order text at k progress ws ns vs =
    cond (eqb (byte_at text at) 10) (done (at + 1) k (ended_progress progress) (count_kept table k ws) ns vs)
    (by_values (values_at text at table order)
    (λ cells next.
    lines_from fuel table order text next (k + 1) (kept_progress table k cells progress ws) (kept_words table k cells progress ws) (numbers_kept table k cells ns) (wants_kept table k cells vs)))

-- by a line of names: what the order of its columns and the place after it lead to, or a broken form
abbrev pub by_head : Option (Span Order) → (Order → ℕ → Outcome) → Outcome
by_head (Some head) f = f head.value head.next
by_head None f = stop 1

-- "A table is a line of names .., lines of values .., one empty line." Where its name does not stand, the table is missing and nothing is read.
unfoldable pub table_at : ℕ → List ℕ → ℕ → Progress → List ℕ → List Float → List ℕ → Outcome
table_at table text at progress ws ns vs =
    cond (eqb (name_span text at).value (name_of table))
    (by_head (head_at text (name_span text at).next table) (λ order next. lines_from (limit_of table) table order text next 0 progress ws ns vs))
    (done at 0 progress ws ns vs)

-- "road: length (1 line)"; "Too few .. is 3": a road without its line, its table missing or empty. The other tables' counts are tested by admission.
unfoldable pub counted_progress : ℕ → ℕ → Progress → Progress
counted_progress table lines progress = cond (eqb table road_table && eqb lines 0) (unsound_progress progress) progress

-- by an outcome: what the tables so far lead to, or the refusal
abbrev pub by_outcome : Outcome → (ℕ → ℕ → Progress → List ℕ → List Float → List ℕ → Outcome) → Outcome
by_outcome (done at lines progress ws ns vs) f = f at lines progress ws ns vs
by_outcome (stop m) f = stop m

-- n tables, from a table on: "Tables come in the order below". What stands after the last is no table's line of names: a broken form.
unfoldable pub tables_from : ℕ → ℕ → List ℕ → ℕ → ℕ → Progress → List ℕ → List Float → List ℕ → Outcome
tables_from zero table text at lines progress ws ns vs = cond (ltb at (length text)) (stop 1) (done at lines progress ws ns vs)
tables_from (suc n) table text at lines progress ws ns vs =
    by_outcome (table_at table text at progress ws ns vs)
    (λ at' lines' progress' ws' ns' vs'. tables_from n (table + 1) text at' lines' (counted_progress table lines' progress') ws' ns' vs')

-- the road that was stored, by admission
abbrev pub admitted_as : {A : Type 0} → Answer (Unit {0}) → A → (ℕ → A) → A
admitted_as (value u) a f = a
admitted_as (refused m) a f = f m

-- references and order (3) once every line has its form, then rows 3 to 5 on the road that was stored
abbrev pub judge : Outcome → Outcome
judge (done at lines progress ws ns vs) = cond progress.sound (admitted_as (admit_call ws ns) (done at lines progress ws ns vs) stop) (stop 3)
judge (stop m) = stop m

-- the most bytes of a text
abbrev pub text_most : ℕ
text_most = 65536

-- A reading into slices that hold zeros. "Row 2's slice and length tests precede all lines": "a lent road slice is shorter than the limits need, or the text is over 65,536 bytes".
unfoldable pub reading_by : List ℕ → List ℕ → List Float → List ℕ → Outcome
reading_by text ws ns vs =
    cond ((leb words_needed (length ws) && leb numbers_needed (length ns)) && leb wants_needed (length vs))
    (cond (ltb text_most (length text)) (stop 2) (judge (tables_from table_count road_table text 0 0 start_progress ws ns vs)))
    (stop 2)

unfoldable pub zeros : ℕ → List ℕ
zeros n = replicate n 0

unfoldable pub zero_numbers : ℕ → List Float
zero_numbers n = replicate n (of_bits binary64 0)

-- a text read into slices of n words, m numbers and l wants, whatever they held before; so an accepted reading leaves "zeros past the last line"
unfoldable pub reading_of : List ℕ → ℕ → ℕ → ℕ → Outcome
reading_of text n m l = reading_by text (zeros n) (zero_numbers m) (zeros l)

-- a reading's answer: how many wants, or the number of the refusal
abbrev pub verdict_of : Outcome → Answer ℕ
verdict_of (done at lines progress ws ns vs) = value lines
verdict_of (stop m) = refused m

-- what the slices hold after a reading: "A refused reading leaves zeros in all road slices"
abbrev pub words_held : ℕ → Outcome → List ℕ
words_held n (done at lines progress ws ns vs) = ws
words_held n (stop m) = zeros n

abbrev pub numbers_held : ℕ → Outcome → List Float
numbers_held n (done at lines progress ws ns vs) = ns
numbers_held n (stop m) = zero_numbers n

abbrev pub wants_held : ℕ → Outcome → List ℕ
wants_held n (done at lines progress ws ns vs) = vs
wants_held n (stop m) = zeros n
