-- What is read is what the text says: two statements over reading (reader_calls, specs/Reading), each for every text of any bytes. `TextSays` is of texts of right form, accepted or not: each is judged by its lines alone. `ReadSays` is of accepted ones.
use Rattle.std.specs.Prelude.{ℕ, ◌≤◌, ◌≡◌, List, length, Float}
use Rattle.refusals.specs.Answer.{value, checked}
use Rattle.records.specs.Layout.{numbers_needed, words_needed, wants_needed}
use Rattle.records.specs.Roads.{road_of}
use Rattle.reader_schema.specs.Tables.{road_table, want_table, table_count}
use Rattle.reader_store.specs.declared.progress.Progress.{Progress}
use Rattle.reader_store.specs.Progress.{start_progress}
use Rattle.reader_calls.specs.Reading.{done, stop, admitted_as, tables_from, text_most, zeros, zero_numbers, reading_of}
use Rattle.reader_laws.specs.Lines.{lines_of}
use Rattle.reader_text_laws.specs.Said.{road_said, wants_said}
use Rattle.reader_text_laws.specs.Family.{Family}
use Rattle.reader_text_laws.specs.Counts.{said_rows}

module _ (text : List ℕ) (l m n at count : ℕ) (progress : Progress) (ws : List ℕ) (ns : List Float) (vs : List ℕ) where
  -- rows 1 and 2 are passed: the text and the slices of l words, m numbers and n wants have their lengths, every line its form, every table its limit. What is held then is ws, ns and vs
  pub record Formed : Type 0 where
    pub text_short : length text ≤ text_most
    pub words_long : words_needed ≤ l
    pub numbers_long : numbers_needed ≤ m
    pub wants_long : wants_needed ≤ n
    pub tables : tables_from table_count road_table text 0 0 start_progress (zeros l) (zero_numbers m) (zeros n) ≡ done at count progress ws ns vs

  -- the words and numbers stand for the road that the text's lines say, the count is that of its wants, and their slice holds their patterns, then zeros
  pub record AsSaid : Type 0 where
    pub road : road_of ws ns ≡ road_said (lines_of text)
    pub wants : count ≡ length (lines_of text want_table)
    pub of_wants_held : vs ≡ wants_said (lines_of text want_table) n

-- where references and order are right, what is held is what the text says, and rows 3, 4 and 5 of the road that its lines say decide; where they are not, reading answers 3
abbrev pub TextSays : Type 0
TextSays =
    (text : List ℕ) (l m n at count : ℕ) (progress : Progress) (ws : List ℕ) (ns : List Float) (vs : List ℕ) → Formed text l m n at count progress ws ns vs
    → (Family (lines_of text) → AsSaid text l m n at count progress ws ns vs × (reading_of text l m n ≡ admitted_as (checked (said_rows (road_said (lines_of text))) (value tt)) (done at count progress ws ns vs) stop))
    × ((Family (lines_of text) → ⊥) → reading_of text l m n ≡ stop 3)

-- of every text that is accepted, what is held is what the text says
abbrev pub ReadSays : Type 0
ReadSays =
    (text : List ℕ) (l m n at count : ℕ) (progress : Progress) (ws : List ℕ) (ns : List Float) (vs : List ℕ) → reading_of text l m n ≡ done at count progress ws ns vs → AsSaid text l m n at count progress ws ns vs
