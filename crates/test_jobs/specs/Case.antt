-- A case: a text, and how many words, numbers and wants are lent. Read `case_of` first: what is written for it.
use Rattle.std.specs.Prelude.{ℕ, min, List, ◌++◌, length, drop, replicate, Float}
use Rattle.std.specs.Float.{binary64}
use Rattle.std.specs.Float.Ieee.{of_bits}
use Rattle.refusals.specs.Answer.{Answer, value, refused}
use Rattle.test_support.specs.Sums.{checksum_of}
use Rattle.reader_calls.specs.Reading.{Outcome, reading_of, verdict_of, words_held, numbers_held, wants_held}
use Rattle.test_jobs.specs.declared.cases.Lent.{Lent}
use Rattle.test_jobs.specs.declared.cases.Seen.{Seen}
use Rattle.test_jobs.specs.declared.cases.Case.{Case}

-- an answer in numbers: 0 and how many wants, or the number of the refusal and 0
abbrev pub seen_of : Answer ℕ → Seen
seen_of (value n) = record { answer = 0; wants = n }
seen_of (refused number) = record { answer = number; wants = 0 }

-- what a reading into the first words, numbers and wants of some memory leads to; behind these the memory is as it was
unfoldable pub case_by : List ℕ → List Float → List ℕ → Lent → Outcome → Case
case_by ws ns vs lent reading =
    record {
      seen = seen_of (verdict_of reading);
      sum = checksum_of (words_held lent.words reading ++ drop lent.words ws) (numbers_held lent.numbers reading ++ drop lent.numbers ns) (wants_held lent.wants reading ++ drop lent.wants vs);
    }

-- as much is lent as is asked for and there is
abbrev pub lent_of : List ℕ → List Float → List ℕ → Lent → Lent
lent_of ws ns vs asked = record { words = min asked.words (length ws); numbers = min asked.numbers (length ns); wants = min asked.wants (length vs) }

unfoldable pub case_in : List ℕ → List ℕ → List Float → List ℕ → Lent → Case
case_in text ws ns vs asked =
    let lent : Lent = lent_of ws ns vs asked in case_by ws ns vs lent (reading_of text lent.words lent.numbers lent.wants)

-- the memory before a case: full of what no reading leaves
unfoldable pub case_of : List ℕ → Lent → Case
case_of text asked =
    case_in text (replicate 1900 0xabcd) (replicate 8500 (of_bits binary64 0x4045_abcd_abcd_abcd)) (replicate 40 0xabcd_abcd_abcd_abcd) asked
