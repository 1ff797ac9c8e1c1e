-- What a line asks: a call on what the lines before it left, held against the answer that the line has. Read `verdict_of` first.
use Rattle.std.specs.Prelude.{ℕ, ◌+◌, ◌/◌, ◌%◌, ◌^◌, Bool, cond, ◌&&◌, List, [], ◌∷◌, length, drop, map, ◌==◌, from_bits, to_bits, nat_lt, nat_eq, slice_index, ℤ, pos, negsuc, Float, Option, Some, None}
use Rattle.std.specs.Cmp.Lexicographic.{pointwise}
use Rattle.std.specs.Float.{binary32, binary64}
use Rattle.std.specs.Float.Ieee.{eq}
use Rattle.float_laws.specs.Binary64.{zero64}
use Rattle.refusals.specs.Answer.{Answer}
use Rattle.line_calls.specs.SampleCall.{samples_call, samples_list}
use Rattle.dots_calls.specs.DotsCall.{dots_call, dots_list}
use Rattle.test_support.specs.Answers.{count_word}
use Rattle.test_dots.specs.declared.calls.Verdict.{Verdict}
use Rattle.test_dots.specs.declared.calls.Call.{Call}
use Rattle.test_dots.specs.declared.calls.Call.TheVariants.{Samples, Dots}

-- ---- an answer held against the words of a line

-- the word that stands for a number: zeros alike, NaNs alike
unfoldable pub pattern_of : Float → ℕ
pattern_of x = cond (eq x zero64) 0 (to_bits binary64 x)

-- the words are the number, then those that stand for the list, and no others
unfoldable pub agrees_of : ℕ → List Float → List ℕ → Bool
unfolding pattern_of
agrees_of number xs row = pointwise nat_eq (number ∷ map pattern_of xs) row

-- ---- the calls

-- an id as a word: k for 2 k, -1 - k for 2 k + 1
abbrev pub id_number : ℕ → ℤ
id_number n = cond (n % 2 == 1) (negsuc (n / 2)) (pos (n / 2))

module _ (words : List ℕ) (numbers samples : List Float) where
  -- the row is the answer
  unfoldable pub samples_agree : List ℕ → Bool
  unfolding agrees_of samples_call
  samples_agree row = agrees_of (count_word (samples_call words numbers (length samples))) [] row

  module _ (stations list : List Float) (row : List ℕ) where
    -- the row is a section, a lane and a spacing, then the answer
    abbrev pub dots_answer : Answer ℕ
    dots_answer =
        dots_call words numbers samples (slice_index row 0) (id_number (slice_index row 1)) (from_bits binary32 (slice_index row 2)) stations (length list)

    -- the lent list afterwards
    abbrev pub dots_left : List Float
    dots_left = dots_list words numbers samples (slice_index row 0) (id_number (slice_index row 1)) (from_bits binary32 (slice_index row 2)) stations list

    -- the answer is the number, then the whole lent list as it is afterwards
    unfoldable pub dots_agree : Bool
    unfolding agrees_of dots_call dots_list
    dots_agree = agrees_of (count_word dots_answer) dots_left (drop 3 row)

-- ---- what is found of a line

-- the call of a letter: a samples, d dots
unfoldable pub call_of : ℕ → Option Call
call_of letter = cond (letter == 97) (Some Samples) (cond (letter == 100) (Some Dots) None)

-- whether a line has the words of its call, where n numbers are lent: dots have one for each of them, and a lane and a spacing are of 32 bits
abbrev pub takes_words : Call → List ℕ → ℕ → Bool
takes_words Samples row n = length row == 1
takes_words Dots row n = length row == n + 4 && nat_lt (slice_index row 1) (2 ^ 32) && nat_lt (slice_index row 2) (2 ^ 32)

-- whether its answer is the row's, on the road's words and numbers, the samples, the stations and the list
abbrev pub same_of : Call → List ℕ → List Float → List Float → List Float → List Float → List ℕ → Bool
same_of Samples words numbers samples stations list row = samples_agree words numbers samples row
same_of Dots words numbers samples stations list row = dots_agree words numbers samples stations list row

-- none for another letter, or other words
unfoldable pub verdict_of : Option Call → List ℕ → List Float → List Float → List Float → List Float → List ℕ → Option Verdict
verdict_of (Some call) words numbers samples stations list row =
    cond (takes_words call row (length list)) (Some (record { call = call; same = same_of call words numbers samples stations list row })) None
verdict_of None words numbers samples stations list row = None

-- the samples after a line
unfoldable pub samples_told : Option Call → List ℕ → List Float → List Float → List ℕ → List Float
samples_told (Some Samples) words numbers samples row = cond (takes_words Samples row 0) (samples_list words numbers samples) samples
samples_told (Some Dots) words numbers samples row = samples
samples_told None words numbers samples row = samples

-- the lent list after a line
unfoldable pub list_told : Option Call → List ℕ → List Float → List Float → List Float → List Float → List ℕ → List Float
list_told (Some Dots) words numbers samples stations list row =
    cond (takes_words Dots row (length list)) (dots_left words numbers samples stations list row) list
list_told (Some Samples) words numbers samples stations list row = list
list_told None words numbers samples stations list row = list
