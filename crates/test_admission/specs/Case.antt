-- What a line of the list writes for an answer, and which call a letter asks.
use Rattle.std.specs.Prelude.{ℕ, cond, List, ◌==◌, Float, Option, Some, None}
use Rattle.admission.specs.Admission.{admit_call}
use Rattle.line_calls.specs.SampleCall.{samples_call}
use Rattle.refusals.specs.Answer.{answer_number}
use Rattle.test_support.specs.Answers.{count_word}
use Rattle.test_admission.specs.declared.calls.Call.{Call}
use Rattle.test_admission.specs.declared.calls.Call.TheVariants.{Admission, Samples}

-- the call of a letter: a admission, s samples
unfoldable pub call_of : ℕ → Option Call
call_of letter = cond (letter == 97) (Some Admission) (cond (letter == 115) (Some Samples) None)

-- what a call answers, as a line writes it; samples go into a slice of len f64
abbrev pub call_word : Call → List ℕ → List Float → ℕ → ℕ
call_word Admission words numbers len = answer_number (admit_call words numbers)
call_word Samples words numbers len = count_word (samples_call words numbers len)
