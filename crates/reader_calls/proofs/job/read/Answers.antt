-- The slices are cleared before, so the reading is that of zeros, and again after a refusal.
use mathlib.Core.Path.{ap, sym, ◌∙◌}
use lib.ListN.{length}
use Rattle.reader_calls.specs.Reading.{zeros, zero_numbers}
use Rattle.reader_calls.proofs.JobCases.{read_right, read-wrong}
use Rattle.reader_calls.proofs.job.read.Goals as goal

pub returns-else-is_err : goal.returns-else-is_err
returns-else-is_err c =
    let a = c.args in
    let d = c.clear in
    let f = c.fill-answer in
    let both = read_right a.text.now (length a.words.now) (length a.numbers.now) (length a.wants.now) d.new.words d.new.numbers d.new.wants f.new.words f.new.numbers f.new.wants d.ensures.words_after d.ensures.numbers_after d.ensures.wants_after f.result f.ensures (sym c.is_err.ensures.value ∙ c.if-is_err.false) in
    record { result_value = both.0; words_after = both.1.0; numbers_after = both.1.1.0; wants_after = both.1.1.1 }

pub returns-then-is_err : goal.returns-then-is_err
returns-then-is_err c =
    let a = c.args in
    let d = c.clear in
    let f = c.fill-answer in
    let e = c.clear-then-is_err in
    let both = read-wrong a.text.now (length a.words.now) (length a.numbers.now) (length a.wants.now) d.new.words d.new.numbers d.new.wants f.new.words f.new.numbers f.new.wants d.ensures.words_after d.ensures.numbers_after d.ensures.wants_after f.result f.ensures (sym c.is_err.ensures.value ∙ c.if-is_err.true)
    (e.ensures.words_after ∙ ap zeros (f.auto.words ∙ d.auto.words))
    (e.ensures.numbers_after ∙ ap zero_numbers (f.auto.numbers ∙ d.auto.numbers))
    (e.ensures.wants_after ∙ ap zeros (f.auto.wants ∙ d.auto.wants)) in
    record { result_value = both.0; words_after = both.1.0; numbers_after = both.1.1.0; wants_after = both.1.1.1 }
