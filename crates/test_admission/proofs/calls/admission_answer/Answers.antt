-- What `admit` answered, in the words of `admit_call`.
use mathlib.Core.Path.{◌∙◌, refl}
use Rattle.records.specs.Roads.{road_of}
use Rattle.admission_calls.proofs.AdmitLaws.{admit-alike}
use Rattle.refusals.specs.Answer.{answer_number}
use Rattle.test_admission.proofs.calls.admission_answer.Goals as goal

pub returns : goal.returns
returns c =
    let w = c.args.words.now in
    let n = c.args.numbers.now in
    c.from.ensures ∙ c.answer_number.ensures ∙ admit-alike w n (road_of w n) answer_number answer_number (λ x. refl) (λ k. refl) _ c.admit.ensures
