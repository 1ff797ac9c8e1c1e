-- The samples call makes an admitted road's samples, so its refusal does not happen; then the names and the wants.
use mathlib.Core.Path.{sym, ap, ◌∙◌}
use native.Mathlib.Omega.{arith}
use lib.ListN.{length-take}
use Rattle.refusals.specs.Answer.{answered}
use Rattle.program_output.proofs.JobLaws.{blank-long, made-count, made-part, never-refused}
use borrow.Author.Rules.{rules}
use Rattle.program_output.specs.Output.{wants_text}
use Rattle.program_output.proofs.answers.wants_text.Goals as goal

pub overflow_mul-samples : goal.overflow_mul-samples
overflow_mul-samples c = let h = made-count c.args.words.now c.args.numbers.now c.requires.numbers_value c.in-Ok.count (sym (ap answered c.in-Ok.is) ∙ c.samples.ensures.result_value) in search rules

pub slice_bounds-samples-end-in-Ok : goal.slice_bounds-samples-end-in-Ok
slice_bounds-samples-end-in-Ok c = let h = made-count c.args.words.now c.args.numbers.now c.requires.numbers_value c.in-Ok.count (sym (ap answered c.in-Ok.is) ∙ c.samples.ensures.result_value) in omega (arith, blank-long, c.samples.auto.samples)

pub slice_bounds-push_wants-end : goal.slice_bounds-push_wants-end
slice_bounds-push_wants-end c = let h = made-count c.args.words.now c.args.numbers.now c.requires.numbers_value c.in-Ok.count (sym (ap answered c.in-Ok.is) ∙ c.samples.ensures.result_value) in simp length-take (omega (arith, blank-long, c.samples.auto.samples))

pub returns-in-Ok : goal.returns-in-Ok
unfolding wants_text
returns-in-Ok c =
    let a = c.args in
    let own = made-part a.words.now a.numbers.now c.requires.numbers_value c.in-Ok.count (sym (ap answered c.in-Ok.is) ∙ c.samples.ensures.result_value) c.samples.ensures.samples_after in
    let names = c.append.ensures.fits (rw c.new-text.ensures (omega arith)) in
    rw (c.push_wants.ensures, names, c.new-text.ensures, own)

pub returns-in_default : goal.returns-in_default
returns-in_default c =
    let a = c.args in
    absurd (never-refused a.words.now a.numbers.now c.requires.numbers_value _ (sym (ap answered c.in_default.is) ∙ c.samples.ensures.result_value))
