-- What was read decides. An accepted road is admitted and has 16 wants at most, so its text fits.
use mathlib.Core.Path.{sym, ap, ◌∙◌}
use native.Mathlib.Omega.{arith}
use lib.ListN.{length, length-replicate}
use lib.Seq.{length-take-le}
use Prim.Native.Nat.{ℕ, ◌≤◌, ◌*◌}
use Rattle.refusals.specs.Answer.{answered}
use Rattle.program_output.specs.Output.{output_of}
use Rattle.program_output.proofs.JobLaws.{accepted-job, refused-job}
use Rattle.program_output.proofs.OutputLaws.{front-text}
use Rattle.program_output.proofs.answers.output_of.Goals as goal

pub overflow_mul-wants : goal.overflow_mul-wants
overflow_mul-wants c =
    let r = c.read.ensures in
    let few = (accepted-job c.args.job.now (sym (ap answered c.in-Ok.is) ∙ r.result_value) r.words_after r.numbers_after r.wants_after).1 in
    omega arith

pub slice_bounds-wants-end : goal.slice_bounds-wants-end
slice_bounds-wants-end c =
    let r = c.read.ensures in
    let few = (accepted-job c.args.job.now (sym (ap answered c.in-Ok.is) ∙ r.result_value) r.words_after r.numbers_after r.wants_after).1 in
    omega (arith, c.read.auto.wants, length-replicate {A = ℕ} 32 0)

pub slice_bounds-wants_text-end-in-Ok-2 : goal.slice_bounds-wants_text-end-in-Ok-2
slice_bounds-wants_text-end-in-Ok-2 c =
    let r = c.read.ensures in
    let few = (accepted-job c.args.job.now (sym (ap answered c.in-Ok.is) ∙ r.result_value) r.words_after r.numbers_after r.wants_after).1 in
    let room : c.in-Ok.n * 2 ≤ length c.read.new.wants = omega (arith, c.read.auto.wants, length-replicate {A = ℕ} 32 0) in
    let part = length-take-le (c.in-Ok.n * 2) c.read.new.wants room in
    omega arith

pub wants_text-requires-clause-numbers_value : goal.wants_text-requires-clause-numbers_value
wants_text-requires-clause-numbers_value c =
    let r = c.read.ensures in
    (accepted-job c.args.job.now (sym (ap answered c.in-Ok.is) ∙ r.result_value) r.words_after r.numbers_after r.wants_after).0

pub returns-in-Ok : goal.returns-in-Ok
unfolding output_of
returns-in-Ok c =
    let r = c.read.ensures in
    let job = accepted-job c.args.job.now (sym (ap answered c.in-Ok.is) ∙ r.result_value) r.words_after r.numbers_after r.wants_after in
    let few = job.1 in
    let room : c.in-Ok.n * 2 ≤ length c.read.new.wants = omega (arith, c.read.auto.wants, length-replicate {A = ℕ} 32 0) in
    c.wants_text.ensures ∙ front-text c.read.new.words c.read.new.numbers c.read.new.wants c.in-Ok.n room ∙ job.2

pub returns-in-Err : goal.returns-in-Err
unfolding output_of
returns-in-Err c = c.refused.ensures ∙ refused-job c.args.job.now (sym (ap answered c.in-Err.is) ∙ c.read.ensures.result_value)
