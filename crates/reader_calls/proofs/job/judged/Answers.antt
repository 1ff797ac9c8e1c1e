-- A law for each way out.
use mathlib.Core.Path.{◌∙◌}
use borrow.Author.Tests.{not-true, not-false}
use Rattle.refusals.proofs.ResultLaws.{told}
use Rattle.reader_calls.proofs.JobCases.{judged-structure, judged-refused, judged-value}
use Rattle.reader_calls.proofs.job.judged.Goals as goal

pub returns-then-not-taken : goal.returns-then-not-taken
returns-then-not-taken c = let a = c.args in judged-structure a.taken a.words.now a.numbers.now (not-true _ c.if-not-taken.true)

pub returns-in_err-admit : goal.returns-in_err-admit
returns-in_err-admit c =
    let a = c.args in
    told c.from_residual.result _ c.from_residual.ensures.1 ∙ judged-refused a.taken a.words.now a.numbers.now (not-false _ c.if-not-taken.false) c.in_err-admit.ensures

pub returns : goal.returns
returns c = let a = c.args in judged-value a.taken a.words.now a.numbers.now (not-false _ c.if-not-taken.false) c.in_ok-admit.ensures
