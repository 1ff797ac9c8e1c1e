use Rattle.std.proofs.Common.{ap, ◌∙◌, replicate}
use lib.Ieee.{Float}
use Rattle.test_jobs.specs.Case.{case_in, case_of}
use Rattle.test_jobs.proofs.cases.case_of.Goals as goal

pub returns : goal.returns
unfolding case_of
returns c =
    c.case_in.ensures
    ∙ ap (λ (x : Float). case_in c.args.text.now (replicate 1900 0xabcd) (replicate 8500 x) (replicate 40 0xabcd_abcd_abcd_abcd) c.args.asked) c.of_bits-numbers.ensures
