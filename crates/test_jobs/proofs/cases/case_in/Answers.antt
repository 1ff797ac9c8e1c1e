-- As much of each slice is lent as there is, so the parts have the lengths asked for.
use Rattle.std.proofs.Common.{ap, ◌∙◌, arith, length-take-le}
use Rattle.test_jobs.specs.Case.{seen_of}
use Rattle.test_jobs.proofs.CaseLaws.{case-is}
use Rattle.test_jobs.proofs.cases.case_in.Goals as goal

pub returns : goal.returns
returns c =
    let a = c.args in
    let r = c.read-read.ensures in
    case-is a.text.now a.words.now a.numbers.now a.wants.now a.asked c.min-w.ensures c.min-n.ensures c.min-v.ensures
    (length-take-le c.min-w.result a.words.now (omega arith))
    (length-take-le c.min-n.result a.numbers.now (omega arith))
    (length-take-le c.min-v.result a.wants.now (omega arith))
    (c.seen_of.ensures ∙ ap seen_of r.result_value)
    (rw (r.words_after, r.numbers_after, r.wants_after) at c.checksum.ensures)
