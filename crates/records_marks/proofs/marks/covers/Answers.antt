-- `covers`: the start by `<=`, the end by `<`, as the library tests them.
use Rattle.arithmetic_ranges.proofs.FloatTests.{le_is}
use Rattle.records_marks.proofs.CoverLaws.{lt_is}
use Rattle.records_marks.proofs.marks.covers.Goals as goal

pub returns : goal.returns
returns c = rw (c.contains.ensures.value, le_is c.args.mark.start c.args.d, lt_is c.args.d c.args.mark.end)
