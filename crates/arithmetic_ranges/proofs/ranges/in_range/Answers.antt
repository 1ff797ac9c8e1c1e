-- Both ends by `<=`, as the library tests them.
use Rattle.arithmetic_ranges.proofs.FloatTests.{le_is}
use Rattle.arithmetic_ranges.proofs.ranges.in_range.Goals as goal

pub returns : goal.returns
returns c = let n = c.new.ensures in rw (c.contains.ensures.value, n.exhausted, n.start, n.end, le_is c.args.lo c.args.x, le_is c.args.x c.args.hi)
