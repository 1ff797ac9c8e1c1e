-- `section_raised`: the two sides.
use Rattle.lanes_heights.specs.Heights.{section_raised}
use Rattle.lanes_heights.proofs.raised.section_raised.Goals as goal

pub returns-then-side_raised : goal.returns-then-side_raised
unfolding section_raised
returns-then-side_raised c = rw (← c.side_raised.ensures, c.if-side_raised.true)

pub returns-else-side_raised : goal.returns-else-side_raised
unfolding section_raised
returns-else-side_raised c = rw (← c.side_raised.ensures, c.if-side_raised.false) c.side_raised-else-side_raised.ensures
