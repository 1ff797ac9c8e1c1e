-- `lane_raised`: what the lane has.
use lib.ListN.{length}
use Rattle.records_lent.proofs.TestLaws.{not_empty}
use Rattle.lanes_heights.proofs.raised.lane_raised.Goals as goal

pub returns : goal.returns
returns c = rw (← c.lane.view_is, c.is_empty.ensures, not_empty (length c.lane.inside.heights))
