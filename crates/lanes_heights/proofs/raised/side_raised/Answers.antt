-- `side_raised`: some lane is.
use borrow.Author.Rules.{rules}
use Rattle.records.specs.Roads.{no_lane}
use Rattle.records_lent.proofs.RangeLaws.{any_listed}
use Rattle.lanes_heights.specs.Heights.{is_raised}
use Rattle.lanes_heights.proofs.raised.side_raised.Goals as goal

pub returns : goal.returns
returns c = any_listed is_raised no_lane c.any.ensures.ran c.side_lanes.ensures (λ x b q k. search rules)
