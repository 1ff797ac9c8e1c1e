use Rattle.std.proofs.Common.{rules}
use Rattle.records_lent.proofs.RangeLaws.{all_listed}
use Rattle.records.specs.Roads.{no_lane}
use Rattle.admission_order.specs.Order.{lane_in_order}
use Rattle.admission_order.proofs.order.side_in_order.Goals as goal

pub returns : goal.returns
returns c = all_listed lane_in_order no_lane c.all.ensures.ran c.iter.ensures (λ x b q k. search rules)
