-- `lane_in_order`: its two lists, by what the lane has.
use Rattle.admission_order.specs.Order.{lane_in_order}
use Rattle.admission_order.proofs.order.lane_in_order.Goals as goal

pub returns-then-cubics_in_order : goal.returns-then-cubics_in_order
unfolding lane_in_order
returns-then-cubics_in_order c = rw (← c.lane.view_is, ← c.cubics_in_order.ensures, c.if-cubics_in_order.true) c.heights_apart.ensures

pub returns-else-cubics_in_order : goal.returns-else-cubics_in_order
unfolding lane_in_order
returns-else-cubics_in_order c = rw (← c.lane.view_is, ← c.cubics_in_order.ensures, c.if-cubics_in_order.false)
