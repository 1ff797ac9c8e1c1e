-- `across`: by whether the lane is level.
use Rattle.lanes_heights.proofs.border_heights.SideHeights.across.Goals as goal

pub returns-else-edge : goal.returns-else-edge
returns-else-edge c = rw c.if-edge.false (c.tilted.ensures c.args.edge.height)
