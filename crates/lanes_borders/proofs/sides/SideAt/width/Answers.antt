-- `width`: by the kind of the lane.
use Rattle.lanes_borders.specs.Borders.{width_of}
use Rattle.lanes_borders.proofs.sides.SideAt.width.Goals as goal
use Rattle.lanes_borders.proofs.sides.SideAt.width.Goals.{then-lane, else-lane}

pub returns : goal.returns
unfolding width_of
returns c =
    elim c.if-lane.branch [
      | then-lane w ↦ rw (c.width_or_zero.ensures, w.width-is, w.border_width-width.ensures, ← c.lane.view_is, w.if-lane.true)
      | else-lane w ↦ rw (c.width_or_zero.ensures, w.width-is, w.value-width.ensures, ← c.lane.view_is, w.if-lane.false)
    ]
