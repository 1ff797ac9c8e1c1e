-- `cross_height`: by the side.
use Rattle.lanes.specs.Lateral.{cross_height}
use Rattle.lanes_shape.proofs.strips.cross_height.Goals as goal

pub returns : goal.returns
unfolding cross_height
returns c = rw (← c.tshifts.ensures, ← c.value.ensures, ← c.is_left-right.ensures) c.side_height.ensures
