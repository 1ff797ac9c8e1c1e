-- `height_toward`: what its calls ensure, put together.
use Rattle.lanes.specs.Lateral.{height_toward}
use Rattle.lanes_shape.proofs.lateral.height_toward.Goals as goal

pub returns : goal.returns
unfolding height_toward
returns c = rw (c.shape_at.ensures, c.cross_height.ensures)
