-- `shape_between`: what its calls ensure, put together.
use Rattle.lanes.specs.Lateral.{shape_between}
use Rattle.lanes_shape.proofs.profiles.shape_between.Goals as goal

pub returns : goal.returns
unfolding shape_between
returns c = rw (c.blend.ensures, c.fraction-f.ensures, c.profile_start.ensures, c.profile_start-2.ensures, c.profile_height.ensures, c.profile_height-2.ensures)
