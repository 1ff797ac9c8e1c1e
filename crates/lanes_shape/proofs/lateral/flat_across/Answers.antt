-- `flat_across`: by the profiles and the cross section.
use Rattle.lanes.specs.Lateral.{flat_across}
use Rattle.lanes_shape.proofs.lateral.flat_across.Goals as goal

pub returns : goal.returns
unfolding flat_across
returns c = rw (c.profile_count.ensures.value, c.has_cross_section.ensures)
