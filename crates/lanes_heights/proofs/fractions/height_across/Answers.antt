-- `height_across`: by the fraction.
use Rattle.lanes_heights.specs.HeightAcross.{height_across}
use Rattle.lanes_heights.proofs.fractions.height_across.Goals as goal

pub returns : goal.returns
unfolding height_across
returns c = rw (c.blend.ensures, c.fraction_at.ensures)
