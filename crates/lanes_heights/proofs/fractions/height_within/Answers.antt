-- `height_within`: by the fraction, kept to 0..1.
use Rattle.lanes_heights.specs.HeightAcross.{height_within}
use Rattle.lanes_heights.proofs.fractions.height_within.Goals as goal

pub returns : goal.returns
unfolding height_within
returns c = rw (c.blend.ensures, c.clamp-f.ensures, c.fraction_at.ensures)
