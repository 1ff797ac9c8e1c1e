-- `no_cubics`: no numbers, no cubics.
use Rattle.records_lent.specs.Lists.{tabulate}
use Rattle.records_shapes.proofs.profiles.no_cubics.Goals as goal

pub returns : goal.returns
unfolding tabulate
returns c = c.new.ensures
