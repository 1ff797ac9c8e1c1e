-- `number`: the code's NaN is the definitions'.
use lib.Ieee.{of_bits}
use Rattle.records_lent.proofs.access.number.Goals as goal

pub returns : goal.returns
unfolding of_bits
returns c = c.item_or.ensures
