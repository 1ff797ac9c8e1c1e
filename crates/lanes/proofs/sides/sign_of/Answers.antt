-- `sign_of`: by the side.
use lib.Ieee.{neg, of_bits}
use Rattle.lanes.proofs.sides.sign_of.Goals as goal

pub returns-then-right : goal.returns-then-right
unfolding neg of_bits
returns-then-right c = rw c.if-right.true

pub returns-else-right : goal.returns-else-right
returns-else-right c = rw c.if-right.false
