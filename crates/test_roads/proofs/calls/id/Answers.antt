-- Half of the number, on the side that its last bit tells.
use Rattle.std.proofs.Common.{eq-eqb, ne_eqb}
use Rattle.test_roads.proofs.IdNumbers.{id_left, id-fits, id_right}
use Rattle.test_roads.proofs.calls.id.Goals as goal

pub overflow_sub-result : goal.overflow_sub-result
overflow_sub-result c = id-fits c.args.n

pub returns-then-n-eq1 : goal.returns-then-n-eq1
returns-then-n-eq1 c = rw (eq-eqb _ _ c.if-n-eq1.true) (id_right c.args.n)

pub returns-else-n-eq1 : goal.returns-else-n-eq1
returns-else-n-eq1 c = rw (ne_eqb _ _ c.if-n-eq1.false) (id_left c.args.n)
