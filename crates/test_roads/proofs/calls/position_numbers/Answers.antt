-- The number of the truth value.
use Rattle.test_roads.proofs.Marks.{mark_is}
use Rattle.test_roads.proofs.calls.position_numbers.Goals as goal

pub returns : goal.returns
returns c = rw (c.from-moves.ensures, c.from-met.ensures, mark_is c.args.p.converged)
