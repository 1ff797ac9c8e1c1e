-- A refusal is written as the one NaN.
use Rattle.std.proofs.Common.{ap}
use lib.Ieee.{of_bits}
use Rattle.test_roads.specs.Case.{name_number}
use Rattle.test_roads.proofs.answers.name.Goals as goal

pub returns-in-Err : goal.returns-in-Err
unfolding of_bits
returns-in-Err c = ap name_number c.in-Err.ensures
