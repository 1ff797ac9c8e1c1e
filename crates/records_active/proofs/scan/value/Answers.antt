-- `value`: of the active cubic, 0 where there is none.
use Rattle.std.proofs.Common.{rules}
use Rattle.records.proofs.CubicLaws.{value_of_map}
use Rattle.records_active.proofs.scan.value.Goals as goal

pub returns : goal.returns
returns c = value_of_map _ _ (rw c.active_cubic.ensures at c.map_or.ensures) (λ x k. search rules)
