use Rattle.std.proofs.Common.{rules}
use Rattle.records_lent.proofs.RangeLaws.{all_range}
use Rattle.admission_bounds.specs.Bounds.{cubics_within}
use Rattle.admission_bounds.proofs.bounds.cubics_within.Goals as goal

pub returns : goal.returns
unfolding cubics_within
returns c = rw (← c.len.ensures) (all_range _ _ c.all.ensures.ran (λ x b q k. search rules))
