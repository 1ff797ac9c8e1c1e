use Rattle.std.proofs.Common.{rules}
use Rattle.records_lent.proofs.RangeLaws.{all_range}
use Rattle.admission_bounds.specs.Bounds.{slopes_within}
use Rattle.admission_bounds.proofs.bounds.slopes_within.Goals as goal

pub returns : goal.returns
unfolding slopes_within
returns c = rw (← c.len.ensures) (all_range _ _ c.all.ensures.ran (λ x b q k. search rules))
