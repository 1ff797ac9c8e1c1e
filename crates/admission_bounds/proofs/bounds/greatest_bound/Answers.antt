use Rattle.std.proofs.Common.{rules}
use Rattle.admission_bounds.specs.Bounds.{greatest_bound}
use Rattle.admission_bounds.proofs.Greatest.{greatest_range}
use Rattle.admission_bounds.proofs.bounds.greatest_bound.Goals as goal

pub returns : goal.returns
unfolding greatest_bound
returns c = rw (← c.len.ensures) (greatest_range _ _ c.fold.ensures.ran (λ a x b q k. search rules))
