use Rattle.std.proofs.Common.{rules}
use Rattle.records_lent.proofs.RangeLaws.{all_listed}
use Rattle.records.specs.Roads.{no_height}
use Rattle.admission.specs.Limits.{height_limited, heights_limited}
use Rattle.admission_lanes.proofs.sections.heights_limited.Goals as goal

pub returns : goal.returns
unfolding heights_limited
returns c = all_listed height_limited no_height c.all.ensures.ran c.iter.ensures (λ x b q k. search rules)
