use Rattle.std.proofs.Common.{rules}
use Rattle.records_lent.proofs.RangeLaws.{all_listed}
use Rattle.records.specs.Roads.{no_lane}
use Rattle.admission.specs.Limits.{lane_limited}
use Rattle.admission_lanes.proofs.sections.side_limited.Goals as goal

pub returns : goal.returns
returns c = all_listed (lane_limited c.args.extent) no_lane c.all.ensures.ran c.iter.ensures (λ x b q k. search rules)
