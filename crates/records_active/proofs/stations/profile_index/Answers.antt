-- `profile_index`: the last that stands at or before the limit.
use Rattle.std.proofs.Common.{rules}
use Rattle.records.specs.Roads.{profile_at}
use Rattle.records_active.proofs.stations.profile_index.Goals as goal

pub returns : goal.returns
returns c = rw (← c.profile_count-n.ensures.value) (c.last_started.ensures (λ i. (profile_at c.args.road.now i).s) (λ i x k. search rules))
