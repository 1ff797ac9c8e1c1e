-- `geom_index`: the last that has started, else the first.
use Rattle.std.proofs.Common.{rules}
use mathlib.Core.Path.{◌∙◌, ap}
use Rattle.records.specs.Active.{or_first}
use Rattle.records.specs.Roads.{geom_at, geom_index}
use Rattle.records_active.proofs.FirstLaws.{found_or_first}
use Rattle.records_active.proofs.stations.geom_index.Goals as goal

pub returns : goal.returns
unfolding geom_index
returns c =
    rw (← c.geom_count-n.ensures.value)
    (c.unwrap_or.ensures ∙ found_or_first c.last_started.result ∙ ap or_first (c.last_started.ensures (λ i. (geom_at c.args.road.now i).s) (λ i x k. search rules)))
