-- `section_index`: the last that has started, else the first.
use Rattle.std.proofs.Common.{rules}
use mathlib.Core.Path.{◌∙◌, ap}
use Rattle.records.specs.Active.{or_first}
use Rattle.records.specs.Roads.{section_of, section_index}
use Rattle.records_active.proofs.FirstLaws.{found_or_first}
use Rattle.records_active.proofs.stations.section_index.Goals as goal

pub returns : goal.returns
unfolding section_index
returns c =
    rw (← c.section_count-n.ensures.value)
    (c.unwrap_or.ensures ∙ found_or_first c.last_started.result ∙ ap or_first (c.last_started.ensures (λ i. (section_of c.args.road.now i).start) (λ i x k. search rules)))
