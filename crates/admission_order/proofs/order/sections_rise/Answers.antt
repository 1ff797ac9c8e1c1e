use Rattle.std.proofs.Common.{rules}
use Rattle.std.specs.Float.Ieee.{lt}
use Rattle.records.specs.Roads.{section_of}
use Rattle.admission_order.specs.Order.{rise_strictly}
use Rattle.admission_order.proofs.NeighbourLaws.{sorted_range}
use Rattle.admission_order.proofs.order.sections_rise.Goals as goal

pub returns : goal.returns
unfolding rise_strictly
returns c =
    let s = c.is_sorted_by.ensures.runs in
    let m = c.map-starts.ensures.runs s.0 s.0.seen s.1 in
    rw (← c.section_count.ensures.value) (sorted_range s.0 m.0 (λ i. (section_of c.args.road.now i).start) lt _ m.1 m.2 (λ x r q k. search rules) s.2.0 (s.2.1 lt (λ x y r q k. search rules)))
