use Rattle.std.proofs.Common.{rules}
use mathlib.Core.Path.{subst}
use Rattle.std.specs.Prelude.{Float, Bool}
use Rattle.std.specs.Float.Ieee.{le}
use Rattle.std.specs.Iterator.Order.{IsSortedAnswer}
use Rattle.admission_order.proofs.FallLaws.{falls_not}
use Rattle.records.specs.Roads.{geom_at}
use Rattle.admission_order.specs.Order.{never_fall}
use Rattle.admission_order.proofs.NeighbourLaws.{sorted_range}
use Rattle.admission_order.proofs.order.geoms_in_order.Goals as goal

pub returns : goal.returns
unfolding never_fall
returns c =
    let s = c.is_sorted.ensures.runs in
    let m = c.map-stations.ensures.runs s.0 s.0.seen s.1 in
    rw (← c.geom_count.ensures.value) (sorted_range s.0 m.0 (λ i. (geom_at c.args.road.now i).s) le _ m.1 m.2 (λ x r q k. search rules) s.2.0 (subst (λ (h : Float → Float → Bool). IsSortedAnswer h s.0.items c.is_sorted.result) (λ j x y. falls_not x y j) s.2.1))
