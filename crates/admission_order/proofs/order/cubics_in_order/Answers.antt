use Rattle.std.proofs.Common.{rules}
use mathlib.Core.Path.{◌∙◌, subst}
use Rattle.std.specs.Prelude.{Float, Bool}
use Rattle.std.specs.Float.Ieee.{le}
use Rattle.std.specs.Iterator.Order.{IsSortedAnswer}
use Rattle.admission_order.proofs.FallLaws.{falls_not}
use Rattle.records_cubic.specs.declared.cubics.Cubic.{Cubic}
use Rattle.records_cubic.specs.Cubics.{no_cubic}
use Rattle.admission_order.specs.Order.{cubics_in_order, never_fall}
use Rattle.admission_order.proofs.NeighbourLaws.{sorted_listed}
use Rattle.admission_order.proofs.order.cubics_in_order.Goals as goal

pub returns : goal.returns
unfolding cubics_in_order never_fall
returns c =
    let s = c.is_sorted.ensures.runs in
    let m = c.map-starts.ensures.runs s.0 s.0.seen s.1 in
    sorted_listed s.0 m.0 (λ (x : Cubic). x.start) le c.args.cubics.now no_cubic (m.1 ∙ c.iter.ensures) m.2 (λ x r q k. search rules) s.2.0 (subst (λ (h : Float → Float → Bool). IsSortedAnswer h s.0.items c.is_sorted.result) (λ j x y. falls_not x y j) s.2.1)
