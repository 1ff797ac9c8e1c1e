use Rattle.std.proofs.Common.{rules}
use Rattle.std.specs.Prelude.{Float, Bool}
use Rattle.std.specs.Float.Ieee.{le}
use Rattle.float_laws.specs.Binary64.{◌⊖◌}
use mathlib.Core.Path.{◌∙◌}
use Rattle.records.specs.declared.points.HeightDef.{HeightDef}
use Rattle.records.specs.Roads.{no_height}
use Rattle.admission_order.specs.Order.{apart, least_gap}
use Rattle.admission_order.proofs.NeighbourLaws.{sorted_listed}
use Rattle.admission_order.proofs.order.heights_apart.Goals as goal

pub returns : goal.returns
unfolding apart
returns c =
    let s = c.is_sorted_by.ensures.runs in
    let m = c.map-offsets.ensures.runs s.0 s.0.seen s.1 in
    let h : Float → Float → Bool = λ a b. le least_gap (b ⊖ a) in
    sorted_listed s.0 m.0 (λ (x : HeightDef). x.s_offset) h c.args.heights.now no_height (m.1 ∙ c.iter.ensures) m.2 (λ x r q k. search rules) s.2.0 (s.2.1 h (λ x y r q k. search rules))
