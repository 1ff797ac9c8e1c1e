use native.Mathlib.Omega.{arith}
use mathlib.Core.Path.{◌∙◌}
use Rattle.std.proofs.Common.{rules}
use Rattle.std.specs.List.{range_with_len}
use Rattle.std.proofs.lemmas.Iterator.{YieldsList-from_range, YieldsList-from_map}
use Rattle.std.proofs.lemmas.Iterator.Consumers.{sum_by_from_yields_List, fits_by_from_yields_list}
use Rattle.records.specs.Roads.{geom_at}
use Rattle.line_samples.specs.Samples.{sample_count}
use Rattle.line_samples.proofs.SpiralLaws.{before-summed, before-few}
use Rattle.line_samples.proofs.samples.samples_before.Goals as goal

pub sum-requires-clause-fits : goal.sum-requires-clause-fits
sum-requires-clause-fits c =
    let road = c.args.road.now in
    let n = c.min.result in
    let summed = before-summed road c.args.i n (omega (arith, c.min.ensures, c.geom_count.ensures.value)) in
    let few = before-few road c.args.i (omega (arith, c.geom_count.ensures)) in
    fits_by_from_yields_list (λ k. sample_count (geom_at road k)) (range_with_len 0 n) c.map.result _
    (YieldsList-from_map _ (λ k. sample_count (geom_at road k)) (YieldsList-from_range 0 n n c.map.ensures.source (omega arith)) c.map.ensures.closure (λ x r q k. search rules))
    (omega (arith, summed, few))

pub returns-clause-value : goal.returns-clause-value
returns-clause-value c =
    let road = c.args.road.now in
    let n = c.min.result in
    sum_by_from_yields_List (λ k. sample_count (geom_at road k)) (range_with_len 0 n) c.map.result _ c.sum.ensures.ran
    (YieldsList-from_map _ (λ k. sample_count (geom_at road k)) (YieldsList-from_range 0 n n c.map.ensures.source (omega arith)) c.map.ensures.closure (λ x r q k. search rules))
    ∙ before-summed road c.args.i n (omega (arith, c.min.ensures, c.geom_count.ensures.value))

pub returns-clause-small : goal.returns-clause-small
returns-clause-small c = omega (arith, returns-clause-value c, before-few c.args.road.now c.args.i (omega (arith, c.geom_count.ensures)))
