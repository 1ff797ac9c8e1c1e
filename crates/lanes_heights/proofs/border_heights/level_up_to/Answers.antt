-- `level_up_to`: a lane below, or the lane itself.
use mathlib.Core.Path.{refl, ap, ◌∙◌}
use borrow.Author.Rules.{rules}
use Rattle.std.proofs.lemmas.Iterator.{YieldsList-from_take}
use Rattle.std.proofs.lemmas.Iterator.Consumers.{YieldsList-from_first}
use Rattle.std.proofs.lemmas.Iterator.Search.{any_from_yields_List}
use Rattle.records.specs.Roads.{Lane, no_lane}
use Rattle.lanes_heights.proofs.RaisingSteps.{any_first, level-here}
use Rattle.lanes_heights.proofs.border_heights.level_up_to.Goals as goal

pub returns : goal.returns
returns c =
    let a = c.args in
    let level = λ (l : Lane). l.level in
    let lanes = YieldsList-from_first (λ x. x) (λ l. l) a.lanes.now (c.take.ensures.source ∙ c.iter.ensures) in
    let below = any_from_yields_List level _ _ _ c.any.ensures.ran (YieldsList-from_take a.k lanes c.take.ensures.count) (λ x b q k. search rules) in
    level-here a.lanes.now a.k (below ∙ any_first level no_lane refl a.k a.lanes.now) (ap level (c.result.view_is ∙ c.get.ensures))
