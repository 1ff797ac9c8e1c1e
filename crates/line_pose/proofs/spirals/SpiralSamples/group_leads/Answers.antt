-- The tests of a group are those of the definition.
use Prim.Native.Nat.{◌+◌, ◌*◌}
use mathlib.Core.Path.{◌∙◌, refl, sym}
use mathlib.Core.Bool.{true, ◌&&◌}
use lib.ListN.{get_or}
use lib.Ieee.{nan, le}
use Rattle.std.proofs.Common.{rules}
use Rattle.std.proofs.lemmas.Iterator.{YieldsList-from_range}
use Rattle.std.proofs.lemmas.Iterator.Consumers.{fold_from_yields_List}
use Rattle.line_pose.proofs.LeadLaws.{all-passed, group-leads}
use Rattle.line_pose.proofs.spirals.SpiralSamples.group_leads.Goals as goal

pub returns : goal.returns
returns c h n =
    let samples = c.args.self.now.samples.now in
    let d = c.args.d in
    let k = c.args.k in
    let folded = fold_from_yields_List _ (λ all j. all && le (get_or samples (k * 4 + j * 4) nan) d) true _ c.fold.ensures.ran (YieldsList-from_range {s = record { start = 0; end = 8 }} 0 8 8 refl refl) (λ a x b q e. search rules) in
    group-leads samples d k n (all-passed (λ j. le (get_or samples (k * 4 + j * 4) nan) d) true 0 8 (sym folded ∙ h)).1
