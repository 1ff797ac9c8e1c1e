-- What is found is the first that does not lead.
use Prim.Native.Nat.{◌*◌}
use mathlib.Core.Path.{◌≡◌, sym, ◌∙◌}
use mathlib.Core.Bool.{true, false}
use lib.ListN.{get_or}
use lib.Ieee.{nan, le}
use Rattle.std.proofs.Common.{rules, tests}
use Rattle.std.proofs.lemmas.Iterator.{first_from_Range}
use Rattle.line_pose.proofs.PoseLaws.{lead_found}
use Rattle.line_pose.proofs.spirals.SpiralSamples.leading.Goals as goal

pub returns-clause-value : goal.returns-clause-value
returns-clause-value c =
    let own = c.args.self.now in
    let d = c.args.d in
    let groups = c.leading_in_groups.ensures in
    c.unwrap_or.ensures ∙ sym (groups.n_value ∙ lead_found own.samples.now d own.count c.leading_in_groups.result c.find.result groups.small
    (first_from_Range _ _ _ _ (λ k. le (get_or own.samples.now (k * 4) nan) d ≡ false) (λ k. le (get_or own.samples.now (k * 4) nan) d ≡ true) c.find.ensures.ran
    (λ x q k. search (rules, tests))
    (λ x q k. (search rules, search (rules, tests)))))
