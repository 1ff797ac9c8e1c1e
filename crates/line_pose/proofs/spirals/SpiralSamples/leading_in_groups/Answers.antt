-- The groups before the one that is found all lead.
use Prim.Native.Nat.{ℕ, ◌+◌, ◌*◌}
use mathlib.Core.Path.{◌≡◌}
use Rattle.std.proofs.Common.{arith, rules, tests}
use Rattle.std.proofs.lemmas.Iterator.{first_from_Range}
use Rattle.line_pose.specs.Poses.{leading}
use Rattle.line_pose.proofs.LeadLaws.{found-within, groups_found}
use Rattle.line_pose.proofs.spirals.SpiralSamples.leading_in_groups.Goals as goal

pub overflow_mul-result : goal.overflow_mul-result
overflow_mul-result c =
    let few = c.args.self.now.few in
    omega (arith, few, c.min-groups.ensures, c.unwrap_or.ensures, found-within c.find.result _ (first_from_Range _ _ _ _ (λ i. Unit {0}) (λ i. Unit {0}) c.find.ensures.ran (λ x q k. tt) (λ x q k. (search rules, tt))))

pub returns-clause-n_value : goal.returns-clause-n_value
returns-clause-n_value c =
    let own = c.args.self.now in
    rw c.unwrap_or.ensures (groups_found own.samples.now c.args.d own.count _ c.find.result (omega (arith, c.min-groups.ensures))
    (first_from_Range _ _ _ _ (λ i. Unit {0}) (λ i. (m : ℕ) → leading own.samples.now (i * 8) c.args.d (m + 8) ≡ 8 + leading own.samples.now (i * 8 + 8) c.args.d m) c.find.ensures.ran
    (λ x q k. tt)
    (λ x q k. (search rules, search (rules, tests)))))
