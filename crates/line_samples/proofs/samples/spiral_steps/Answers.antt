use Prim.Native.Nat.{◌-◌}
use native.Mathlib.Omega.{arith}
use mathlib.Core.Path.{◌∙◌, sym}
use lib.Dec.{T}
use lib.Ieee.{binary64, fits}
use Rattle.line_samples.specs.Samples.{goes_on, most_steps}
use Rattle.line_samples.proofs.SpiralLaws.{steps_next, steps-stop, steps-full}
use Rattle.line_samples.proofs.SpiralQuarters.{steps_from_lem, number_fits}
use borrow.Author.Rules.{rules}
use Rattle.line_samples.proofs.samples.spiral_steps.Goals as goal
use Rattle.line_samples.proofs.samples.spiral_steps.Goals.{Start}

fit : (c : Start) → T (fits binary64 c.args.length)
fit c = search rules

pub loop-n-init : goal.loop-n-init
loop-n-init c = steps_from_lem c.args.length c.quarters_below-counted.result (fit (goal.at.loop-n-init c).Start) c.quarters_below-counted.ensures

pub int_to_float-u : goal.int_to_float-u
int_to_float-u c = number_fits c.quarters_below-counted.result c.quarters_below-counted.ensures.0

pub loop-n-preserved : goal.loop-n-preserved
unfolding goes_on
loop-n-preserved c =
    let len = c.args.length in
    c.loop-n.invariant ∙ steps_next len c.loop-n.u c.loop-n.n (goes_on len c.loop-n.u) c.step_at-u.result c.loop-n-test.true c.if-not-u-last.false c.step_at-u.ensures

pub returns-then-not-u-last : goal.returns-then-not-u-last
unfolding goes_on
returns-then-not-u-last c =
    let len = c.args.length in
    let none = steps-stop len c.loop-n.u (most_steps - c.loop-n.n) (goes_on len c.loop-n.u) c.if-not-u-last.true in
    let inv = c.loop-n.invariant in
    let end = c.loop-n-test.true in
    record { value = omega arith; small = omega arith }

pub returns : goal.returns
returns c =
    let len = c.args.length in
    let at = c.loop-n.auto in
    let from = c.quarters_below-counted.ensures.0 in
    let end = c.loop-n-test.false in
    let most = at.n-end (omega arith) in
    record {
      value = omega arith ∙ sym (c.loop-n.invariant ∙ steps-full len c.loop-n.u c.loop-n.n (goes_on len c.loop-n.u) most end);
      small = omega arith;
    }
