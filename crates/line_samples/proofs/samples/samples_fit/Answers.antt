use native.Mathlib.Omega.{arith}
use mathlib.Core.Path.{sym}
use Rattle.line_samples.specs.Samples.{most_samples}
use Rattle.line_samples.proofs.SpiralLaws.{before-none, before_more, fit-over, fit_all}
use Rattle.line_samples.proofs.samples.samples_fit.Goals as goal

pub loop-i-init : goal.loop-i-init
loop-i-init c = (omega arith, sym (before-none c.args.road.now))

pub overflow_add-needed : goal.overflow_add-needed
overflow_add-needed c = omega (arith, c.sample_count-needed.ensures.small, c.loop-i.invariant.0)

pub returns-then-needed-gt-MOST_SAMPLES : goal.returns-then-needed-gt-MOST_SAMPLES
returns-then-needed-gt-MOST_SAMPLES c =
    let road = c.args.road.now in
    let n = c.geom_count-i-end.ensures.value in
    let more = c.loop-i-test.true in
    fit-over road c.loop-i.i most_samples (omega arith)
    (before_more road c.loop-i.i c.loop-i.invariant.1 c.geom.ensures c.sample_count-needed.ensures.value)
    c.if-needed-gt-MOST_SAMPLES.true

pub loop-i-preserved : goal.loop-i-preserved
loop-i-preserved c = (c.if-needed-gt-MOST_SAMPLES.false, before_more c.args.road.now c.loop-i.i c.loop-i.invariant.1 c.geom.ensures c.sample_count-needed.ensures.value)

pub returns : goal.returns
returns c =
    let n = c.geom_count-i-end.ensures.value in
    let past = c.loop-i-test.false in
    fit_all c.args.road.now c.loop-i.i most_samples (omega arith) c.loop-i.invariant.1 c.loop-i.invariant.0
