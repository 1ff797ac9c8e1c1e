use native.Mathlib.Omega.{arith}
use Rattle.dots.specs.Dots.{multiple, multiples}
use Rattle.dots.proofs.LeadingSteps.{counted_none, counted_next, counted_stops, counted_ends}
use Rattle.dots.proofs.multiples.multiples.Goals as goal

pub loop-k-init : goal.loop-k-init
loop-k-init c = counted_none (multiple c.args.spacing) c.args.len 65537

pub loop-k-preserved : goal.loop-k-preserved
loop-k-preserved c = counted_next (multiple c.args.spacing) c.args.len 65537 c.loop-k.k c.loop-k.invariant c.multiple.ensures c.loop-k-test.true c.if-not-multiple-len.false

pub returns-then-not-multiple-len-clause-value : goal.returns-then-not-multiple-len-clause-value
unfolding multiples
returns-then-not-multiple-len-clause-value c = counted_stops (multiple c.args.spacing) c.args.len 65537 c.loop-k.k c.loop-k.invariant c.multiple.ensures c.if-not-multiple-len.true

pub returns-clause-value : goal.returns-clause-value
unfolding multiples
returns-clause-value c = let most = c.loop-k.auto.k-end in let end = c.loop-k-test.false in omega (arith, most, end, counted_ends (multiple c.args.spacing) c.args.len 65537 c.loop-k.k c.loop-k.invariant end)
