use mathlib.Core.Path.{◌≡◌, ◌∙◌, ap, sym}
use native.Mathlib.Omega.{arith}
use Rattle.records_lent.specs.Lists.{last_that}
use Rattle.lanes_borders.proofs.BorderSteps.{outer-none, outer-turn}
use Rattle.lanes_naming.proofs.NamingSteps.{that-none, that-hit, that-miss, that-below}
use Rattle.lanes_naming.proofs.naming.last_beyond.Invariants.{passes}
use Rattle.lanes_naming.proofs.naming.last_beyond.Goals as goal
use Rattle.lanes_naming.proofs.naming.last_beyond.Goals.{then-side-t, else-side-t}

pub loop-k-init : goal.loop-k-init
loop-k-init c =
    let a = c.args.side.now in
    (outer-none a.lanes a.sign a.base a.into, that-none (passes a c.args.t))

pub loop-k-preserved : goal.loop-k-preserved
loop-k-preserved c =
    let at = c.loop-k in
    let a = c.args.side.now in
    let test = passes a c.args.t in
    let next = outer-turn a.lanes a.sign a.base a.into at.k at.invariant.0 c.border-inner.ensures in
    elim c.if-side-t.branch [
      | then-side-t w ↦ (next, w.last-is ∙ that-hit test at.k (rw at.invariant.0 at w.if-side-t.true))
      | else-side-t w ↦ (next, that-miss test at.k (rw at.invariant.0 at w.if-side-t.false) (w.last-is ∙ at.invariant.1))
    ]

pub returns : goal.returns
returns c =
    let at = c.loop-k in
    let n = c.len-k-end in
    let most = at.auto.k-end in
    let end = c.loop-k-test.false in
    let few = n.ensures.small in
    let test = passes c.args.side.now c.args.t in
    let e : at.k ≡ n.result = omega arith in
    record {
      value = at.invariant.1 ∙ ap (last_that test) (e ∙ n.ensures.value);
      small = λ k h. let l = that-below test at.k k (sym at.invariant.1 ∙ h) in omega arith;
    }
