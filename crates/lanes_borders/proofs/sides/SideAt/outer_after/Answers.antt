use mathlib.Core.Path.{◌≡◌}
use native.Mathlib.Omega.{arith}
use Rattle.lanes_borders.proofs.BorderSteps.{outer-none, outer-turn}
use Rattle.lanes_borders.proofs.sides.SideAt.outer_after.Goals as goal

pub loop-k-init : goal.loop-k-init
loop-k-init c = let a = c.args.self.now in outer-none a.lanes a.sign a.base a.into

pub loop-k-preserved : goal.loop-k-preserved
loop-k-preserved c =
    let a = c.args.self.now in
    outer-turn a.lanes a.sign a.base a.into c.loop-k.k c.loop-k.invariant c.border-t.ensures

pub returns : goal.returns
returns c =
    let most = c.loop-k.auto.k-end in
    let end = c.loop-k-test.false in
    let e : c.loop-k.k ≡ c.args.n = omega arith in
    rw e at c.loop-k.invariant
