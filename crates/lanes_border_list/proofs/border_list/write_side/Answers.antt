use mathlib.Core.Path.{◌≡◌}
use native.Mathlib.Omega.{arith}
use lib.ListN.{length}
use Rattle.lanes_borders.specs.Borders.{borders_at}
use Rattle.lanes_borders.proofs.BorderSteps.{outer-none, outer-turn, borders-turn, side-none, side-turn, side-all}
use Rattle.lanes_border_list.proofs.border_list.write_side.Goals as goal

pub loop-k-init : goal.loop-k-init
loop-k-init c =
    let a = c.args.side.now in
    (outer-none a.lanes a.sign a.base a.into, side-none (borders_at a.lanes a.sign a.base a.into) c.args.list.now)

pub loop-k-preserved : goal.loop-k-preserved
loop-k-preserved c =
    let at = c.loop-k in
    let a = c.args.side.now in
    let list = c.args.list.now in
    let made = c.border-b.ensures in (
      outer-turn a.lanes a.sign a.base a.into at.k at.invariant.0 made,
      side-turn (borders_at a.lanes a.sign a.base a.into) list at.list at.k (borders-turn a.lanes a.sign a.base a.into at.k at.invariant.0 made) c.copy_from_slice.ensures.after at.invariant.1,
    )

pub returns : goal.returns
returns c =
    let a = c.args.side.now in
    let list = c.args.list.now in
    let at = c.loop-k in
    let most = at.auto.k-end in
    let end = c.loop-k-test.false in
    let all = c.requires in
    let n = c.len-k-end.ensures.value in
    let e : at.k ≡ length a.lanes = omega arith in
    rw e at (side-all (borders_at a.lanes a.sign a.base a.into) list at.list at.k (omega arith) at.invariant.1)
