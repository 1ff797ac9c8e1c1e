use mathlib.Core.Path.{◌≡◌, refl, ◌∙◌, ap, sym}
use Prim.Native.Nat.{ℕ}
use native.Mathlib.Omega.{arith}
use Rattle.records_lent.specs.Lists.{any_below}
use Rattle.lanes_borders.specs.declared.sides.SideAt.{SideAt}
use Rattle.lanes_borders.specs.Borders.{side_lanes, borders_of, borders_at}
use Rattle.lanes_heights.specs.declared.border_heights.Edge.{Edge}
use Rattle.lanes_heights.specs.Heights.{height_after}
use Rattle.lanes_borders.proofs.BorderSteps.{inner_first}
use Rattle.lanes_heights.proofs.RaisingSteps.{is_level, level-here, level-next, across-here, border-after, height_after_lem, height-first, level-none}
use Rattle.lanes_heights.proofs.border_heights.lane_across.Goals as goal

pub returns-then-not-level_up_to : goal.returns-then-not-level_up_to
unfolding borders_at
returns-then-not-level_up_to c =
    let a = c.args in
    let place = a.place in
    let side = c.new-side.ensures in
    let lane = rw side at c.get-lane.ensures in
    let inner = rw side at c.outer_after.ensures in
    let level = rw side at c.level_up_to.ensures in
    across-here a.road.now place.section a.s a.tangent place.right place.k inner refl (sym c.if-not-level_up_to.true ∙ level) (rw (lane, side) at (c.tilted.ensures (height_after a.road.now place.section a.s a.tangent place.right place.k)))

pub loop-k-init : goal.loop-k-init
loop-k-init c =
    let a = c.args in
    let place = a.place in
    let side = c.new-side.ensures in (
      inner_first a.road.now place.section a.s place.right (ap (λ (x : SideAt). x.base) side),
      height-first a.road.now place.section a.s a.tangent place.right (ap (λ (x : SideAt). x.base) side) (ap (λ (x : SideAt). x.sign) side) c.road_height.ensures,
      level-none (side_lanes a.road.now place.section place.right),
    )

pub loop-k-preserved : goal.loop-k-preserved
loop-k-preserved c =
    let at = c.loop-k in
    let a = c.args in
    let place = a.place in
    let side = c.new-side.ensures in
    let lanes = side_lanes a.road.now place.section place.right in
    let l = level-here lanes at.k at.invariant.2 refl in
    let made = rw side at c.step.ensures in
    let x = across-here a.road.now place.section a.s a.tangent place.right at.k at.invariant.0 at.invariant.1 l made.across in (
      ap (λ (e : Edge). e.t) made.edge_after ∙ border-after a.road.now place.section a.s a.tangent place.right at.k x,
      ap (λ (e : Edge). e.height) made.edge_after ∙ height_after_lem a.road.now place.section a.s a.tangent place.right at.k x,
      ap (λ (e : Edge). e.level) made.edge_after ∙ level-next lanes at.k l,
    )

pub returns : goal.returns
returns c =
    let at = c.loop-k in
    let a = c.args in
    let place = a.place in
    let side = c.new-side.ensures in
    let lanes = side_lanes a.road.now place.section place.right in
    let most = at.auto.k-end in
    let end = c.loop-k-test.false in
    let e : at.k ≡ place.k = omega arith in
    let l = level-here lanes place.k (at.invariant.2 ∙ ap (any_below (is_level lanes)) e) refl in
    across-here a.road.now place.section a.s a.tangent place.right place.k
    (at.invariant.0 ∙ ap (λ (n : ℕ). (borders_of a.road.now place.section a.s place.right n).inner) e)
    (at.invariant.1 ∙ ap (height_after a.road.now place.section a.s a.tangent place.right) e)
    l
    (rw side at c.step-2.ensures.across)
