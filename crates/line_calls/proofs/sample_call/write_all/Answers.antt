use native.Mathlib.Omega.{arith}
use Prim.Native.Nat.{◌+◌, ◌*◌, ◌≤◌}
use lib.ListN.{length}
use Rattle.line_calls.proofs.SampleWriting.{all_start, all_none, turn-room, turn-place, all-turn, all_end}
use Rattle.line_calls.proofs.sample_call.write_all.Goals as goal
use Rattle.line_calls.proofs.sample_call.write_all.Goals.{After-sample_count}

pub loop-i-init : goal.loop-i-init
loop-i-init c = (all_start c.args.road.now, all_none c.args.road.now c.args.samples.now)

-- the next geometry's part lies in the slice
room : (c : After-sample_count) → c.loop-i.at + c.sample_count.result * 4 ≤ length c.args.samples.now
room c =
    let n = c.geom_count-i-end.ensures.value in
    let more = c.loop-i-test.true in
    turn-room c.args.road.now c.loop-i.i (length c.args.samples.now) (omega arith) c.loop-i.invariant.0 c.geom-g.ensures c.sample_count.ensures.value c.requires

pub overflow_add-end : goal.overflow_add-end
overflow_add-end c = let r = room c in omega arith

pub offset_bounds-samples-at : goal.offset_bounds-samples-at
offset_bounds-samples-at c = let r = room c in omega arith

pub slice_bounds-write_geom-end : goal.slice_bounds-write_geom-end
slice_bounds-write_geom-end c =
    let r = room c in
    let l = c.loop-i.auto.samples in
    omega arith

pub loop-i-preserved : goal.loop-i-preserved
loop-i-preserved c =
    let at = c.loop-i in
    let road = c.args.road.now in
    let count = c.sample_count.ensures.value in
    let g = c.geom-g.ensures in
    let l = at.auto.samples in
    let r = room (goal.at.loop-i-preserved c).After-sample_count in
    (turn-place road at.i at.invariant.0 g count, all-turn road at.i c.args.samples.now at.invariant.0 g count (omega arith) at.invariant.1 c.write_geom.ensures)

pub returns : goal.returns
returns c =
    let n = c.geom_count-i-end.ensures.value in
    let most = c.loop-i.auto.i-end in
    let end = c.loop-i-test.false in
    all_end c.args.road.now c.loop-i.i c.args.samples.now (omega arith) c.requires c.loop-i.invariant.1
