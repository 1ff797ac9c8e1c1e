-- `side_lanes`: the side's lines are its lanes.
use native.Mathlib.Omega.{arith}
use Rattle.records_lanes.proofs.LineLaws.{side_table}
use Rattle.records_lanes.proofs.sides.side_lanes.Goals as goal

pub returns : goal.returns
returns c =
    let r = c.road.inside in
    rw (c.new.ensures.whole (omega (arith, c.side_line-first.ensures.small, c.lane_count-count.ensures.small)), c.side_line-first.ensures.value, c.lane_count-count.ensures.value, ← c.road.view_is)
    (side_table r.words.now r.numbers.now c.args.section c.args.right)
