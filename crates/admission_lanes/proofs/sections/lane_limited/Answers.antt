-- `lane_limited`: its two lists, by what the lane has.
use Rattle.admission.specs.Limits.{lane_limited}
use Rattle.admission_lanes.proofs.sections.lane_limited.Goals as goal

pub returns-then-cubics_within : goal.returns-then-cubics_within
unfolding lane_limited
returns-then-cubics_within c =
    rw (← c.lane.view_is, ← c.lane_limit-limit.ensures, ← c.cubics_within.ensures, c.if-cubics_within.true) c.heights_limited.ensures

pub returns-else-cubics_within : goal.returns-else-cubics_within
unfolding lane_limited
returns-else-cubics_within c =
    rw (← c.lane.view_is, ← c.lane_limit-limit.ensures, ← c.cubics_within.ensures, c.if-cubics_within.false)
