-- `lane_across`: before turn k the edge is that of the k lanes inside.
use mathlib.Core.Path.{◌≡◌}
use Rattle.records_lent.specs.Lists.{any_below}
use Rattle.lanes_borders.specs.Borders.{side_lanes, borders_of}
use Rattle.lanes_heights.specs.Heights.{height_after}
use Rattle.lanes_heights.proofs.RaisingSteps.{is_level}
use Rattle.lanes_heights.proofs.border_heights.lane_across.Given as goal

abbrev pub invariant-loop-k : goal.invariant-loop-k
invariant-loop-k l =
    (l.edge.t ≡ (borders_of l.road l.place.section l.s l.place.right l.k).inner)
    × (l.edge.height ≡ height_after l.road l.place.section l.s l.tangent l.place.right l.k)
    × (l.edge.level ≡ any_below (is_level (side_lanes l.road l.place.section l.place.right)) l.k)
