-- `outer_after`: before turn k t is the outer border after k lanes.
use mathlib.Core.Path.{◌≡◌}
use Rattle.lanes_borders.specs.Borders.{outer_after}
use Rattle.lanes_borders.proofs.sides.SideAt.outer_after.Given as goal

abbrev pub invariant-loop-k : goal.invariant-loop-k
invariant-loop-k l = l.t ≡ outer_after l.self.lanes l.self.sign l.self.base l.self.into l.k
