-- Invariant: the walk stands in segment i, and looks for what it did.
use mathlib.Core.Path.{◌≡◌}
use Rattle.coordinates.specs.Points.{point_at}
use Rattle.dots.specs.Walks.{Stands}
use Rattle.dots.proofs.stations.Walk.advanced.Given as goal

abbrev pub invariant-loop-i : goal.invariant-loop-i
invariant-loop-i l = Stands (point_at l.points) l.count l.on × (l.on.arc ≡ l.fn.self.arc) × (l.on.segment ≡ l.i)
