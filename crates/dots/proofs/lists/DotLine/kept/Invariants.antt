-- Invariant: the dots of k multiples are counted, and the walk stands on the line.
use Prim.Native.Nat.{◌≤◌}
use mathlib.Core.Path.{◌≡◌}
use Rattle.std.specs.Prelude.{length}
use Rattle.coordinates.specs.Points.{point_at}
use Rattle.dots.specs.Along.{nth_station}
use Rattle.dots.specs.Dots.{dots_to}
use Rattle.dots.specs.Walks.{Stands}
use Rattle.dots.proofs.lists.DotLine.kept.Given as goal

abbrev pub invariant-loop-k : goal.invariant-loop-k
invariant-loop-k l =
    let p = point_at l.self.points.now in
    let xs = l.self.stations.now in
    Stands p (length xs) l.walk × (l.kept ≡ length (dots_to l.self.road.now l.self.section l.self.rank p (nth_station xs) (length xs) l.self.spacing l.k)) × (l.kept ≤ l.k)
