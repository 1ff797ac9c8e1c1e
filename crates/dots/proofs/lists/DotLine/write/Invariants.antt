-- Invariant: the list holds the dots of k multiples, then what it held; and the walk stands on the line.
use Rattle.std.specs.Prelude.{length}
use Rattle.coordinates.specs.Points.{point_at}
use Rattle.dots.specs.Along.{nth_station}
use Rattle.dots.specs.Dots.{is_dotted, station_of_multiple}
use Rattle.dots.specs.Walks.{Stands}
use Rattle.dots.proofs.ListSteps.{Written}
use Rattle.dots.proofs.lists.DotLine.write.Given as goal

abbrev pub invariant-loop-k : goal.invariant-loop-k
invariant-loop-k l =
    let p = point_at l.self.points.now in
    let xs = l.self.stations.now in
    Stands p (length xs) l.walk × Written (station_of_multiple p (nth_station xs) (length xs) l.self.spacing) (is_dotted l.self.road.now l.self.section l.self.rank) l.initial.list l.list l.multiples l.k l.kept
