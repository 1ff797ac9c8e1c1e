use Rattle.std.specs.Prelude.{length}
use Rattle.coordinates.specs.Points.{point_at}
use Rattle.dots.specs.Along.{nth_station}
use Rattle.dots.proofs.AlongSteps.{along_is}
use Rattle.dots.proofs.arc_lengths.along.Goals as goal

pub returns : goal.returns
returns c =
    let xs = c.args.stations.now in
    along_is (point_at c.args.points.now) (nth_station xs) (length xs) c.args.s c.segment_of_station-i.ensures.value c.nth_station.ensures c.nth_station-2.ensures c.fraction.ensures c.clamp-f.ensures.value c.length_to.ensures c.segment.ensures c.length.ensures c.narrow.ensures
