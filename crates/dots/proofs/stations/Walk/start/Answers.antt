use Rattle.coordinates.specs.Points.{point_at}
use Rattle.dots.proofs.WalkSteps.{starts}
use Rattle.dots.proofs.stations.Walk.start.Goals as goal

pub returns-clause-stands : goal.returns-clause-stands
returns-clause-stands c = starts (point_at c.args.points.now) c.args.count c.args.arc c.segment.ensures c.length.ensures
