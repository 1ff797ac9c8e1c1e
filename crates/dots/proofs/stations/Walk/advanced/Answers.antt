use mathlib.Core.Path.{refl}
use native.Mathlib.Omega.{arith}
use Rattle.coordinates.specs.Points.{point_at}
use Rattle.dots.proofs.WalkSteps.{goes}
use Rattle.dots.proofs.stations.Walk.advanced.Goals as goal

pub loop-i-preserved : goal.loop-i-preserved
loop-i-preserved c =
    let at = c.loop-i in
    let p = point_at c.args.points.now in
    let e = at.invariant.2 in
    (rw (← e) (goes p c.args.count at.invariant.0 (omega arith) refl c.if-on-end.false (rw e c.segment.ensures) c.length.ensures), at.invariant.1, refl)
