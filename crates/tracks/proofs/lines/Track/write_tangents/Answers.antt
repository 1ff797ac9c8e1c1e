use Prim.Native.Nat.{◌<◌}
use mathlib.Core.Path.{refl}
use native.Mathlib.Omega.{arith}
use Rattle.coordinates.specs.Points.{point_at}
use Rattle.tracks.specs.Lines.{count_of}
use Rattle.tracks.proofs.TangentSteps.{incoming_kept, tangent_made, written_none, written_next}
use Rattle.tracks.proofs.lines.Track.write_tangents.Goals as goal

pub loop-i-init : goal.loop-i-init
loop-i-init c =
    let xs = c.args.self.now in
    (written_none (point_at xs) (count_of xs) c.args.list.now, c.point-from.ensures, λ _. refl)

pub loop-i-preserved : goal.loop-i-preserved
loop-i-preserved c =
    let at = c.loop-i in
    let p = point_at c.args.self.now in
    let n = count_of c.args.self.now in
    let within : at.i < n = omega arith in
    let e = tangent_made p n at.i (at.invariant.2 within) c.outgoing-outgoing.ensures c.add.ensures c.unit-tangent.ensures in
    (written_next p n c.args.list.now at.list at.i e (omega arith) at.invariant.0, c.point-to.ensures, incoming_kept p n at.i c.outgoing-outgoing.ensures)
