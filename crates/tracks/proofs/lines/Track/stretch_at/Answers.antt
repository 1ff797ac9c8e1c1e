use mathlib.Core.Path.{◌≡◌, refl}
use native.Mathlib.Omega.{arith}
use native.Mathlib.Numerals.{add-one}
use Rattle.coordinates.specs.Points.{point_at}
use Rattle.tracks.specs.Lines.{count_of}
use Rattle.tracks.specs.Lengths.{length_to}
use Rattle.tracks.proofs.LengthSteps.{length_none, length_next}
use Rattle.tracks.proofs.PoseSteps.{walk_none, walk_next, walk_stops, walk_ends}
use Rattle.tracks.proofs.lines.Track.stretch_at.Goals as goal

pub loop-i-init : goal.loop-i-init
loop-i-init c =
    let xs = c.args.self.now in
    let p = point_at xs in
    (refl, walk_none p (count_of xs) c.args.s, length_none p, c.length_to.ensures)

pub returns-then-not-behind-on-clause-segment_value : goal.returns-then-not-behind-on-clause-segment_value
returns-then-not-behind-on-clause-segment_value c =
    let xs = c.args.self.now in
    let at = c.loop-i in
    walk_stops (point_at xs) (count_of xs) c.args.s at.on.segment at.invariant.1 at.invariant.3 c.if-not-behind-on.true

pub loop-i-preserved : goal.loop-i-preserved
loop-i-preserved c =
    let xs = c.args.self.now in
    let p = point_at xs in
    let at = c.loop-i in
    let e = at.invariant.0 in
    let next = walk_next p (count_of xs) c.args.s at.on.segment at.invariant.1 at.invariant.3 (omega arith) c.if-not-behind-on.false in
    let from : at.on.to ≡ length_to p at.i = rw e at.invariant.3 in
    (omega arith, rw e next, from, rw (← add-one at.i) (length_next p at.i from c.segment.ensures c.length.ensures))

pub returns-clause-segment_value : goal.returns-clause-segment_value
returns-clause-segment_value c =
    let xs = c.args.self.now in
    let at = c.loop-i in
    walk_ends (point_at xs) (count_of xs) c.args.s at.on.segment at.invariant.1 (omega arith)
