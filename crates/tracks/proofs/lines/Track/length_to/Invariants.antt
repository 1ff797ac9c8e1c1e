-- Invariant: the sum is the arc length at point i.
use mathlib.Core.Path.{◌≡◌}
use Rattle.coordinates.specs.Points.{point_at}
use Rattle.tracks.specs.Lengths.{length_to}
use Rattle.tracks.proofs.lines.Track.length_to.Given as goal

abbrev pub invariant-loop-i : goal.invariant-loop-i
invariant-loop-i l = l.sum ≡ length_to (point_at l.self) l.i
