-- Invariant: the nearest of the segments below i is chosen.
use mathlib.Core.Path.{◌≡◌}
use Rattle.coordinates.specs.Points.{point_at}
use Rattle.tracks.specs.ProjectionChoice.{chosen_of}
use Rattle.tracks.proofs.lines.Track.choose.Given as goal

abbrev pub invariant-loop-i : goal.invariant-loop-i
invariant-loop-i l = l.best ≡ chosen_of (point_at l.self) l.at l.i
