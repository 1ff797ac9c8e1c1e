-- Invariant: the walk stands at the segment before i (`Walked`), with the arc lengths at its ends.
use mathlib.Core.Path.{◌≡◌}
use Prim.Native.Nat.{suc}
use Rattle.coordinates.specs.Points.{point_at}
use Rattle.tracks.specs.Lines.{count_of}
use Rattle.tracks.specs.Lengths.{length_to}
use Rattle.tracks.proofs.PoseSteps.{Walked}
use Rattle.tracks.proofs.lines.Track.stretch_at.Given as goal

abbrev pub invariant-loop-i : goal.invariant-loop-i
invariant-loop-i l = let p = point_at l.self in (l.i ≡ suc l.on.segment) × Walked p (count_of l.self) l.s l.on.segment × (l.on.from ≡ length_to p l.on.segment) × (l.on.to ≡ length_to p (suc l.on.segment))
