-- Invariant: the list holds the tangents of i points, then what it held; point i is at hand, and the direction that comes in there, where there is such a point.
use mathlib.Core.Path.{◌≡◌}
use mathlib.Core.List.{◌++◌}
use Prim.Native.Nat.{◌<◌, ◌*◌}
use lib.ListN.{drop}
use Rattle.coordinates.specs.Points.{point_at}
use Rattle.tracks.specs.Lines.{count_of}
use Rattle.tracks.specs.Tangents.{incoming_of, tangent_numbers}
use Rattle.tracks.proofs.lines.Track.write_tangents.Given as goal

abbrev pub invariant-loop-i : goal.invariant-loop-i
invariant-loop-i l = (l.list ≡ tangent_numbers (point_at l.self) (count_of l.self) l.i ++ drop (l.i * 3) l.initial.list) × (l.from ≡ point_at l.self l.i) × (l.i < count_of l.self → l.incoming ≡ incoming_of (point_at l.self) l.i)
