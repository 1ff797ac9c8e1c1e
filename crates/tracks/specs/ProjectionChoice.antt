-- What the private functions of `project_on` promise one another: the nearest segment is chosen first, and the projection on it worked out once. Nothing public is said in these words: see Projections.antt.
use Rattle.std.specs.Prelude.{ℕ, zero, suc, cond, Some, None}
use Rattle.std.specs.Float.Ieee.{lt}
use Rattle.float_laws.specs.Binary32.{infinity32}
use Rattle.records.specs.declared.points.Point.{Point}
use Rattle.coordinates.specs.Vectors.{from_to}
use Rattle.tracks.specs.declared.segments.Segment.{Segment}
use Rattle.tracks.specs.declared.projections.Chosen.{Chosen}
use Rattle.tracks.specs.declared.projections.Closest.{Closest}
use Rattle.tracks.specs.Lines.{segment_at}
use Rattle.tracks.specs.Projections.{foot_of, closest_of, square_to}

-- the foot on a segment, how far along it lies, and the way from it to the place
unfoldable pub closest_on : Segment → Point → Closest
unfolding foot_of
closest_on s at = record { t = foot_of (from_to s.from s.to) (from_to s.from at); point = closest_of s.from s.to at; apart = from_to (closest_of s.from s.to at) at }

-- one segment more, number i
unfoldable pub better_of : Chosen → Segment → Point → ℕ → Chosen
better_of best s at i = let square = square_to (closest_of s.from s.to at) at in cond (lt square best.square) (record { square = square; segment = Some i }) best

-- after k segments
unfoldable pub chosen_of : (ℕ → Point) → Point → ℕ → Chosen
unfolding better_of
chosen_of p at zero = record { square = infinity32; segment = None }
chosen_of p at (suc k) = better_of (chosen_of p at k) (segment_at p k) at k
