-- What private functions promise of a walk along a line: the segment where it stands, with the arc length at its start and its own length, and the arc length that it is to find.
use Rattle.std.specs.Prelude.{ℕ, suc, ◌-◌, ◌≤◌, ◌≡◌, true, Float}
use Rattle.std.specs.Float.Ieee.{le}
use Rattle.records.specs.declared.points.Point.{Point}
use Rattle.tracks.specs.Lengths.{distance_of, length_to}
use Rattle.dots.specs.declared.stations.Walk.{Walk}
use Rattle.dots.specs.Along.{reached_from, segment_of_arc}

-- on a line of n points: its arc length, and any later one, lies in its segment or in one after it
pub record Stands (p : ℕ → Point) (n : ℕ) (walk : Walk) : Type 0 where
  pub within : walk.segment ≤ n - 2
  pub before : walk.before ≡ length_to p walk.segment
  pub step : walk.step ≡ distance_of (p walk.segment) (p (suc walk.segment))
  pub sought : segment_of_arc p n walk.arc ≡ reached_from p walk.arc walk.segment (n - 2 - walk.segment)
  pub ahead : (arc : Float) → le walk.arc arc ≡ true → segment_of_arc p n arc ≡ reached_from p arc walk.segment (n - 2 - walk.segment)
