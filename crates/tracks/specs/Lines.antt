-- A track line by the numbers of its lent slice, three f32 a point.
use Rattle.std.specs.Prelude.{ℕ, suc, ◌/◌, List, length, Float}
use Rattle.records.specs.declared.points.Point.{Point}
use Rattle.tracks.specs.declared.segments.Segment.{Segment}

-- how many points it has; one or two numbers over are none
abbrev pub count_of : List Float → ℕ
count_of xs = length xs / 3

-- segment i, from point i to the next
abbrev pub segment_at : (ℕ → Point) → ℕ → Segment
segment_at p i = record { from = p i; to = p (suc i) }
