-- Document 02, Point 1: `project` of src/geometry.rs. "Equal distances keep the earlier segment, as the Rust's strict comparison does."
use Rattle.std.specs.Prelude.{ℕ, zero, suc, ◌-◌, cond, List, [], ◌∷◌, Float}
use Rattle.std.specs.Float.Ieee.{lt}
use Rattle.float_laws.specs.Binary32.{◌⊕◌, ◌⊗◌, ◌⊘◌, f32, zero32, one32, infinity32, clamp_of}
use Rattle.records.specs.declared.points.Point.{Point}
use Rattle.coordinates.specs.declared.vectors.Vector.{Vector}
use Rattle.coordinates.specs.Vectors.{from_to, moved_by, scaled_by, dot_of, length_of, unit_of, horizontal_of, left_normal_of}
use Rattle.tracks.specs.declared.projections.Projection.{Projection}
use Rattle.tracks.specs.Lengths.{length_to}

-- 1e-9, the f32 nearest to it
abbrev pub least_square : Float
least_square = f32 0x3089_705f

-- how far along a segment ab the foot lies of a place that is ap from its start, held to 0..1; 0 where the square of its length is at most 1e-9
unfoldable pub foot_of : Vector → Vector → Float
unfolding dot_of
foot_of ab ap = cond (lt least_square (dot_of ab ab)) (clamp_of zero32 one32 (dot_of ap ab ⊘ dot_of ab ab)) zero32

-- the projection on one segment ab, which starts at the arc length `from`: its place `closest` at t, from which the projected place is `apart`. "The offset is measured in the ground plane against the containing segment's direction", positive to the left.
unfoldable pub candidate_of : Vector → Float → Point → Vector → Float → Projection
unfolding length_of dot_of left_normal_of unit_of
candidate_of ab t closest apart from =
    record { s = from ⊕ length_of ab ⊗ t; point = closest; offset = dot_of (horizontal_of apart) (left_normal_of (unit_of (horizontal_of ab))) }

-- the foot on the segment from a to b
abbrev pub closest_of : Point → Point → Point → Point
closest_of a b at = moved_by a (scaled_by (from_to a b) (foot_of (from_to a b) (from_to a at)))

-- the square of the distance to it, in space
abbrev pub square_to : Point → Point → Float
square_to closest at = dot_of (from_to closest at) (from_to closest at)

-- the nearest place so far, with the square of its distance in space
pub record Nearest : Type 0 where
  pub square : Float
  pub projection : Projection

-- one segment more: "strict comparison"
unfoldable pub nearer_of : Nearest → Point → Point → Point → Float → Nearest
unfolding foot_of candidate_of dot_of
nearer_of best a b at from =
    cond (lt (square_to (closest_of a b at) at) best.square)
    (record {
      square = square_to (closest_of a b at) at;
      projection = candidate_of (from_to a b) (foot_of (from_to a b) (from_to a at)) (closest_of a b at) (from_to (closest_of a b at) at) from;
    })
    best

-- before the first segment: the first point, and no distance yet, which is the infinity
abbrev pub nearest_none : (ℕ → Point) → Nearest
nearest_none p = record { square = infinity32; projection = record { s = zero32; point = p 0; offset = zero32 } }

-- after k segments
unfoldable pub nearest_of : (ℕ → Point) → Point → ℕ → Nearest
unfolding nearer_of length_to
nearest_of p at zero = nearest_none p
nearest_of p at (suc k) = nearer_of (nearest_of p at k) (p k) (p (suc k)) at (length_to p k)

-- the projection on a track of n points
unfoldable pub project_of : (ℕ → Point) → ℕ → Point → Projection
unfolding nearest_of
project_of p n at = (nearest_of p at (n - 1)).projection

-- five f32, in the field order: s, x, y, z, offset
abbrev pub projection_list : Projection → List Float
projection_list q = q.s ∷ q.point.x ∷ q.point.y ∷ q.point.z ∷ q.offset ∷ []
