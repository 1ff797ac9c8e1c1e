-- Document 02, Point 1: `pose_at` of src/geometry.rs, with `locate`, `segment` and `local_t`, over n points.
-- The Rust looks the segment up by a binary search over the cumulative lengths. Those of a track never fall (tracks_laws, TrackLaws, `search`), so what it finds is the number of leading ones that are at most s; the definition takes that number for any points.
use Rattle.std.specs.Prelude.{ℕ, zero, suc, ◌+◌, ◌-◌, min, cond, List, [], ◌∷◌, Float}
use Rattle.std.specs.Float.Ieee.{lt, le}
use Rattle.float_laws.specs.Binary32.{◌⊖◌, ◌⊘◌, f32, zero32, clamp_of}
use Rattle.records.specs.declared.points.Point.{Point}
use Rattle.coordinates.specs.declared.vectors.Vector.{Vector}
use Rattle.coordinates.specs.Vectors.{unit_of, place_between, vector_between}
use Rattle.tracks.specs.declared.poses.Spot.{Spot}
use Rattle.tracks.specs.declared.poses.TrackPose.{TrackPose}
use Rattle.tracks.specs.Lengths.{length_to}
use Rattle.tracks.specs.Tangents.{tangent_of}

-- how many of the k values from c j on are at most s, up to the first that is not
unfoldable pub leading_from : (ℕ → Float) → Float → ℕ → ℕ → ℕ
leading_from c s j zero = 0
leading_from c s j (suc k) = cond (le (c j) s) (suc (leading_from c s (suc j) k)) 0

-- the last segment whose start, of n starts c 0 .. c (n - 1), is at most s: that number less one, at least 0, at most the last segment
abbrev pub segment_in : (ℕ → Float) → ℕ → Float → ℕ
segment_in c n s = min (leading_from c s 0 n - 1) (n - 2)

-- the segment that holds s, by the arc lengths
unfoldable pub segment_of : (ℕ → Point) → ℕ → Float → ℕ
unfolding leading_from length_to
segment_of p n s = segment_in (length_to p) n s

-- 1e-6, the f32 nearest to it
abbrev pub least_span : Float
least_span = f32 0x3586_37bd

-- where s lies between the cumulative lengths of a segment's ends; 0 where they are no more than 1e-6 apart
abbrev pub fraction_along : Float → Float → Float → Float
fraction_along from to s = cond (lt least_span (to ⊖ from)) ((s ⊖ from) ⊘ (to ⊖ from)) zero32

-- s held to 0..length, its segment, and the fraction along it
unfoldable pub spot_of : (ℕ → Point) → ℕ → Float → Spot
unfolding segment_of length_to
spot_of p n s =
    let d = clamp_of zero32 (length_to p (n - 1)) s in
    let i = segment_of p n d in
    record { segment = i; t = fraction_along (length_to p i) (length_to p (suc i)) d }

-- t of the way along segment i of n points, and the heading there: between the tangents of its ends, a unit again
abbrev pub position_at : (ℕ → Point) → ℕ → Float → Point
position_at p i t = place_between (p i) (p (i + 1)) t

unfoldable pub heading_at : (ℕ → Point) → ℕ → ℕ → Float → Vector
unfolding unit_of tangent_of
heading_at p n i t = unit_of (vector_between (tangent_of p n i) (tangent_of p n (i + 1)) t)

unfoldable pub track_pose_of : (ℕ → Point) → ℕ → Float → TrackPose
unfolding spot_of heading_at
track_pose_of p n s =
    let at = spot_of p n s in
    record { position = position_at p at.segment at.t; heading = heading_at p n at.segment at.t }

-- six f32: position, heading
abbrev pub track_pose_list : TrackPose → List Float
track_pose_list q = q.position.x ∷ q.position.y ∷ q.position.z ∷ q.heading.x ∷ q.heading.y ∷ q.heading.z ∷ []
