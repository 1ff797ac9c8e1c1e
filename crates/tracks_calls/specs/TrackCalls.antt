-- Document 02, Point 1: the three calls on a track. "Answers: 13, fewer than 2 or more than 512 points, a slice that is not three f32 a point, or a list lent for tangents shorter than the points, checked first;
-- 14, a coordinate outside or NaN, the projected point's included, checked next". What the Rust turns down or panics on beyond these: nothing (tracks_laws, TrackLaws).
use Rattle.std.specs.Prelude.{ℕ, ◌/◌, ◌%◌, Bool, Some, ◌&&◌, List, [], ◌∷◌, length, leb, eqb, Float}
use Rattle.std.specs.List.{list_all}
use Rattle.std.specs.Float.Ieee.{neg, le}
use Rattle.float_laws.specs.Binary32.{f32}
use Rattle.refusals.specs.Answer.{Answer, value, refused, Row, row, checked}
use Rattle.refusals.specs.declared.refusals.Refusal.TheVariants.{TrackCount, TrackRange}
use Rattle.records.specs.declared.points.Point.{Point}
use Rattle.coordinates.specs.Points.{point_at}
use Rattle.tracks.specs.declared.poses.TrackPose.{TrackPose}
use Rattle.tracks.specs.declared.projections.Projection.{Projection}
use Rattle.tracks.specs.Tangents.{tangents_left}
use Rattle.tracks.specs.Poses.{track_pose_of}
use Rattle.tracks.specs.Projections.{project_of}

-- ---- the rows

-- "2 to 512 points"
abbrev pub least_points : ℕ
least_points = 2

abbrev pub most_points : ℕ
most_points = 512

-- with "three f32 a point", by the slice's length
abbrev pub track_counted : ℕ → Bool
track_counted len = eqb (len % 3) 0 && leb least_points (len / 3) && leb (len / 3) most_points

-- 2,000,000
abbrev pub greatest_coordinate : Float
greatest_coordinate = f32 0x49f4_2400

-- "coordinates up to 2,000,000 in size"; NaN is outside
abbrev pub inside_size : Float → Bool
inside_size x = le (neg greatest_coordinate) x && le x greatest_coordinate

unfoldable pub all_inside : List Float → Bool
all_inside xs = list_all inside_size xs

abbrev pub point_inside : Point → Bool
point_inside p = inside_size p.x && inside_size p.y && inside_size p.z

-- of a track by itself
abbrev pub track_rows : List Float → List Row
track_rows xs = row TrackCount (track_counted (length xs)) ∷ row TrackRange (all_inside xs) ∷ []

-- with a list lent for tangents, which counts by whole threes
abbrev pub tangent_rows : List Float → ℕ → List Row
tangent_rows xs len = row TrackCount (track_counted (length xs) && leb (length xs / 3) (len / 3)) ∷ row TrackRange (all_inside xs) ∷ []

-- with a projected point
abbrev pub project_rows : List Float → Point → List Row
project_rows xs at = row TrackCount (track_counted (length xs)) ∷ row TrackRange (all_inside xs && point_inside at) ∷ []

-- ---- the answers

-- the numbers of a slice that is a track
unfoldable pub track_call : List Float → Answer (List Float)
unfolding all_inside
track_call xs = checked (track_rows xs) (value xs)

-- the points whose tangents are written
unfoldable pub tangents_call : List Float → ℕ → Answer ℕ
unfolding all_inside
tangents_call xs len = checked (tangent_rows xs len) (value (length xs / 3))

-- and the list afterwards: a refusal changes nothing
abbrev pub tangents_after : Answer ℕ → List Float → List Float → List Float
tangents_after (value n) xs list = tangents_left (Some n) (point_at xs) (length xs / 3) list
tangents_after (refused n) xs list = list

unfoldable pub tangents_list : List Float → List Float → List Float
unfolding tangents_call
tangents_list xs list = tangents_after (tangents_call xs (length list)) xs list

-- s has no row: it is held to 0..length, and a NaN goes through
unfoldable pub track_pose_call : List Float → Float → Answer TrackPose
unfolding all_inside track_pose_of
track_pose_call xs s = checked (track_rows xs) (value (track_pose_of (point_at xs) (length xs / 3) s))

unfoldable pub project_call : List Float → Point → Answer Projection
unfolding all_inside project_of
project_call xs at = checked (project_rows xs at) (value (project_of (point_at xs) (length xs / 3) at))
