-- Worked tracks, by the definitions that the contracts cite: each entry is a test that is computed, and one theorem says that all pass.
use Prim.Native.Nat.{ℕ}
use mathlib.Core.Path.{◌≡◌, refl}
use mathlib.Core.Bool.{Bool, true, ◌&&◌}
use mathlib.Core.List.{List, [], ◌∷◌}
use lib.Count.{count_trailing_zeros}
use lib.Ieee.{Float, binary32, size, span, climb, odd, units, round, sum, add, sub, mul, div, neg, lt, eq, le, of_bits, of_fields}
use Rattle.float_laws.specs.Binary32.{f32, zero32, one32}
use Rattle.arithmetic.specs.Root.{whole_root, root_units, root_of}
use Rattle.records.specs.declared.points.Point.{Point}
use Rattle.coordinates.specs.declared.vectors.Vector.{Vector}
use Rattle.coordinates.specs.Vectors.{place, dot_of, length_of, unit_of, left_normal_of}
use Rattle.coordinates.specs.Points.{point_at}
use Rattle.tracks_calls.specs.TrackCalls.{all_inside}
use Rattle.tracks.specs.Lengths.{length_to}
use Rattle.tracks.specs.Tangents.{tangent_of}
use Rattle.tracks.specs.Poses.{leading_from, segment_of, spot_of, heading_at, track_pose_of}
use Rattle.tracks.specs.declared.poses.TrackPose.{TrackPose}
use Rattle.tracks.specs.declared.projections.Projection.{Projection}
use Rattle.tracks_laws.specs.TrackLaws.{is_track}
use Rattle.tracks.specs.Projections.{foot_of, candidate_of, nearer_of, nearest_of, project_of}

-- an f32 by its digits, zeros of either sign alike
abbrev pub is : Float → ℕ → Bool
is x b = eq x (f32 b)

abbrev pub three : Vector → ℕ → ℕ → ℕ → Bool
three v x y z = is v.x x && is v.y y && is v.z z

abbrev pub placed : Point → ℕ → ℕ → ℕ → Bool
placed p x y z = is p.x x && is p.y y && is p.z z

-- (0, 0, 0), (1, 0, 0), (1, 1, 0): a corner to the left
abbrev pub corner : List Float
corner = zero32 ∷ zero32 ∷ zero32 ∷ one32 ∷ zero32 ∷ zero32 ∷ one32 ∷ one32 ∷ zero32 ∷ []

-- (0, 0, 0) twice
abbrev pub point : List Float
point = zero32 ∷ zero32 ∷ zero32 ∷ zero32 ∷ zero32 ∷ zero32 ∷ []

abbrev pub posed : TrackPose → ℕ → ℕ → ℕ → ℕ → ℕ → ℕ → Bool
posed q x y z a b c = placed q.position x y z && three q.heading a b c

abbrev pub projected : Projection → ℕ → ℕ → ℕ → ℕ → ℕ → Bool
projected q s x y z o = is q.s s && placed q.point x y z && is q.offset o

unfoldable pub tests : List Bool
tests =
    -- both are tracks: the premise of `track-laws` is met
    is_track corner
    ∷ is_track point
    -- the root of 2
    ∷ is (root_of binary32 (f32 0x4000_0000)) 0x3fb5_04f3
    -- the tangent at the corner is half way between its two directions, and those of the ends are the segments' own
    ∷ three (tangent_of (point_at corner) 3 0) 0x3f80_0000 0 0
    ∷ three (tangent_of (point_at corner) 3 1) 0x3f35_04f3 0x3f35_04f3 0
    ∷ three (tangent_of (point_at corner) 3 2) 0 0x3f80_0000 0
    -- 1.5 along: half way up the second segment
    ∷ posed (track_pose_of (point_at corner) 3 (f32 0x3fc0_0000)) 0x3f80_0000 0x3f00_0000 0 0x3ec3_ef15 0x3f6c_835f 0
    -- beyond the end: the end
    ∷ posed (track_pose_of (point_at corner) 3 (f32 0x42c8_0000)) 0x3f80_0000 0x3f80_0000 0 0 0x3f80_0000 0
    -- (0.5, -1, 0) lies 1 m to the right of the first segment; (1, 2, 0) lies beyond the end, and straight ahead
    ∷ projected (project_of (point_at corner) 3 (place (f32 0x3f00_0000) (f32 0xbf80_0000) zero32)) 0x3f00_0000 0x3f00_0000 0 0 0xbf80_0000
    ∷ projected (project_of (point_at corner) 3 (place one32 (f32 0x4000_0000) zero32)) 0x4000_0000 0x3f80_0000 0x3f80_0000 0 0
    -- equally near to both segments: the earlier one
    ∷ projected (project_of (point_at corner) 3 (place (f32 0x3f00_0000) (f32 0x3f00_0000) zero32)) 0x3f00_0000 0x3f00_0000 0 0 0x3f00_0000
    -- a track of one place: its point, no heading, no offset
    ∷ posed (track_pose_of (point_at point) 2 one32) 0 0 0 0 0 0
    ∷ projected (project_of (point_at point) 2 (place one32 one32 one32)) 0 0 0 0 0
    ∷ []

unfoldable pub all : List Bool → Bool
all [] = true
all (b ∷ bs) = b && all bs

pub worked-tracks : all tests ≡ true
unfolding all tests all_inside tangent_of track_pose_of spot_of segment_of leading_from length_to heading_at project_of nearest_of nearer_of candidate_of foot_of left_normal_of unit_of length_of dot_of root_of root_units whole_root size span climb round units odd sum add sub mul div neg lt eq le of_bits of_fields count_trailing_zeros
worked-tracks = refl
