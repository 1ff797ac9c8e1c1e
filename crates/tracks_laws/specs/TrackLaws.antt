-- Document 02, Point 1: what holds of every track, as one statement, `TrackLaws`: read it last, at the end. Its clauses are the fields of `TrackKept`. A track is a slice of f32 that passes rows 13 and 14, n points p 0 .. p (n - 1).
-- Words from below: `Answers`, the call refuses not, and of what it answers something holds (refusals, Answer); `length_to p i`, the arc length at point i (tracks, Lengths); `leading_from`, `spot_of` (tracks, Poses); `closest_of`, `square_to`, `candidate_of`, of one segment (tracks, Projections). `le` and `lt` compare finite numbers exactly; a NaN is in no order (the kit's).
--
-- What the clauses are for. "what the Rust's calls turn down or panic on beyond these is 14 too": there is nothing. `try_new` turns down fewer than two points, which is 13; `clamp` panics where 0 ≤ length fails or the length is NaN (`lengths_finite`, `lengths_rise`); an index past the end panics (`spot`, `spot_nan`, `project`: the segment is there). Its binary search finds what the definition counts (`search`).
use Rattle.std.specs.Prelude.{ℕ, suc, ◌+◌, ◌-◌, ◌*◌, ◌/◌, ◌≤◌, ◌<◌, ◌≡◌, Bool, true, false, cond, ◌&&◌, List, T, ltb, length, get_or, Float}
use Rattle.std.specs.Float.{nan, binary32}
use Rattle.std.specs.Float.Ieee.{fits, is_nan, le, lt}
use Rattle.std.specs.Float.Ieee.Scale.{finite}
use Rattle.std.specs.Float.Ieee.Positive.{num}
use Rattle.float_laws.specs.Binary32.{◌⊖◌, zero32, one32, clamp_of}
use Rattle.refusals.specs.Answer.{Answers}
use Rattle.records.specs.declared.points.Point.{Point}
use Rattle.coordinates.specs.declared.vectors.Vector.{Vector}
use Rattle.coordinates.specs.Vectors.{from_to, zero_vector}
use Rattle.coordinates.specs.Points.{point_at}
use Rattle.tracks.specs.declared.poses.Spot.{Spot}
use Rattle.tracks.specs.declared.poses.TrackPose.{TrackPose}
use Rattle.tracks.specs.declared.projections.Projection.{Projection}
use Rattle.tracks.specs.Lengths.{length_to}
use Rattle.tracks.specs.Tangents.{tangent_of}
use Rattle.tracks.specs.Poses.{leading_from, least_span, spot_of}
use Rattle.tracks.specs.Projections.{foot_of, candidate_of, closest_of, square_to}
use Rattle.tracks_calls.specs.TrackCalls.{track_counted, all_inside, point_inside, tangents_call, tangents_list, track_pose_call, project_call}

-- ---- words

-- is an f32: the definitions speak of numbers of every format, a machine lends none but these
abbrev pub IsF32 : Float → Type 0
IsF32 x = T (fits binary32 x)

-- every number of a lent slice; past its end stands a NaN
abbrev pub AllF32 : List Float → Type 0
AllF32 xs = (k : ℕ) → IsF32 (get_or xs k nan)

pub record PointIsF32 (p : Point) : Type 0 where
  pub x : IsF32 p.x
  pub y : IsF32 p.y
  pub z : IsF32 p.z

-- passes rows 13 and 14
abbrev pub is_track : List Float → Bool
is_track xs = track_counted (length xs) && all_inside xs

pub record FinitePoint (p : Point) : Type 0 where
  pub x : T (finite p.x)
  pub y : T (finite p.y)
  pub z : T (finite p.z)

-- a tangent or a heading: finite, and in plan, its z 0 of either sign (num / den is the size of a finite number, the kit's). Of its length nothing is said: where the line turns back it may be far from 1
pub record Direction (v : Vector) : Type 0 where
  pub x : T (finite v.x)
  pub y : T (finite v.y)
  pub z : T (finite v.z)
  pub flat : num v.z ≡ 0

-- ---- tangents: the three numbers of point i in the list afterwards

pub record TangentKept (list : List Float) (i : ℕ) (v : Vector) : Type 0 where
  pub x : get_or list (i * 3) nan ≡ v.x
  pub y : get_or list (i * 3 + 1) nan ≡ v.y
  pub z : get_or list (i * 3 + 2) nan ≡ v.z
  pub direction : Direction v

-- ---- poses

pub record TrackPoseKept (q : TrackPose) : Type 0 where
  pub position : FinitePoint q.position
  pub heading : Direction q.heading

-- where s lies, held to 0..length: in the last segment that starts at or before it, and at a fraction from 0 to 1 of the way along
pub record SpotKept (p : ℕ → Point) (n : ℕ) (held : Float) (spot : Spot) : Type 0 where
  pub there : suc spot.segment < n
  pub starts : T (le (length_to p spot.segment) held)
  pub last : (j : ℕ) → spot.segment < j → suc j < n → le (length_to p j) held ≡ false
  pub ends : T (le held (length_to p (suc spot.segment)))
  pub from : T (le zero32 spot.t)
  pub to : T (le spot.t one32)

-- at a NaN
pub record NanPose (q : TrackPose) : Type 0 where
  pub x : q.position.x ≡ nan
  pub y : q.position.y ≡ nan
  pub z : q.position.z ≡ nan
  pub heading : q.heading ≡ zero_vector

-- ---- projections

-- segment i by itself: how far along it the foot of `at` lies, the square of the distance to it, and the projection on it
abbrev pub foot_at : (ℕ → Point) → Point → ℕ → Float
foot_at p at i = foot_of (from_to (p i) (p (suc i))) (from_to (p i) at)

abbrev pub square_at : (ℕ → Point) → Point → ℕ → Float
square_at p at i = square_to (closest_of (p i) (p (suc i)) at) at

abbrev pub candidate_at : (ℕ → Point) → Point → ℕ → Projection
candidate_at p at i =
    let closest = closest_of (p i) (p (suc i)) at in
    candidate_of (from_to (p i) (p (suc i))) (foot_at p at i) closest (from_to closest at) (length_to p i)

-- the projection is that on a segment to which no other is nearer, and every earlier one is farther: "Equal distances keep the earlier segment"
pub record ProjectionKept (p : ℕ → Point) (n : ℕ) (at : Point) (q : Projection) : Type 0 where
  pub segment : ℕ
  pub there : suc segment < n
  pub is : q ≡ candidate_at p at segment
  pub nearest : (i : ℕ) → suc i < n → T (le (square_at p at segment) (square_at p at i))
  pub earliest : (i : ℕ) → i < segment → T (lt (square_at p at segment) (square_at p at i))
  pub foot_from : T (le zero32 (foot_at p at segment))
  pub foot_to : T (le (foot_at p at segment) one32)
  pub s_finite : T (finite q.s)
  pub s_from : T (le zero32 q.s)
  pub s_to : T (le q.s (length_to p (n - 1)))
  pub point : FinitePoint q.point
  pub offset : T (finite q.offset)

-- ---- the statement

module _ (xs : List Float) where
  abbrev n : ℕ
  n = length xs / 3

  abbrev p : ℕ → Point
  p = point_at xs

  pub record TrackKept : Type 0 where
    -- arc lengths, the first 0 by definition, are finite and never fall
    pub lengths_finite : (i : ℕ) → i < n → T (finite (length_to p i))
    pub lengths_rise : (i j : ℕ) → i ≤ j → j < n → T (le (length_to p i) (length_to p j))
    -- so at every s, a NaN and the infinities too, they part where the leading count ends: the only place that a binary search can find
    pub search : (s : Float) → IsF32 s → (i : ℕ) → i < n → le (length_to p i) s ≡ ltb i (leading_from (length_to p) s 0 n)
    -- a list with room is answered, and has the tangent of each point, finite
    pub tangents : (list : List Float) → n ≤ length list / 3 → Answers (tangents_call xs (length list)) (λ (m : ℕ). m ≡ n)
    pub tangent : (list : List Float) → n ≤ length list / 3 → (i : ℕ) → i < n → TangentKept (tangents_list xs list) i (tangent_of p n i)
    -- every s but a NaN is answered, and all numbers are finite
    pub pose : (s : Float) → IsF32 s → is_nan s ≡ false → Answers (track_pose_call xs s) TrackPoseKept
    pub spot : (s : Float) → IsF32 s → is_nan s ≡ false → SpotKept p n (clamp_of zero32 (length_to p (n - 1)) s) (spot_of p n s)
    -- a NaN is answered too. The first segment counts; where its ends' arc lengths are over 1e-6 apart, the fraction and the position are NaN and the heading is zero, else the fraction is 0 and all numbers are finite
    pub spot_nan : spot_of p n nan ≡ record { segment = 0; t = cond (lt least_span (length_to p 1 ⊖ length_to p 0)) nan zero32 }
    pub pose_nan : lt least_span (length_to p 1 ⊖ length_to p 0) ≡ true → Answers (track_pose_call xs nan) NanPose
    pub pose_nan_short : lt least_span (length_to p 1 ⊖ length_to p 0) ≡ false → Answers (track_pose_call xs nan) TrackPoseKept
    -- every place up to 2,000,000 is answered
    pub project : (at : Point) → PointIsF32 at → point_inside at ≡ true → Answers (project_call xs at) (ProjectionKept p n at)

abbrev pub TrackLaws : Type 0
TrackLaws = (xs : List Float) → AllF32 xs → is_track xs ≡ true → TrackKept xs
