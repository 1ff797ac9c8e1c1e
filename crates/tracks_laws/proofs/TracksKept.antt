-- `track-laws`: the statement of specs/TrackLaws.antt is true. Each clause is a law of another file, of the points that rows 13 and 14 let through (Admitted), carried to the calls' answers.
use Prim.Native.Nat.{ℕ, suc, ◌+◌, ◌-◌, ◌*◌, ◌/◌, ◌≤◌, ◌<◌}
use native.Mathlib.Omega.{arith}
use mathlib.Core.Path.{◌≡◌, refl, sym, ap, ◌∙◌, subst}
use mathlib.Core.Bool.{Bool, true, false, cond, ◌&&◌}
use mathlib.Core.List.{List, ◌++◌}
use lib.ListN.{length, get_or, drop}
use lib.Dec.{leb}
use borrow.Author.Tests.{le-leb}
use lib.Ieee.{Float, nan, of_bits, is_nan, lt}
use lib.Ieee.Positive.{num}
use Rattle.float_laws.specs.Binary32.{◌⊖◌, zero32, clamp_of}
use Rattle.refusals.specs.Answer.{Answer, value, refused, Answers}
use Rattle.records_lent.proofs.TestLaws.{and-fst, and-snd}
use Rattle.records.specs.declared.points.Point.{Point}
use Rattle.coordinates.specs.declared.vectors.Vector.{Vector}
use Rattle.coordinates.specs.Points.{point_at}
use Rattle.tracks.specs.Lengths.{length_to}
use Rattle.tracks.specs.Tangents.{tangent_of, tangent_numbers}
use Rattle.tracks.specs.Poses.{least_span, spot_of, position_at, heading_at, track_pose_of}
use Rattle.tracks.specs.Projections.{project_of}
use Rattle.tracks_calls.specs.TrackCalls.{track_counted, all_inside, point_inside, tangents_call, tangents_list, track_pose_call, project_call}
use Rattle.tracks_calls.proofs.CallSteps.{list_by}
use Rattle.tracks_laws.specs.TrackLaws.{IsF32, AllF32, PointIsF32, is_track, FinitePoint, Direction, TangentKept, TrackPoseKept, SpotKept, NanPose, ProjectionKept, TrackKept, TrackLaws}
use Rattle.tracks_laws.proofs.Admitted.{Placed, placed, point-placed, counted_is}
use Rattle.tracks_laws.proofs.ArcLengths.{lengths, lengths_rise}
use Rattle.tracks_laws.proofs.Leading.{parts_at-lead}
use Rattle.tracks_laws.proofs.Fractions.{segment-small, from_le, spot-last, le-to, spot_in, zero_in}
use Rattle.tracks_laws.proofs.Finite.{RealPoint, RealVector, bounded-real, unit-bound, tangent-in, position-real, heading-real, foot-in}
use Rattle.tracks_laws.proofs.Flat.{nil-num, tangent-flat, heading-flat}
use Rattle.tracks_laws.proofs.Projected.{project-real}
use Rattle.tracks_laws.proofs.Along.{project_on-track}
use Rattle.tracks_laws.proofs.NearestSegment.{best_of}
use Rattle.tracks_laws.proofs.NanPoses.{nan-spot, posed-short, nan-pose}
use Rattle.tracks_laws.proofs.WrittenTangents.{three, listed_at}

-- ---- answers

-- two rows that pass let the value through
passes : {A : Type 0} (a b : Bool) (v : A) (r s : ℕ) → a ≡ true → b ≡ true → cond a (cond b (value v) (refused s)) (refused r) ≡ value v
passes a b v r s e f = rw (e, f)

answered : {A : Type 0} (P : A → Type 0) (x : Answer A) (v : A) → x ≡ value v → P v → Answers x P
answered P x v e h = rw e h

finite-point : (p : Point) → RealPoint p → FinitePoint p
finite-point p r = record { x = r.x.finite; y = r.y.finite; z = r.z.finite }

direction : (v : Vector) → RealVector v → num v.z ≡ 0 → Direction v
direction v r e = record { x = r.x.finite; y = r.y.finite; z = r.z.finite; flat = e }

module _ (xs : List Float) (fit : AllF32 xs) (ok : is_track xs ≡ true) where
  abbrev n : ℕ
  n = length xs / 3

  abbrev p : ℕ → Point
  p = point_at xs

  counted : track_counted (length xs) ≡ true
  counted = and-fst (track_counted (length xs)) (all_inside xs) ok

  inside : all_inside xs ≡ true
  inside = and-snd (track_counted (length xs)) (all_inside xs) ok

  there : (i : ℕ) → i < n → Placed (p i)
  there = placed xs fit inside

  few : n ≤ 512
  few = (counted_is (length xs) counted).2

  two : 2 ≤ n
  two = (counted_is (length xs) counted).1

  -- ---- tangents

  module _ (list : List Float) (room : n ≤ length list / 3) where
    tangents-is : tangents_call xs (length list) ≡ value n
    unfolding tangents_call
    tangents-is = passes (track_counted (length xs) && leb n (length list / 3)) (all_inside xs) n 13 14 (rw (counted, le-leb n (length list / 3) room)) inside

    list-is : tangents_list xs list ≡ tangent_numbers p n n ++ drop (n * 3) list
    list-is = sym (list_by xs list {a = value n} (sym tangents-is) refl)

    tangent-kept : (i : ℕ) → i < n → TangentKept (tangents_list xs list) i (tangent_of p n i)
    tangent-kept i h =
        let own = tangent_of p n i in
        let rest = drop (n * 3) list in
        let at : (j : ℕ) → j < 3 → get_or (tangents_list xs list) (i * 3 + j) nan ≡ get_or (three own) j nan = (λ j l. ap (λ (ys : List Float). get_or ys (i * 3 + j) nan) list-is ∙ listed_at p n rest i j h l) in
        let zero : i * 3 ≡ i * 3 + 0 = omega arith in
        record {
          x = ap (λ (k : ℕ). get_or (tangents_list xs list) k nan) zero ∙ at 0 (omega arith);
          y = at 1 (omega arith);
          z = at 2 (omega arith);
          direction = direction own (bounded-real own unit-bound (tangent-in p n there i h)) (nil-num own.z (tangent-flat p n there i h));
        }

  -- ---- poses

  pose-is : (s : Float) → track_pose_call xs s ≡ value (track_pose_of p n s)
  unfolding track_pose_call
  pose-is s = passes (track_counted (length xs)) (all_inside xs) (track_pose_of p n s) 13 14 counted inside

  module _ (s : Float) (f : IsF32 s) (no : is_nan s ≡ false) where
    spot-kept : SpotKept p n (clamp_of zero32 (length_to p (n - 1)) s) (spot_of p n s)
    unfolding spot_of of_bits
    spot-kept =
        let t = spot_in p n there few two s f no in
        let h = segment-small p n there few two s f no in
        record { there = omega arith; starts = from_le p n there few two s f no; last = spot-last p n there few two s f no; ends = le-to p n there few two s f no; from = t.above; to = t.below }

    pose-kept : TrackPoseKept (track_pose_of p n s)
    unfolding track_pose_of
    pose-kept =
        let i = (spot_of p n s).segment in
        let t = (spot_of p n s).t in
        let h : i + 1 < n = unfold spot_of in segment-small p n there few two s f no in
        let w = spot_in p n there few two s f no in
        record { position = finite-point _ (position-real p n there i h t w); heading = direction (heading_at p n i t) (heading-real p n there i h t w) (nil-num (heading_at p n i t).z (heading-flat p n there i h t w)) }

  -- at a NaN, in a short first segment: the pose at its start
  short-kept : lt least_span (length_to p 1 ⊖ length_to p 0) ≡ false → TrackPoseKept (track_pose_of p n nan)
  short-kept e =
      let h : 0 + 1 < n = (let t = two in omega arith) in
      subst TrackPoseKept (sym (posed-short p n e))
      (record { position = finite-point (position_at p 0 zero32) (position-real p n there 0 h zero32 zero_in); heading = direction (heading_at p n 0 zero32) (heading-real p n there 0 h zero32 zero_in) (nil-num (heading_at p n 0 zero32).z (heading-flat p n there 0 h zero32 zero_in)) })

  -- ---- projections

  module _ (to : Point) (f : PointIsF32 to) (near : point_inside to ≡ true) where
    at : Placed to
    at = point-placed to f near

    project-is : project_call xs to ≡ value (project_of p n to)
    unfolding project_call
    project-is = passes (track_counted (length xs)) (all_inside xs && point_inside to) (project_of p n to) 13 14 counted (rw (inside, near))

    projection-kept : ProjectionKept p n to (project_of p n to)
    unfolding project_of of_bits
    projection-kept =
        let b = best_of p n there to at two in
        let q = project-real p n there few two to at in
        let o = project_on-track p n there few two to at in
        let j = b.segment in
        let h : suc j < n = (let l = b.there in let t = two in omega arith) in
        let foot = foot-in (p j) (p (suc j)) to (there j (omega arith)) (there (suc j) h) at in
        record {
          segment = j;
          there = h;
          is = b.is;
          nearest = λ i l. b.nearest i (omega arith);
          earliest = b.earliest;
          foot_from = foot.above;
          foot_to = foot.below;
          s_finite = q.s.finite;
          s_from = o.above;
          s_to = o.below;
          point = finite-point _ q.point;
          offset = q.offset.finite;
        }

  kept : TrackKept xs
  kept =
      record {
        lengths_finite = λ i h. (lengths p n there few i h).real.finite;
        lengths_rise = lengths_rise p n there few;
        search = λ s f. parts_at-lead (length_to p) n (lengths_rise p n there few) s;
        tangents = λ list room. answered (λ (m : ℕ). m ≡ n) (tangents_call xs (length list)) n (tangents-is list room) refl;
        tangent = tangent-kept;
        pose = λ s f no. answered TrackPoseKept (track_pose_call xs s) (track_pose_of p n s) (pose-is s) (pose-kept s f no);
        spot = spot-kept;
        spot_nan = nan-spot p n;
        pose_nan_short = λ e. answered TrackPoseKept (track_pose_call xs nan) (track_pose_of p n nan) (pose-is nan) (short-kept e);
        pose_nan = λ e. answered NanPose (track_pose_call xs nan) (track_pose_of p n nan) (pose-is nan) (nan-pose p n e);
        project = λ to f ok. answered (ProjectionKept p n to) (project_call xs to) (project_of p n to) (project-is to f ok) (projection-kept to f ok);
      }

pub track-laws : TrackLaws
track-laws = kept
