-- `pose_at` at a NaN: the first segment, with a NaN for the fraction where its ends' arc lengths are over 1e-6 apart (`nan-spot`); then every component of the position and of the mean of the tangents is NaN, and the unit of the latter is zero, since its length is not above 0.
use Prim.Native.Nat.{ℕ, ◌-◌}
use mathlib.Core.Path.{◌≡◌, refl, sym, ap, ◌∙◌, subst}
use mathlib.Core.Bool.{Bool, true, false, cond}
use lib.Ieee.{Float, nan, inf, fin, of_bits, le, lt, eq, add, sub, mul, div}
use Rattle.float_laws.specs.Binary32.{◌⊕◌, ◌⊖◌, ◌⊗◌, zero32}
use Rattle.arithmetic.specs.Root.{root_of}
use Rattle.records.specs.declared.points.Point.{Point}
use Rattle.coordinates.specs.declared.vectors.Vector.{Vector}
use Rattle.coordinates.specs.Vectors.{vector, place, zero_vector, dot_of, length_of, unit_of, place_between, vector_between}
use Rattle.tracks.specs.Lengths.{length_to}
use Rattle.tracks.specs.Tangents.{tangent_of}
use Rattle.tracks.specs.Poses.{least_span, spot_of, position_at, heading_at, track_pose_of}
use Rattle.tracks.specs.declared.poses.Spot.{Spot}
use Rattle.tracks.specs.declared.poses.TrackPose.{TrackPose}
use Rattle.tracks.proofs.PoseSteps.{segment-off}
use Rattle.tracks_laws.specs.TrackLaws.{NanPose}

lt-nan : (x : Float) → lt x nan ≡ false
unfolding lt
lt-nan nan = refl
lt-nan (inf s) = refl
lt-nan (fin s m e) = refl

nan-off : le zero32 nan ≡ false
unfolding of_bits le lt eq
nan-off = refl

pub nan-spot : (p : ℕ → Point) (n : ℕ) → spot_of p n nan ≡ record { segment = 0; t = cond (lt least_span (length_to p 1 ⊖ length_to p 0)) nan zero32 }
unfolding spot_of lt sub add div
nan-spot p n = rw (lt-nan (length_to p (n - 1)), segment-off p n nan nan-off)

-- ---- a NaN goes through

times-nan : (x : Float) → x ⊗ nan ≡ nan
unfolding mul
times-nan nan = refl
times-nan (inf s) = refl
times-nan (fin s m e) = refl

plus-nan : (x : Float) → x ⊕ nan ≡ nan
unfolding add
plus-nan nan = refl
plus-nan (inf s) = refl
plus-nan (fin s m e) = refl

mean-nan : (x y : Float) → x ⊕ y ⊗ nan ≡ nan
mean-nan x y = ap (λ (z : Float). x ⊕ z) (times-nan y) ∙ plus-nan x

place-nan : (a b : Point) → place_between a b nan ≡ place nan nan nan
place-nan a b = rw (mean-nan a.x (b.x ⊖ a.x), mean-nan a.y (b.y ⊖ a.y), mean-nan a.z (b.z ⊖ a.z))

vector-nan : (a b : Vector) → vector_between a b nan ≡ vector nan nan nan
vector-nan a b = rw (mean-nan a.x (b.x ⊖ a.x), mean-nan a.y (b.y ⊖ a.y), mean-nan a.z (b.z ⊖ a.z))

unit-nan : unit_of (vector nan nan nan) ≡ zero_vector
unfolding unit_of length_of dot_of root_of mul add lt of_bits
unit-nan = refl

heading-nan : (p : ℕ → Point) (n : ℕ) → heading_at p n 0 nan ≡ zero_vector
unfolding heading_at
heading-nan p n = ap unit_of (vector-nan (tangent_of p n 0) (tangent_of p n 1)) ∙ unit-nan

-- the pose at a spot
abbrev pub posed : (ℕ → Point) → ℕ → Spot → TrackPose
posed p n at = record { position = position_at p at.segment at.t; heading = heading_at p n at.segment at.t }

posed-at : (p : ℕ → Point) (n : ℕ) (s : Float) → track_pose_of p n s ≡ posed p n (spot_of p n s)
unfolding track_pose_of
posed-at p n s = refl

abbrev pub first : Bool → Spot
first c = record { segment = 0; t = cond c nan zero32 }

nan-first : (p : ℕ → Point) (n : ℕ) → NanPose (posed p n (first true))
nan-first p n =
    let q = place-nan (p 0) (p 1) in
    record { x = ap (λ (w : Point). w.x) q; y = ap (λ (w : Point). w.y) q; z = ap (λ (w : Point). w.z) q; heading = heading-nan p n }

pub posed-short : (p : ℕ → Point) (n : ℕ) → lt least_span (length_to p 1 ⊖ length_to p 0) ≡ false → track_pose_of p n nan ≡ posed p n (first false)
posed-short p n e = posed-at p n nan ∙ ap (posed p n) (nan-spot p n ∙ ap first e)

pub nan-pose : (p : ℕ → Point) (n : ℕ) → lt least_span (length_to p 1 ⊖ length_to p 0) ≡ true → NanPose (track_pose_of p n nan)
nan-pose p n e = subst NanPose (sym (posed-at p n nan ∙ ap (posed p n) (nan-spot p n ∙ ap first e))) (nan-first p n)
