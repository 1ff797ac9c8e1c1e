-- Document 01, "Values": "Pose: line and arc by `pose`; arc of size ≤ 1e-9 is a line; neither stops at its length", and the last bullet on samples, grouped as in src/road.rs.
use Rattle.std.specs.Prelude.{ℕ, zero, suc, ◌+◌, ◌-◌, min, cond, List, [], ◌∷◌, Float}
use Rattle.std.specs.Float.Ieee.{lt, le}
use Rattle.float_laws.specs.Binary64.{◌⊕◌, ◌⊖◌, ◌⊗◌, ◌⊘◌, zero64, abs_of}
use Rattle.arithmetic_sine.specs.Sine.{sine_of, cosine_of}
use Rattle.arithmetic_ranges.specs.Ranges.{clamped, blend, fraction}
use Rattle.records.specs.declared.points.GeomRec.{GeomRec}
use Rattle.records.specs.declared.points.GeomShape.{GeomShape}
use Rattle.records.specs.declared.points.GeomShape.TheVariants.{Line, Arc, Spiral}
use Rattle.records.specs.Roads.{Road, straight_curvature, geom_at}
use Rattle.line_samples.specs.declared.points.Sample.{Sample}
use Rattle.line_samples.specs.declared.points.Pose.{Pose}
use Rattle.line_samples.specs.Samples.{sample_count, samples_before, sample_at}

-- x, y and heading in an array of three
abbrev pub pose_list : Pose → List Float
pose_list p = p.x ∷ p.y ∷ p.heading ∷ []

-- ---- "line and arc by `pose`; .. neither stops at its length": at ds from the geometry's start, whatever ds is

unfoldable pub line_pose : GeomRec → Float → Pose
line_pose g ds = record { x = g.x ⊕ ds ⊗ cosine_of g.hdg; y = g.y ⊕ ds ⊗ sine_of g.hdg; heading = g.hdg }

unfoldable pub arc_pose : GeomRec → Float → Float → Pose
arc_pose g k ds =
    let h = g.hdg ⊕ k ⊗ ds in
    record {
      x = g.x ⊕ (sine_of h ⊖ sine_of g.hdg) ⊘ k;
      y = g.y ⊖ (cosine_of h ⊖ cosine_of g.hdg) ⊘ k;
      heading = h;
    }

-- ---- spiral: n samples from place `first` of the lent slice on

-- "raised to 0 if below it, then lowered to the last sample's if above it"; a NaN stays
abbrev pub held : Float → Float → Float
held last d = clamped last d

-- "the number of leading samples with distance ≤ that", of the n from a place on
unfoldable pub leading : List Float → ℕ → Float → ℕ → ℕ
leading samples first d zero = 0
leading samples first d (suc n) = cond (le (sample_at samples first 0).distance d) (suc (leading samples (suc first) d n)) 0

-- "less one, at least 0, at most the last but one"
abbrev pub segment : ℕ → ℕ → ℕ
segment lead n = min (lead - 1) (n - 2)

-- the fraction of the way from a to b; 0 where the distances do not rise
abbrev pub fraction_of : Float → Float → Float → Float
fraction_of a b d = cond (lt a b) (fraction a b d) zero64

-- straight from one sample to the next
abbrev pub between : Sample → Sample → Float → Pose
between a b f = record { x = blend a.x b.x f; y = blend a.y b.y f; heading = blend a.heading b.heading f }

-- "answers follow what it holds", the caller's slice
unfoldable pub spiral_pose : List Float → ℕ → ℕ → Float → Pose
unfolding leading
spiral_pose samples first n ds =
    let d = held (sample_at samples first (n - 1)).distance ds in
    let i = segment (leading samples first d n) n in
    let a = sample_at samples first i in
    let b = sample_at samples first (i + 1) in
    between a b (fraction_of a.distance b.distance d)

-- ---- the i-th geometry of a road at s, with the lent samples

-- "arc of size ≤ 1e-9 is a line"
abbrev pub pose_by : Road → List Float → ℕ → Float → GeomShape → Pose
pose_by road samples i ds Line = line_pose (geom_at road i) ds
pose_by road samples i ds (Arc k) = cond (lt straight_curvature (abs_of k)) (arc_pose (geom_at road i) k ds) (line_pose (geom_at road i) ds)
pose_by road samples i ds (Spiral k0 k1) = spiral_pose samples (samples_before road i) (sample_count (geom_at road i)) ds

unfoldable pub pose_of : Road → List Float → ℕ → Float → Pose
unfolding line_pose arc_pose spiral_pose samples_before sample_count
pose_of road samples i s = pose_by road samples i (s ⊖ (geom_at road i).s) (geom_at road i).shape
