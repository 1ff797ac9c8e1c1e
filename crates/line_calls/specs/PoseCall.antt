-- The pose call of the C interface. Document 01 has no such call: its rows are those of a call with samples (3 4 5 6), the geometry's own, and 7.
use Rattle.std.specs.Prelude.{ℕ, List, [], ◌∷◌, ◌++◌, length, ltb, Float}
use Rattle.refusals.specs.Answer.{Answer, value, Row, row, checked}
use Rattle.refusals.specs.declared.refusals.Refusal.TheVariants.{Structure}
use Rattle.records.specs.Roads.{Road, road_of}
use Rattle.admission_arguments.specs.Arguments.{station_row}
use Rattle.line_samples.specs.declared.points.Pose.{Pose}
use Rattle.line_pose.specs.Poses.{pose_of}
use Rattle.admission.specs.Admission.{road_rows}
use Rattle.line_calls.specs.SampleCall.{sample_row}

-- a geometry that the road does not have is a wrong reference: 3, of an argument, so after the road's and the samples' rows
abbrev pub geometry_row : Road → ℕ → Row
geometry_row road i = row Structure (ltb i (length road.geoms))

module _ (words : List ℕ) (numbers : List Float) (samples : List Float) (geometry : ℕ) (s : Float) where
  -- the rows after the road's
  abbrev pub pose_rows : List Row
  pose_rows =
      sample_row words numbers (length samples)
      ∷ geometry_row (road_of words numbers) geometry
      ∷ station_row (road_of words numbers) s
      ∷ []

  -- the pose of that geometry at s
  abbrev pub pose_here : Pose
  pose_here = pose_of (road_of words numbers) samples geometry s

  -- rows 3, 4, 5, 6, the geometry's, 7; then the pose
  unfoldable pub pose_call : Answer Pose
  pose_call = checked (road_rows words numbers ++ pose_rows) (value pose_here)
