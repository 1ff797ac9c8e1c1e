-- The bounds on poses for a road in lent memory that passes rows 3 to 5: row 3 says that there is a geometry and a section, the slice holds values of the format.
use mathlib.Core.Path.{◌≡◌}
use Prim.Native.Nat.{ℕ, ◌<◌}
use mathlib.Core.Bool.{true}
use mathlib.Core.List.{List, ◌++◌}
use lib.ListN.{length}
use lib.Ieee.{Float}
use Rattle.arithmetic_sine.specs.Sine.{sine_range}
use Rattle.records.specs.Roads.{road_of, geom_index}
use Rattle.admission_structure.specs.Structure.{structured}
use Rattle.admission_structure.proofs.StructureLaws.{structured-is}
use Rattle.admission_laws.proofs.Fitting.{Fitting, road-fits}
use Rattle.admission_laws.proofs.RoadBounds.{OnRoad}
use Rattle.admission.specs.Admission.{admitted}
use Rattle.admission.proofs.AdmissionLaws.{admitted-structured, admitted-limited, admitted-samples}
use Rattle.line_samples.specs.Samples.{samples_of}
use Rattle.line_pose.specs.Poses.{pose_of}
use Rattle.admission_laws.proofs.Geometry.{PoseWithin}
use Rattle.admission_laws.proofs.PoseBounds.{pose-far, station-pose-within}

module _ (words : List ℕ) (numbers : List Float) where
  -- row 3: at least one geometry
  pub geom-there : structured words numbers ≡ true → 0 < length (road_of words numbers).geoms
  geom-there e = (structured-is words numbers e).geoms.enough

  -- of an admitted road: at every station x and y are within 1,300,000 and the heading within 12,000, whatever follows the samples
  pub pose-kept : Fitting numbers → admitted words numbers ≡ true → (rest : List Float) (s : Float) → OnRoad (road_of words numbers) s
      → PoseWithin (pose_of (road_of words numbers) (samples_of (road_of words numbers) ++ rest) (geom_index (road_of words numbers) s) s) pose-far sine_range
  pose-kept f ok rest s o =
      station-pose-within (road_of words numbers) (road-fits words numbers f) (admitted-limited words numbers ok) (admitted-samples words numbers ok) (geom-there (admitted-structured words numbers ok)) rest s o
