-- A pose with the sine and the cosine of its heading.
use Rattle.arithmetic_sine.specs.Sine.{sin_cos_of}
use Rattle.line_samples.specs.declared.points.Pose.{Pose}
use Rattle.line_pose.specs.declared.bearings.Bearing.{Bearing}

abbrev pub bearing_of : Pose → Bearing
bearing_of p = record { pose = p; turn = sin_cos_of p.heading }
