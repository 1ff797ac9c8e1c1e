-- Case M1: its text is read and its road admitted, by computation.
use mathlib.Core.Path.{◌≡◌, refl}
use Rattle.refusals.specs.Answer.{value}
use Rattle.records.specs.Active as records-active
use Rattle.records_cubic.specs.Cubics as records-cubics
use Rattle.records.specs.Roads as records-roads
use Rattle.line_pose.specs.Poses as reference-line-poses
use Rattle.line_samples.specs.Samples as reference-line-spiral
use Rattle.admission.specs.Admission as admission-admission
use Rattle.admission_structure.specs.Structure as structure-structure
use Rattle.reader_calls.specs.Reading.{reading_by, reading_of, verdict_of}
use Rattle.reader_calls.proofs.Computed.{reading, admitting}
use Rattle.reader_calls.proofs.Examples.{text_m1}

pub read-M1 : verdict_of (reading_of text_m1 1891 8449 32) ≡ value 1
unfolding reading admitting structure-structure.structured records-roads.road_of records-active.last_start records-active.found_of records-active.active_in records-active.value_in records-active.slope_in records-cubics.cubics_of records-roads.heights_of records-roads.geom_index records-roads.section_index reference-line-poses.line_pose reference-line-poses.arc_pose reference-line-poses.leading reference-line-poses.spiral_pose reference-line-poses.pose_of reference-line-spiral.next_sample reference-line-spiral.later_samples reference-line-spiral.geom_samples reference-line-spiral.samples_up_to reference-line-spiral.flat reference-line-spiral.samples_of admission-admission.admit_call admission-admission.admitted reading_by reading_of
read-M1 = refl
