-- What admission says of a road's values, samples and poses, as one statement, `RoadSizes`, at the end. Document 01, "Admission": the limits of row 4 and B; "Language forms in the code": "monotone rounding carries admission's bounds to every coordinate".
-- Words from below: `AtMost`, finite and at most so large, `AtMostPart`, the same of a fraction, `Under`, below (admission_laws, Fractions); `value_in`, `slope_in`, a list's value and slope at s (records, Active); `on_road`, `across_road`, the tests of rows 7 and 8, s in 0..length and t in -80..80 (admission, Limits; admission_arguments, Arguments).
use Rattle.std.specs.Prelude.{ℕ, suc, ◌*◌, ◌≤◌, ◌<◌, ◌≡◌, true, List, Float, length}
use Rattle.float_laws.specs.Binary64.{◌⊕◌, ◌⊗◌, zero64}
use Rattle.records_cubic.specs.Cubics.{cubic_at}
use Rattle.records.specs.Active.{value_in, slope_in}
use Rattle.records.specs.Roads.{Road, Strip, road_of, geom_at, geom_index, profile_at, strip_at, column_of}
use Rattle.admission.specs.Limits.{on_road}
use Rattle.admission_arguments.specs.Arguments.{across_road}
use Rattle.admission_laws.specs.Fractions.{IsF64, AllF64, AtMost, AtMostPart, negative_part, Under}
use Rattle.line_samples.specs.declared.points.Sample.{Sample}
use Rattle.line_samples.specs.declared.points.Pose.{Pose}
use Rattle.line_samples.specs.Samples.{sample_count, samples_before, samples_needed, sample_at}
use Rattle.line_pose.specs.Poses.{pose_of}
use Rattle.admission.specs.Admission.{admitted}
use Rattle.line_calls.specs.SampleCall.{samples_list}

-- "the samples made from it are those that the samples call writes for it": what that call leaves of a slice with room for them
pub record MadeFrom (words : List ℕ) (numbers samples : List Float) : Type 0 where
  pub lent : List Float
  pub room : 4 * samples_needed (road_of words numbers) ≤ length lent
  pub written : samples ≡ samples_list words numbers lent

-- "A strip's four terms, .. by Horner": those at s, u across, as the strip's height is worked out; 0 for none
abbrev pub terms_across : Strip → Float → Float → Float
terms_across strip s u = (((zero64 ⊗ u ⊕ value_in (column_of strip 4) s) ⊗ u ⊕ value_in (column_of strip 3) s) ⊗ u ⊕ value_in (column_of strip 2) s) ⊗ u ⊕ value_in (column_of strip 1) s

-- ---- values along the road: "B at most: elev 10,000; bank 0.75; offset, tshift .. 8; .. strip width 100. Elev also [slope] ≤ 1"
pub record AlongKept (road : Road) (s : Float) : Type 0 where
  pub elevation : AtMost 10000 (value_in road.elevations s)
  pub grade : AtMost 1 (slope_in road.elevations s)
  pub bank : AtMostPart 3 4 (value_in road.superelevations s)
  pub offset : AtMost 8 (value_in road.offsets s)
  pub shift : AtMost 8 (value_in road.tshifts s)
  pub strip_width : (i : ℕ) → i < 4 → AtMost 100 (value_in (column_of (strip_at road i) 0) s)
  -- "at 88: ≤ 40", and nearer
  pub of_strip_height : (i : ℕ) → i < 4 → (u : Float) → IsF64 u → AtMost 88 u → AtMost 40 (terms_across (strip_at road i) s u)

-- ---- samples: distance from 0 to 499.75, x and y at most 1,000,500 in size, the heading at most 3,500
pub record SampleKept (p : Sample) : Type 0 where
  pub from : negative_part p.distance ≡ 0
  pub to : AtMostPart 1999 4 p.distance
  pub x_size : AtMost 1000500 p.x
  pub y_size : AtMost 1000500 p.y
  pub turn : AtMost 3500 p.heading

-- those of the i-th geometry, none of a line or an arc: they start at 0, and each distance is below the next
pub record SamplesKept (road : Road) (samples : List Float) (i : ℕ) : Type 0 where
  pub each : (k : ℕ) → k < sample_count (geom_at road i) → SampleKept (sample_at samples (samples_before road i) k)
  pub first : 0 < sample_count (geom_at road i) → (sample_at samples (samples_before road i) 0).distance ≡ zero64
  pub rise : (k : ℕ) → suc k < sample_count (geom_at road i) → Under (sample_at samples (samples_before road i) k).distance (sample_at samples (samples_before road i) (suc k)).distance

-- ---- poses: x and y at most 1,300,000 in size, the heading at most 12,000, the range of sine and cosine
pub record PoseKept (p : Pose) : Type 0 where
  pub x_size : AtMost 1300000 p.x
  pub y_size : AtMost 1300000 p.y
  pub turn : AtMost 12000 p.heading

-- ---- all of it

pub record RoadKept (road : Road) (samples : List Float) : Type 0 where
  -- no station is beyond 10,000
  pub length_size : AtMost 10000 road.length
  pub along : (s : Float) → IsF64 s → on_road road s ≡ true → AlongKept road s
  -- "shapes 40", of each profile at every t
  pub shapes : (i : ℕ) → i < length road.profiles → (t : Float) → IsF64 t → across_road t ≡ true → AtMost 40 (value_in (profile_at road i).shapes t)
  -- "before a profile's first shape its a counts": 40 too, of every shape
  pub constants : (i : ℕ) → i < length road.profiles → (j : ℕ) → j < length (profile_at road i).shapes → AtMost 40 (cubic_at (profile_at road i).shapes j).a
  pub sampled : (i : ℕ) → i < length road.geoms → SamplesKept road samples i
  -- of the geometry in use at s
  pub pose : (s : Float) → IsF64 s → on_road road s ≡ true → PoseKept (pose_of road samples (geom_index road s) s)

-- for every admitted road with the samples made from it
abbrev pub RoadSizes : Type 0
RoadSizes = (words : List ℕ) (numbers samples : List Float) → AllF64 numbers → admitted words numbers ≡ true → MadeFrom words numbers samples → RoadKept (road_of words numbers) samples
