-- What admission says of the lanes at a station, as one statement, `LaneSizes`, at the end. Document 01, "Admission": "B at most: .. width lanes 8; border lanes 36"; "Lane heights: size ≤ 2"; "at most 6 a side".
-- Words from below: `AtMost`, finite and at most so large (admission_laws, Fractions); `section_index`, the section at s (records, Roads); `on_road`, the test of row 7 (admission, Limits).
use Rattle.std.specs.Prelude.{ℕ, ◌≤◌, ◌<◌, ◌≡◌, Bool, true, false, List, length, get_or, Float}
use Rattle.float_laws.specs.Binary64.{◌⊖◌}
use Rattle.records.specs.Active.{value_in}
use Rattle.records.specs.Roads.{Road, Lane, road_of, no_lane, section_of, section_index, height_def_at}
use Rattle.admission.specs.Limits.{on_road}
use Rattle.admission_laws.specs.Fractions.{IsF64, AllF64, AtMost}
use Rattle.admission.specs.Admission.{admitted}
use Rattle.lanes_borders.specs.Borders.{side_lanes}

-- a lane, at a distance into its section: its width or its border's t, and the heights that its records give
pub record LaneValues (lane : Lane) (distance : Float) : Type 0 where
  pub width : lane.border ≡ false → AtMost 8 (value_in lane.extents distance)
  pub border : lane.border ≡ true → AtMost 36 (value_in lane.extents distance)
  pub inner : (j : ℕ) → j < length lane.heights → AtMost 2 (height_def_at lane.heights j).inner
  pub outer : (j : ℕ) → j < length lane.heights → AtMost 2 (height_def_at lane.heights j).outer

-- the section at s is there, and of its lanes on each side, six at most, so much holds
pub record LanesKept (road : Road) (s : Float) : Type 0 where
  pub section : section_index road s < length road.sections
  pub few : (right : Bool) → length (side_lanes road (section_index road s) right) ≤ 6
  pub lane : (right : Bool) (k : ℕ) → k < length (side_lanes road (section_index road s) right)
      → LaneValues (get_or (side_lanes road (section_index road s) right) k no_lane) (s ⊖ (section_of road (section_index road s)).start)

-- for every admitted road, at whatever s from 0 to its length
abbrev pub LaneSizes : Type 0
LaneSizes = (words : List ℕ) (numbers : List Float) → AllF64 numbers → admitted words numbers ≡ true → (s : Float) → IsF64 s → on_road (road_of words numbers) s ≡ true → LanesKept (road_of words numbers) s
