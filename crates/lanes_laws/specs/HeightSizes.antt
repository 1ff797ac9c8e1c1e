-- What admission says of heights, as one statement, `HeightSizes`, at the end: what a surface point is raised by, at a place of the road, at a lane's borders and across the lane. Document 01, "Values": `shape_at`, the cross section, `height_at`, `side_heights`, and the fraction across a lane.
-- Words from below: `AtMost`, finite and at most so large, `AtMostPart`, the same of a fraction, `Between` (admission_laws, Fractions); `shape_of`, `cross_height`, `height_toward`, the heights at t by profiles, by the cross section, and both, `height_of`, a lane's own (lanes, Lateral); `heights_at`, `across_at`, a lane's at its borders, with the tangent of the bank (lanes_heights); `height_within`, `height_across`, those across it, with the fraction kept to 0..1 and as it is (lanes_heights).
use Rattle.std.specs.Prelude.{ℕ, ◌<◌, ◌≡◌, Bool, true, List, length, get_or, Float}
use Rattle.float_laws.specs.Binary64.{◌⊖◌}
use Rattle.arithmetic_sine.specs.Sine.{tan_of}
use Rattle.records.specs.Active.{value_in}
use Rattle.records.specs.Roads.{Road, road_of, no_lane, section_of, section_index}
use Rattle.admission.specs.Limits.{on_road}
use Rattle.admission_arguments.specs.Arguments.{across_road}
use Rattle.admission_laws.specs.Fractions.{IsF64, AllF64, AtMost, AtMostPart, Between}
use Rattle.admission.specs.Admission.{admitted}
use Rattle.lanes.specs.declared.border_heights.BorderHeights.{BorderHeights}
use Rattle.lanes.specs.Lateral.{shape_of, cross_height, height_toward, height_of}
use Rattle.lanes_borders.specs.Borders.{side_lanes}
use Rattle.lanes_heights.specs.declared.across.Across.{Across}
use Rattle.lanes_heights.specs.Heights.{heights_at, across_at}
use Rattle.lanes_heights.specs.HeightAcross.{height_within, height_across}

-- ---- at t: 40.001 by profiles, 80 by the cross section, 120.001 together, whichever side `toward` takes on the ridge
pub record AcrossKept (road : Road) (s t : Float) : Type 0 where
  pub profiles : AtMostPart 40001 1000 (shape_of road s t)
  pub cross_section : (toward : Float) → AtMost 80 (cross_height road s t toward)
  pub height : (toward : Float) → AtMostPart 120001 1000 (height_toward road s t toward)

-- ---- of a lane

-- its own heights: 2.00001
pub record OwnKept (own : BorderHeights) : Type 0 where
  pub own_inner : AtMostPart 200001 100000 own.inner
  pub own_outer : AtMostPart 200001 100000 own.outer

-- 840 at its borders; 841 across it, with the fraction kept at every t in -80..80, with the fraction as it is at every t between its borders
pub record LaneHeightsKept (heights : BorderHeights) (lane : Across) : Type 0 where
  pub of_inner_height : AtMost 840 heights.inner
  pub of_outer_height : AtMost 840 heights.outer
  pub kept_within : (t : Float) → IsF64 t → across_road t ≡ true → AtMost 841 (height_within lane t)
  pub kept_across : (t : Float) → IsF64 t → Between lane.inner_t lane.outer_t t → AtMost 841 (height_across lane t)

-- ---- all of it, at s

pub record HeightsKept (road : Road) (s : Float) : Type 0 where
  pub across : (t : Float) → IsF64 t → across_road t ≡ true → AcrossKept road s t
  pub own : (right : Bool) (k : ℕ) → k < length (side_lanes road (section_index road s) right)
      → OwnKept (height_of (get_or (side_lanes road (section_index road s) right) k no_lane).heights (s ⊖ (section_of road (section_index road s)).start))
  -- with every tangent of size 1 at most
  pub lanes : (tangent : Float) → IsF64 tangent → AtMost 1 tangent → (right : Bool) (k : ℕ) → k < length (side_lanes road (section_index road s) right)
      → LaneHeightsKept (heights_at road (section_index road s) s tangent right k) (across_at road (section_index road s) s tangent right k)
  -- as that of the road's bank is
  pub bank : AtMost 1 (tan_of (value_in road.superelevations s))
  pub bank_f64 : IsF64 (tan_of (value_in road.superelevations s))

-- for every admitted road, at whatever s from 0 to its length
abbrev pub HeightSizes : Type 0
HeightSizes = (words : List ℕ) (numbers : List Float) → AllF64 numbers → admitted words numbers ≡ true → (s : Float) → IsF64 s → on_road (road_of words numbers) s ≡ true → HeightsKept (road_of words numbers) s
