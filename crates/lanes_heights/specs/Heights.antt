-- Document 01, "Values": "`side_heights`" ("Level holds from its lane outward").
-- tangent is that of the bank; what a side's heights are is said for every f64 in its place.
use Prim.Native.Nat.{ℕ, zero, suc}
use Rattle.std.specs.Prelude.{Bool, true, false, ◌||◌, cond, List, length, get_or, ltb, Float}
use Rattle.float_laws.specs.Binary64.{◌⊕◌, ◌⊖◌, ◌⊗◌}
use Rattle.records_lent.specs.Lists.{any_below}
use Rattle.records.specs.Roads.{Road, Lane, no_lane, section_of}
use Rattle.lanes_borders.specs.declared.borders.LaneBorders.{LaneBorders}
use Rattle.lanes_borders.specs.declared.sides.SideAt.{SideAt}
use Rattle.lanes.specs.declared.border_heights.BorderHeights.{BorderHeights}
use Rattle.lanes_heights.specs.declared.across.Across.{Across}
use Rattle.lanes.specs.Lateral.{height_of, height_toward}
use Rattle.lanes.specs.Sides.{sign_of}
use Rattle.lanes_borders.specs.Borders.{base_at, side_lanes, borders_from, borders_of}

-- "Level holds from its lane outward": the k-th lane or one inside it is level
unfoldable pub level_up_to : List Lane → ℕ → Bool
level_up_to lanes zero = (get_or lanes 0 no_lane).level
level_up_to lanes (suc k) = level_up_to lanes k || (get_or lanes (suc k) no_lane).level

-- a level lane's heights: its own on top of the height at which its inner neighbour ends, foot
abbrev pub level_heights : BorderHeights → Float → Float → Float → Float → BorderHeights
level_heights own foot sign width tangent = record { inner = foot ⊕ own.inner; outer = (foot ⊖ sign ⊗ width ⊗ tangent) ⊕ own.outer }

-- any other lane's: its own, and the road's at each border
abbrev pub tilted_heights : Road → Float → BorderHeights → LaneBorders → Float → BorderHeights
tilted_heights road s own b sign = record { inner = own.inner ⊕ height_toward road s b.inner sign; outer = own.outer ⊕ height_toward road s b.outer sign }

-- a lane across, from its own heights and its borders, where its inner neighbour ends at the height foot
abbrev pub across_by : Road → Float → BorderHeights → LaneBorders → Float → Float → Float → Bool → Across
across_by road s own b foot sign tangent level =
    let h = cond level (level_heights own foot sign b.width tangent) (tilted_heights road s own b sign) in
    record { inner_t = b.inner; outer_t = b.outer; inner_height = h.inner; outer_height = h.outer }

-- the same of a side of a road at a station, from the lane's inner border
abbrev pub across_from : Road → Float → SideAt → Float → Lane → Float → Float → Bool → Across
across_from road s side tangent lane inner foot level =
    across_by road s (height_of lane.heights side.into) (borders_from lane side.sign inner side.into) foot side.sign tangent level

module _ (road : Road) (i : ℕ) (s : Float) (tangent : Float) (right : Bool) where
  -- `height_at` of the k-th lane
  abbrev pub own_heights : ℕ → BorderHeights
  own_heights k = height_of (get_or (side_lanes road i right) k no_lane).heights (s ⊖ (section_of road i).start)

  -- the k-th lane's heights, its inner neighbour ending at the height foot
  abbrev pub heights_from : Float → ℕ → BorderHeights
  heights_from foot k =
      cond (level_up_to (side_lanes road i right) k)
      (level_heights (own_heights k) foot (sign_of right) (borders_of road i s right k).width tangent)
      (tilted_heights road s (own_heights k) (borders_of road i s right k) (sign_of right))

  -- the height at the outer border after k lanes; at the base after none
  unfoldable pub height_after : ℕ → Float
  unfolding level_up_to height_of height_toward
  height_after zero = height_toward road s (base_at road s) (sign_of right)
  height_after (suc k) = (heights_from (height_after k) k).outer

  -- the k-th lane's heights at its borders
  unfoldable pub heights_at : ℕ → BorderHeights
  unfolding height_after level_up_to height_of height_toward
  heights_at k = heights_from (height_after k) k

  -- `Across`: its borders and its heights there
  unfoldable pub across_at : ℕ → Across
  unfolding heights_at
  across_at k =
      let b = borders_of road i s right k in
      let h = heights_at k in
      record { inner_t = b.inner; outer_t = b.outer; inner_height = h.inner; outer_height = h.outer }

-- ---- `RoadSection::raised`: a lane has heights or is level

abbrev pub is_raised : Lane → Bool
is_raised lane = ltb 0 (length lane.heights) || lane.level

unfoldable pub section_raised : Road → ℕ → Bool
unfolding any_below
section_raised road i =
    any_below (λ k. is_raised (get_or (side_lanes road i false) k no_lane)) (length (side_lanes road i false))
    || any_below (λ k. is_raised (get_or (side_lanes road i true) k no_lane)) (length (side_lanes road i true))
