-- Document 01, "Values": "Lanes by `side_borders`": the t of each lane's borders, from the center outward.
-- sign is 1 for the left side and -1 for the right, base the t of the center. into is the distance into the section, s the station.
use Rattle.std.specs.Prelude.{ℕ, zero, suc, ◌+◌, Bool, true, false, cond, List, [], ◌∷◌, ◌++◌, length, get_or, Float, Option, Some, None}
use Rattle.float_laws.specs.Binary64.{◌⊕◌, ◌⊖◌, ◌⊗◌, zero64}
use Rattle.records_cubic.specs.Cubics.{cubic_at, eval_at}
use Rattle.records.specs.Active.{active_in, value_in}
use Rattle.records.specs.Roads.{Road, Lane, no_lane, section_of}
use Rattle.lanes.specs.Sides.{sign_of}
use Rattle.lanes_borders.specs.declared.borders.LaneBorders.{LaneBorders}
use Rattle.arithmetic_ranges.specs.Ranges.{width_or_zero}

-- a border lane's width: from its inner border to the border record's t; none active is 0 wide, not a border at 0
abbrev pub border_width : Lane → Float → Float → Float → Option ℕ → Float
border_width lane sign inner into (Some i) = sign ⊗ (eval_at (cubic_at lane.extents i) into ⊖ inner)
border_width lane sign inner into None = zero64

-- "Width: NaN or below 0 becomes 0"
unfoldable pub width_of : Lane → Float → Float → Float → Float
unfolding active_in value_in
width_of lane sign inner into =
    width_or_zero (cond lane.border (border_width lane sign inner into (active_in lane.extents into)) (value_in lane.extents into))

-- the outer border after k lanes of a side; the base after none
unfoldable pub outer_after : List Lane → Float → Float → Float → ℕ → Float
unfolding width_of
outer_after lanes sign base into zero = base
outer_after lanes sign base into (suc k) =
    let inner = outer_after lanes sign base into k in inner ⊕ sign ⊗ width_of (get_or lanes k no_lane) sign inner into

-- a lane's borders from its inner one
abbrev pub borders_from : Lane → Float → Float → Float → LaneBorders
borders_from lane sign inner into = record { inner = inner; outer = inner ⊕ sign ⊗ width_of lane sign inner into; width = width_of lane sign inner into }

-- the k-th lane's borders
unfoldable pub borders_at : List Lane → Float → Float → Float → ℕ → LaneBorders
unfolding outer_after width_of
borders_at lanes sign base into k = borders_from (get_or lanes k no_lane) sign (outer_after lanes sign base into k) into

-- ---- a section of a road at s

-- the t of the center, by the table "offset"
abbrev pub base_at : Road → Float → Float
base_at road s = value_in road.offsets s

abbrev pub side_lanes : Road → ℕ → Bool → List Lane
side_lanes road i right = cond right (section_of road i).right (section_of road i).left

-- the lanes of both sides
abbrev pub lanes_of : Road → ℕ → ℕ
lanes_of road i = length (section_of road i).left + length (section_of road i).right

-- the borders of the k-th lane of a side of section i
abbrev pub borders_of : Road → ℕ → Float → Bool → ℕ → LaneBorders
borders_of road i s right k = borders_at (side_lanes road i right) (sign_of right) (base_at road s) (s ⊖ (section_of road i).start) k

-- three f64 a lane, the first n of a side
unfoldable pub side_list : (ℕ → LaneBorders) → ℕ → List Float
side_list b zero = []
side_list b (suc n) = side_list b n ++ ((b n).inner ∷ (b n).outer ∷ (b n).width ∷ [])

-- "inner, outer and width, three f64 a lane, left lanes outward, then right"
unfoldable pub border_list : Road → ℕ → Float → List Float
unfolding side_list borders_at
border_list road i s = side_list (borders_of road i s false) (length (section_of road i).left) ++ side_list (borders_of road i s true) (length (section_of road i).right)
