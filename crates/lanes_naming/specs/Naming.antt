-- Which lane lies at t. Two definitions that agree today and are kept apart: "Lane named at t (added)", which the naming call answers, and `lane_at`, by which heights go.
use Rattle.std.specs.Prelude.{ℕ, suc, Bool, true, false, length, ℤ, pos, negsuc, Float, Option, Some, None}
use Rattle.std.specs.Float.Ieee.{lt}
use Rattle.float_laws.specs.Binary64.{◌⊖◌, ◌⊗◌, zero64}
use Rattle.records_lent.specs.Lists.{last_that}
use Rattle.records.specs.declared.points.LanePlace.{LanePlace}
use Rattle.records.specs.Roads.{Road}
use Rattle.lanes.specs.Sides.{sign_of}
use Rattle.lanes_borders.specs.Borders.{side_lanes, borders_of}

-- ---- named: "the last with side sign × (t - inner) > 0, so none at the base, and the outermost beyond all borders"

abbrev pub named_test : Float → Float → Float → Bool
named_test sign inner t = lt zero64 (sign ⊗ (t ⊖ inner))

unfoldable pub named_on : Road → ℕ → Float → Float → Bool → Option ℕ
unfolding last_that
named_on road i s t right = last_that (λ k. named_test (sign_of right) (borders_of road i s right k).inner t) (length (side_lanes road i right))

-- left lanes come before right ones, so that a right one is the last; ids 1, 2, .. left and -1, -2, .. right
abbrev pub name_by : Option ℕ → Option ℕ → Option ℤ
name_by left (Some k) = Some (negsuc k)
name_by (Some k) None = Some (pos (suc k))
name_by None None = None

unfoldable pub lane_named : Road → ℕ → Float → Float → Option ℤ
unfolding named_on
lane_named road i s t = name_by (named_on road i s t false) (named_on road i s t true)

-- ---- `lane_at`: the last whose inner border t lies beyond, of left then right

abbrev pub beyond_test : Float → Float → Float → Bool
beyond_test sign inner t = lt zero64 (sign ⊗ (t ⊖ inner))

unfoldable pub beyond_on : Road → ℕ → Float → Float → Bool → Option ℕ
unfolding last_that
beyond_on road i s t right = last_that (λ k. beyond_test (sign_of right) (borders_of road i s right k).inner t) (length (side_lanes road i right))

-- the place of that lane in section i
abbrev pub place_by : ℕ → Option ℕ → Option ℕ → Option LanePlace
place_by i left (Some k) = Some (record { section = i; right = true; k = k })
place_by i (Some k) None = Some (record { section = i; right = false; k = k })
place_by i None None = None

unfoldable pub lane_at : Road → ℕ → Float → Float → Option LanePlace
unfolding beyond_on
lane_at road i s t = place_by i (beyond_on road i s t false) (beyond_on road i s t true)
