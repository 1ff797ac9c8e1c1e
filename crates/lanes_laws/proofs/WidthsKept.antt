-- A lane's width, of a side's borders under the premises of the lanes layer's laws: finite, and not below zero.
use Prim.Native.Nat.{ℕ, ◌≤◌, ◌<◌}
use native.Mathlib.Nat.{le_refl, le_of_lt, le_of_suc-le}
use mathlib.Core.Path.{◌≡◌, refl, sym, subst}
use mathlib.Core.Bool.{Bool, true, false, cond}
use mathlib.Core.List.{List}
use lib.Dec.{T}
use lib.ListN.{length, get_or}
use lib.Ieee.{Float, binary64, le, lt}
use Rattle.float_laws.specs.Binary64.{zero64}
use Rattle.float_laws.proofs.Value.{Real, lt→units, units→le}
use Rattle.float_laws.proofs.Size.{Within}
use Rattle.records.specs.Active.{active_in, value_in}
use Rattle.records.specs.Roads.{Lane, no_lane}
use Rattle.arithmetic_ranges.specs.Ranges.{width_or_zero}
use Rattle.lanes.specs.Sides.{sign_of}
use Rattle.lanes_borders.specs.Borders.{border_width, width_of, outer_after, borders_at}
use Rattle.lanes_borders.proofs.BorderLaws.{eight, eighty, zero-whole, ExtentWithin, outer-within}
use Rattle.lanes_laws.proofs.BorderHeights.{widest, width-most}

-- what is kept of a width, or zero, is not below zero
not-below : (v : Float) → Real binary64 (width_or_zero v) → T (le zero64 (width_or_zero v))
not-below v = go (lt zero64 v) refl
  where
    go : (b : Bool) → lt zero64 v ≡ b → Real binary64 (cond b v zero64) → T (le zero64 (cond b v zero64))
    go true e r = units→le binary64 zero64 v zero-whole.value r (le_of_lt (lt→units binary64 zero64 v zero-whole.value r (subst T (sym e) tt)))
    go false e r = units→le binary64 zero64 zero64 r r (le_refl _)

-- ---- a side's widths: at most six lanes, on either side of a base of size 8 at most

module _ (lanes : List Lane) (right : Bool) (base s : Float) (few : length lanes ≤ 6) (center : Within binary64 base eight) (extents : (k : ℕ) → k < length lanes → ExtentWithin (get_or lanes k no_lane) s) where
  abbrev outer : ℕ → Float
  outer k = outer_after lanes (sign_of right) base s k

  kept : (k : ℕ) → k < length lanes → Within binary64 (width_of (get_or lanes k no_lane) (sign_of right) (outer k) s) widest
  kept k h = width-most (get_or lanes k no_lane) right (outer k) s (extents k h) (outer-within lanes right base s few center extents k (le_of_suc-le h))

  -- a width is finite and not below zero
  pub width-real : (k : ℕ) → k < length lanes → Real binary64 (borders_at lanes (sign_of right) base s k).width
  unfolding borders_at
  width-real k h = (kept k h).value

  pub width-not_below : (k : ℕ) → k < length lanes → T (le zero64 (borders_at lanes (sign_of right) base s k).width)
  unfolding borders_at width_of
  width-not_below k h =
      let lane = get_or lanes k no_lane in
      not-below (cond lane.border (border_width lane (sign_of right) (outer k) s (active_in lane.extents s)) (value_in lane.extents s)) (kept k h).value
