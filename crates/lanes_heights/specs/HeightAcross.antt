-- Document 01, "Values": the height at t across a lane, grouped as in src/road.rs.
use Rattle.std.specs.Prelude.{cond, Float}
use Rattle.std.specs.Float.Ieee.{eq}
use Rattle.float_laws.specs.Binary64.{◌⊖◌, f64, zero64}
use Rattle.arithmetic_ranges.specs.Ranges.{clamped, blend, fraction}
use Rattle.lanes_heights.specs.declared.across.Across.{Across}

-- "the fraction across a lane of width 0, or one that comes out as 0/0 because the outer rounds to the inner, is 0": 0 wherever outer less inner is 0, so at a t beyond such a lane too
abbrev pub fraction_at : Across → Float → Float
fraction_at a t = cond (eq (a.outer_t ⊖ a.inner_t) zero64) zero64 (fraction a.inner_t a.outer_t t)

-- "kept to 0..1"; a NaN stays
abbrev pub kept : Float → Float
kept = clamped (f64 0x3ff0_0000_0000_0000)

-- `lane_surface`: straight across the lane and on past its borders
unfoldable pub height_across : Across → Float → Float
height_across a t = blend a.inner_height a.outer_height (fraction_at a t)

-- `surface`: "what a lane's heights add is worked out with the fraction across that lane kept to 0..1"
unfoldable pub height_within : Across → Float → Float
height_within a t = blend a.inner_height a.outer_height (kept (fraction_at a t))
