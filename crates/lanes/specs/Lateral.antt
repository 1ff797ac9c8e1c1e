-- Document 01, "Values": "`shape_at`, `height_at`: linear between neighbours, constant outside; before a profile's first shape its a counts", and the cross section, grouped as in src/road.rs.
use Rattle.std.specs.Prelude.{ℕ, ◌+◌, Bool, true, false, ◌&&◌, ◌||◌, not, cond, List, length, ltb, eqb, Float, Option, Some, None}
use Rattle.std.specs.Float.Ieee.{lt}
use Rattle.float_laws.specs.Binary64.{◌⊕◌, ◌⊖◌, ◌⊗◌, f64, zero64, abs_of}
use Rattle.records_cubic.specs.declared.cubics.Cubic.{Cubic}
use Rattle.arithmetic_ranges.specs.Ranges.{width_or_zero, blend, fraction}
use Rattle.records.specs.declared.points.HeightDef.{HeightDef}
use Rattle.records_cubic.specs.Cubics.{cubic_at, eval_at}
use Rattle.records.specs.Active.{active_in, value_in, last_start, active_up_to}
use Rattle.records.specs.Roads.{Road, Strip, StripDef, absent, present, profile_at, strip_at, height_def_at, column_by}
use Rattle.lanes.specs.declared.border_heights.BorderHeights.{BorderHeights}
use Rattle.lanes.specs.Sides.{sign_of, inner_of, outer_of}

-- ---- profiles

-- one profile at t: its active shape; "before a profile's first shape its a counts"
abbrev pub shape_by : List Cubic → Float → Option ℕ → Float
shape_by cs t (Some i) = eval_at (cubic_at cs i) t
shape_by cs t None = (cubic_at cs 0).a

unfoldable pub profile_height : Road → ℕ → Float → Float
unfolding active_in
profile_height road i t = shape_by (profile_at road i).shapes t (active_in (profile_at road i).shapes t)

-- "linear between neighbours", the profiles i and i + 1
unfoldable pub shape_between : Road → ℕ → Float → Float → Float
unfolding profile_height
shape_between road i s t =
    blend (profile_height road i t) (profile_height road (i + 1) t) (fraction (profile_at road i).s (profile_at road (i + 1)).s s)

-- i is the last profile at or before s + 1e-9; "constant outside"; 0 without profiles
abbrev pub shape_from : Road → Float → Float → Option ℕ → Float
shape_from road s t (Some i) = cond (ltb (i + 1) (length road.profiles)) (shape_between road i s t) (profile_height road i t)
shape_from road s t None = cond (eqb (length road.profiles) 0) zero64 (profile_height road 0 t)

-- `shape_at`
unfoldable pub shape_of : Road → Float → Float → Float
unfolding last_start shape_between profile_height
shape_of road s t = shape_from road s t (last_start (λ i. (profile_at road i).s) (active_up_to s) (length road.profiles))

-- ---- `height_at`: a lane's heights, s metres into its section, by the same rule

-- "linear between neighbours"
abbrev pub height_between : HeightDef → HeightDef → Float → BorderHeights
height_between a b s =
    let f = fraction a.s_offset b.s_offset s in
    record { inner = blend a.inner b.inner f; outer = blend a.outer b.outer f }

-- "constant outside"; (0, 0) without heights
abbrev pub height_held : HeightDef → BorderHeights
height_held h = record { inner = h.inner; outer = h.outer }

abbrev pub no_heights : BorderHeights
no_heights = record { inner = zero64; outer = zero64 }

abbrev pub height_from : List HeightDef → Float → Option ℕ → BorderHeights
height_from hs s (Some i) = cond (ltb (i + 1) (length hs)) (height_between (height_def_at hs i) (height_def_at hs (i + 1)) s) (height_held (height_def_at hs i))
height_from hs s None = cond (eqb (length hs) 0) no_heights (height_held (height_def_at hs 0))

unfoldable pub height_of : List HeightDef → Float → BorderHeights
unfolding last_start
height_of hs s = height_from hs s (last_start (λ i. (height_def_at hs i).s_offset) (active_up_to s) (length hs))

-- ---- the cross section

-- a strip's term at s, 0 where none is active
abbrev pub term_at : StripDef → Float → ℕ → Float
term_at d s term = value_in (column_by d (term + 1)) s

-- a strip's height dt across it: its terms 3, 2, 1, 0 by Horner, from 0.0
unfoldable pub strip_height : StripDef → Float → Float → Float
unfolding value_in
strip_height d s dt = (((zero64 ⊗ dt ⊕ term_at d s 3) ⊗ dt ⊕ term_at d s 2) ⊗ dt ⊕ term_at d s 1) ⊗ dt ⊕ term_at d s 0

-- the outer strip, from the inner one's edge sign×w on; relative, it stands on the inner one there
abbrev pub outer_height : StripDef → StripDef → Float → Float → Float → Float → Float
outer_height inner outer s t sign w = cond outer.relative (strip_height inner s (sign ⊗ w)) zero64 ⊕ strip_height outer s (t ⊖ sign ⊗ w)

-- "Outer only beyond the inner's width"; without an outer the inner runs on
abbrev pub past_width : StripDef → Strip → Float → Float → Float → Float → Float
past_width inner absent s t sign w = strip_height inner s t
past_width inner (present outer) s t sign w = cond (lt w (sign ⊗ t)) (outer_height inner outer s t sign w) (strip_height inner s t)

-- "where no inner width is active at s there is no outer"
abbrev pub by_width : StripDef → Strip → Float → Float → Float → Option ℕ → Float
by_width inner outer s t sign (Some i) = past_width inner outer s t sign (width_or_zero (eval_at (cubic_at inner.width i) s))
by_width inner outer s t sign None = strip_height inner s t

-- "No inner strip: 0"
abbrev pub by_side : Strip → Strip → Float → Float → Float → Float
by_side absent outer s t sign = zero64
by_side (present inner) outer s t sign = by_width inner outer s t sign (active_in inner.width s)

-- "at |t - offset| < 1e-9 the side is that of `toward` (left if positive)"
abbrev pub ridge_margin : Float
ridge_margin = f64 0x3e11_2e0b_e826_d695

abbrev pub is_left : Float → Float → Bool
is_left t toward = cond (lt (abs_of t) ridge_margin) (lt zero64 toward) (lt zero64 t)

-- by the strips of the side
abbrev pub cross_by : Road → Float → Float → Bool → Float
cross_by road s t left = let right = not left in by_side (strip_at road (inner_of right)) (strip_at road (outer_of right)) s t (sign_of right)

-- "t - offset" is t less the value of tshift. With no strip the height is 0, so it need not be asked whether there is a cross section
unfoldable pub cross_height : Road → Float → Float → Float → Float
unfolding strip_height active_in value_in
cross_height road s t toward = let shifted = t ⊖ value_in road.tshifts s in cross_by road s shifted (is_left shifted toward)

-- ---- profiles and cross section together: `Lateral::height_toward`, and `Lateral::height`

unfoldable pub height_toward : Road → Float → Float → Float → Float
unfolding shape_of cross_height
height_toward road s t toward = shape_of road s t ⊕ cross_height road s t toward

-- the road's height at t: on the ridge that of the right side
abbrev pub lateral_height : Road → Float → Float → Float
lateral_height road s t = height_toward road s t (sign_of true)

-- "The cross section exists exactly when tshift or strip has a line"
abbrev pub is_present : Strip → Bool
is_present absent = false
is_present (present d) = true

unfoldable pub has_cross_section : Road → Bool
has_cross_section road = ltb 0 (length road.tshifts) || is_present (strip_at road 0) || is_present (strip_at road 1) || is_present (strip_at road 2) || is_present (strip_at road 3)

-- `Lateral::is_empty`
unfoldable pub flat_across : Road → Bool
unfolding has_cross_section
flat_across road = eqb (length road.profiles) 0 && not (has_cross_section road)
