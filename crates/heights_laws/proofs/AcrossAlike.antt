-- Two roads that are alike across: profiles, cross section, offsets, and starts and lanes of sections. Borders, the lane at t and heights by a tangent are the same of both, whatever their geometries, elevations, banks and marks.
use Prim.Native.Nat.{ℕ, zero, suc}
use mathlib.Core.Path.{◌≡◌, ap, ap₂, ◌∙◌}
use mathlib.Core.Bool.{Bool, true, false, cond, ◌||◌, not}
use mathlib.Core.List.{List}
use lib.ListN.{length, get_or}
use lib.Ieee.{Float}
use Rattle.std.specs.Prelude.{Option, Some, None}
use Rattle.float_laws.specs.Binary64.{◌⊕◌, ◌⊖◌, zero64}
use Rattle.records_cubic.specs.declared.cubics.Cubic.{Cubic}
use Rattle.records_lent.specs.Lists.{any_below, last_that}
use Rattle.records.specs.declared.points.LanePlace.{LanePlace}
use Rattle.records.specs.Active.{value_in, last_start, active_up_to}
use Rattle.records.specs.Roads.{Road, Profile, Lane, no_lane, no_profile, profile_at, section_of}
use Rattle.lanes.specs.declared.border_heights.BorderHeights.{BorderHeights}
use Rattle.lanes.specs.Lateral.{profile_height, shape_between, shape_from, shape_of, cross_height, height_toward, has_cross_section, flat_across}
use Rattle.lanes.specs.Sides.{sign_of}
use Rattle.lanes_borders.specs.declared.borders.LaneBorders.{LaneBorders}
use Rattle.lanes_borders.specs.Borders.{base_at, side_lanes, borders_at, borders_of}
use Rattle.lanes_naming.specs.Naming.{beyond_test, beyond_on, place_by, lane_at}
use Rattle.lanes_heights.specs.declared.across.Across.{Across}
use Rattle.lanes_heights.specs.Heights.{heights_from, height_after, heights_at, across_at, is_raised, section_raised}
use Rattle.lanes_heights.specs.HeightAcross.{height_across, height_within}
use Rattle.surface_points.specs.SurfaceHeights.{stands_off, height_by, standing_height, surface_height_by, lane_height_by}

pub record AcrossAlike (a b : Road) : Type 0 where
  pub profiles : a.profiles ≡ b.profiles
  pub tshifts : a.tshifts ≡ b.tshifts
  pub strips : a.strips ≡ b.strips
  pub offsets : a.offsets ≡ b.offsets
  pub starts : (i : ℕ) → (section_of a i).start ≡ (section_of b i).start
  pub sides : (i : ℕ) (right : Bool) → side_lanes a i right ≡ side_lanes b i right

-- borders and heights as `across_at` lays them
abbrev laid : LaneBorders → BorderHeights → Across
laid b h = record { inner_t = b.inner; outer_t = b.outer; inner_height = h.inner; outer_height = h.outer }

module _ {a b : Road} (alike : AcrossAlike a b) where
  -- ---- the road's own height

  shape_from_lem : (s t : Float) (f : Option ℕ) → shape_from a s t f ≡ shape_from b s t f
  unfolding shape_between profile_height
  shape_from_lem s t (Some i) = rw (alike.profiles)
  shape_from_lem s t None = rw (alike.profiles)

  shape-is : (s t : Float) → shape_of a s t ≡ shape_of b s t
  unfolding shape_of
  shape-is s t =
      shape_from_lem s t (last_start (λ i. (profile_at a i).s) (active_up_to s) (length a.profiles))
      ∙ ap (λ (ps : List Profile). shape_from b s t (last_start (λ i. (get_or ps i no_profile).s) (active_up_to s) (length ps))) alike.profiles

  cross-is : (s t toward : Float) → cross_height a s t toward ≡ cross_height b s t toward
  unfolding cross_height
  cross-is s t toward = rw (alike.tshifts, alike.strips)

  toward-is : (s t toward : Float) → height_toward a s t toward ≡ height_toward b s t toward
  unfolding height_toward
  toward-is s t toward = ap₂ ◌⊕◌ (shape-is s t) (cross-is s t toward)

  flat-is : flat_across a ≡ flat_across b
  unfolding flat_across has_cross_section
  flat-is = rw (alike.profiles, alike.tshifts, alike.strips)

  -- ---- borders, and the lane at t

  pub borders-are : (i : ℕ) (s : Float) (right : Bool) → borders_of a i s right ≡ borders_of b i s right
  borders-are i s right =
      ap₂ (λ (lanes : List Lane) (start : Float). borders_at lanes (sign_of right) (base_at a s) (s ⊖ start)) (alike.sides i right) (alike.starts i)
      ∙ ap (λ (cs : List Cubic). borders_at (side_lanes b i right) (sign_of right) (value_in cs s) (s ⊖ (section_of b i).start)) alike.offsets

  beyond_on-is : (i : ℕ) (s t : Float) (right : Bool) → beyond_on a i s t right ≡ beyond_on b i s t right
  unfolding beyond_on
  beyond_on-is i s t right =
      ap₂ (λ (b : ℕ → LaneBorders) (n : ℕ). last_that (λ k. beyond_test (sign_of right) (b k).inner t) n) (borders-are i s right) (ap length (alike.sides i right))

  lane_at-is : (i : ℕ) (s t : Float) → lane_at a i s t ≡ lane_at b i s t
  unfolding lane_at
  lane_at-is i s t = ap₂ (place_by i) (beyond_on-is i s t false) (beyond_on-is i s t true)

  -- ---- lanes across, by a tangent

  module _ (i : ℕ) (s tangent : Float) (right : Bool) where
    heights_from-is : {x y : Float} → x ≡ y → (k : ℕ) → heights_from a i s tangent right x k ≡ heights_from b i s tangent right y k
    heights_from-is e k = rw (e, borders-are i s right, alike.sides i right, alike.starts i, toward-is s, toward-is s)

    height_after-is : (k : ℕ) → height_after a i s tangent right k ≡ height_after b i s tangent right k
    unfolding height_after
    height_after-is zero = toward-is s (base_at a s) (sign_of right) ∙ ap (λ (cs : List Cubic). height_toward b s (value_in cs s) (sign_of right)) alike.offsets
    height_after-is (suc k) = ap (λ (h : BorderHeights). h.outer) (heights_from-is (height_after-is k) k)

    heights_at-is : (k : ℕ) → heights_at a i s tangent right k ≡ heights_at b i s tangent right k
    unfolding heights_at
    heights_at-is k = heights_from-is (height_after-is k) k

    pub across-is : (k : ℕ) → across_at a i s tangent right k ≡ across_at b i s tangent right k
    unfolding across_at
    across-is k = ap₂ laid (ap (λ (b : ℕ → LaneBorders). b k) (borders-are i s right)) (heights_at-is k)

  -- ---- what stands off, and how high

  raised-on : (i : ℕ) (right : Bool)
      → any_below (λ k. is_raised (get_or (side_lanes a i right) k no_lane)) (length (side_lanes a i right))
      ≡ any_below (λ k. is_raised (get_or (side_lanes b i right) k no_lane)) (length (side_lanes b i right))
  raised-on i right = ap (λ (lanes : List Lane). any_below (λ k. is_raised (get_or lanes k no_lane)) (length lanes)) (alike.sides i right)

  raised-is : (i : ℕ) → section_raised a i ≡ section_raised b i
  unfolding section_raised
  raised-is i = ap₂ ◌||◌ (raised-on i false) (raised-on i true)

  stands_off-is : (i : ℕ) → stands_off a i ≡ stands_off b i
  unfolding stands_off
  stands_off-is i = ap₂ (λ (p q : Bool). p || not q) (raised-is i) flat-is

  height_by-is : (s tangent t : Float) (at : Option LanePlace) → height_by a s tangent t at ≡ height_by b s tangent t at
  height_by-is s tangent t (Some p) = ap (λ c. height_within c t) (across-is p.section s tangent p.right p.k)
  height_by-is s tangent t None = toward-is s t _

  pub standing-is : (i : ℕ) (s tangent t : Float) → standing_height a i s tangent t ≡ standing_height b i s tangent t
  standing-is i s tangent t = height_by-is s tangent t (lane_at a i s t) ∙ ap (height_by b s tangent t) (lane_at-is i s t)

  pub surface_height_by-is : (i : ℕ) (s tangent t : Float) → surface_height_by a i s tangent t ≡ surface_height_by b i s tangent t
  surface_height_by-is i s tangent t = rw (stands_off-is i, standing-is i s tangent t, toward-is s t)

  pub lane_height_by-is : (i : ℕ) (right : Bool) (k : ℕ) (s tangent t : Float) → lane_height_by a i right k s tangent t ≡ lane_height_by b i right k s tangent t
  lane_height_by-is i right k s tangent t = ap₂ (λ off c. cond off (height_across c t) zero64) (stands_off-is i) (across-is i s tangent right k)
