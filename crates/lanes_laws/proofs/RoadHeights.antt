-- Heights at t, of a road that `Admits` at a station on it: at every t in -80..80 the height is within 120.001, its profiles' part within 40.001 and its cross section's within 80; a lane's own heights are within 2.00001.
-- The lateral layer's laws have bounds on values as premises; admission's limits give them.
use Prim.Native.Nat.{ℕ, ◌≤◌, ◌<◌}
use native.Mathlib.Omega.{arith}
use mathlib.Core.Path.{◌≡◌, refl, subst}
use mathlib.Core.Bool.{Bool, true, false, not}
use mathlib.Core.List.{List}
use lib.ListN.{length}
use lib.Dec.{T, ltb, ltb→lt, nltb→le}
use lib.Ieee.{Float, binary64, of_bits, fits, le, neg, add}
use lib.Ieee.Scale.{finite}
use Rattle.float_laws.specs.Binary64.{◌⊕◌, ◌⊖◌, ◌⊗◌, zero64}
use Rattle.float_laws.proofs.Size.{Within, within-mono, within-const}
use Rattle.records.specs.declared.points.HeightDef.{HeightDef}
use Rattle.records.specs.Active.{value_in}
use Rattle.records.specs.Roads.{Road, Strip, StripDef, absent, present, column_of, lane_of, profile_at, strip_at, height_def_at, section_index}
use Rattle.records.proofs.CubicLaws.{value-at}
use Rattle.arithmetic_ranges.specs.Ranges.{largest}
use Rattle.admission.specs.Limits.{greatest_length, greatest_shape, farthest_across, greatest_strip_height, section_extent}
use Rattle.admission_laws.proofs.LimitParts.{limited-parts, lane_count, lane-parts, height-parts}
use Rattle.admission_laws.proofs.RoadBounds.{OnRoad, Across, sized-within, station-within, tshift-within, profile_start-in, shape-within, shape-constant-within, strip_height-within, height-inner-within, height-outer-within}
use Rattle.lanes.specs.Lateral.{strip_height, shape_of, cross_height, height_toward, height_of}
use Rattle.lanes_laws.proofs.StationBounds.{far}
use Rattle.lanes_laws.proofs.StripBounds.{StripWithin, cross-within}
use Rattle.lanes_laws.proofs.LateralBounds.{two-wide, wider-two, height_within_lem, ProfilesAt, profile-within, forty-wide, wider-forty, shape-within as profiles-within, shift-within, height-most, toward-most}
use Rattle.lanes_borders.proofs.BorderLaws.{eighty}
use Rattle.lanes_laws.proofs.AdmittedRoad.{far-own, length-far, Admits, within-across, s-near, section-there, into, into-near}

-- ---- the constants

largest-own : Within binary64 largest largest
unfolding of_bits fits le neg
largest-own = within-const binary64 largest largest tt

strip-own : Within binary64 greatest_strip_height greatest_strip_height
unfolding of_bits fits le neg
strip-own = within-const binary64 greatest_strip_height greatest_strip_height tt

strips-twice : T (finite (greatest_strip_height ⊕ greatest_strip_height)) × (greatest_strip_height ⊕ greatest_strip_height ≡ eighty)
unfolding of_bits add
strips-twice = (tt, refl)

no-strip : (strip : Strip) (d : StripDef) → strip ≡ absent → strip ≡ present d → ⊥
no-strip strip d e f = let z : ◌≡◌ {A = ℕ} 0 1 = cc in omega arith

module _ (road : Road) (a : Admits road) (s : Float) (o : OnRoad road s) where
  -- ---- at t
  module _ (t : Float) (c : Across t) where
    profiles : ProfilesAt road t greatest_shape
    profiles =
        record {
          starts = λ i l.
              let z = profile_start-in road a.fit a.limits i l in
              let w = station-within road a.fit a.limits (profile_at road i).s (record { fits = z.value.fits; above = z.above; below = z.below }) in
              within-mono binary64 (profile_at road i).s greatest_length far w far-own.bound length-far.1;
          values = λ i l.
              profile-within road i t greatest_shape
              (λ k e. subst (λ (v : Float). Within binary64 v greatest_shape) (value-at (profile_at road i).shapes t k e) (shape-within road a.fit a.limits i l t c))
              (λ e. shape-constant-within road a.fit a.limits i l 0 (a.shapes i l));
          apart = a.order.profiles;
        }

    shifted : Within binary64 (t ⊖ value_in road.tshifts s) farthest_across
    shifted = shift-within t (value_in road.tshifts s) (within-across t c) (tshift-within road a.fit a.limits s o)

  -- a strip's height, as far out as 88
  strip-there : (i : ℕ) → i < 4 → (d : StripDef) → strip_at road i ≡ present d → StripWithin s farthest_across greatest_strip_height d
  unfolding strip_height
  strip-there i l d e dt w =
      subst
      (λ (x : Strip).
      Within binary64
      ((((zero64 ⊗ dt ⊕ value_in (column_of x 4) s) ⊗ dt ⊕ value_in (column_of x 3) s) ⊗ dt ⊕ value_in (column_of x 2) s) ⊗ dt ⊕ value_in (column_of x 1) s) greatest_strip_height)
      e (strip_height-within road a.fit a.limits i l s o dt w)

  strips : (i : ℕ) (d : StripDef) → strip_at road i ≡ present d → StripWithin s farthest_across greatest_strip_height d
  strips i d e = go (ltb i 4) (ltb→lt i 4) (nltb→le i 4)
    where
      go : (b : Bool) → (T b → i < 4) → (T (not b) → 4 ≤ i) → StripWithin s farthest_across greatest_strip_height d
      go true h k = strip-there i (h tt) d e
      go false h k = absurd (no-strip (strip_at road i) d (a.strips i (k tt)) e)

  module _ (t : Float) (c : Across t) where
    -- 40.001
    pub shape-kept : Within binary64 (shape_of road s t) forty-wide
    shape-kept = profiles-within road s t wider-forty (profiles t c) (s-near road a s o)

    -- 80
    pub cross-kept : (toward : Float) → Within binary64 (cross_height road s t toward) eighty
    cross-kept toward =
        subst (λ (x : Float). Within binary64 (cross_height road s t toward) x) strips-twice.1
        (cross-within road s t toward farthest_across greatest_strip_height (shifted t c) strip-own.bound strip-own.plus strips-twice.0 strips)

    -- 120.001
    pub toward-kept : (toward : Float) → Within binary64 (height_toward road s t toward) height-most
    toward-kept toward = toward-most road s t toward (profiles t c) (s-near road a s o) (shifted t c) strips

  -- ---- a lane's own heights, in the section at s
  module _ (right : Bool) (k : ℕ) (l : k < lane_count road (section_index road s) right) where
    abbrev own : List HeightDef
    own = (lane_of road (section_index road s) right k).heights

    starts : (j : ℕ) → j < length own → Within binary64 (height_def_at own j).s_offset largest
    starts j h =
        let i = section_index road s in
        let p = lane-parts road i right k ((limited-parts road a.limits).sections i (section-there road a s o)) l in
        sized-within largest (height_def_at own j).s_offset largest-own.bound (a.fit.heights i right k j).start (height-parts (section_extent road i) (lane_of road i right k) p j h).start

    -- 2.00001, at the inner border and at the outer
    pub own-kept : Within binary64 (height_of own (into road s)).inner two-wide × Within binary64 (height_of own (into road s)).outer two-wide
    own-kept =
        let apart = (a.order.lanes (section_index road s) k right).heights in
        height_within_lem own (into road s) wider-two
        (record { starts = starts; values = height-inner-within road a.fit a.limits (section_index road s) (section-there road a s o) right k l; apart = apart })
        (record { starts = starts; values = height-outer-within road a.fit a.limits (section_index road s) (section-there road a s o) right k l; apart = apart })
        (into-near road a s o)
