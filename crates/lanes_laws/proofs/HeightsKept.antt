-- Demand 3 on heights, as far as it needs lanes alone: for every admitted road and every s in 0..length, the heights that a surface point is raised by are bounded. What the layers above cite.
-- The road's numbers, s and t are f64 (`Fitting`, `Fits64`); every bound is on the exact size (`Within`): 40.001 for profiles, 80 for the cross section, 120.001 for both, 2.00001 for a lane's own heights, 840 at a lane's borders, 841 across a lane.
use Prim.Native.Nat.{ℕ, ◌≤◌, ◌<◌}
use mathlib.Core.Path.{◌≡◌}
use mathlib.Core.Bool.{Bool, true}
use mathlib.Core.List.{List}
use lib.Dec.{T}
use lib.ListN.{length, get_or}
use lib.Ieee.{Float, binary64, le, neg, of_bits, fits}
use Rattle.float_laws.specs.Binary64.{◌⊖◌}
use Rattle.float_laws.proofs.Size.{Within, within-mono, within-const}
use Rattle.arithmetic_sine.specs.Sine.{one, tan_of}
use Rattle.arithmetic_sine.proofs.SineKernel.{point-75, point-76}
use Rattle.arithmetic_laws.proofs.SineLaws.{tan-within}
use Rattle.records.specs.Active.{value_in}
use Rattle.records.specs.Roads.{Road, road_of, no_lane, section_of, section_index}
use Rattle.arithmetic_ranges.specs.Ranges.{in_range}
use Rattle.admission.specs.Limits.{on_road}
use Rattle.admission_laws.proofs.Fitting.{Fits64, Fitting}
use Rattle.admission_laws.proofs.RoadBounds.{OnRoad, superelevation-within}
use Rattle.admission.specs.Admission.{admitted}
use Rattle.lanes.specs.Lateral.{shape_of, cross_height, height_toward, height_of}
use Rattle.lanes_laws.proofs.LateralBounds.{two-wide, forty-wide, height-most}
use Rattle.lanes_borders.specs.Borders.{side_lanes}
use Rattle.lanes_heights.specs.Heights.{height_after, heights_at, across_at}
use Rattle.lanes_heights.specs.HeightAcross.{height_within, height_across}
use Rattle.lanes_borders.proofs.Outward.{Ahead}
use Rattle.lanes_borders.proofs.BorderLaws.{eighty}
use Rattle.admission_laws.proofs.Places.{on_road_lem, across_of_lem}
use Rattle.lanes_laws.proofs.AdmittedRoad.{Admits, admits, within-across}
use Rattle.lanes_laws.proofs.RoadHeights.{shape-kept, cross-kept, toward-kept, own-kept}
use Rattle.lanes_laws.proofs.BordersKept.{inner-kept, outer-kept}
use Rattle.lanes_laws.proofs.BorderHeights.{border-most, after_kept, border-heights-kept}
use Rattle.lanes_laws.proofs.LaneHeights.{LaneKept, across-most, within-most, between-most}

point-76-own : Within binary64 point-76 point-76
unfolding of_bits fits le neg
point-76-own = within-const binary64 point-76 point-76 tt

bank-below : T (le point-75 point-76)
unfolding of_bits le
bank-below = tt

module _ (words : List ℕ) (numbers : List Float) (fitting : Fitting numbers) (ok : admitted words numbers ≡ true) (s : Float) (fits-s : Fits64 s) (on : on_road (road_of words numbers) s ≡ true) where
  abbrev road : Road
  road = road_of words numbers

  -- the section at s
  abbrev at : ℕ
  at = section_index road s

  a : Admits road
  a = admits words numbers fitting ok

  o : OnRoad road s
  o = on_road_lem road s fits-s on

  -- ---- at t in -80..80, whichever side `toward` takes on the ridge
  module _ (t : Float) (fits-t : Fits64 t) (inside : in_range (neg eighty) eighty t ≡ true) where
    pub profiles-kept : Within binary64 (shape_of road s t) forty-wide
    profiles-kept = shape-kept road a s o t (across_of_lem t fits-t inside)

    pub cross-section-kept : (toward : Float) → Within binary64 (cross_height road s t toward) eighty
    cross-section-kept toward = cross-kept road a s o t (across_of_lem t fits-t inside) toward

    pub height-kept : (toward : Float) → Within binary64 (height_toward road s t toward) height-most
    height-kept toward = toward-kept road a s o t (across_of_lem t fits-t inside) toward

  -- ---- of the lanes of the section at s, right or left
  module _ (right : Bool) where
    -- a lane's own heights
    pub own_heights-kept : (k : ℕ) → k < length (side_lanes road at right)
        → Within binary64 (height_of (get_or (side_lanes road at right) k no_lane).heights (s ⊖ (section_of road at).start)).inner two-wide
        × Within binary64 (height_of (get_or (side_lanes road at right) k no_lane).heights (s ⊖ (section_of road at).start)).outer two-wide
    own_heights-kept k l = own-kept road a s o right k l

    -- ---- at its borders, for every tangent of size 1 at most
    module _ (tangent : Float) (slope : Within binary64 tangent one) where
      pub height_after-kept : (k : ℕ) → k ≤ length (side_lanes road at right) → Within binary64 (height_after road at s tangent right k) border-most
      height_after-kept k l = after_kept road a s o right tangent slope k l

      pub heights-kept : (k : ℕ) → k < length (side_lanes road at right)
          → Within binary64 (heights_at road at s tangent right k).inner border-most × Within binary64 (heights_at road at s tangent right k).outer border-most
      heights-kept k l = border-heights-kept road a s o right tangent slope k l

      -- ---- across it
      module _ (k : ℕ) (l : k < length (side_lanes road at right)) where
        pub lane-kept : LaneKept (across_at road at s tangent right k)
        unfolding across_at
        lane-kept =
            let h = heights-kept k l in
            record { of_inner_t = inner-kept road a s o right k l; of_outer_t = outer-kept road a s o right k l; of_inner_height = h.0; of_outer_height = h.1 }

        -- at every t in -80..80, with the fraction kept to 0..1
        pub height_within-kept : (t : Float) → Fits64 t → in_range (neg eighty) eighty t ≡ true → Within binary64 (height_within (across_at road at s tangent right k) t) across-most
        height_within-kept t f e = within-most (across_at road at s tangent right k) lane-kept t (within-across t (across_of_lem t f e))

        -- at every t between its borders, both included: from the inner up to the outer, or down to it
        pub height_across-kept : (down : Bool) (t : Float) → Fits64 t → Ahead down (across_at road at s tangent right k).inner_t t → Ahead down t (across_at road at s tangent right k).outer_t
            → Within binary64 (height_across (across_at road at s tangent right k) t) across-most
        height_across-kept down t f p q = between-most (across_at road at s tangent right k) lane-kept down t f p q

  -- ---- the tangent of the road's bank at s is such a one
  abbrev bank_tangent : Float
  bank_tangent = tan_of (value_in road.superelevations s)

  pub bank_tangent-kept : Within binary64 bank_tangent one
  bank_tangent-kept =
      let bank = value_in road.superelevations s in
      tan-within bank (within-mono binary64 bank point-75 point-76 (superelevation-within road a.fit a.limits s o) point-76-own.bound bank-below)

  module _ (right : Bool) (k : ℕ) (l : k < length (side_lanes road at right)) where
    pub banked-heights-kept : Within binary64 (heights_at road at s bank_tangent right k).inner border-most × Within binary64 (heights_at road at s bank_tangent right k).outer border-most
    banked-heights-kept = heights-kept right bank_tangent bank_tangent-kept k l

    pub banked-within-kept : (t : Float) → Fits64 t → in_range (neg eighty) eighty t ≡ true → Within binary64 (height_within (across_at road at s bank_tangent right k) t) across-most
    banked-within-kept = height_within-kept right bank_tangent bank_tangent-kept k l

    pub banked-across-kept : (down : Bool) (t : Float) → Fits64 t → Ahead down (across_at road at s bank_tangent right k).inner_t t → Ahead down t (across_at road at s bank_tangent right k).outer_t
        → Within binary64 (height_across (across_at road at s bank_tangent right k) t) across-most
    banked-across-kept = height_across-kept right bank_tangent bank_tangent-kept k l
