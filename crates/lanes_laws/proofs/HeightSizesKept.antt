-- `HeightSizes` holds: the laws of HeightsKept, their bounds turned from f64 to whole numbers and fractions.
use Prim.Native.Nat.{ℕ, ◌*◌, ◌^◌, ◌≤◌, ◌<◌}
use native.Mathlib.Nat.{le_of_eq}
use mathlib.Core.Path.{◌≡◌, refl}
use mathlib.Core.Bool.{Bool, true, false}
use mathlib.Core.List.{List}
use mathlib.Core.Logic.{inl, inr}
use lib.Dec.{lit≤}
use lib.ListN.{length, get_or}
use lib.Ieee.{Float, binary64, low, of_bits, fits}
use Rattle.float_laws.specs.Binary64.{◌⊖◌}
use Rattle.float_laws.proofs.Value.{pl, mi, Real}
use Rattle.float_laws.proofs.Size.{Within}
use Rattle.arithmetic_sine.specs.Sine.{one, tan_of}
use Rattle.records.specs.Active.{value_in}
use Rattle.records.specs.Roads.{Road, road_of, no_lane, section_of, section_index}
use Rattle.admission.specs.Limits.{on_road}
use Rattle.admission_arguments.specs.Arguments.{across_road}
use Rattle.admission_laws.specs.Fractions.{IsF64, AllF64, AtMost, Between}
use Rattle.admission_laws.proofs.FractionLaws.{at_most-within, within-at_most, within-at_most-part}
use Rattle.admission.specs.Admission.{admitted}
use Rattle.lanes.specs.Lateral.{shape_of, cross_height, height_toward, height_of}
use Rattle.lanes_laws.proofs.LateralBounds.{two-wide, forty-wide, height-most}
use Rattle.lanes_borders.specs.Borders.{side_lanes}
use Rattle.lanes_borders.proofs.BorderLaws.{eighty}
use Rattle.lanes_heights.specs.declared.across.Across.{Across}
use Rattle.lanes_heights.specs.Heights.{heights_at, across_at}
use Rattle.lanes_heights.specs.HeightAcross.{height_within, height_across}
use Rattle.lanes_laws.specs.HeightSizes.{AcrossKept, OwnKept, LaneHeightsKept, HeightSizes}
use Rattle.lanes_laws.proofs.BorderHeights.{border-most}
use Rattle.lanes_laws.proofs.LaneHeights.{across-most}
use Rattle.lanes_laws.proofs.HeightsKept.{profiles-kept, cross-section-kept, height-kept, own_heights-kept, heights-kept, height_within-kept, height_across-kept, bank_tangent-kept}

-- ---- the bounds in units of the least f64

one-is : Real binary64 one × (pl binary64 one ≡ 1 * 2 ^ low binary64) × (mi binary64 one ≡ 0)
unfolding of_bits fits pl mi
one-is = (record { finite = tt; fits = tt }, refl, refl)

two-units : pl binary64 two-wide * 100000 ≤ 200001 * 2 ^ low binary64
unfolding of_bits pl
two-units = lit≤ tt

forty-units : pl binary64 forty-wide * 1000 ≤ 40001 * 2 ^ low binary64
unfolding of_bits pl
forty-units = lit≤ tt

eighty-units : pl binary64 eighty ≤ 80 * 2 ^ low binary64
unfolding of_bits pl
eighty-units = lit≤ tt

height-units : pl binary64 height-most * 1000 ≤ 120001 * 2 ^ low binary64
unfolding of_bits pl
height-units = lit≤ tt

border-units : pl binary64 border-most ≤ 840 * 2 ^ low binary64
unfolding of_bits pl
border-units = lit≤ tt

across-units : pl binary64 across-most ≤ 841 * 2 ^ low binary64
unfolding of_bits pl
across-units = lit≤ tt

-- a tangent of size 1 at most
tangent-within : (x : Float) → IsF64 x → AtMost 1 x → Within binary64 x one
tangent-within x f a = at_most-within x one f 1 one-is a

-- ---- an admitted road at s

module _ (words : List ℕ) (numbers : List Float) (fitting : AllF64 numbers) (ok : admitted words numbers ≡ true) (s : Float) (fits-s : IsF64 s) (on : on_road (road_of words numbers) s ≡ true) where
  abbrev road : Road
  road = road_of words numbers

  abbrev at : ℕ
  at = section_index road s

  across-kept : (t : Float) → IsF64 t → across_road t ≡ true → AcrossKept road s t
  across-kept t f in-t =
      record {
        profiles = within-at_most-part (shape_of road s t) forty-wide (profiles-kept words numbers fitting ok s fits-s on t f in-t) 40001 1000 forty-units;
        cross_section = λ toward. within-at_most (cross_height road s t toward) eighty (cross-section-kept words numbers fitting ok s fits-s on t f in-t toward) 80 eighty-units;
        height = λ toward. within-at_most-part (height_toward road s t toward) height-most (height-kept words numbers fitting ok s fits-s on t f in-t toward) 120001 1000 height-units;
      }

  own-kept : (right : Bool) (k : ℕ) → k < length (side_lanes road at right) → OwnKept (height_of (get_or (side_lanes road at right) k no_lane).heights (s ⊖ (section_of road at).start))
  own-kept right k l =
      let h = height_of (get_or (side_lanes road at right) k no_lane).heights (s ⊖ (section_of road at).start) in
      let w = own_heights-kept words numbers fitting ok s fits-s on right k l in
      record { own_inner = within-at_most-part h.inner two-wide w.0 200001 100000 two-units; own_outer = within-at_most-part h.outer two-wide w.1 200001 100000 two-units }

  module _ (tangent : Float) (slope : Within binary64 tangent one) (right : Bool) (k : ℕ) (l : k < length (side_lanes road at right)) where
    abbrev lane : Across
    lane = across_at road at s tangent right k

    between-kept : (t : Float) → IsF64 t → Between lane.inner_t lane.outer_t t → Within binary64 (height_across lane t) across-most
    between-kept t f (inl p) = height_across-kept words numbers fitting ok s fits-s on right tangent slope k l false t f p.0 p.1
    between-kept t f (inr p) = height_across-kept words numbers fitting ok s fits-s on right tangent slope k l true t f p.1 p.0

    lane-heights-kept : LaneHeightsKept (heights_at road at s tangent right k) lane
    lane-heights-kept =
        let h = heights-kept words numbers fitting ok s fits-s on right tangent slope k l in
        record {
          of_inner_height = within-at_most (heights_at road at s tangent right k).inner border-most h.0 840 border-units;
          of_outer_height = within-at_most (heights_at road at s tangent right k).outer border-most h.1 840 border-units;
          kept_within = λ t f in-t. within-at_most (height_within lane t) across-most (height_within-kept words numbers fitting ok s fits-s on right tangent slope k l t f in-t) 841 across-units;
          kept_across = λ t f b. within-at_most (height_across lane t) across-most (between-kept t f b) 841 across-units;
        }

pub height-sizes : HeightSizes
height-sizes words numbers fitting ok s f on =
    record {
      across = across-kept words numbers fitting ok s f on;
      own = own-kept words numbers fitting ok s f on;
      lanes = λ tangent g a right k l. lane-heights-kept words numbers fitting ok s f on tangent (tangent-within tangent g a) right k l;
      bank = within-at_most (tan_of (value_in (road_of words numbers).superelevations s)) one (bank_tangent-kept words numbers fitting ok s f on) 1 (le_of_eq one-is.1);
      bank_f64 = (bank_tangent-kept words numbers fitting ok s f on).value.fits;
    }
