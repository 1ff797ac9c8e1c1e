-- The borders of the section at s, of a road that `Admits` at a station on it: within 80 of the line, and none behind the one before it. By the laws on borders, whose premises are admission's limits.
use Prim.Native.Nat.{ℕ, ◌<◌}
use mathlib.Core.Path.{subst}
use mathlib.Core.Bool.{Bool}
use lib.ListN.{length, get_or}
use lib.Ieee.{Float, binary64}
use Rattle.float_laws.proofs.Size.{Within}
use Rattle.records.specs.Roads.{Road, lane_of, no_lane, section_index}
use Rattle.records.proofs.CubicLaws.{value-at}
use Rattle.admission_laws.proofs.RoadBounds.{OnRoad, offset-within, width-within, border-within}
use Rattle.lanes_borders.specs.Borders.{base_at, side_lanes, borders_of}
use Rattle.lanes_borders.proofs.Outward.{Ahead}
use Rattle.lanes_borders.proofs.BorderLaws.{eight, thirty_six, eighty, ExtentWithin, inner-within, outer-border-within, outer-ahead}
use Rattle.lanes_laws.proofs.AdmittedRoad.{Admits, section-there, into, in-section}

module _ (road : Road) (a : Admits road) (s : Float) (o : OnRoad road s) where
  abbrev at : ℕ
  at = section_index road s

  pub center : Within binary64 (base_at road s) eight
  center = offset-within road a.fit a.limits s o

  module _ (right : Bool) where
    abbrev count : ℕ
    count = length (side_lanes road at right)

    pub extents : (k : ℕ) → k < count → ExtentWithin (get_or (side_lanes road at right) k no_lane) (into road s)
    extents k l =
        record {
          width = width-within road a.fit a.limits at (section-there road a s o) right k l (into road s) (in-section road a s o);
          border = λ e j f. subst (λ (v : Float). Within binary64 v thirty_six) (value-at (lane_of road at right k).extents (into road s) j f)
              (border-within road a.fit a.limits at (section-there road a s o) right k l (into road s) (in-section road a s o) e);
        }

    pub inner-kept : (k : ℕ) → k < count → Within binary64 (borders_of road at s right k).inner eighty
    inner-kept = inner-within (side_lanes road at right) right (base_at road s) (into road s) (a.few at right) center extents

    pub outer-kept : (k : ℕ) → k < count → Within binary64 (borders_of road at s right k).outer eighty
    outer-kept = outer-border-within (side_lanes road at right) right (base_at road s) (into road s) (a.few at right) center extents

    pub ahead-kept : (k : ℕ) → k < count → Ahead right (borders_of road at s right k).inner (borders_of road at s right k).outer
    ahead-kept = outer-ahead (side_lanes road at right) right (base_at road s) (into road s) (a.few at right) center extents
