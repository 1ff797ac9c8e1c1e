-- `LaneSizes` holds: the limits of row 4 on a section's lanes, at the section that s lies in.
use Prim.Native.Nat.{ℕ, ◌*◌, ◌^◌, ◌≤◌, ◌<◌}
use mathlib.Core.Bool.{Bool}
use lib.Dec.{lit≤}
use lib.ListN.{length, get_or}
use lib.Ieee.{Float, binary64, low, of_bits}
use Rattle.float_laws.specs.Binary64.{f64}
use Rattle.float_laws.proofs.Value.{pl}
use Rattle.records.specs.Active.{value_in}
use Rattle.records.specs.Roads.{Road, road_of, lane_of, no_lane, section_index, height_def_at}
use Rattle.admission_laws.proofs.FractionLaws.{within-at_most}
use Rattle.admission_laws.proofs.Places.{on_road_lem}
use Rattle.admission_laws.proofs.RoadBounds.{OnRoad, width-within, border-within, height-inner-within, height-outer-within}
use Rattle.lanes_borders.specs.Borders.{side_lanes}
use Rattle.lanes_laws.specs.LaneSizes.{LaneValues, LaneSizes}
use Rattle.lanes_laws.proofs.AdmittedRoad.{Admits, admits, section-there, into, in-section}

-- ---- the bounds in units of the least f64

two-units : pl binary64 (f64 0x4000_0000_0000_0000) ≤ 2 * 2 ^ low binary64
unfolding of_bits pl
two-units = lit≤ tt

eight-units : pl binary64 (f64 0x4020_0000_0000_0000) ≤ 8 * 2 ^ low binary64
unfolding of_bits pl
eight-units = lit≤ tt

border-units : pl binary64 (f64 0x4042_0000_0000_0000) ≤ 36 * 2 ^ low binary64
unfolding of_bits pl
border-units = lit≤ tt

-- ---- the lanes

module _ (road : Road) (a : Admits road) (s : Float) (o : OnRoad road s) where
  abbrev at : ℕ
  at = section_index road s

  lane-values : (right : Bool) (k : ℕ) → k < length (side_lanes road at right) → LaneValues (get_or (side_lanes road at right) k no_lane) (into road s)
  lane-values right k l =
      let lane = lane_of road at right k in
      let there = section-there road a s o in
      record {
        width = λ e. within-at_most (value_in lane.extents (into road s)) (f64 0x4020_0000_0000_0000) (width-within road a.fit a.limits at there right k l (into road s) (in-section road a s o) e) 8 eight-units;
        border = λ e. within-at_most (value_in lane.extents (into road s)) (f64 0x4042_0000_0000_0000) (border-within road a.fit a.limits at there right k l (into road s) (in-section road a s o) e) 36 border-units;
        inner = λ j m. within-at_most (height_def_at lane.heights j).inner (f64 0x4000_0000_0000_0000) (height-inner-within road a.fit a.limits at there right k l j m) 2 two-units;
        outer = λ j m. within-at_most (height_def_at lane.heights j).outer (f64 0x4000_0000_0000_0000) (height-outer-within road a.fit a.limits at there right k l j m) 2 two-units;
      }

pub lane-sizes : LaneSizes
lane-sizes words numbers fitting ok s f on =
    let road = road_of words numbers in
    let a = admits words numbers fitting ok in
    let o = on_road_lem road s f on in
    record { section = section-there road a s o; few = a.few (section_index road s); lane = lane-values road a s o }
