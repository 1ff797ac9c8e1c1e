-- A side's lines are its lanes.
use Prim.Native.Nat.{ℕ, ◌+◌, ◌*◌, ◌<◌, ◌≤◌}
use mathlib.Core.Path.{◌≡◌, ap}
use mathlib.Core.Bool.{Bool, true, false, not, cond}
use mathlib.Core.List.{List}
use lib.Dec.{T, ltb, ltb→lt, nltb→le}
use lib.ListN.{length, get_or}
use lib.Ieee.{Float}
use Rattle.records_lent.specs.Lists.{tabulate}
use Rattle.records_lent.proofs.TableLaws.{length-table}
use Rattle.records.specs.Roads.{Lane, road_of, section_of, section_in, lane_in}
use Rattle.records.proofs.RoadLaws.{section_in_lem, section-past}
use Rattle.records_lanes.specs.Lines.{side_line}

module _ (words : List ℕ) (numbers : List Float) (i : ℕ) where
  abbrev side : Bool → List Lane
  side right = cond right (section_of (road_of words numbers) i).right (section_of (road_of words numbers) i).left

  -- a side's lines, one after another, are its lanes
  pub side_table : (right : Bool) → tabulate (λ k. lane_in words numbers (side_line words i right + k)) (length (side right)) ≡ side right
  unfolding section_in tabulate
  side_table right = go (ltb i (get_or words 5 0)) (ltb→lt i (get_or words 5 0)) (nltb→le i (get_or words 5 0)) right
    where
      go : (b : Bool) → (T b → i < get_or words 5 0) → (T (not b) → get_or words 5 0 ≤ i) → (r : Bool)
          → tabulate (λ k. lane_in words numbers (cond b (cond r (get_or words (71 + i * 3) 0 + get_or words (71 + i * 3 + 1) 0) (get_or words (71 + i * 3) 0)) 0 + k)) (length (side r)) ≡ side r
      go true u v true = rw (section_in_lem words numbers i (u tt)) (ap (tabulate (λ k. lane_in words numbers (get_or words (71 + i * 3) 0 + get_or words (71 + i * 3 + 1) 0 + k))) (length-table _ _))
      go true u v false = rw (section_in_lem words numbers i (u tt)) (ap (tabulate (λ k. lane_in words numbers (get_or words (71 + i * 3) 0 + k))) (length-table _ _))
      go false u v true = rw (section-past words numbers i (v tt))
      go false u v false = rw (section-past words numbers i (v tt))
