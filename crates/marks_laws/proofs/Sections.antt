-- A road without its marks has the starts, lanes, borders and names of the road, and is alike across: each looks at a section's start and lanes alone.
use Prim.Native.Nat.{ℕ, ◌+◌}
use mathlib.Core.Path.{◌≡◌, refl, ap, ap₂, fun_ext}
use mathlib.Core.Bool.{Bool, true, false, cond}
use mathlib.Core.List.{◌++◌}
use lib.ListN.{length, length-map, get_or-map}
use lib.Ieee.{Float}
use Rattle.records_lent.specs.Lists.{last_that}
use Rattle.records.specs.Active.{last_start, active_up_to, or_first}
use Rattle.records.specs.Roads.{Road, Section, no_section, section_of, section_index}
use Rattle.lanes_borders.specs.declared.borders.LaneBorders.{LaneBorders}
use Rattle.lanes.specs.Sides.{sign_of}
use Rattle.lanes_borders.specs.Borders.{side_lanes, lanes_of, borders_of, side_list, border_list}
use Rattle.lanes_naming.specs.Naming.{named_test, named_on, name_by, lane_named}
use Rattle.heights_laws.proofs.AcrossAlike.{AcrossAlike, borders-are}
use Rattle.marks_laws.specs.Unmarked.{unmarked_section, unmarked}

module _ (road : Road) where
  section-is : (i : ℕ) → section_of (unmarked road) i ≡ unmarked_section (section_of road i)
  section-is i = get_or-map unmarked_section road.sections i no_section

  pub start_is : (i : ℕ) → (section_of (unmarked road) i).start ≡ (section_of road i).start
  start_is i = ap (λ (x : Section). x.start) (section-is i)

  pub side-is : (i : ℕ) (right : Bool) → side_lanes (unmarked road) i right ≡ side_lanes road i right
  side-is i right = ap (λ (x : Section). cond right x.right x.left) (section-is i)

  pub index_is : (s : Float) → section_index (unmarked road) s ≡ section_index road s
  unfolding section_index
  index_is s = ap₂ (λ (start : ℕ → Float) (n : ℕ). or_first (last_start start (active_up_to s) n)) (fun_ext start_is) (length-map road.sections unmarked_section)

  pub lanes-are : (i : ℕ) → lanes_of (unmarked road) i ≡ lanes_of road i
  lanes-are i = ap₂ ◌+◌ (ap length (side-is i false)) (ap length (side-is i true))

  -- across it is the same road
  pub across-alike : AcrossAlike (unmarked road) road
  across-alike = record { profiles = refl; tshifts = refl; strips = refl; offsets = refl; starts = start_is; sides = side-is }

  side_list_lem : (i : ℕ) (s : Float) (right : Bool)
      → side_list (borders_of (unmarked road) i s right) (length (side_lanes (unmarked road) i right)) ≡ side_list (borders_of road i s right) (length (side_lanes road i right))
  side_list_lem i s right = ap₂ side_list (borders-are across-alike i s right) (ap length (side-is i right))

  pub border_list_lem : (i : ℕ) (s : Float) → border_list (unmarked road) i s ≡ border_list road i s
  unfolding border_list
  border_list_lem i s = ap₂ ◌++◌ (side_list_lem i s false) (side_list_lem i s true)

  -- ---- names

  module _ (i : ℕ) (s t : Float) where
    named_on_lem : (right : Bool) → named_on (unmarked road) i s t right ≡ named_on road i s t right
    unfolding named_on
    named_on_lem right = ap₂ (λ (b : ℕ → LaneBorders) (n : ℕ). last_that (λ k. named_test (sign_of right) (b k).inner t) n) (borders-are across-alike i s right) (ap length (side-is i right))

    pub lane_named-is : lane_named (unmarked road) i s t ≡ lane_named road i s t
    unfolding lane_named
    lane_named-is = ap₂ name_by (named_on_lem false) (named_on_lem true)
