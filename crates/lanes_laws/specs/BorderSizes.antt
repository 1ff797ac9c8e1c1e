-- The words of demand 3 on borders, and the statement `BorderSizes`, at the end. "The borders are the inners and outers of the list written at s; read outward, a side has the inner and outer of its first lane, then of the next; its first lane has none before it."
-- The list has three numbers a lane, inner, outer and width, the left lanes outward, then the right ones. Words from below: `AtMost`, finite and at most so large, `NotOver` (admission_laws, Fractions); `on_road`, the test of row 7 (admission, Limits).
use Rattle.std.specs.Prelude.{ℕ, suc, ◌+◌, ◌*◌, ◌≤◌, ◌<◌, ◌≡◌, Bool, true, false, cond, List, Float, length, get_or}
use Rattle.std.specs.Float.{nan}
use Rattle.refusals.specs.Answer.{value}
use Rattle.records.specs.Roads.{road_of}
use Rattle.admission.specs.Limits.{on_road}
use Rattle.admission_laws.specs.Fractions.{IsF64, AllF64, AtMost, NotOver}
use Rattle.admission.specs.Admission.{admitted}
use Rattle.lanes_borders.specs.Borders.{side_lanes}
use Rattle.lanes_calls.specs.LaneCalls.{section_at, lanes_at, borders_call, borders_list}

-- the lanes of a side of the section at s, and the number in the list of the first of them
abbrev pub lanes_on : List ℕ → List Float → Float → Bool → ℕ
lanes_on words numbers s right = length (side_lanes (road_of words numbers) (section_at words numbers s) right)

abbrev pub first_on : List ℕ → List Float → Float → Bool → ℕ
first_on words numbers s right = cond right (lanes_on words numbers s false) 0

-- the inner and the outer of the list's i-th lane
abbrev pub inner_at : List Float → ℕ → Float
inner_at list i = get_or list (i * 3) nan

abbrev pub outer_at : List Float → ℕ → Float
outer_at list i = get_or list (i * 3 + 1) nan

-- read outward, the left ones never fall and the right ones never rise
abbrev pub Outward : Bool → Float → Float → Type 0
Outward false inner outer = NotOver inner outer
Outward true inner outer = NotOver outer inner

-- the n lanes of a side, read outward; the inner of the next is the outer of the lane before it
pub record SideKept (list : List Float) (right : Bool) (first n : ℕ) : Type 0 where
  pub inner_size : (k : ℕ) → k < n → AtMost 80 (inner_at list (first + k))
  pub outer_size : (k : ℕ) → k < n → AtMost 80 (outer_at list (first + k))
  pub outward : (k : ℕ) → k < n → Outward right (inner_at list (first + k)) (outer_at list (first + k))
  pub joined : (k : ℕ) → suc k < n → inner_at list (first + suc k) ≡ outer_at list (first + k)

-- the call answers the number of the section's lanes, and both sides of the list that it leaves are kept
pub record BordersKept (words : List ℕ) (numbers : List Float) (s : Float) (list : List Float) : Type 0 where
  pub answer : borders_call words numbers s (length list) ≡ value (lanes_on words numbers s false + lanes_on words numbers s true)
  pub side : (right : Bool) → SideKept (borders_list words numbers s list) right (first_on words numbers s right) (lanes_on words numbers s right)

-- for every admitted road, at whatever s from 0 to its length, in any lent list with room for the section's lanes
abbrev pub BorderSizes : Type 0
BorderSizes =
    (words : List ℕ) (numbers : List Float) → AllF64 numbers → admitted words numbers ≡ true → (s : Float) → IsF64 s → on_road (road_of words numbers) s ≡ true
    → (list : List Float) → lanes_at words numbers s * 3 ≤ length list → BordersKept words numbers s list
