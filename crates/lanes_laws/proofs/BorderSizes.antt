-- `BorderSizes` holds, demand 3 on borders, of the list that the borders call writes.
-- Admission's limits give the premises of the lanes layer's laws; those are read off the written list by place.
use Prim.Native.Nat.{ℕ, suc, ◌+◌, ◌*◌, ◌/◌, ◌^◌, ◌≤◌, ◌<◌}
use native.Mathlib.Nat.{add-zero, zero-add}
use native.Mathlib.Omega.{arith}
use mathlib.Core.Path.{◌≡◌, refl, sym, ◌∙◌, ap, subst}
use mathlib.Core.Bool.{Bool, true, false, ◌&&◌}
use mathlib.Core.List.{List}
use lib.Dec.{leb, lit≤}
use lib.Ieee.{Float, nan, binary64, low, of_bits}
use lib.ListN.{length, get_or, drop, get_or-append}
use borrow.Author.Tests.{le-leb, leb-true}
use Rattle.float_laws.proofs.Value.{pl}
use Rattle.float_laws.proofs.Size.{Within}
use Rattle.refusals.specs.Answer.{value, checked}
use Rattle.records.specs.Roads.{Road, road_of, section_index}
use Rattle.admission.specs.Limits.{on_road}
use Rattle.admission_laws.proofs.Places.{on_road_lem}
use Rattle.lanes_laws.proofs.AdmittedRoad.{Admits, admits, into}
use Rattle.admission_laws.specs.Fractions.{IsF64, AllF64, AtMost}
use Rattle.admission_laws.proofs.FractionLaws.{within-at_most, le_not-over}
use Rattle.records_lent.proofs.TestLaws.{and-fst, and-snd}
use Rattle.admission_laws.proofs.RoadBounds.{OnRoad}
use Rattle.admission.specs.Admission.{admitted}
use Rattle.admission.proofs.RowLaws.{pass-checked, checked-pass}
use Rattle.admission.proofs.AdmissionLaws.{road-answered, road-admitted}
use Rattle.lanes_borders.specs.declared.borders.LaneBorders.{LaneBorders}
use Rattle.lanes.specs.Sides.{sign_of}
use Rattle.lanes_borders.specs.Borders.{base_at, side_lanes, borders_of as lane_borders, border_list}
use Rattle.lanes_border_list.specs.BorderList.{listed_by}
use Rattle.lanes_borders.proofs.BorderSteps.{three, left-written, right-written, list_length}
use Rattle.lanes_borders.proofs.Outward.{Ahead}
use Rattle.lanes_borders.proofs.BorderLaws.{eighty, inner-is-outer}
use Rattle.lanes_laws.proofs.BordersKept.{inner-kept, outer-kept, ahead-kept}
use Rattle.lanes_calls.specs.LaneCalls.{section_at, lanes_at, list_rows, borders_call, borders_list}
use Rattle.lanes_laws.specs.BorderSizes.{inner_at, outer_at, first_on, lanes_on, Outward, SideKept, BorderSizes}
use Rattle.lanes_calls.proofs.CallLaws.{list-by}

-- ---- an admitted road at s

eighty-units : pl binary64 eighty ≤ 80 * 2 ^ low binary64
unfolding of_bits pl
eighty-units = lit≤ tt

at_most-80 : (x : Float) → Within binary64 x eighty → AtMost 80 x
at_most-80 x w = within-at_most x eighty w 80 eighty-units

outward-of : (right : Bool) (x y : Float) → Within binary64 x eighty → Within binary64 y eighty → Ahead right x y → Outward right x y
outward-of false x y v w h = le_not-over x y v.value w.value h
outward-of true x y v w h = le_not-over y x w.value v.value h

module _ (words : List ℕ) (numbers : List Float) (fitting : AllF64 numbers) (ok : admitted words numbers ≡ true) (s : Float) (fits-s : IsF64 s) (on : on_road (road_of words numbers) s ≡ true) where
  abbrev road : Road
  road = road_of words numbers

  abbrev at : ℕ
  at = section_index road s

  a : Admits road
  a = admits words numbers fitting ok

  here : OnRoad road s
  here = on_road_lem road s fits-s on

  -- ---- the borders of a side

  abbrev lane : Bool → ℕ → LaneBorders
  lane right k = lane_borders road at s right k

  -- read off a list by place
  side-kept : (list : List Float) (right : Bool) (first : ℕ) → ((k j : ℕ) → k < length (side_lanes road at right) → j < 3 → get_or list ((first + k) * 3 + j) nan ≡ get_or (three (lane right k)) j nan)
      → SideKept list right first (length (side_lanes road at right))
  side-kept list right first read =
      record {
        inner_size = λ k l. subst (AtMost 80) (sym (inner-is k l)) (at_most-80 (lane right k).inner (inner-kept road a s here right k l));
        outer_size = λ k l. subst (AtMost 80) (sym (outer-is k l)) (at_most-80 (lane right k).outer (outer-kept road a s here right k l));
        outward = λ k l. subst (λ (x : Float). Outward right x (outer_at list (first + k))) (sym (inner-is k l))
            (subst (λ (y : Float). Outward right (lane right k).inner y) (sym (outer-is k l)) (outward-of right (lane right k).inner (lane right k).outer (inner-kept road a s here right k l) (outer-kept road a s here right k l) (ahead-kept road a s here right k l)));
        joined = λ k l. inner-is (suc k) l ∙ inner-is-outer (side_lanes road at right) (sign_of right) (base_at road s) (into road s) k ∙ sym (outer-is k (let m = l in omega arith));
      }
    where
      inner-is : (k : ℕ) → k < length (side_lanes road at right) → inner_at list (first + k) ≡ (lane right k).inner
      inner-is k l = ap (λ (m : ℕ). get_or list m nan) (sym (add-zero ((first + k) * 3))) ∙ read k 0 l (omega arith)

      outer-is : (k : ℕ) → k < length (side_lanes road at right) → outer_at list (first + k) ≡ (lane right k).outer
      outer-is k l = read k 1 l (omega arith)

  -- ---- the list of both sides, with anything after it

  left-place : (xs : List Float) (k j : ℕ) → k < length (side_lanes road at false) → j < 3 → get_or (listed_by true road at s xs) ((0 + k) * 3 + j) nan ≡ get_or (three (lane false k)) j nan
  left-place xs k j l m =
      let n = list_length road at s in
      ap (λ (i : ℕ). get_or (listed_by true road at s xs) (i * 3 + j) nan) (zero-add k)
      ∙ get_or-append (border_list road at s) (drop (length (border_list road at s)) xs) nan (k * 3 + j) (omega arith)
      ∙ left-written road at s k j nan l m

  right-place : (xs : List Float) (k j : ℕ) → k < length (side_lanes road at true) → j < 3
      → get_or (listed_by true road at s xs) ((length (side_lanes road at false) + k) * 3 + j) nan ≡ get_or (three (lane true k)) j nan
  right-place xs k j l m =
      let n = list_length road at s in
      get_or-append (border_list road at s) (drop (length (border_list road at s)) xs) nan ((length (side_lanes road at false) + k) * 3 + j) (omega arith)
      ∙ right-written road at s k j nan l m

  both-kept : (xs : List Float) → SideKept (listed_by true road at s xs) false 0 (length (side_lanes road at false)) × SideKept (listed_by true road at s xs) true (length (side_lanes road at false)) (length (side_lanes road at true))
  both-kept xs = (side-kept (listed_by true road at s xs) false 0 (left-place xs), side-kept (listed_by true road at s xs) true (length (side_lanes road at false)) (right-place xs))

-- ---- the call

module _ (words : List ℕ) (numbers : List Float) (s : Float) where
  -- an admitted road, s in 0..length, and whole threes for every lane: the call answers
  pub borders-answered : (len : ℕ) → admitted words numbers ≡ true → on_road (road_of words numbers) s ≡ true → lanes_at words numbers s * 3 ≤ len → borders_call words numbers s len ≡ value (lanes_at words numbers s)
  unfolding borders_call
  borders-answered len ok on h =
      let l : lanes_at words numbers s ≤ len / 3 = omega arith in
      road-admitted words numbers (list_rows words numbers s len) (value (lanes_at words numbers s)) ok ∙ rw (on, le-leb (lanes_at words numbers s) (len / 3) l)

  module _ (xs : List Float) (n : ℕ) (e : borders_call words numbers s (length xs) ≡ value n) where
    -- an answer comes of an admitted road only
    pub answered-admitted : admitted words numbers ≡ true
    unfolding borders_call
    answered-admitted = road-answered words numbers (list_rows words numbers s (length xs)) (value (lanes_at words numbers s)) n e

    own-rows : checked (list_rows words numbers s (length xs)) (value (lanes_at words numbers s)) ≡ value n
    unfolding borders_call
    own-rows = sym (road-admitted words numbers (list_rows words numbers s (length xs)) (value (lanes_at words numbers s)) answered-admitted) ∙ e

    rows_pass : on_road (road_of words numbers) s && (leb (lanes_at words numbers s) (length xs / 3) && true) ≡ true
    rows_pass = checked-pass (list_rows words numbers s (length xs)) (value (lanes_at words numbers s)) n own-rows

    -- of s in 0..length, with whole threes for every lane
    pub answered-on : on_road (road_of words numbers) s ≡ true
    answered-on = and-fst (on_road (road_of words numbers) s) (leb (lanes_at words numbers s) (length xs / 3) && true) rows_pass

    pub answered-room : lanes_at words numbers s * 3 ≤ length xs
    answered-room =
        let p = and-snd (on_road (road_of words numbers) s) (leb (lanes_at words numbers s) (length xs / 3) && true) rows_pass in
        let l = leb-true (lanes_at words numbers s) (length xs / 3) (and-fst (leb (lanes_at words numbers s) (length xs / 3)) true p) in
        omega arith

    -- and it is the number of the section's lanes, whose borders stand in the list
    pub answered-lanes : n ≡ lanes_at words numbers s
    answered-lanes = same (sym own-rows ∙ pass-checked (list_rows words numbers s (length xs)) (value (lanes_at words numbers s)) rows_pass)
      where
        same : {i j : ℕ} → value i ≡ value j → i ≡ j
        same p = cc

    pub answered-list : borders_list words numbers s xs ≡ listed_by true (road_of words numbers) (section_at words numbers s) s xs
    answered-list = sym (list-by words numbers s xs (sym e) refl)

pub border-sizes : BorderSizes
border-sizes words numbers fitting ok s f on list room =
    let road = road_of words numbers in
    let i = section_at words numbers s in
    let listed = borders-answered words numbers s (length list) ok on room in
    let w = sym (answered-list words numbers s list (lanes_at words numbers s) listed) in
    let k = both-kept words numbers fitting ok s f on list in
    record {
      answer = listed;
      side = λ (right : Bool).
          elim right as (λ (b : Bool). SideKept (borders_list words numbers s list) b (first_on words numbers s b) (lanes_on words numbers s b)) [ false ↦ subst (λ (l : List Float). SideKept l false 0 (length (side_lanes road i false))) w k.0 | true ↦ subst (λ (l : List Float). SideKept l true (length (side_lanes road i false)) (length (side_lanes road i true))) w k.1 ];
    }
