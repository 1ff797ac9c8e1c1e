-- What a road in order has: one record, by its tests and the neighbours of each list. Past a list's end there is nothing to be in order, so places need no bound but for strips.
use Prim.Native.Nat.{ℕ, ◌+◌, ◌-◌, ◌<◌, ◌≤◌}
use native.Mathlib.Omega.{arith}
use mathlib.Core.Path.{◌≡◌, refl, ap}
use mathlib.Core.Logic.{⊎_elim}
use mathlib.Core.Bool.{Bool, true, false, not, ◌&&◌, ◌||◌}
use mathlib.Core.List.{List, [], ◌∷◌}
use lib.ListN.{length, get_or, get_or-eq_default}
use lib.Dec.{T, eqb, ltb}
use lib.Ieee.{Float, le, lt, eq}
use borrow.Author.Tests.{eq-eqb, ltb-true, ltb-false}
use Rattle.std.proofs.lemmas.Float.{T_from_true}
use Rattle.std.proofs.lemmas.Bool.{cases_lt}
use Rattle.float_laws.specs.Binary64.{◌⊖◌, zero64}
use Rattle.records_cubic.specs.declared.cubics.Cubic.{Cubic}
use Rattle.records.specs.declared.points.HeightDef.{HeightDef}
use Rattle.records_lent.specs.Lists.{all_below}
use Rattle.records_cubic.specs.Cubics.{cubic_at}
use Rattle.records.specs.Roads.{Road, Section, Lane, Strip, geom_at, no_section, section_of, no_lane, lane_of, no_profile, profile_at, strip_at, column_of, height_def_at, mark_at}
use Rattle.admission_order.specs.Order.{least_gap, never_fall, rise_strictly, apart, cubics_in_order, lane_in_order, section_in_order, profiles_in_order, strip_in_order, starts_in_order, marks_in_order, ordered}
use Rattle.records_lent.proofs.TestLaws.{chain-at, all-at}

-- ---- the neighbours of a list in order

below : (i n : ℕ) → i + 1 < n → i < n - 1
below i n l = omega arith

module _ (start : ℕ → Float) (n : ℕ) where
  pub never_fall-at : never_fall start n ≡ true → (i : ℕ) → i + 1 < n → T (le (start i) (start (i + 1)))
  unfolding never_fall
  never_fall-at e i l = T_from_true _ (all-at (λ k. le (start k) (start (k + 1))) (n - 1) e i (below i n l))

  pub rise_strictly-at : rise_strictly start n ≡ true → (i : ℕ) → i + 1 < n → T (lt (start i) (start (i + 1)))
  unfolding rise_strictly
  rise_strictly-at e i l = T_from_true _ (all-at (λ k. lt (start k) (start (k + 1))) (n - 1) e i (below i n l))

  pub apart-at : apart start n ≡ true → (i : ℕ) → i + 1 < n → T (le least_gap (start (i + 1) ⊖ start i))
  unfolding apart
  apart-at e i l = T_from_true _ (all-at (λ k. le least_gap (start (k + 1) ⊖ start k)) (n - 1) e i (below i n l))

-- ---- what a road in order has

-- each cubic starts at or before the next
abbrev pub CubicsRise : List Cubic → Type 0
CubicsRise cs = (i : ℕ) → i + 1 < length cs → T (le (cubic_at cs i).start (cubic_at cs (i + 1)).start)

-- each height is 0.001 or more before the next
abbrev pub HeightsApart : List HeightDef → Type 0
HeightsApart hs = (i : ℕ) → i + 1 < length hs → T (le least_gap ((height_def_at hs (i + 1)).s_offset ⊖ (height_def_at hs i).s_offset))

pub record LaneOrdered (lane : Lane) : Type 0 where
  pub extents : CubicsRise lane.extents
  pub heights : HeightsApart lane.heights

pub record Ordered (road : Road) : Type 0 where
  pub geom_zero : T (eq (geom_at road 0).s zero64)
  pub section_zero : T (eq (section_of road 0).start zero64)
  pub geoms : (i : ℕ) → i + 1 < length road.geoms → T (le (geom_at road i).s (geom_at road (i + 1)).s)
  pub sections : (i : ℕ) → i + 1 < length road.sections → T (lt (section_of road i).start (section_of road (i + 1)).start)
  pub elevations : CubicsRise road.elevations
  pub superelevations : CubicsRise road.superelevations
  pub offsets : CubicsRise road.offsets
  pub tshifts : CubicsRise road.tshifts
  pub lanes : (section k : ℕ) (right : Bool) → LaneOrdered (lane_of road section right k)
  pub profiles : (i : ℕ) → i + 1 < length road.profiles → T (le least_gap ((profile_at road (i + 1)).s ⊖ (profile_at road i).s))
  pub shapes : (i : ℕ) → CubicsRise (profile_at road i).shapes
  pub columns : (i column : ℕ) → i < 4 → column < 5 → CubicsRise (column_of (strip_at road i) column)
  pub marks : (section h j : ℕ) → h < j → j < length (section_of road section).marks → (mark_at road section h).lane ≡ (mark_at road section j).lane → T (le (mark_at road section h).start (mark_at road section j).start)

pub cubics-rise : (cs : List Cubic) → cubics_in_order cs ≡ true → CubicsRise cs
unfolding cubics_in_order
cubics-rise cs = never_fall-at (λ i. (cubic_at cs i).start) (length cs)

lane-ordered : (lane : Lane) → lane_in_order lane ≡ true → LaneOrdered lane
unfolding lane_in_order
lane-ordered lane e =
    let start : ℕ → Float = λ i. (height_def_at lane.heights i).s_offset in
    let t = chain-at (cubics_in_order lane.extents) (apart start (length lane.heights) ∷ []) e in
    record { extents = cubics-rise lane.extents (t 0); heights = apart-at start (length lane.heights) (t 1) }

-- no lane, no lists
none : (i : ℕ) {P : Type 0} → i + 1 < 0 → P
none i l = absurd (omega arith)

no_lane_lem : LaneOrdered no_lane
no_lane_lem = record { extents = λ i l. none i l; heights = λ i l. none i l }

-- the k-th of some lanes whose tests passed
lane_of_lem : (lanes : List Lane) → all_below (λ k. lane_in_order (get_or lanes k no_lane)) (length lanes) ≡ true → (k : ℕ) → LaneOrdered (get_or lanes k no_lane)
lane_of_lem lanes e k =
    ⊎_elim
    (λ l. lane-ordered (get_or lanes k no_lane) (all-at (λ k. lane_in_order (get_or lanes k no_lane)) (length lanes) e k l))
    (λ l. rw (get_or-eq_default lanes no_lane {n = k} l) no_lane_lem)
    (cases_lt k (length lanes))

-- the lanes of a section whose tests passed, and of none
section-ordered : (road : Road) (i : ℕ) → section_in_order road i ≡ true → (k : ℕ) (right : Bool) → LaneOrdered (lane_of road i right k)
unfolding section_in_order
section-ordered road i e k right =
    let left : List Lane = (section_of road i).left in
    let t = chain-at (all_below (λ k. lane_in_order (lane_of road i false k)) (length left)) (all_below (λ k. lane_in_order (lane_of road i true k)) (length (section_of road i).right) ∷ []) e in
    go right (t 0) (t 1)
  where
    go :
        (right : Bool) → all_below (λ k. lane_in_order (lane_of road i false k)) (length (section_of road i).left) ≡ true
        → all_below (λ k. lane_in_order (lane_of road i true k)) (length (section_of road i).right) ≡ true → LaneOrdered (lane_of road i right k)
    go true l r = lane_of_lem (section_of road i).right r k
    go false l r = lane_of_lem (section_of road i).left l k

no_section_lem : (road : Road) (i k : ℕ) (right : Bool) → length road.sections ≤ i → LaneOrdered (lane_of road i right k)
no_section_lem road i k true l = rw (get_or-eq_default road.sections no_section {n = i} l) no_lane_lem
no_section_lem road i k false l = rw (get_or-eq_default road.sections no_section {n = i} l) no_lane_lem

lanes-ordered : (road : Road) → all_below (section_in_order road) (length road.sections) ≡ true → (i k : ℕ) (right : Bool) → LaneOrdered (lane_of road i right k)
lanes-ordered road e i k right =
    ⊎_elim
    (λ l. section-ordered road i (all-at (section_in_order road) (length road.sections) e i l) k right)
    (λ l. no_section_lem road i k right l)
    (cases_lt i (length road.sections))

shapes-ordered : (road : Road) → all_below (λ i. cubics_in_order (profile_at road i).shapes) (length road.profiles) ≡ true → (i : ℕ) → CubicsRise (profile_at road i).shapes
shapes-ordered road e i =
    ⊎_elim
    (λ l. cubics-rise (profile_at road i).shapes (all-at (λ i. cubics_in_order (profile_at road i).shapes) (length road.profiles) e i l))
    (λ l. rw (get_or-eq_default road.profiles no_profile {n = i} l) (λ j m. none j m))
    (cases_lt i (length road.profiles))

columns-ordered : (strip : Strip) → strip_in_order strip ≡ true → (column : ℕ) → column < 5 → CubicsRise (column_of strip column)
unfolding strip_in_order
columns-ordered strip e column l = cubics-rise (column_of strip column) (all-at (λ c. cubics_in_order (column_of strip c)) 5 e column l)

-- of two marks on one lane the later starts no earlier
same-lane : (a b : ℕ) (c : Bool) → not (eqb a b) || c ≡ true → a ≡ b → c ≡ true
same-lane a b c e f = rw (eq-eqb a b f) at e

marks-ordered :
    (road : Road) → all_below (marks_in_order road) (length road.sections) ≡ true → (i h j : ℕ) → h < j → j < length (section_of road i).marks
    → (mark_at road i h).lane ≡ (mark_at road i j).lane → T (le (mark_at road i h).start (mark_at road i j).start)
unfolding marks_in_order
marks-ordered road e i h j l m s = go (ltb i (length road.sections)) refl
  where
    go : (b : Bool) → ltb i (length road.sections) ≡ b → T (le (mark_at road i h).start (mark_at road i j).start)
    go true k =
        let x = all-at (marks_in_order road) (length road.sections) e i (ltb-true i (length road.sections) k) in
        let y = all-at (λ j. all_below (λ h. starts_in_order (mark_at road i h) (mark_at road i j)) j) (length (section_of road i).marks) x j m in
        T_from_true _ (same-lane (mark_at road i h).lane (mark_at road i j).lane (le (mark_at road i h).start (mark_at road i j).start) (all-at (λ h. starts_in_order (mark_at road i h) (mark_at road i j)) j y h l) s)
    go false k =
        let n : length (section_of road i).marks ≡ 0 = ap (λ (x : Section). length x.marks) (get_or-eq_default road.sections no_section {n = i} (ltb-false i (length road.sections) k)) in
        absurd (omega arith)

pub ordered-is : (road : Road) → ordered road ≡ true → Ordered road
unfolding ordered profiles_in_order
ordered-is road e =
    let geom : ℕ → Float = λ i. (geom_at road i).s in
    let section : ℕ → Float = λ i. (section_of road i).start in
    let profile : ℕ → Float = λ i. (profile_at road i).s in
    let far : Bool = apart profile (length road.profiles) in
    let shapes : Bool = all_below (λ i. cubics_in_order (profile_at road i).shapes) (length road.profiles) in
    let t =
    chain-at
    (eq (geom 0) zero64)
    (eq (section 0) zero64 ∷ never_fall geom (length road.geoms) ∷ rise_strictly section (length road.sections) ∷ cubics_in_order road.elevations ∷ cubics_in_order road.superelevations ∷ cubics_in_order road.offsets ∷ cubics_in_order road.tshifts ∷ all_below (section_in_order road) (length road.sections) ∷ (far && shapes) ∷ all_below (λ i. strip_in_order (strip_at road i)) 4 ∷ all_below (marks_in_order road) (length road.sections) ∷ [])
    e
    in
    let p = chain-at far (shapes ∷ []) (t 9) in
    record {
      geom_zero = T_from_true _ (t 0);
      section_zero = T_from_true _ (t 1);
      geoms = never_fall-at geom (length road.geoms) (t 2);
      sections = rise_strictly-at section (length road.sections) (t 3);
      elevations = cubics-rise road.elevations (t 4);
      superelevations = cubics-rise road.superelevations (t 5);
      offsets = cubics-rise road.offsets (t 6);
      tshifts = cubics-rise road.tshifts (t 7);
      lanes = lanes-ordered road (t 8);
      profiles = apart-at profile (length road.profiles) (p 0);
      shapes = shapes-ordered road (p 1);
      columns = λ i column l m. columns-ordered (strip_at road i) (all-at (λ i. strip_in_order (strip_at road i)) 4 (t 10) i l) column m;
      marks = marks-ordered road (t 11);
    }
