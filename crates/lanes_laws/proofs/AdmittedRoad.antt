-- An admitted road and a station on it: what the laws on borders and heights take of admission, as one record, and the section at s with how far s lies into it.
-- Rows 3 and 4 part by part; the section at s is there because the first one starts at 0.
use Prim.Native.Nat.{ℕ, ◌≤◌, ◌<◌}
use mathlib.Core.Path.{◌≡◌}
use mathlib.Core.Bool.{Bool, true, false}
use mathlib.Core.List.{List}
use lib.ListN.{length}
use lib.Dec.{T}
use lib.Ieee.{Float, binary64, of_bits, fits, le, neg, sub}
use Rattle.std.proofs.lemmas.Float.{le_of_eq, le_trans as float_trans}
use Rattle.float_laws.specs.Binary64.{◌⊖◌, zero64}
use Rattle.float_laws.proofs.Value.{Real, neg-real}
use Rattle.float_laws.proofs.Interval.{In, sub_in, in-of_le}
use Rattle.float_laws.proofs.Size.{Within, within-of_le, le_of-within, within-mono, within-const}
use Rattle.records.specs.Active.{active_up_to}
use Rattle.records.specs.Roads.{Road, road_of, absent, section_of, section_index, profile_at, strip_at}
use Rattle.records.proofs.RoadLaws.{strip-past}
use Rattle.admission_order.proofs.OrderLaws.{Ordered, ordered-is}
use Rattle.admission_structure.proofs.StructureLaws.{structured-is}
use Rattle.admission.specs.Limits.{greatest_length, limited}
use Rattle.admission_laws.proofs.Fitting.{Fitting, RoadFits, road-fits}
use Rattle.admission_laws.proofs.ActiveRecord.{Active, index-active}
use Rattle.admission_laws.proofs.CubicBounds.{far, up_to-grows}
use Rattle.admission_laws.proofs.RoadBounds.{OnRoad, InSection, Across, station-within, section_start-in, section_start-within, extent-within, into-section}
use Rattle.admission.specs.Admission.{admitted}
use Rattle.admission.proofs.AdmissionLaws.{admitted-structured, admitted-ordered, admitted-limited}
use Rattle.lanes_laws.proofs.StationBounds.{far as station-far}
use Rattle.lanes_borders.specs.Borders.{side_lanes}
use Rattle.lanes_borders.proofs.BorderLaws.{eighty}

-- ---- the road

pub record Admits (road : Road) : Type 0 where
  pub fit : RoadFits road
  pub limits : limited road ≡ true
  pub order : Ordered road
  pub sections : 0 < length road.sections
  pub few : (i : ℕ) (right : Bool) → length (side_lanes road i right) ≤ 6
  pub shapes : (i : ℕ) → i < length road.profiles → 0 < length (profile_at road i).shapes
  pub strips : (i : ℕ) → 4 ≤ i → strip_at road i ≡ absent

pub admits : (words : List ℕ) (numbers : List Float) → Fitting numbers → admitted words numbers ≡ true → Admits (road_of words numbers)
admits words numbers fitting ok =
    let counts = structured-is words numbers (admitted-structured words numbers ok) in
    record {
      fit = road-fits words numbers fitting;
      limits = admitted-limited words numbers ok;
      order = ordered-is (road_of words numbers) (admitted-ordered words numbers ok);
      sections = counts.sections.enough;
      few = side counts.left counts.right;
      shapes = λ i l. (counts.shapes i l).enough;
      strips = strip-past words numbers;
    }
  where
    side : ((i : ℕ) → length (side_lanes (road_of words numbers) i false) ≤ 6) → ((i : ℕ) → length (side_lanes (road_of words numbers) i true) ≤ 6) → (i : ℕ) (right : Bool) → length (side_lanes (road_of words numbers) i right) ≤ 6
    side l r i false = l i
    side l r i true = r i

-- ---- row 8, by the size of t

pub eighty-own : Within binary64 eighty eighty
unfolding of_bits fits le neg
eighty-own = within-const binary64 eighty eighty tt

pub across-within : (t : Float) → Within binary64 t eighty → Across t
across-within t w = let l = le_of-within binary64 t eighty w in record { fits = w.value.fits; above = l.0; below = l.1 }

pub within-across : (t : Float) → Across t → Within binary64 t eighty
within-across t a =
    let v = in-of_le binary64 (neg eighty) eighty t (neg-real binary64 eighty eighty-own.bound) eighty-own.bound a.fits a.above a.below in
    within-of_le binary64 t eighty v.value eighty-own.bound a.above a.below

length-own : Within binary64 greatest_length greatest_length
unfolding of_bits fits le neg
length-own = within-const binary64 greatest_length greatest_length tt

pub far-own : Within binary64 station-far station-far
unfolding of_bits fits le neg
far-own = within-const binary64 station-far station-far tt

pub length-far : T (le greatest_length far) × T (le greatest_length station-far)
unfolding of_bits le
length-far = (tt, tt)

-- x and y in 0..10,000: x - y is at most 10,000 in size
difference-within : (x y : Float) → In binary64 zero64 greatest_length x → In binary64 zero64 greatest_length y → Within binary64 (x ⊖ y) station-far
unfolding of_bits sub le neg
difference-within x y i j =
    let d = sub_in binary64 zero64 greatest_length zero64 greatest_length x y i j tt tt in
    let w = within-of_le binary64 (x ⊖ y) greatest_length d.value length-own.bound d.above d.below in
    within-mono binary64 (x ⊖ y) greatest_length station-far w far-own.bound length-far.1

-- how far s lies into the section at s
abbrev pub into : Road → Float → Float
into road s = s ⊖ (section_of road (section_index road s)).start

module _ (road : Road) (a : Admits road) (s : Float) (o : OnRoad road s) where
  -- s is at most 10,000
  pub s-within : Within binary64 s greatest_length
  s-within = station-within road a.fit a.limits s o

  pub s-near : Within binary64 s station-far
  s-near = within-mono binary64 s greatest_length station-far s-within far-own.bound length-far.1

  first-reached : T (le (section_of road 0).start (active_up_to s))
  first-reached =
      let e = extent-within road a.fit a.limits 0 a.sections in
      let w = within-mono binary64 s greatest_length far s-within e.bound length-far.0 in
      float_trans (section_of road 0).start zero64 (active_up_to s) (le_of_eq (section_of road 0).start zero64 a.order.section_zero) (float_trans zero64 s (active_up_to s) o.above (up_to-grows s w))

  -- the section at s is there, and s lies in it
  pub section-active : Active (λ k. (section_of road k).start) (active_up_to s) (length road.sections) (section_index road s)
  unfolding section_index
  section-active = index-active (λ k. (section_of road k).start) (active_up_to s) (length road.sections) a.sections first-reached

  pub section-there : section_index road s < length road.sections
  section-there = section-active.below

  pub in-section : InSection road (section_index road s) (into road s)
  in-section = into-section road a.fit a.limits s o (section_index road s) section-active

  pub into-near : Within binary64 (into road s) station-far
  into-near =
      let z = section_start-in road a.fit a.limits (section_index road s) section-there in
      let w = section_start-within road a.fit a.limits (section_index road s) section-there in
      difference-within s (section_of road (section_index road s)).start (from_zero s s-within o.above z.low) (from_zero (section_of road (section_index road s)).start w z.above z.low)
    where
      from_zero : (x : Float) → Within binary64 x greatest_length → T (le zero64 x) → Real binary64 zero64 → In binary64 zero64 greatest_length x
      from_zero x w h z = record { low = z; high = w.bound; value = w.value; above = h; below = (le_of-within binary64 x greatest_length w).1 }
