-- What structured words tell of the road that they stand for: the slices' lengths and how long each list of the road is, at least and at most. By the tests, and by how many lines a range inside a slice holds.
use Prim.Native.Nat.{ℕ, ◌+◌, ◌*◌, ◌/◌, ◌<◌, ◌≤◌}
use native.Mathlib.Omega.{arith}
use native.Mathlib.Nat.{add_assoc}
use mathlib.Core.Path.{◌≡◌, refl, ap, ◌∙◌, sym, subst}
use mathlib.Core.Logic.{⊎_elim}
use mathlib.Core.Bool.{Bool, true, false, ◌&&◌, ◌||◌}
use mathlib.Core.List.{List, [], ◌∷◌}
use lib.ListN.{length, get_or, drop, length-take, length-drop}
use lib.Dec.{leb, ltb, eqb}
use lib.Ieee.{Float}
use borrow.Author.Tests.{leb-true, ltb-true, ltb-false}
use Rattle.std.proofs.lemmas.Bool.{cases_lt}
use Rattle.records_lent.specs.Lists.{span, all_below}
use Rattle.records.specs.declared.points.Mark.{Mark}
use Rattle.records.specs.Roads.{Road, Section, Lane, Profile, road_of, word_at, cubics_in, heights_in, lane_in, profile_in, column_in, section_of, lane_of, no_lane, profile_at, strip_at, column_of, mark_in, mark_at}
use Rattle.records_cubic.proofs.CubicTables.{cubic-count}
use Rattle.records.proofs.CubicLaws.{height-count}
use Rattle.records.proofs.RoadLaws.{geom_count_lem, section_count_lem, section-past, left_count_lem, right_count_lem, left_lane-in, right_lane-in, left_lane-past, right_lane-past, no_lane_lem, mark_count_lem, mark_in_lem, profile_count_lem, profile_in_lem, column_in_lem, column-absent, column-over, column-past}
use Rattle.admission_structure.specs.Structure.{counts_ok, kinds_ok, lane_ok, section_ok, profile_ok, column_ok, strip_ok, marks_ok, structured}
use Rattle.records_lent.proofs.TestLaws.{chain-at, all-at}
use Rattle.admission_structure.proofs.RangeLaws.{range-is}

-- ---- how many numbers a span has, and how many lines

span-most : (xs : List Float) (start n : ℕ) → length (span xs start n) ≤ n
span-most xs start n = rw (length-take n (drop start xs)) (omega arith)

span-full : (xs : List Float) (start n : ℕ) → start + n ≤ length xs → length (span xs start n) ≡ n
span-full xs start n h = rw (length-take n (drop start xs), length-drop start xs) (omega arith)

fifth : (n count : ℕ) → n ≤ count * 5 → n / 5 ≤ count
fifth n count h = omega arith

third : (n count : ℕ) → n ≤ count * 3 → n / 3 ≤ count
third n count h = omega arith

fifths : (n count : ℕ) → n ≡ count * 5 → n / 5 ≡ count
fifths n count h = omega arith

module _ (words : List ℕ) (numbers : List Float) where
  pub cubics-most : (base first count : ℕ) → length (cubics_in words numbers base first count) ≤ count
  cubics-most base first count =
      let xs : List Float = span numbers (base + first * 5) (count * 5) in
      rw (cubic-count xs) (fifth (length xs) count (span-most numbers (base + first * 5) (count * 5)))

  pub cubics-full : (base first count : ℕ) → base + (first + count) * 5 ≤ length numbers → length (cubics_in words numbers base first count) ≡ count
  cubics-full base first count h =
      let xs : List Float = span numbers (base + first * 5) (count * 5) in
      rw (cubic-count xs) (fifths (length xs) count (span-full numbers (base + first * 5) (count * 5) (omega arith)))

  pub heights-most : (first count : ℕ) → length (heights_in words numbers first count) ≤ count
  heights-most first count =
      let xs : List Float = span numbers (4305 + first * 3) (count * 3) in
      rw (height-count xs) (third (length xs) count (span-most numbers (4305 + first * 3) (count * 3)))

plus : (a b x : ℕ) → a + x + b ≡ a + b + x
plus a b x = omega arith

either : (a b : Bool) → a || b ≡ true → a ≡ false → b ≡ true
either true true e f = refl
either true false e f = sym f
either false b e f = e

-- least to most
pub record Counted (least most n : ℕ) : Type 0 where
  pub enough : least ≤ n
  pub few : n ≤ most

-- a lane's lists
pub record LaneFew (lane : Lane) : Type 0 where
  pub extents : length lane.extents ≤ 16
  pub heights : length lane.heights ≤ 8

none-few : LaneFew no_lane
none-few = record { extents = omega arith; heights = omega arith }

module _ (words : List ℕ) (numbers : List Float) where
  abbrev road : Road
  road = road_of words numbers

  -- ---- lanes
  lane-few : (j : ℕ) → lane_ok words j ≡ true → LaneFew (lane_in words numbers j)
  unfolding lane_ok lane_in
  lane-few j e =
      let at : ℕ → ℕ = λ i. word_at words numbers (119 + j * 6 + i) in
      let extents = (leb 0 (at 3) && leb (at 3) 16 && leb (at 2 + at 3) 512) in
      let heights = (leb 0 (at 5) && leb (at 5) 8 && leb (at 4 + at 5) 512) in
      let t = chain-at (ltb (word_at words numbers (119 + j * 6)) 2) (ltb (at 1) 2 ∷ extents ∷ heights ∷ []) e in
      let x = range-is 0 16 512 (at 2) (at 3) (t 2) in
      let h = range-is 0 8 512 (at 4) (at 5) (t 3) in
      let a = cubics-most words numbers 1745 (at 2) (at 3) in
      let b = heights-most words numbers (at 4) (at 5) in
      record { extents = omega arith; heights = omega arith }

  record SectionFew (i : ℕ) : Type 0 where
    left : get_or words (72 + i * 3) 0 ≤ 6
    right : get_or words (73 + i * 3) 0 ≤ 6
    lanes : (j : ℕ) → j < get_or words (72 + i * 3) 0 + get_or words (73 + i * 3) 0 → lane_ok words (get_or words (71 + i * 3) 0 + j) ≡ true

  section-few : (i : ℕ) → section_ok words i ≡ true → SectionFew i
  unfolding section_ok
  section-few i e =
      let first : ℕ = get_or words (71 + i * 3) 0 in
      let left : ℕ = get_or words (72 + i * 3) 0 in
      let right : ℕ = get_or words (73 + i * 3) 0 in
      let f : leb left 6 && leb right 6 && leb (first + (left + right)) 192 && all_below (λ j. lane_ok words (first + j)) (left + right) ≡ true =
      rw (plus 71 1 (i * 3), plus 71 2 (i * 3)) at e
      in
      let t = chain-at (leb left 6) (leb right 6 ∷ leb (first + (left + right)) 192 ∷ all_below (λ j. lane_ok words (first + j)) (left + right) ∷ []) f in
      record { left = leb-true left 6 (t 0); right = leb-true right 6 (t 1); lanes = all-at (λ j. lane_ok words (first + j)) (left + right) (t 3) }

  module _ (i : ℕ) (h : i < get_or words 5 0) (s : SectionFew i) where
    left_lane : (k : ℕ) → LaneFew (lane_of road i false k)
    left_lane k =
        ⊎_elim
        (λ l. rw (left_lane-in words numbers i k h l) (lane-few (get_or words (71 + i * 3) 0 + k) (s.lanes k (omega arith))))
        (λ l. rw (left_lane-past words numbers i k h l) none-few)
        (cases_lt k (get_or words (72 + i * 3) 0))

    right_lane : (k : ℕ) → LaneFew (lane_of road i true k)
    right_lane k =
        ⊎_elim
        (λ l. rw (right_lane-in words numbers i k h l, add_assoc (get_or words (71 + i * 3) 0) (get_or words (72 + i * 3) 0) k) (lane-few (get_or words (71 + i * 3) 0 + (get_or words (72 + i * 3) 0 + k)) (s.lanes (get_or words (72 + i * 3) 0 + k) (omega arith))))
        (λ l. rw (right_lane-past words numbers i k h l) none-few)
        (cases_lt k (get_or words (73 + i * 3) 0))

  -- ---- profiles and strips
  shapes-few : (i : ℕ) → 8449 ≤ length numbers → i < get_or words 6 0 → profile_ok words i ≡ true → Counted 1 16 (length (profile_at road i).shapes)
  unfolding profile_ok profile_in
  shapes-few i m l e =
      let first : ℕ = get_or words (1271 + i * 2) 0 in
      let count : ℕ = get_or words (1271 + i * 2 + 1) 0 in
      let r = range-is 1 16 256 first count e in
      let n : length (profile_at road i).shapes ≡ count =
      ap (λ (x : Profile). length x.shapes) (profile_in_lem words numbers i l) ∙ cubics-full words numbers 5857 first count (omega arith)
      in
      record { enough = omega arith; few = omega arith }

  column-few : (i column : ℕ) → column_ok words i column ≡ true → length (column_in words numbers i column) ≤ 8
  unfolding column_ok column_in
  column-few i column e =
      let first : ℕ = get_or words (1303 + i * 11 + 1 + column * 2) 0 in
      let count : ℕ = get_or words (1303 + i * 11 + 1 + column * 2 + 1) 0 in
      let r = range-is 0 8 160 first count e in
      let n = cubics-most words numbers 7137 first count in
      omega arith

  columns-few : (i column : ℕ) → i < 4 → column < 5 → strip_ok words i ≡ true → length (column_of (strip_at road i) column) ≤ 8
  unfolding strip_ok
  columns-few i column l m e = go (eqb (get_or words (1303 + i * 11) 0) 0) refl
    where
      go : (b : Bool) → eqb (get_or words (1303 + i * 11) 0) 0 ≡ b → length (column_of (strip_at road i) column) ≤ 8
      go true f = rw (column-absent words numbers i column l f) (omega arith)
      go false f =
          let code : ℕ = get_or words (1303 + i * 11) 0 in
          let t = chain-at (ltb code 3) ((eqb code 0 || all_below (column_ok words i) 5) ∷ []) e in
          let a = either (eqb code 0) (all_below (column_ok words i) 5) (t 1) f in
          rw (column_in_lem words numbers i column l m f) (column-few i column (all-at (column_ok words i) 5 a column m))

  columns_most_lem : all_below (strip_ok words) 4 ≡ true → (i column : ℕ) → length (column_of (strip_at road i) column) ≤ 8
  columns_most_lem e i column = go (ltb i 4) (ltb column 5) refl refl
    where
      go : (a b : Bool) → ltb i 4 ≡ a → ltb column 5 ≡ b → length (column_of (strip_at road i) column) ≤ 8
      go true true l m = let k = ltb-true i 4 l in columns-few i column k (ltb-true column 5 m) (all-at (strip_ok words) 4 e i k)
      go true false l m = rw (column-over words numbers i column (ltb-true i 4 l) (ltb-false column 5 m)) (omega arith)
      go false b l m = rw (column-past words numbers i column (ltb-false i 4 l)) (omega arith)

  -- ---- marks
  record MarksFew (i : ℕ) : Type 0 where
    few : get_or words (1348 + i * 2) 0 ≤ 16
    lanes : (j : ℕ) → j < get_or words (1348 + i * 2) 0 → get_or words (1379 + (get_or words (1347 + i * 2) 0 + j) * 2) 0 < get_or words (72 + i * 3) 0 + get_or words (73 + i * 3) 0

  marks-few : (i : ℕ) → marks_ok words i ≡ true → MarksFew i
  unfolding marks_ok
  marks-few i e =
      let first : ℕ = get_or words (1347 + i * 2) 0 in
      let count : ℕ = get_or words (1348 + i * 2) 0 in
      let lanes : ℕ = get_or words (72 + i * 3) 0 + get_or words (73 + i * 3) 0 in
      let on : ℕ → Bool = λ j. ltb (get_or words (1379 + (first + j) * 2) 0) lanes in
      let f : (leb 0 count && leb count 16 && leb (first + count) 256) && all_below on count ≡ true = rw (plus 1347 1 (i * 2), plus 71 1 (i * 3), plus 71 2 (i * 3)) at e in
      let t = chain-at (leb 0 count && leb count 16 && leb (first + count) 256) (all_below on count ∷ []) f in
      record { few = (range-is 0 16 256 first count (t 0)).few; lanes = λ j l. ltb-true (get_or words (1379 + (first + j) * 2) 0) lanes (all-at on count (t 1) j l) }

  module _ (e : all_below (marks_ok words) (get_or words 5 0) ≡ true) where
    in-marks : (i : ℕ) → i < get_or words 5 0 → MarksFew i
    in-marks i l = marks-few i (all-at (marks_ok words) (get_or words 5 0) e i l)

    marks-most : (i : ℕ) → length (section_of road i).marks ≤ 16
    marks-most i =
        ⊎_elim
        (λ l. rw (mark_count_lem words numbers i l) (in-marks i l).few)
        (λ l. rw (section-past words numbers i l) (omega arith))
        (cases_lt i (get_or words 5 0))

    marks-on : (i j : ℕ) → j < length (section_of road i).marks → (mark_at road i j).lane < length (section_of road i).left + length (section_of road i).right
    unfolding mark_in
    marks-on i j h = go (ltb i (get_or words 5 0)) refl
      where
        go : (b : Bool) → ltb i (get_or words 5 0) ≡ b → (mark_at road i j).lane < length (section_of road i).left + length (section_of road i).right
        go true l =
            let m = ltb-true i (get_or words 5 0) l in
            let k : j < get_or words (1348 + i * 2) 0 = subst (λ (n : ℕ). j < n) (mark_count_lem words numbers i m) h in
            let x = (in-marks i m).lanes j k in
            let a = left_count_lem words numbers i m in
            let b = right_count_lem words numbers i m in
            let c : (mark_at road i j).lane ≡ get_or words (1379 + (get_or words (1347 + i * 2) 0 + j) * 2) 0 = ap (λ (x : Mark). x.lane) (mark_in_lem words numbers i j m k) in
            omega arith
        go false l =
            let n : length (section_of road i).marks ≡ 0 = ap (λ (x : Section). length x.marks) (section-past words numbers i (ltb-false i (get_or words 5 0) l)) in
            absurd (omega arith)

  -- ---- the whole
  pub record Structured : Type 0 where
    pub words_long : 1891 ≤ length words
    pub numbers_long : 8449 ≤ length numbers
    pub geoms : Counted 1 64 (length road.geoms)
    pub elevations : length road.elevations ≤ 64
    pub superelevations : length road.superelevations ≤ 64
    pub offsets : length road.offsets ≤ 64
    pub tshifts : length road.tshifts ≤ 64
    pub sections : Counted 1 16 (length road.sections)
    pub left : (i : ℕ) → length (section_of road i).left ≤ 6
    pub right : (i : ℕ) → length (section_of road i).right ≤ 6
    pub lanes : (i k : ℕ) (right : Bool) → LaneFew (lane_of road i right k)
    pub profiles : length road.profiles ≤ 16
    pub shapes : (i : ℕ) → i < length road.profiles → Counted 1 16 (length (profile_at road i).shapes)
    pub columns : (i column : ℕ) → length (column_of (strip_at road i) column) ≤ 8
    pub marks : (i : ℕ) → length (section_of road i).marks ≤ 16
    pub mark_lanes : (i j : ℕ) → j < length (section_of road i).marks → (mark_at road i j).lane < length (section_of road i).left + length (section_of road i).right

  module _ (e : all_below (section_ok words) (get_or words 5 0) ≡ true) where
    in-section : (i : ℕ) → i < get_or words 5 0 → SectionFew i
    in-section i l = section-few i (all-at (section_ok words) (get_or words 5 0) e i l)

    lefts : (i : ℕ) → length (section_of road i).left ≤ 6
    lefts i =
        ⊎_elim
        (λ l. rw (left_count_lem words numbers i l) (in-section i l).left)
        (λ l. rw (section-past words numbers i l) (omega arith))
        (cases_lt i (get_or words 5 0))

    rights : (i : ℕ) → length (section_of road i).right ≤ 6
    rights i =
        ⊎_elim
        (λ l. rw (right_count_lem words numbers i l) (in-section i l).right)
        (λ l. rw (section-past words numbers i l) (omega arith))
        (cases_lt i (get_or words 5 0))

    lanes-few : (i k : ℕ) (right : Bool) → LaneFew (lane_of road i right k)
    lanes-few i k right = go right (ltb i (get_or words 5 0)) refl
      where
        go : (r b : Bool) → ltb i (get_or words 5 0) ≡ b → LaneFew (lane_of road i r k)
        go true true l = let m = ltb-true i (get_or words 5 0) l in right_lane i m (in-section i m) k
        go false true l = let m = ltb-true i (get_or words 5 0) l in left_lane i m (in-section i m) k
        go r false l = rw (no_lane_lem words numbers i k r (ltb-false i (get_or words 5 0) l)) none-few

  module _ (e : structured words numbers ≡ true) where
    record Tests : Type 0 where
      long_words : leb 1891 (length words) ≡ true
      long_numbers : leb 8449 (length numbers) ≡ true
      counts : counts_ok words ≡ true
      sections : all_below (section_ok words) (get_or words 5 0) ≡ true
      profiles : all_below (profile_ok words) (get_or words 6 0) ≡ true
      strips : all_below (strip_ok words) 4 ≡ true
      marks : all_below (marks_ok words) (get_or words 5 0) ≡ true

    tests : Tests
    unfolding structured
    tests =
        let t =
        chain-at
        (leb 1891 (length words))
        (leb 8449 (length numbers) ∷ counts_ok words ∷ kinds_ok words ∷ all_below (section_ok words) (get_or words 5 0) ∷ all_below (profile_ok words) (get_or words 6 0) ∷ all_below (strip_ok words) 4 ∷ all_below (marks_ok words) (get_or words 5 0) ∷ [])
        e
        in
        record { long_words = t 0; long_numbers = t 1; counts = t 2; sections = t 4; profiles = t 5; strips = t 6; marks = t 7 }

    count-tests : (i : ℕ) → get_or (leb 1 (get_or words 0 0) ∷ leb (get_or words 0 0) 64 ∷ leb (get_or words 1 0) 64 ∷ leb (get_or words 2 0) 64 ∷ leb (get_or words 3 0) 64 ∷ leb (get_or words 4 0) 64 ∷ leb 1 (get_or words 5 0) ∷ leb (get_or words 5 0) 16 ∷ leb (get_or words 6 0) 16 ∷ []) i true ≡ true
    unfolding counts_ok
    count-tests =
        chain-at
        (leb 1 (get_or words 0 0))
        (leb (get_or words 0 0) 64 ∷ leb (get_or words 1 0) 64 ∷ leb (get_or words 2 0) 64 ∷ leb (get_or words 3 0) 64 ∷ leb (get_or words 4 0) 64 ∷ leb 1 (get_or words 5 0) ∷ leb (get_or words 5 0) 16 ∷ leb (get_or words 6 0) 16 ∷ [])
        tests.counts

    -- a flat table has at most the lines of its count
    flat : (base at : ℕ) → leb (get_or words at 0) 64 ≡ true → length (cubics_in words numbers base 0 (get_or words at 0)) ≤ 64
    flat base at t =
        let a = cubics-most words numbers base 0 (get_or words at 0) in
        let b = leb-true (get_or words at 0) 64 t in
        omega arith

    pub structured-is : Structured
    unfolding road_of
    structured-is =
        let n = leb-true 8449 (length numbers) tests.long_numbers in
        record {
          words_long = leb-true 1891 (length words) tests.long_words;
          numbers_long = n;
          geoms = rw (geom_count_lem words numbers) (record { enough = leb-true 1 (get_or words 0 0) (count-tests 0); few = leb-true (get_or words 0 0) 64 (count-tests 1) });
          elevations = flat 449 1 (count-tests 2);
          superelevations = flat 769 2 (count-tests 3);
          offsets = flat 1089 3 (count-tests 4);
          tshifts = flat 1409 4 (count-tests 5);
          sections = rw (section_count_lem words numbers) (record { enough = leb-true 1 (get_or words 5 0) (count-tests 6); few = leb-true (get_or words 5 0) 16 (count-tests 7) });
          left = lefts tests.sections;
          right = rights tests.sections;
          lanes = lanes-few tests.sections;
          profiles = rw (profile_count_lem words numbers) (leb-true (get_or words 6 0) 16 (count-tests 8));
          shapes = λ i l. let m = rw (profile_count_lem words numbers) at l in shapes-few i n m (all-at (profile_ok words) (get_or words 6 0) tests.profiles i m);
          columns = columns_most_lem tests.strips;
          marks = marks-most tests.marks;
          mark_lanes = marks-on tests.marks;
        }
