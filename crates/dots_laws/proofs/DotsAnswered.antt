-- `DotsAnswers`, `DotsAnswered` and `DotsRefused` hold. A value comes of rows that pass; they say that the line is a track of f32 with stations that rise, so the laws on its dots hold of the list's first elements.
use Prim.Native.Nat.{ℕ, zero, suc, ◌/◌, ◌≤◌, ◌<◌}
use native.Mathlib.Nat.{le_trans, le_of_eq}
use native.Mathlib.Omega.{arith}
use mathlib.Core.Path.{◌≡◌, refl, sym, ap, ◌∙◌, subst}
use mathlib.Core.Bool.{Bool, true, false, cond, ◌&&◌}
use mathlib.Core.List.{List, [], ◌∷◌, ◌++◌}
use mathlib.Core.Logic.{⊎_elim}
use lib.IntN.{ℤ, pos, negsuc}
use lib.ListN.{length, take, drop, get_or, get_or-append, get_or-eq_default, length-append, length-drop}
use lib.Seq.{take_at, drop_at}
use lib.Dec.{T, leb, ltb}
use lib.Ieee.{Float, nan, binary32, of_bits, fits, le, lt}
use lib.Ieee.Scale.{finite}
use borrow.Author.Tests.{le-leb, leb-true, ltb-true}
use Rattle.std.specs.Prelude.{Option, Some, None}
use Rattle.std.proofs.lemmas.Bool.{cases_lt}
use Rattle.std.proofs.lemmas.Float.{le_trans as float_trans, lt_of_lt_of_le as float-lt_of_lt_of_le, T_from_true}
use Rattle.float_laws.specs.Binary32.{zero32}
use Rattle.float_laws.proofs.Value.{Real}
use Rattle.float_laws.proofs.Interval.{in-of_le}
use Rattle.float_laws.proofs.Checker.{good-real}
use Rattle.refusals.specs.Answer.{Answer, value, refused, Row, checked}
use Rattle.records.specs.declared.points.LanePlace.{LanePlace}
use Rattle.records.specs.Roads.{Road, Section, road_of, no_section, section_of}
use Rattle.records_lent.proofs.TestLaws.{and-fst, and-snd}
use Rattle.records_marks.proofs.CoverLaws.{covered-is}
use Rattle.line_samples.specs.Samples.{samples_needed}
use Rattle.admission.specs.Limits.{limited}
use Rattle.admission.specs.Admission.{admitted, pass}
use Rattle.admission.proofs.RowLaws.{checked-pass, pass-checked}
use Rattle.admission.proofs.AdmissionLaws.{road-admitted, road-answered, admitted-limited}
use Rattle.admission_laws.specs.Fractions.{AllF64}
use Rattle.admission_laws.proofs.Fitting.{RoadFits, road-fits}
use Rattle.line_calls.specs.SampleCall.{sample_row}
use Rattle.lanes_borders.specs.Borders.{side_lanes}
use Rattle.surface_calls.specs.SurfaceCalls.{place_of_id, lane_there}
use Rattle.coordinates.specs.Points.{point_at}
use Rattle.tracks_calls.specs.TrackCalls.{track_counted, all_inside}
use Rattle.tracks_laws.specs.TrackLaws.{IsF32, is_track}
use Rattle.dots.specs.Along.{nth_station}
use Rattle.dots.specs.Dots.{most_multiples, multiples_on, dotted_kind, dots_to, dots_fit}
use Rattle.dots_calls.specs.DotsCall.{stations_listed, line_of, lane_rank, least_spacing, greatest_spacing, spaced, line_ok, dots_of, dot_rows, dots_by, dots_left, lane_asked, dots_call, dots_written, dots_list}
use Rattle.dots_calls.proofs.LineSteps.{line-length}
use Rattle.dots_laws.specs.NeverBack.{NotBack, StationsKept}
use Rattle.dots_laws.specs.DotsKept.{DotsKept}
use Rattle.dots_laws.specs.DotsAnswered.{StationsListed, DotPlaced, AnswerKept, DotsAnswers, DotsAnswered, DotsRefused}
use Rattle.dots_laws.proofs.NeverBack.{never-back-law}
use Rattle.dots_laws.proofs.DotsKept.{dot-real, on_from, dots-laws}
use Rattle.dots_laws.proofs.LineFits.{line-fits}
use Rattle.dots_laws.proofs.InSection.{stations-listed, before-end}

-- ---- the lane

module _ (road : Road) (i : ℕ) where
  abbrev There : LanePlace → Type 0
  There p = (p.section ≡ i) × (p.k < length (side_lanes road i p.right))

  lane-of : (right : Bool) (k : ℕ) (b : Bool) (p : LanePlace) → ltb k (length (side_lanes road i right)) ≡ b → cond b (Some (record { section = i; right = right; k = k })) None ≡ Some p → There p
  lane-of right k true p t e = let q : LanePlace = record { section = i; right = right; k = k } in let same : q ≡ p = cc in subst There same (refl, ltb-true k (length (side_lanes road i right)) t)
  lane-of right k false p t e = let z : ◌≡◌ {A = ℕ} 0 1 = cc in absurd (omega arith)

  -- a lane that is found is one of the section that was asked of
  found-there : (lane : ℤ) (p : LanePlace) → lane_there road (place_of_id i lane) ≡ Some p → There p
  unfolding place_of_id lane_there
  found-there (pos zero) p e = let z : ◌≡◌ {A = ℕ} 0 1 = cc in absurd (omega arith)
  found-there (pos (suc k)) p e = lane-of false k (ltb k (length (side_lanes road i false))) p refl e
  found-there (negsuc k) p e = lane-of true k (ltb k (length (side_lanes road i true))) p refl e

  -- so there is such a section
  no-lanes : (right : Bool) → section_of road i ≡ no_section → length (side_lanes road i right) ≡ 0
  no-lanes true e = ap (λ (x : Section). length x.right) e
  no-lanes false e = ap (λ (x : Section). length x.left) e

  section-there : (right : Bool) (k : ℕ) → k < length (side_lanes road i right) → i < length road.sections
  section-there right k l = ⊎_elim (λ h. h) (λ h. let z = no-lanes right (get_or-eq_default road.sections no_section {n = i} h) in absurd (omega arith)) (cases_lt i (length road.sections))

-- ---- rows

-- a value is none but itself
same-value : {A : Type 0} {x y : A} → ◌≡◌ {A = Answer A} (value x) (value y) → x ≡ y
same-value e = cc

-- rows 15, 16 and 17 one by one
module _ (road : Road) (samples : List Float) (spacing : Float) (stations : List Float) (p : LanePlace) (len : ℕ) where
  abbrev line : List Float
  line = line_of road samples p stations

  abbrev fit : Bool
  fit = dots_fit road p.section (lane_rank road p) (point_at line) (nth_station stations) (length stations) spacing len

  abbrev count : ℕ
  count = multiples_on (point_at line) (nth_station stations) (length stations) spacing

  record Rows : Type 0 where
    spacing_passes : spaced spacing ≡ true
    stations_pass : stations_listed road p.section stations ≡ true
    track : is_track line ≡ true
    few : count ≤ most_multiples
    room : length (dots_of road samples spacing stations p) ≤ len

  rows-of : pass (dot_rows road samples spacing stations p len) ≡ true → Rows
  rows-of e =
      let two = and-snd (spaced spacing) (stations_listed road p.section stations && line_ok road samples spacing stations p && (fit && true)) e in
      let s = and-fst (stations_listed road p.section stations && line_ok road samples spacing stations p) (fit && true) two in
      let t = and-snd (stations_listed road p.section stations) (line_ok road samples spacing stations p) s in
      let counted = and-fst (track_counted (length line)) (all_inside line && true) t in
      let inside = and-fst (all_inside line) true (and-snd (track_counted (length line)) (all_inside line && true) t) in
      let f = and-fst fit true (and-snd (stations_listed road p.section stations && line_ok road samples spacing stations p) (fit && true) two) in
      let few = leb count most_multiples in
      let held = leb (length (dots_of road samples spacing stations p)) len in
      record {
        spacing_passes = and-fst (spaced spacing) (stations_listed road p.section stations && line_ok road samples spacing stations p && (fit && true)) e;
        stations_pass = and-fst (stations_listed road p.section stations) (line_ok road samples spacing stations p) s;
        track = rw (counted, inside);
        few = leb-true count most_multiples (and-fst few held f);
        room = leb-true (length (dots_of road samples spacing stations p)) len (and-snd few held f);
      }

-- ---- the spacing

least-real : Real binary32 least_spacing
unfolding of_bits fits
least-real = good-real binary32 least_spacing tt

greatest-real : Real binary32 greatest_spacing
unfolding of_bits fits
greatest-real = good-real binary32 greatest_spacing tt

least-above : T (lt zero32 least_spacing)
unfolding of_bits lt
least-above = tt

spacing-finite : (spacing : Float) → IsF32 spacing → spaced spacing ≡ true → T (finite spacing)
spacing-finite spacing f e =
    let a = le least_spacing spacing in
    let b = le spacing greatest_spacing in
    (in-of_le binary32 least_spacing greatest_spacing spacing least-real greatest-real f (T_from_true a (and-fst a b e)) (T_from_true b (and-snd a b e))).value.finite

spacing-above : (spacing : Float) → spaced spacing ≡ true → T (lt zero32 spacing)
spacing-above spacing e = float-lt_of_lt_of_le zero32 least_spacing spacing least-above (T_from_true (le least_spacing spacing) (and-fst (le least_spacing spacing) (le spacing greatest_spacing) e))

-- ---- the call

module _ (words : List ℕ) (numbers samples : List Float) (i : ℕ) (lane : ℤ) (spacing : Float) (stations : List Float) where
  abbrev road : Road
  road = road_of words numbers

  abbrev asked : Option LanePlace
  asked = lane_asked words numbers samples i lane spacing stations

  -- row 6
  abbrev sampled : List Row
  sampled = sample_row words numbers (length samples) ∷ []

  abbrev dots : LanePlace → List Float
  dots p = dots_of road samples spacing stations p

  call-answers : (len : ℕ) (p : LanePlace) → admitted words numbers ≡ true → samples_needed road ≤ length samples / 4 → asked ≡ Some p → pass (dot_rows road samples spacing stations p len) ≡ true
      → dots_call words numbers samples i lane spacing stations len ≡ value (length (dots p))
  unfolding dots_call
  call-answers len p ok enough is rows =
      road-admitted words numbers sampled (dots_by road samples spacing stations asked len) ok
      ∙ pass-checked sampled (dots_by road samples spacing stations asked len) (rw (le-leb (samples_needed road) (length samples / 4) enough))
      ∙ ap (λ (o : Option LanePlace). dots_by road samples spacing stations o len) is
      ∙ pass-checked (dot_rows road samples spacing stations p len) (value (length (dots p))) rows

  module _ (list : List Float) where
    abbrev left : List Float
    left = dots_list words numbers samples i lane spacing stations list

    call-refuses : (m : ℕ) → dots_call words numbers samples i lane spacing stations (length list) ≡ refused m → left ≡ list
    unfolding dots_list
    call-refuses m e = ap (λ (a : Answer ℕ). dots_written words numbers samples i lane spacing stations a list) e

    module _ (n : ℕ) (e : dots_call words numbers samples i lane spacing stations (length list) ≡ value n) where
      ok : admitted words numbers ≡ true
      unfolding dots_call
      ok = road-answered words numbers sampled (dots_by road samples spacing stations asked (length list)) n e

      own : checked sampled (dots_by road samples spacing stations asked (length list)) ≡ value n
      unfolding dots_call
      own = sym (road-admitted words numbers sampled (dots_by road samples spacing stations asked (length list)) ok) ∙ e

      sampled-pass : pass sampled ≡ true
      sampled-pass = checked-pass sampled (dots_by road samples spacing stations asked (length list)) n own

      enough : samples_needed road ≤ length samples / 4
      enough = let b = leb (samples_needed road) (length samples / 4) in leb-true (samples_needed road) (length samples / 4) (and-fst b true sampled-pass)

      -- ---- the lane

      record Found (o : Option LanePlace) : Type 0 where
        place : LanePlace
        is : o ≡ Some place
        rows : pass (dot_rows road samples spacing stations place (length list)) ≡ true
        counted : length (dots place) ≡ n

      found-of : (o : Option LanePlace) → dots_by road samples spacing stations o (length list) ≡ value n → Found o
      found-of None h = let z : ◌≡◌ {A = ℕ} 0 1 = cc in absurd (omega arith)
      found-of (Some p) h =
          let rs = dot_rows road samples spacing stations p (length list) in
          let passed = checked-pass rs (value (length (dots p))) n h in
          record { place = p; is = refl; rows = passed; counted = same-value (sym (pass-checked rs (value (length (dots p))) passed) ∙ h) }

      found : Found asked
      found = found-of asked (sym (pass-checked sampled (dots_by road samples spacing stations asked (length list)) sampled-pass) ∙ own)

      abbrev place : LanePlace
      place = found.place

      there : There road i place
      there = found-there road i lane place found.is

      rows : Rows road samples spacing stations place (length list)
      rows = rows-of road samples spacing stations place (length list) found.rows

      -- ---- the list afterwards

      left-is : left ≡ dots place ++ drop n list
      unfolding dots_list
      left-is =
          ap (λ (a : Answer ℕ). dots_written words numbers samples i lane spacing stations a list) e
          ∙ ap (λ (o : Option LanePlace). dots_left road samples spacing stations o list) found.is
          ∙ ap (λ (m : ℕ). dots place ++ drop m list) found.counted

      room : n ≤ length list
      room = le_trans (le_of_eq (sym found.counted)) rows.room

      same-length : length left ≡ length list
      same-length =
          let a = ap length left-is ∙ length-append (dots place) (drop n list) in
          let b = length-drop n list in
          let c = found.counted in
          let r = room in
          omega arith

      first : take n left ≡ dots place
      first = ap (take n) left-is ∙ take_at (dots place) (drop n list) n found.counted

      rest : drop n left ≡ drop n list
      rest = ap (drop n) left-is ∙ drop_at (dots place) (drop n list) n found.counted

      at : (k : ℕ) → k < n → get_or left k nan ≡ get_or (dots place) k nan
      at k l = ap (λ (xs : List Float). get_or xs k nan) left-is ∙ get_or-append (dots place) (drop n list) nan k (let c = found.counted in omega arith)

      -- ---- the dots

      module _ (fitting : AllF64 numbers) (f : IsF32 spacing) (stations-fit : AllF64 stations) where
        road-fit : RoadFits road
        road-fit = road-fits words numbers fitting

        limits : limited road ≡ true
        limits = admitted-limited words numbers ok

        section : place.section < length road.sections
        section = subst (λ (j : ℕ). j < length road.sections) (sym there.0) (section-there road i place.right place.k there.1)

        listed : StationsListed road place.section stations
        listed = stations-listed road road-fit limits place.section section stations rows.stations_pass

        abbrev points : List Float
        points = line_of road samples place stations

        as-many : length stations ≡ length points / 3
        as-many = let l = line-length road samples place (nth_station stations) (length stations) in omega arith

        line-kept : StationsKept (point_at points) (nth_station stations) (length stations)
        line-kept = never-back-law points stations (line-fits road samples place stations) stations-fit rows.track as-many listed.rise

        finite-spacing : T (finite spacing)
        finite-spacing = spacing-finite spacing f rows.spacing_passes

        above : T (lt zero32 spacing)
        above = spacing-above spacing rows.spacing_passes

        abbrev rank : ℕ
        rank = lane_rank road place

        rule : DotsKept road place.section rank (point_at points) (nth_station stations) (length stations) spacing
        rule = dots-laws points stations (line-fits road samples place stations) stations-fit rows.track as-many listed.rise spacing f finite-spacing above road place.section rank

        -- how many multiples there are
        abbrev all : ℕ
        all = multiples_on (point_at points) (nth_station stations) (length stations) spacing

        abbrev listed_dots : List Float
        listed_dots = dots_to road place.section rank (point_at points) (nth_station stations) (length stations) spacing all

        counted : length listed_dots ≡ n
        counted = ap length (sym rule.whole_list) ∙ found.counted

        -- element k of the list afterwards
        same : (k : ℕ) → k < n → get_or listed_dots k nan ≡ get_or left k nan
        same k l = ap (λ (xs : List Float). get_or xs k nan) (sym rule.whole_list) ∙ sym (at k l)

        placed_in : (k : ℕ) → k < length listed_dots → DotPlaced road place.section rank (get_or listed_dots k nan)
        placed_in k l =
            let s = get_or listed_dots k nan in
            let real = dot-real road place.section rank (point_at points) (nth_station stations) (length stations) line-kept spacing f finite-spacing above all k l in
            let from : T (le (nth_station stations 0) s) = on_from road place.section rank (point_at points) (nth_station stations) (length stations) line-kept spacing f finite-spacing above all k l in
            let span = (covered-is road place.section rank dotted_kind s).0 (rule.dotted all k l) in
            record {
              number = real.finite;
              from = float_trans (section_of road place.section).start (nth_station stations 0) s listed.from from;
              below = before-end road road-fit limits place.section section rank dotted_kind s real span;
              span = span;
            }

        placed : (k : ℕ) → k < n → DotPlaced road place.section rank (get_or left k nan)
        placed k l = subst (DotPlaced road place.section rank) (same k l) (placed_in k (let e = counted in omega arith))

        never-back : (k j : ℕ) → k ≤ j → j < n → NotBack (get_or left k nan) (get_or left j nan)
        never-back k j h l =
            subst (λ (x : Float). NotBack x (get_or left j nan)) (same k (omega arith))
            (subst (λ (y : Float). NotBack (get_or listed_dots k nan) y) (same j l) (rule.never_back all k j h (let e = counted in omega arith)))

        kept : AnswerKept words numbers samples i lane spacing stations list n
        kept =
            record {
              road_passes = ok;
              samples_pass = enough;
              place = place;
              lane_is = found.is;
              of_section = there.0;
              lane_there = there.1;
              rows_pass = found.rows;
              spacing_passes = rows.spacing_passes;
              stations_pass = listed;
              line_passes = rows.track;
              few = rows.few;
              line = line-kept;
              rule = rule;
              room = room;
              same_length = same-length;
              dots = first;
              rest = rest;
              placed = placed;
              never_back = never-back;
            }

-- ---- the statements

pub dots-answers : DotsAnswers
dots-answers = call-answers

pub dots-answered : DotsAnswered
dots-answered words numbers samples i lane spacing stations list fitting f stations-fit n e = kept words numbers samples i lane spacing stations list n e fitting f stations-fit

pub dots-refused : DotsRefused
dots-refused = call-refuses
