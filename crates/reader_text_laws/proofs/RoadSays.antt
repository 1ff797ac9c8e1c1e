-- The road that an accepted text leaves in memory is the road that its lines say (`road-says`).
use Prim.Native.Nat.{ℕ, zero, suc, ◌+◌, ◌*◌, ◌/◌, ◌%◌, ◌<◌, ◌≤◌}
use native.Mathlib.Omega.{arith}
use native.Mathlib.Nat.{add-zero}
use mathlib.Core.Path.{◌≡◌, refl, sym, ◌∙◌, ap, subst}
use mathlib.Core.Bool.{Bool, true, false, cond}
use mathlib.Core.List.{List, [], ◌∷◌, map}
use lib.ListN.{length, get_or, length-map, get_or-map}
use lib.Seq.{ext_get_or}
use lib.Dec.{eqb, ltb}
use lib.Ieee.{Float}
use borrow.Author.Tests.{ltb-false, eqb-true, eqb-false, eq-eqb, ne_eqb}
use Rattle.records_lent.specs.Lists.{tabulate, span}
use Rattle.records_lent.proofs.TableLaws.{span-at}
use Rattle.records_cubic.specs.declared.cubics.Cubic.{Cubic}
use Rattle.records_cubic.specs.Cubics.{no_cubic}
use Rattle.records.specs.declared.points.GeomRec.{GeomRec}
use Rattle.records.specs.declared.points.HeightDef.{HeightDef}
use Rattle.records.specs.declared.points.Mark.{Mark}
use Rattle.records.specs.Layout.{extent_base, shape_base, cubic_base}
use Rattle.records.specs.Roads.{Road, Section, Lane, Profile, Strip, absent, present, no_height, road_of, cubics_in, heights_in, lane_in, mark_in, section_in, profile_in, column_in, strip_in}
use Rattle.records.proofs.CubicLaws.{height-count}
use Rattle.admission_structure.proofs.StructureLaws.{cubics-full}
use Rattle.reader_lines.specs.Columns.{cell_of, no_cells}
use Rattle.reader_lines.specs.declared.columns.Cells.{Cells}
use Rattle.std.specs.Prelude.{Option, Some, None}
use Rattle.reader_store.specs.Layout.{number_lines, word_lines, number_columns, word_columns, code_of, count_place, ranges_of}
use Rattle.reader_laws.proofs.ColumnPlaces.{number_place, word_place}
use Rattle.reader_store.specs.Progress.{strip_line}
use Rattle.reader_store.specs.Keep.{mark_kind}
use Rattle.reader_store.specs.declared.progress.Progress.{Progress}
use Rattle.reader_calls.specs.Reading.{done, zeros}
use Rattle.reader_laws.specs.Lines.{lines_of, cubic_in, height_in}
use Rattle.reader_laws.proofs.Layouts.{Five, extent-five, shape-five, cubic-five, cubic-join, height-join, sections-join, section_start-join, left_join, right-join, marks-join, mark-join, mark-same, lane-join, profiles-join, profile-join, column-join}
use Rattle.reader_laws.proofs.ReadTables.{Stored}
use Rattle.reader_laws.proofs.TablesKept.{number-kept, rows_inside}
use Rattle.reader_laws.proofs.CountsKept.{count_kept_lem}
use Rattle.reader_laws.proofs.RoadRead.{line_read, height-line_read, mark-span-read, elevations-read, superelevations-read, offsets-read, tshifts-read, geoms-read, unused-all_read, length-read}
use Rattle.reader_text_laws.specs.Said.{those, numbered, under, left_under, right_under, of_lane, of_strip, of_term, place_said, lane_said, mark_said, section_said, profile_said, term_said, strip_by, strip_said, road_said}
use Rattle.reader_text_laws.proofs.Those.{Part, part_same, those-part, part_length, any, table-part, table-numbered}
use Rattle.reader_text_laws.proofs.Folds.{State}
use Rattle.reader_text_laws.proofs.States.{state, state-end, state-size, Reading, sound-reading}
use Rattle.reader_text_laws.proofs.Ranges.{Outside}
use Rattle.reader_text_laws.proofs.Lanes.{first_at, lefts_at, rights_at}
use Rattle.reader_text_laws.proofs.LaneLines.{LaneRows, left-part, right-part}
use Rattle.reader_text_laws.proofs.Listed.{strip-cells}
use Rattle.reader_text_laws.proofs.ChildLines.{sections-few, lanes-few, profiles-few, lanes, lanes-after, extent-part-9, height-part-10, shape-part-12}
use Rattle.reader_text_laws.proofs.StripLines.{end-12, strip-none, strip-one, term-part}
use Rattle.reader_text_laws.proofs.MarkLines.{before-10, before-9, before-8, end-14, mark-part-16, mark_words-16, mark_kind-16}

-- a code that is kept as a word is 1 where the cell is
code_one : (v : ℕ) → eqb (code_of v) 1 ≡ eqb v 1
unfolding code_of
code_one v = go (ltb v 65536) refl
  where
    go : (b : Bool) → ltb v 65536 ≡ b → eqb (cond b v 65535) 1 ≡ eqb v 1
    go true e = refl
    go false e = let f = ltb-false v 65536 e in sym (ne_eqb v 1 (λ z. omega arith))

relative-two : (v : ℕ) → v < 2 → (eqb (v % 2 + 1) 0 ≡ false) × (eqb (v % 2 + 1) 2 ≡ eqb v 1)
relative-two v h = (ne_eqb (v % 2 + 1) 0 (λ z. omega arith), go (eqb v 1) refl)
  where
    go : (b : Bool) → eqb v 1 ≡ b → eqb (v % 2 + 1) 2 ≡ b
    go true e = let f = eqb-true v 1 e in eq-eqb (v % 2 + 1) 2 (omega arith)
    go false e = ne_eqb (v % 2 + 1) 2 (λ z. eqb-false v 1 e (omega arith))

lane-same : {a a' b b' : Bool} {c c' : List Cubic} {d d' : List HeightDef} → a ≡ a' → b ≡ b' → c ≡ c' → d ≡ d' → ◌≡◌ {A = Lane} (record { border = a; level = b; extents = c; heights = d }) (record { border = a'; level = b'; extents = c'; heights = d' })
lane-same p q r t = cc

section-same : {a a' : Float} {b b' c c' : List Lane} {d d' : List Mark} → a ≡ a' → b ≡ b' → c ≡ c' → d ≡ d' → ◌≡◌ {A = Section} (record { start = a; left = b; right = c; marks = d }) (record { start = a'; left = b'; right = c'; marks = d' })
section-same p q r t = cc

profile-same : {a a' : Float} {b b' : List Cubic} → a ≡ a' → b ≡ b' → ◌≡◌ {A = Profile} (record { s = a; shapes = b }) (record { s = a'; shapes = b' })
profile-same p q = cc

strip-same : {a a' : Bool} {b b' c c' d d' e e' f f' : List Cubic} → a ≡ a' → b ≡ b' → c ≡ c' → d ≡ d' → e ≡ e' → f ≡ f'
    → ◌≡◌ {A = Strip} (present (record { relative = a; width = b; terms = c ∷ d ∷ e ∷ f ∷ [] })) (present (record { relative = a'; width = b'; terms = c' ∷ d' ∷ e' ∷ f' ∷ [] }))
strip-same p q r t u v = cc

four_same : {a a' b b' c c' d d' : Strip} → a ≡ a' → b ≡ b' → c ≡ c' → d ≡ d' → ◌≡◌ {A = List Strip} (a ∷ b ∷ c ∷ d ∷ []) (a' ∷ b' ∷ c' ∷ d' ∷ [])
four_same p q r t = cc

road-same : {a a' : Float} {b b' : List GeomRec} {c c' : List (List Float)} {d d' e e' f f' g g' : List Cubic} {h h' : List Section} {i i' : List Profile} {j j' : List Strip} → a ≡ a' → b ≡ b' → c ≡ c' → d ≡ d' → e ≡ e' → f ≡ f' → g ≡ g' → h ≡ h' → i ≡ i' → j ≡ j'
    → ◌≡◌ {A = Road} (record { length = a; geoms = b; unused = c; elevations = d; superelevations = e; offsets = f; tshifts = g; sections = h; profiles = i; strips = j })
    (record { length = a'; geoms = b'; unused = c'; elevations = d'; superelevations = e'; offsets = f'; tshifts = g'; sections = h'; profiles = i'; strips = j' })
road-same p q r s t u v w x y = cc

module _ (text : List ℕ) (l m n at count : ℕ) (progress : Progress) (ws : List ℕ) (ns : List Float) (vs : List ℕ) (read : Stored text l m n (done at count progress ws ns vs)) where
  abbrev T : ℕ → List Cells
  T t = lines_of text t

  abbrev st : ℕ → State
  st t = state text l m n at count progress ws ns vs read.form t

  abbrev reading : Reading text l n 16 st
  reading =
      let a = read in
      sound-reading text l m n at count progress ws ns vs a.form a.sound

  ended : (p : ℕ) → get_or ws p 0 ≡ get_or (st 16).words p 0
  ended p = let a = read in ap (λ (s : State). get_or s.words p 0) (sym (state-end text l m n at count progress ws ns vs a.form))

  -- memory keeps its length
  pub words-kept : length ws ≡ length (zeros l)
  words-kept =
      let a = read in
      ap (λ (s : State). length s.words) (sym (state-end text l m n at count progress ws ns vs a.form)) ∙ state-size text l n 16 st reading 16 (omega arith)

  few : length (T 10) ≤ 16
  few = profiles-few text l n 16 st reading

  -- ---- memory after the last table, by the table that left it

  end-13 : (p : ℕ) → 71 ≤ p → p < 1347 → get_or ws p 0 ≡ get_or (st 14).words p 0
  end-13 p h g = ended p ∙ end-14 text l n 16 st reading (omega arith) (omega arith) p h g

  end-11 : (p : ℕ) → 71 ≤ p → p < 1271 → get_or ws p 0 ≡ get_or (st 10).words p 0
  end-11 p h g = end-13 p h (omega arith) ∙ before-10 text l n 16 st reading (omega arith) p h g

  abbrev Lane? : ℕ → Type 0
  Lane? i = i < length (T 7)

  end-9 : (p : ℕ) → 71 ≤ p → p < 1271 → Outside Lane? 123 6 p → get_or ws p 0 ≡ get_or (st 9).words p 0
  end-9 p h g f = end-13 p h (omega arith) ∙ before-9 text l n 16 st reading (omega arith) p h g f

  end-8 : (p : ℕ) → 71 ≤ p → p < 1271 → Outside Lane? 123 6 p → Outside Lane? 121 6 p → get_or ws p 0 ≡ get_or (st 8).words p 0
  end-8 p h g f e = end-13 p h (omega arith) ∙ before-8 text l n 16 st reading (omega arith) p h g f e

  pub lane_rows_lem : LaneRows (T 7) (length (T 6)) ws
  lane_rows_lem = lanes-after text l n 16 st reading (omega arith) ws (λ p a b. end-8 p a (omega arith) (λ i q. (λ e. omega arith, λ e. omega arith)) (λ i q. (λ e. omega arith, λ e. omega arith)))

  pub lane-extent : (j : ℕ) → j < length (T 7) → get_or ws (119 + j * 6) 0 ≡ code_of (cell_of (get_or (T 7) j no_cells) 2)
  lane-extent j h =
      let f = lanes-few text l n 16 st reading in
      end-8 (119 + j * 6) (omega arith) (omega arith) (λ i q. (λ e. omega arith, λ e. omega arith)) (λ i q. (λ e. omega arith, λ e. omega arith))
      ∙ (reading.step 7 (omega arith)).high (119 + j * 6) (omega arith) ∙ (lanes text l n 16 st reading (omega arith)).extent j h

  pub lane-level : (j : ℕ) → j < length (T 7) → get_or ws (119 + j * 6 + 1) 0 ≡ code_of (cell_of (get_or (T 7) j no_cells) 3)
  lane-level j h =
      let f = lanes-few text l n 16 st reading in
      end-8 (119 + j * 6 + 1) (omega arith) (omega arith) (λ i q. (λ e. omega arith, λ e. omega arith)) (λ i q. (λ e. omega arith, λ e. omega arith))
      ∙ (reading.step 7 (omega arith)).high (119 + j * 6 + 1) (omega arith) ∙ (lanes text l n 16 st reading (omega arith)).level j h

  pub extent-part : (i : ℕ) → i < length (T 7) → Part (of_lane (get_or (T 7) i no_cells)) (T 8) (get_or ws (121 + i * 6) 0) (get_or ws (121 + i * 6 + 1) 0)
  extent-part i h =
      let f = lanes-few text l n 16 st reading in
      part_same (of_lane (get_or (T 7) i no_cells)) (T 8) (sym (end-9 (121 + i * 6) (omega arith) (omega arith) (λ j q. (λ e. omega arith, λ e. omega arith)))) (sym (end-9 (121 + i * 6 + 1) (omega arith) (omega arith) (λ j q. (λ e. omega arith, λ e. omega arith))))
      (extent-part-9 text l n 16 st reading (omega arith) (omega arith) i h)

  pub height-part : (i : ℕ) → i < length (T 7) → Part (of_lane (get_or (T 7) i no_cells)) (T 9) (get_or ws (123 + i * 6) 0) (get_or ws (123 + i * 6 + 1) 0)
  height-part i h =
      let f = lanes-few text l n 16 st reading in
      part_same (of_lane (get_or (T 7) i no_cells)) (T 9) (sym (end-11 (123 + i * 6) (omega arith) (omega arith))) (sym (end-11 (123 + i * 6 + 1) (omega arith) (omega arith))) (height-part-10 text l n 16 st reading (omega arith) (omega arith) (omega arith) i h)

  pub shape-part : (i : ℕ) → i < length (T 10) → Part (under i) (T 11) (get_or ws (1271 + i * 2) 0) (get_or ws (1271 + i * 2 + 1) 0)
  shape-part i h =
      let f = few in
      part_same (under i) (T 11) (sym (end-13 (1271 + i * 2) (omega arith) (omega arith) ∙ end-12 text l n 16 st reading (omega arith) few (omega arith) (1271 + i * 2) (omega arith) (omega arith))) (sym (end-13 (1271 + i * 2 + 1) (omega arith) (omega arith) ∙ end-12 text l n 16 st reading (omega arith) few (omega arith) (1271 + i * 2 + 1) (omega arith) (omega arith))) (shape-part-12 text l n 16 st reading (omega arith) (omega arith) (omega arith) (omega arith) i h)

  -- a section's left and right lanes, counted
  section-same-14 : (i : ℕ) → i < length (T 6) → (lefts_at (st 14).words i ≡ lefts_at ws i) × (rights_at (st 14).words i ≡ rights_at ws i)
  section-same-14 i h = let s = sections-few text l n 16 st reading in (sym (end-13 (71 + 3 * i + 1) (omega arith) (omega arith)), sym (end-13 (71 + 3 * i + 2) (omega arith) (omega arith)))

  pub mark-part : (i : ℕ) → i < length (T 6) → Part (under i) (T 14) (get_or ws (1347 + i * 2) 0) (get_or ws (1347 + i * 2 + 1) 0)
  mark-part i h = part_same (under i) (T 14) (sym (ended (1347 + i * 2))) (sym (ended (1347 + i * 2 + 1))) (mark-part-16 text l n 16 st reading (omega arith) (omega arith) i h)

  -- a mark's lane is one of its section
  pub mark_lane_lem : (i j : ℕ) → i < length (T 6) → j < length (T 14) → under i (get_or (T 14) j no_cells) ≡ true → (get_or ws (1379 + j * 2) 0 ≡ place_said (lefts_at ws i) (cell_of (get_or (T 14) j no_cells) 1)) × (get_or ws (1379 + j * 2) 0 < lefts_at ws i + rights_at ws i)
  mark_lane_lem i j h g e =
      let w = mark_words-16 text l n 16 st reading (omega arith) (omega arith) j g i e in
      let s = section-same-14 i h in
      let a = s.0 in
      let b = s.1 in
      let c = ended (1379 + j * 2) in
      let d = w.1 in
      (c ∙ w.0 ∙ ap (λ (q : ℕ). place_said q (cell_of (get_or (T 14) j no_cells) 1)) a, omega arith)

  mark_kind_lem : (j : ℕ) → j < length (T 14) → get_or ws (1379 + j * 2 + 1) 0 ≡ mark_kind (cell_of (get_or (T 14) j no_cells) 4)
  mark_kind_lem j h = ended (1379 + j * 2 + 1) ∙ mark_kind-16 text l n 16 st reading (omega arith) (omega arith) j h

  -- ---- a part of a table, decoded

  cubics-part : (t column base : ℕ) → Five t column base → t < 16 → (first k : ℕ) → first + k ≤ length (T t) → cubics_in ws ns base first k ≡ map (cubic_in column) (span (T t) first k)
  cubics-part t column base five small first k fits =
      ext_get_or (cubic_in column no_cells) (cubics_in ws ns base first k) (map (cubic_in column) (span (T t) first k)) (full ∙ sym (length-map (span (T t) first k) (cubic_in column) ∙ part_length (T t) first k fits))
      (λ i h.
      let g : i < k = subst (λ (q : ℕ). i < q) full h in
      any (cubics_in ws ns base first k) i (cubic_in column no_cells) no_cubic h ∙ cubic-join ws ns t column base five first k i h
      ∙ line_read text l m n at count progress ws ns vs read t column base five small (first + i) (omega arith) ∙ ap (cubic_in column) (sym (span-at (T t) first k i no_cells g)) ∙ sym (get_or-map (cubic_in column) (span (T t) first k) i no_cells))
    where
      full : length (cubics_in ws ns base first k) ≡ k
      full =
          let r = rows_inside text l m n at count progress ws ns vs read.form t small in
          let f = five.first in
          let s : (number_lines t).first + length (T t) * 5 ≤ length ns = subst (λ (q : ℕ). (number_lines t).first + length (T t) * q ≤ length ns) five.stride r in
          cubics-full ws ns base first k (omega arith)

  height-places : ((number_lines 9).first ≡ 4305) × ((number_lines 9).stride ≡ 3)
  unfolding number_lines
  height-places = (refl, refl)

  heights-part : (first k : ℕ) → first + k ≤ length (T 9) → heights_in ws ns first k ≡ map height_in (span (T 9) first k)
  heights-part first k fits =
      ext_get_or (height_in no_cells) (heights_in ws ns first k) (map height_in (span (T 9) first k)) (full ∙ sym (length-map (span (T 9) first k) height_in ∙ part_length (T 9) first k fits))
      (λ i h.
      let g : i < k = subst (λ (q : ℕ). i < q) full h in
      any (heights_in ws ns first k) i (height_in no_cells) no_height h ∙ height-join ws ns first k i h
      ∙ height-line_read text l m n at count progress ws ns vs read (first + i) (omega arith) ∙ ap height_in (sym (span-at (T 9) first k i no_cells g)) ∙ sym (get_or-map height_in (span (T 9) first k) i no_cells))
    where
      thirds : (a k : ℕ) → a ≡ k * 3 → a / 3 ≡ k
      thirds a k e = omega arith

      full : length (heights_in ws ns first k) ≡ k
      full =
          let r = rows_inside text l m n at count progress ws ns vs read.form 9 (omega arith) in
          let s : 4305 + length (T 9) * 3 ≤ length ns = subst (λ (q : ℕ). q + length (T 9) * 3 ≤ length ns) height-places.0 (subst (λ (q : ℕ). (number_lines 9).first + length (T 9) * q ≤ length ns) height-places.1 r) in
          height-count (span ns (4305 + first * 3) (k * 3)) ∙ thirds (length (span ns (4305 + first * 3) (k * 3))) k (part_length ns (4305 + first * 3) (k * 3) (omega arith))

  -- ---- lanes and sections

  pub lane-says : (j : ℕ) → j < length (T 7) → lane_in ws ns j ≡ lane_said T (get_or (T 7) j no_cells)
  unfolding lane_said number_lines word_lines word_place word_columns ranges_of
  lane-says j h =
      lane-join ws ns j
      ∙ lane-same (ap (λ (p : ℕ). eqb (get_or ws p 0) 1) (add-zero (119 + j * 6)) ∙ ap (λ (v : ℕ). eqb v 1) (lane-extent j h) ∙ code_one (cell_of (get_or (T 7) j no_cells) 2))
      (ap (λ (v : ℕ). eqb v 1) (lane-level j h) ∙ code_one (cell_of (get_or (T 7) j no_cells) 3))
      (cubics-part 8 2 extent_base extent-five (omega arith) (get_or ws (121 + j * 6) 0) (get_or ws (121 + j * 6 + 1) 0) (extent-part j h).fits ∙ ap (map (cubic_in 2)) (sym (those-part (of_lane (get_or (T 7) j no_cells)) (T 8) (get_or ws (121 + j * 6) 0) (get_or ws (121 + j * 6 + 1) 0) (extent-part j h))))
      (heights-part (get_or ws (123 + j * 6) 0) (get_or ws (123 + j * 6 + 1) 0) (height-part j h).fits ∙ ap (map height_in) (sym (those-part (of_lane (get_or (T 7) j no_cells)) (T 9) (get_or ws (123 + j * 6) 0) (get_or ws (123 + j * 6 + 1) 0) (height-part j h))))

  lanes-say : (p : Cells → Bool) (first k : ℕ) → Part p (T 7) first k → tabulate (λ j. lane_in ws ns (first + j)) k ≡ map (lane_said T) (those p (T 7))
  lanes-say p first k part = (let f = part.fits in table-part (lane_in ws ns) (lane_said T) (T 7) first k f (λ j a b. lane-says j (omega arith))) ∙ ap (map (lane_said T)) (sym (those-part p (T 7) first k part))

  single : (number_place 6 0 ≡ 1) × (number_place 10 0 ≡ 1)
  unfolding number_place number_columns
  single = (refl, refl)

  counted : (count_place 6 ≡ Some 5) × (count_place 10 ≡ Some 6)
  unfolding count_place
  counted = (refl, refl)

  -- ---- marks

  lefts-say : (i : ℕ) → i < length (T 6) → lefts_at ws i ≡ length (those (left_under i) (T 7))
  lefts-say i h =
      let p = left-part (T 7) (length (T 6)) ws lane_rows_lem i h in
      sym (ap (λ (xs : List Cells). length xs) (those-part (left_under i) (T 7) (first_at ws i) (lefts_at ws i) p) ∙ part_length (T 7) (first_at ws i) (lefts_at ws i) p.fits)

  mark-says : (i j : ℕ) → i < length (T 6) → j < length (T 14) → under i (get_or (T 14) j no_cells) ≡ true → mark_in ws ns j ≡ mark_said T i (get_or (T 14) j no_cells)
  unfolding mark_said
  mark-says i j h g e =
      let s = mark-span-read text l m n at count progress ws ns vs read j g in
      mark-join ws ns j ∙ mark-same ((mark_lane_lem i j h g e).0 ∙ ap (λ (q : ℕ). place_said q (cell_of (get_or (T 14) j no_cells) 1)) (lefts-say i h)) (mark_kind_lem j g) s.0 s.1

  marks-say : (i : ℕ) → i < length (T 6) → tabulate (λ j. mark_in ws ns (get_or ws (1347 + i * 2) 0 + j)) (get_or ws (1347 + i * 2 + 1) 0) ≡ map (mark_said T i) (those (under i) (T 14))
  marks-say i h =
      let p = mark-part i h in
      let f = p.fits in
      table-part (mark_in ws ns) (mark_said T i) (T 14) (get_or ws (1347 + i * 2) 0) (get_or ws (1347 + i * 2 + 1) 0) f (λ j a b. mark-says i j h (omega arith) (p.passes j a b))
      ∙ ap (map (mark_said T i)) (sym (those-part (under i) (T 14) (get_or ws (1347 + i * 2) 0) (get_or ws (1347 + i * 2 + 1) 0) p))

  pub section-says : (i : ℕ) → i < length (T 6) → section_in ws ns i ≡ section_said T i (get_or (T 6) i no_cells)
  unfolding section_said ranges_of
  section-says i h =
      section-same (section_start-join ws ns i ∙ number-kept text l m n at count progress ws ns vs read.form 6 i 0 (omega arith) h (let e = single.0 in omega arith))
      (left_join ws ns i ∙ lanes-say (left_under i) (first_at ws i) (lefts_at ws i) (left-part (T 7) (length (T 6)) ws lane_rows_lem i h))
      (right-join ws ns i ∙ lanes-say (right_under i) (first_at ws i + lefts_at ws i) (rights_at ws i) (right-part (T 7) (length (T 6)) ws lane_rows_lem i h))
      (marks-join ws ns i ∙ marks-say i h)

  pub sections-say : (road_of ws ns).sections ≡ numbered (section_said T) 0 (T 6)
  unfolding count_place
  sections-say = sections-join ws ns ∙ ap (tabulate (section_in ws ns)) (count_kept_lem text l m n at count progress ws ns vs read.form 6 5 (omega arith) counted.0) ∙ table-numbered (section_in ws ns) (section_said T) (T 6) section-says

  -- ---- profiles

  pub profile-says : (i : ℕ) → i < length (T 10) → profile_in ws ns i ≡ profile_said T i (get_or (T 10) i no_cells)
  unfolding profile_said number_lines ranges_of
  profile-says i h =
      profile-join ws ns i
      ∙ profile-same (number-kept text l m n at count progress ws ns vs read.form 10 i 0 (omega arith) h (let e = single.1 in omega arith))
      (cubics-part 11 1 shape_base shape-five (omega arith) (get_or ws (1271 + i * 2) 0) (get_or ws (1271 + i * 2 + 1) 0) (shape-part i h).fits ∙ ap (map (cubic_in 1)) (sym (those-part (under i) (T 11) (get_or ws (1271 + i * 2) 0) (get_or ws (1271 + i * 2 + 1) 0) (shape-part i h))))

  pub profiles-say : (road_of ws ns).profiles ≡ numbered (profile_said T) 0 (T 10)
  unfolding count_place
  profiles-say = profiles-join ws ns ∙ ap (tabulate (profile_in ws ns)) (count_kept_lem text l m n at count progress ws ns vs read.form 10 6 (omega arith) counted.1) ∙ table-numbered (profile_in ws ns) (profile_said T) (T 10) profile-says

  -- ---- strips

  module _ (a b : ℕ) (side : a < 2) (place : b < 2) where
    pub column-part : (c : ℕ) → c < 5 → Part (of_term a b c) (T 13) (get_or ws (1304 + ((a * 2 + b) * 11 + c * 2) * 1) 0) (get_or ws (1304 + ((a * 2 + b) * 11 + c * 2) * 1 + 1) 0)
    column-part c h = part_same (of_term a b c) (T 13) (sym (end-13 (1304 + ((a * 2 + b) * 11 + c * 2) * 1) (omega arith) (omega arith))) (sym (end-13 (1304 + ((a * 2 + b) * 11 + c * 2) * 1 + 1) (omega arith) (omega arith))) (term-part text l n 16 st reading (omega arith) few (omega arith) a b c side place h)

    term-says : (c : ℕ) → c < 5 → column_in ws ns (a * 2 + b) c ≡ term_said T a b c
    unfolding number_lines ranges_of
    term-says c h =
        let p = column-part c h in
        column-join ws ns (a * 2 + b) c
        ∙ cubics-part 13 3 cubic_base cubic-five (omega arith) (get_or ws (1304 + ((a * 2 + b) * 11 + c * 2) * 1) 0) (get_or ws (1304 + ((a * 2 + b) * 11 + c * 2) * 1 + 1) 0) p.fits
        ∙ ap (map (cubic_in 3)) (sym (those-part (of_term a b c) (T 13) (get_or ws (1304 + ((a * 2 + b) * 11 + c * 2) * 1) 0) (get_or ws (1304 + ((a * 2 + b) * 11 + c * 2) * 1 + 1) 0) p))

    one_of : (rows : List Cells) (j : ℕ) → j < length rows → span rows j 1 ≡ get_or rows j no_cells ∷ []
    one_of rows j h =
        ext_get_or no_cells (span rows j 1) (get_or rows j no_cells ∷ []) (part_length rows j 1 (omega arith))
        (λ i g. let z : i < 1 = subst (λ (q : ℕ). i < q) (part_length rows j 1 (omega arith)) g in span-at rows j 1 i no_cells z ∙ here i z)
      where
        here : (i : ℕ) → i < 1 → get_or rows (j + i) no_cells ≡ get_or (get_or rows j no_cells ∷ []) i no_cells
        here zero g = ap (λ (q : ℕ). get_or rows q no_cells) (add-zero j)
        here (suc i) g = absurd (omega arith)

    -- a strip's word and its lines: 0 and none, or by one line's relative
    pub strip-cases : {A : Type 0} → (get_or ws (1303 + (a * 2 + b) * 11) 0 ≡ 0 → those (of_strip a b) (T 12) ≡ [] → A)
        → ((r : Cells) → cell_of r 2 < 2 → get_or ws (1303 + (a * 2 + b) * 11) 0 ≡ cell_of r 2 % 2 + 1 → those (of_strip a b) (T 12) ≡ r ∷ [] → A) → A
    strip-cases {A} none one = go (strip_line (st 13).progress.strips (a * 2 + b)) refl
      where
        go : (o : Option ℕ) → strip_line (st 13).progress.strips (a * 2 + b) ≡ o → A
        go None e = let p = strip-none text l n 16 st reading (omega arith) few (omega arith) a b side place e in none (end-13 (1303 + (a * 2 + b) * 11) (omega arith) (omega arith) ∙ p.0) (those-part (of_strip a b) (T 12) 0 0 p.1)
        go (Some j) e =
            let p = strip-one text l n 16 st reading (omega arith) few (omega arith) a b j side place e in
            let f = p.1.fits in
            one (get_or (T 12) j no_cells) (strip-cells text j).2 (end-13 (1303 + (a * 2 + b) * 11) (omega arith) (omega arith) ∙ p.0) (those-part (of_strip a b) (T 12) j 1 p.1 ∙ one_of (T 12) j (omega arith))

    strip_by_lem : (v : ℕ) (rows : List Cells) → get_or ws (1303 + (a * 2 + b) * 11) 0 ≡ v → those (of_strip a b) (T 12) ≡ rows
        → cond (eqb v 0) absent (present (record { relative = eqb v 2; width = column_in ws ns (a * 2 + b) 0; terms = column_in ws ns (a * 2 + b) 1 ∷ column_in ws ns (a * 2 + b) 2 ∷ column_in ws ns (a * 2 + b) 3 ∷ column_in ws ns (a * 2 + b) 4 ∷ [] })) ≡ strip_by T a b rows
        → strip_in ws ns (a * 2 + b) ≡ strip_said T a b
    unfolding strip_in strip_said tabulate
    strip_by_lem v rows e f g =
        ap (λ (w : ℕ). cond (eqb w 0) absent (present (record { relative = eqb w 2; width = column_in ws ns (a * 2 + b) 0; terms = column_in ws ns (a * 2 + b) 1 ∷ column_in ws ns (a * 2 + b) 2 ∷ column_in ws ns (a * 2 + b) 3 ∷ column_in ws ns (a * 2 + b) 4 ∷ [] }))) e
        ∙ g ∙ ap (strip_by T a b) (sym f)

    pub strip-says : strip_in ws ns (a * 2 + b) ≡ strip_said T a b
    strip-says =
        strip-cases (λ v e. strip_by_lem 0 [] v e refl)
        (λ r h v e.
        let q = relative-two (cell_of r 2) h in
        strip_by_lem (cell_of r 2 % 2 + 1) (r ∷ []) v e
        (ap (λ (x : Bool). cond x absent (present (record { relative = eqb (cell_of r 2 % 2 + 1) 2; width = column_in ws ns (a * 2 + b) 0; terms = column_in ws ns (a * 2 + b) 1 ∷ column_in ws ns (a * 2 + b) 2 ∷ column_in ws ns (a * 2 + b) 3 ∷ column_in ws ns (a * 2 + b) 4 ∷ [] }))) q.0
        ∙ strip-same q.1 (term-says 0 (omega arith)) (term-says 1 (omega arith)) (term-says 2 (omega arith)) (term-says 3 (omega arith)) (term-says 4 (omega arith))))

  strips-join : (road_of ws ns).strips ≡ strip_in ws ns 0 ∷ strip_in ws ns 1 ∷ strip_in ws ns 2 ∷ strip_in ws ns 3 ∷ []
  unfolding road_of tabulate
  strips-join = refl

  pub strips-say : (road_of ws ns).strips ≡ strip_said T 0 0 ∷ strip_said T 0 1 ∷ strip_said T 1 0 ∷ strip_said T 1 1 ∷ []
  strips-say = strips-join ∙ four_same (strip-says 0 0 (omega arith) (omega arith)) (strip-says 0 1 (omega arith) (omega arith)) (strip-says 1 0 (omega arith) (omega arith)) (strip-says 1 1 (omega arith) (omega arith))

  -- ---- the road

  pub road-says : road_of ws ns ≡ road_said T
  unfolding road_said
  road-says =
      road-same (length-read text l m n at count progress ws ns vs read) (geoms-read text l m n at count progress ws ns vs read) (unused-all_read text l m n at count progress ws ns vs read) (elevations-read text l m n at count progress ws ns vs read) (superelevations-read text l m n at count progress ws ns vs read) (offsets-read text l m n at count progress ws ns vs read) (tshifts-read text l m n at count progress ws ns vs read) sections-say profiles-say strips-say
