-- The words of a stored text pass the tests on words (`structured`) exactly where the lists of the road that it says have right lengths (`structured-says`), test by test.
-- Slices, codes and kinds always pass. A range is a part of its table (`Part`), so it lies inside the table, the table inside its limit, and its count is how many lines the part has: what is left of its test is the test on that count.
use Prim.Native.Nat.{ℕ, ◌+◌, ◌*◌, ◌/◌, ◌%◌, ◌<◌, ◌≤◌}
use native.Mathlib.Omega.{arith}
use mathlib.Core.Path.{◌≡◌, refl, sym, ◌∙◌, ap}
use mathlib.Core.Bool.{Bool, true, false, ◌&&◌, ◌||◌, and-true, and-false}
use mathlib.Core.List.{List, [], ◌∷◌, map}
use lib.ListN.{length, get_or, length-map}
use lib.Dec.{leb, ltb, eqb, leb-zero}
use lib.Ieee.{Float}
use borrow.Author.Tests.{le-leb, lt-ltb, ne_eqb}
use Rattle.refusals.specs.Answer.{Answer, value, row, checked}
use Rattle.refusals.specs.declared.refusals.Refusal.TheVariants.{Structure, Range, SampleBudget}
use Rattle.records_lent.specs.Lists.{tabulate, all_below}
use Rattle.records.specs.Roads.{Road, road_of}
use Rattle.admission_structure.specs.Structure.{range_ok, counts_ok, kinds_ok, lane_ok, section_ok, profile_ok, column_ok, strip_ok, marks_ok, structured}
use Rattle.admission_order.specs.Order.{ordered}
use Rattle.admission.specs.Limits.{limited}
use Rattle.line_samples.specs.Samples.{most_samples, samples_needed}
use Rattle.admission.specs.Admission.{admit_call}
use Rattle.reader_schema.specs.Schema.{limit_of}
use Rattle.reader_lines.specs.Columns.{cell_of, no_cells}
use Rattle.reader_lines.specs.declared.columns.Cells.{Cells}
use Rattle.std.specs.Prelude.{Some}
use Rattle.reader_store.specs.Layout.{code_of, count_place}
use Rattle.reader_store.specs.declared.progress.Progress.{Progress}
use Rattle.reader_calls.specs.Reading.{done}
use Rattle.reader_laws.specs.Lines.{lines_of, cubic_in, height_in, geom_said}
use Rattle.reader_laws.proofs.LineLimits.{line_limits}
use Rattle.reader_laws.proofs.ReadTables.{Stored}
use Rattle.reader_laws.proofs.TablesKept.{rows_few, numbers-length}
use Rattle.reader_laws.proofs.CountsKept.{count_kept_lem}
use Rattle.reader_laws.proofs.KindsKept.{kind-kept}
use Rattle.reader_text_laws.specs.Said.{those, numbered, under, left_under, right_under, of_lane, of_strip, of_term, lane_said, mark_said, section_said, profile_said, term_said, strip_by, strip_said, road_said}
use Rattle.reader_text_laws.specs.Counts.{within, every, lane_counts, section_counts, profile_counts, term_counts, strip_counts, counts_said, said_rows}
use Rattle.reader_text_laws.proofs.Those.{Part, part_same, part_count, numbered-count}
use Rattle.reader_text_laws.proofs.Every.{all_same, all_pass, all_both, all_split, every-table, every-part, every-numbered}
use Rattle.reader_text_laws.proofs.Lanes.{first_at, lefts_at, rights_at}
use Rattle.reader_text_laws.proofs.LaneLines.{LaneRows, left-part, right-part}
use Rattle.reader_text_laws.proofs.Listed.{geom-cell, lane-cells}
use Rattle.reader_text_laws.proofs.MarkLines.{code_same}
use Rattle.reader_text_laws.proofs.RoadSays.{words-kept, lane_rows_lem, lane-extent, lane-level, extent-part, height-part, mark-part, mark_lane_lem, shape-part, column-part, strip-cases, road-says}

-- ---- tests

-- a count with no least
most-says : (most n : ℕ) → leb n most ≡ within 0 most n
most-says most n = ap (λ (x : Bool). x && leb n most) (sym (leb-zero n))

-- a code that is kept as a word stays small
code-small : (v b : ℕ) → v < b → b ≤ 65536 → ltb (code_of v) b ≡ true
code-small v b h m = ap (λ (w : ℕ). ltb w b) (code_same v (omega arith)) ∙ lt-ltb v b h

-- the range of a part of a table that keeps its limit: what is left is the count
range-says : {B : Type 0} (g : Cells → B) (p : Cells → Bool) (rows : List Cells) (f c : ℕ) → Part p rows f c → (least most limit : ℕ) → length rows ≤ limit
    → range_ok least most limit f c ≡ within least most (length (map g (those p rows)))
range-says g p rows f c part least most limit few =
    let fits = part.fits in
    ap (λ (x : Bool). within least most c && x) (le-leb (f + c) limit (omega arith)) ∙ and-true (within least most c) ∙ ap (within least most) (sym (part_count g p rows f c part))

-- ---- chains of tests

lane-chain : {a b c d c' d' : Bool} → a ≡ true → b ≡ true → c ≡ c' → d ≡ d' → a && b && c && d ≡ c' && d'
lane-chain e f g h = rw (e, f, g, h)

-- a section's lanes, then its marks: their tests stand apart among the words
section-chain : {a b c d e m a' b' d' e' m' : Bool} → a ≡ a' → b ≡ b' → c ≡ true → d ≡ d' → e ≡ e' → m ≡ m' → (a && b && c && (d && e)) && m ≡ a' && b' && d' && e' && m'
section-chain {a' = a'} {b' = b'} {d' = d'} {e' = e'} {m' = m'} p q r s t u = rw (p, q, r, s, t, u) (go a' b' d')
  where
    go : (a b d : Bool) → (a && b && true && (d && e')) && m' ≡ a && b && d && e' && m'
    go false b d = refl
    go true false d = refl
    go true true false = refl
    go true true true = refl

-- slices, the counts of tables, kinds, sections, profiles, strips, marks, in the words' order and in the document's
structured-chain : {a b k g e c o t x y p P F g' e' c' o' t' x' y' p' S' P' F' : Bool} (S M : Bool) → a ≡ true → b ≡ true → k ≡ true → g ≡ g' → e ≡ e' → c ≡ c' → o ≡ o' → t ≡ t' → x ≡ x' → y ≡ y' → p ≡ p' → S && M ≡ S' → P ≡ P' → F ≡ F'
    → a && b && (g && e && c && o && t && x && y && p) && k && S && P && F && M ≡ g' && e' && c' && o' && t' && (x' && y') && S' && p' && P' && F'
structured-chain {g' = g'} {e' = e'} {c' = c'} {o' = o'} {t' = t'} {x' = x'} {y' = y'} {p' = p'} {P' = P'} {F' = F'} S M a b k g e c o t x y p both P F =
    rw (a, b, k, g, e, c, o, t, x, y, p, ← both, P, F) (go (g' && e' && c' && o' && t') x' y' p' S P' F' M)
  where
    go : (q x y p S P F M : Bool) → (q && x && y && p) && true && S && P && F && M ≡ q && (x && y) && (S && M) && p && P && F
    go false x y p S P F M = refl
    go true false y p S P F M = refl
    go true true false p S P F M = refl
    go true true true false false P F M = refl
    go true true true false true P F false = refl
    go true true true false true P F true = refl
    go true true true true false P F M = refl
    go true true true true true P F false = and-false (P && F)
    go true true true true true P F true = and-true (P && F)

-- rows 3, 4 and 5, with the answer to row 3's counts
abbrev judged : Bool → Road → Answer (Unit {0})
judged counts road = checked (row Structure (counts && ordered road) ∷ row Range (limited road) ∷ row SampleBudget (leb (samples_needed road) most_samples) ∷ []) (value tt)

module _ (text : List ℕ) (l m n at count : ℕ) (progress : Progress) (ws : List ℕ) (ns : List Float) (vs : List ℕ) (read : Stored text l m n (done at count progress ws ns vs)) where
  abbrev T : ℕ → List Cells
  T t = lines_of text t

  few : (t : ℕ) → t < 16 → length (T t) ≤ limit_of t
  few t h = rows_few text l m n at count progress ws ns vs read.form t h

  word_at : {p q : ℕ} → p ≡ q → get_or ws p 0 ≡ get_or ws q 0
  word_at e = ap (λ (k : ℕ). get_or ws k 0) e

  -- ---- lanes

  lane-says : (j : ℕ) → j < length (T 7) → lane_ok ws j ≡ lane_counts (lane_said T (get_or (T 7) j no_cells))
  unfolding lane_ok lane_counts lane_said
  lane-says j h =
      let c = lane-cells text j in
      let e = line_limits in
      let f = few 8 (omega arith) in
      let g = few 9 (omega arith) in
      lane-chain (ap (λ (v : ℕ). ltb v 2) (lane-extent text l m n at count progress ws ns vs read j h) ∙ code-small (cell_of (get_or (T 7) j no_cells) 2) 2 c.0 (omega arith))
      (ap (λ (v : ℕ). ltb v 2) (lane-level text l m n at count progress ws ns vs read j h) ∙ code-small (cell_of (get_or (T 7) j no_cells) 3) 2 c.1 (omega arith))
      (range-says (cubic_in 2) (of_lane (get_or (T 7) j no_cells)) (T 8) (get_or ws (119 + j * 6 + 2) 0) (get_or ws (119 + j * 6 + 3) 0)
      (part_same (of_lane (get_or (T 7) j no_cells)) (T 8) (word_at (omega arith)) (word_at (omega arith)) (extent-part text l m n at count progress ws ns vs read j h)) 0 16 512 (omega arith))
      (range-says height_in (of_lane (get_or (T 7) j no_cells)) (T 9) (get_or ws (119 + j * 6 + 4) 0) (get_or ws (119 + j * 6 + 5) 0)
      (part_same (of_lane (get_or (T 7) j no_cells)) (T 9) (word_at (omega arith)) (word_at (omega arith)) (height-part text l m n at count progress ws ns vs read j h)) 0 8 512 (omega arith))

  -- ---- sections

  module _ (i : ℕ) (h : i < length (T 6)) where
    -- a section's tests by its three words
    abbrev section_by : ℕ → ℕ → ℕ → Bool
    section_by first left right = leb left 6 && leb right 6 && leb (first + (left + right)) 192 && all_below (λ j. lane_ok ws (first + j)) (left + right)

    section_words_lem : section_ok ws i ≡ section_by (first_at ws i) (lefts_at ws i) (rights_at ws i)
    unfolding section_ok
    section_words_lem = ap (λ (k : ℕ). section_by (get_or ws k 0) (get_or ws (k + 1) 0) (get_or ws (k + 2) 0)) place
      where
        place : 71 + i * 3 ≡ 71 + 3 * i
        place = omega arith

    rows : LaneRows (T 7) (length (T 6)) ws
    rows = lane_rows_lem text l m n at count progress ws ns vs read

    lefts : Part (left_under i) (T 7) (first_at ws i) (lefts_at ws i)
    lefts = left-part (T 7) (length (T 6)) ws rows i h

    rights : Part (right_under i) (T 7) (first_at ws i + lefts_at ws i) (rights_at ws i)
    rights = right-part (T 7) (length (T 6)) ws rows i h

    -- a section's marks: all are on its lanes, so what is left is their count
    marks-say : marks_ok ws i ≡ within 0 16 (length (map (mark_said T i) (those (under i) (T 14))))
    unfolding marks_ok
    marks-say =
        let e = line_limits in
        let f = few 14 (omega arith) in
        let p = mark-part text l m n at count progress ws ns vs read i h in
        let g = p.fits in
        ap (λ (x : Bool). range_ok 0 16 256 (get_or ws (1347 + i * 2) 0) (get_or ws (1347 + i * 2 + 1) 0) && x)
        (all_pass (λ j. ltb (get_or ws (1379 + (get_or ws (1347 + i * 2) 0 + j) * 2) 0) (get_or ws (71 + i * 3 + 1) 0 + get_or ws (71 + i * 3 + 2) 0)) (get_or ws (1347 + i * 2 + 1) 0)
        (λ j l. on-lane (get_or ws (1347 + i * 2) 0 + j) (omega arith) (p.passes (get_or ws (1347 + i * 2) 0 + j) (omega arith) (omega arith))))
        ∙ and-true (range_ok 0 16 256 (get_or ws (1347 + i * 2) 0) (get_or ws (1347 + i * 2 + 1) 0))
        ∙ range-says (mark_said T i) (under i) (T 14) (get_or ws (1347 + i * 2) 0) (get_or ws (1347 + i * 2 + 1) 0) p 0 16 256 (omega arith)
      where
        on-lane : (j : ℕ) → j < length (T 14) → under i (get_or (T 14) j no_cells) ≡ true → ltb (get_or ws (1379 + j * 2) 0) (get_or ws (71 + i * 3 + 1) 0 + get_or ws (71 + i * 3 + 2) 0) ≡ true
        on-lane j g e =
            let a = (mark_lane_lem text l m n at count progress ws ns vs read i j h g e).1 in
            let b : get_or ws (71 + i * 3 + 1) 0 ≡ lefts_at ws i = word_at (omega arith) in
            let c : get_or ws (71 + i * 3 + 2) 0 ≡ rights_at ws i = word_at (omega arith) in
            lt-ltb (get_or ws (1379 + j * 2) 0) (get_or ws (71 + i * 3 + 1) 0 + get_or ws (71 + i * 3 + 2) 0) (omega arith)

    section-says : section_ok ws i && marks_ok ws i ≡ section_counts (section_said T i (get_or (T 6) i no_cells))
    unfolding section_counts section_said
    section-says =
        let e = line_limits in
        let f = few 7 (omega arith) in
        let r = rights.fits in
        ap (λ (x : Bool). x && marks_ok ws i) section_words_lem
        ∙ ap (λ (x : Bool). (leb (lefts_at ws i) 6 && leb (rights_at ws i) 6 && leb (first_at ws i + (lefts_at ws i + rights_at ws i)) 192 && x) && marks_ok ws i) (all_split (lane_ok ws) (first_at ws i) (lefts_at ws i) (rights_at ws i))
        ∙ section-chain (most-says 6 (lefts_at ws i) ∙ ap (within 0 6) (sym (part_count (lane_said T) (left_under i) (T 7) (first_at ws i) (lefts_at ws i) lefts)))
        (most-says 6 (rights_at ws i) ∙ ap (within 0 6) (sym (part_count (lane_said T) (right_under i) (T 7) (first_at ws i + lefts_at ws i) (rights_at ws i) rights)))
        (le-leb (first_at ws i + (lefts_at ws i + rights_at ws i)) 192 (omega arith))
        (every-part lane_counts (lane_ok ws) (T 7) (lane_said T) (left_under i) (first_at ws i) (lefts_at ws i) lefts lane-says)
        (every-part lane_counts (lane_ok ws) (T 7) (lane_said T) (right_under i) (first_at ws i + lefts_at ws i) (rights_at ws i) rights lane-says)
        marks-say

  -- ---- profiles

  profile-says : (i : ℕ) → i < length (T 10) → profile_ok ws i ≡ profile_counts (profile_said T i (get_or (T 10) i no_cells))
  unfolding profile_ok profile_counts profile_said
  profile-says i h =
      let e = line_limits in
      let f = few 11 (omega arith) in
      range-says (cubic_in 1) (under i) (T 11) (get_or ws (1271 + i * 2) 0) (get_or ws (1271 + i * 2 + 1) 0) (shape-part text l m n at count progress ws ns vs read i h) 1 16 256 (omega arith)

  -- ---- strips

  module _ (a b : ℕ) (side : a < 2) (place : b < 2) where
    column-says : (c : ℕ) → c < 5 → column_ok ws (a * 2 + b) c ≡ term_counts (term_said T a b c)
    unfolding column_ok term_counts
    column-says c h =
        let e = line_limits in
        let f = few 13 (omega arith) in
        range-says (cubic_in 3) (of_term a b c) (T 13) (get_or ws (1303 + (a * 2 + b) * 11 + 1 + c * 2) 0) (get_or ws (1303 + (a * 2 + b) * 11 + 1 + c * 2 + 1) 0)
        (part_same (of_term a b c) (T 13) (word_at (omega arith)) (word_at (omega arith)) (column-part text l m n at count progress ws ns vs read a b side place c h)) 0 8 160 (omega arith)

    columns-say : all_below (column_ok ws (a * 2 + b)) 5 ≡ every term_counts (tabulate (term_said T a b) 5)
    columns-say = all_same (column_ok ws (a * 2 + b)) (λ c. term_counts (term_said T a b c)) 5 column-says ∙ sym (every-table term_counts (term_said T a b) 5)

    strip_by_lem : (v : ℕ) (rows : List Cells) → get_or ws (1303 + (a * 2 + b) * 11) 0 ≡ v → those (of_strip a b) (T 12) ≡ rows
        → ltb v 3 && (eqb v 0 || every term_counts (tabulate (term_said T a b) 5)) ≡ strip_counts (strip_by T a b rows) → strip_ok ws (a * 2 + b) ≡ strip_counts (strip_said T a b)
    unfolding strip_ok strip_said
    strip_by_lem v rows e f g =
        ap (λ (w : ℕ). ltb w 3 && (eqb w 0 || all_below (column_ok ws (a * 2 + b)) 5)) e ∙ ap (λ (x : Bool). ltb v 3 && (eqb v 0 || x)) columns-say ∙ g ∙ ap (λ (xs : List Cells). strip_counts (strip_by T a b xs)) (sym f)

    strip-says : strip_ok ws (a * 2 + b) ≡ strip_counts (strip_said T a b)
    unfolding every tabulate
    strip-says =
        strip-cases text l m n at count progress ws ns vs read a b side place (λ v e. strip_by_lem 0 [] v e refl)
        (λ r h v e. strip_by_lem (cell_of r 2 % 2 + 1) (r ∷ []) v e (rw (lt-ltb (cell_of r 2 % 2 + 1) 3 (omega arith), ne_eqb (cell_of r 2 % 2 + 1) 0 (λ z. omega arith))))

  strips-say : all_below (strip_ok ws) 4 ≡ every strip_counts (strip_said T 0 0 ∷ strip_said T 0 1 ∷ strip_said T 1 0 ∷ strip_said T 1 1 ∷ [])
  unfolding tabulate
  strips-say =
      all_same (strip_ok ws) (λ i. strip_counts (strip_said T (i / 2) (i % 2))) 4 (λ i h. ap (strip_ok ws) (halves i) ∙ strip-says (i / 2) (i % 2) (omega arith) (omega arith))
      ∙ sym (every-table strip_counts (λ i. strip_said T (i / 2) (i % 2)) 4)
    where
      halves : (i : ℕ) → i ≡ i / 2 * 2 + i % 2
      halves i = omega arith

  -- ---- the whole

  -- the words of the counts
  counts-held : (get_or ws 0 0 ≡ length (T 1)) × (get_or ws 1 0 ≡ length (T 2)) × (get_or ws 2 0 ≡ length (T 3)) × (get_or ws 3 0 ≡ length (T 4)) × (get_or ws 4 0 ≡ length (T 5)) × (get_or ws 5 0 ≡ length (T 6)) × (get_or ws 6 0 ≡ length (T 10))
  unfolding count_place
  counts-held = (held 1 0 (omega arith) refl, held 2 1 (omega arith) refl, held 3 2 (omega arith) refl, held 4 3 (omega arith) refl, held 5 4 (omega arith) refl, held 6 5 (omega arith) refl, held 10 6 (omega arith) refl)
    where
      held : (t p : ℕ) → t < 16 → count_place t ≡ Some p → get_or ws p 0 ≡ length (T t)
      held = count_kept_lem text l m n at count progress ws ns vs read.form

  kinds-say : kinds_ok ws ≡ true
  unfolding kinds_ok
  kinds-say =
      let c = counts-held.0 in
      all_pass (λ i. ltb (get_or ws (7 + i) 0) 3) (get_or ws 0 0)
      (λ i h. ap (λ (v : ℕ). ltb v 3) (kind-kept text l m n at count progress ws ns vs read.form i (omega arith)) ∙ code-small (cell_of (get_or (T 1) i no_cells) 5) 3 (geom-cell text i) (omega arith))

  sections-say : all_below (section_ok ws) (get_or ws 5 0) && all_below (marks_ok ws) (get_or ws 5 0) ≡ every section_counts (numbered (section_said T) 0 (T 6))
  sections-say =
      sym (all_both (section_ok ws) (marks_ok ws) (get_or ws 5 0)) ∙ ap (all_below (λ i. section_ok ws i && marks_ok ws i)) counts-held.5
      ∙ every-numbered section_counts (λ i. section_ok ws i && marks_ok ws i) (T 6) (section_said T) section-says

  profiles-say : all_below (profile_ok ws) (get_or ws 6 0) ≡ every profile_counts (numbered (profile_said T) 0 (T 10))
  profiles-say = ap (all_below (profile_ok ws)) counts-held.6 ∙ every-numbered profile_counts (profile_ok ws) (T 10) (profile_said T) profile-says

  pub structured-says : structured ws ns ≡ counts_said (road_said T)
  unfolding structured counts_ok counts_said road_said
  structured-says =
      let c = counts-held in
      let along : (t : ℕ) → length (T t) ≡ length (map (cubic_in 0) (T t)) = λ t. sym (length-map (T t) (cubic_in 0)) in
      let sections : get_or ws 5 0 ≡ length (numbered (section_said T) 0 (T 6)) = c.5 ∙ sym (numbered-count (section_said T) 0 (T 6)) in
      structured-chain (all_below (section_ok ws) (get_or ws 5 0)) (all_below (marks_ok ws) (get_or ws 5 0)) (le-leb 1891 (length ws) (let a = read.form.words_long in let e = words-kept text l m n at count progress ws ns vs read in omega arith))
      (le-leb 8449 (length ns) (let a = read.form.numbers_long in let e = numbers-length text l m n at count progress ws ns vs read.form in omega arith)) kinds-say
      (ap (within 1 64) (c.0 ∙ sym (length-map (T 1) geom_said))) (most-says 64 (get_or ws 1 0) ∙ ap (within 0 64) (c.1 ∙ along 2)) (most-says 64 (get_or ws 2 0) ∙ ap (within 0 64) (c.2 ∙ along 3)) (most-says 64 (get_or ws 3 0) ∙ ap (within 0 64) (c.3 ∙ along 4)) (most-says 64 (get_or ws 4 0) ∙ ap (within 0 64) (c.4 ∙ along 5))
      (ap (λ (k : ℕ). leb 1 k) sections) (ap (λ (k : ℕ). leb k 16) sections) (most-says 16 (get_or ws 6 0) ∙ ap (within 0 16) (c.6 ∙ sym (numbered-count (profile_said T) 0 (T 10)))) sections-say profiles-say strips-say

  -- admission judges the words and numbers that are held as rows 3, 4 and 5 of the road that the text says
  pub admission-says : admit_call ws ns ≡ checked (said_rows (road_said T)) (value tt)
  unfolding admit_call
  admission-says = ap (λ (b : Bool). judged b (road_of ws ns)) structured-says ∙ ap (judged (counts_said (road_said T))) (road-says text l m n at count progress ws ns vs read)
