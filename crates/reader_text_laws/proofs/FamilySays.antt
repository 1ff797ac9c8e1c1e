-- A text of right form is sound to the reader exactly where its lines' references and order are right (`sound-is-family`).
use Prim.Native.Nat.{ℕ, zero, suc, ◌+◌, ◌-◌, ◌*◌, ◌%◌, ◌<◌, ◌≤◌}
use native.Mathlib.Omega.{arith}
use native.Mathlib.Nat.{eq-or-lt_of_le, le_of_suc-le-suc, mod-eq_of_lt}
use mathlib.Core.Path.{◌≡◌, refl, sym, ◌∙◌, ap, subst}
use mathlib.Core.Bool.{true}
use mathlib.Core.List.{List}
use mathlib.Core.Logic.{⊎_elim}
use lib.ListN.{length, get_or}
use lib.Ieee.{Float}
use Rattle.std.specs.Prelude.{Option, Some, None, is_some}
use Rattle.std.proofs.lemmas.Option.{same_Some}
use Rattle.reader_lines.specs.Columns.{cell_of, no_cells}
use Rattle.reader_lines.specs.declared.columns.Cells.{Cells}
use Rattle.reader_store.specs.Layout.{rule_of}
use Rattle.reader_store.specs.Progress.{strip_line}
use Rattle.reader_store.specs.Parents.{index_at, ranked_among}
use Rattle.reader_store.specs.Keep.{strip_named, mark_put}
use Rattle.reader_store.specs.declared.layout.Family.TheVariants as families
use Rattle.reader_store.specs.declared.parents.Ranked.{Ranked}
use Rattle.reader_store.specs.declared.progress.Progress.{Progress}
use Rattle.reader_laws.proofs.ReadTables.{RightForm}
use Rattle.reader_text_laws.proofs.ParentCases.{found, There, there, there_if, counted-in}
use Rattle.reader_calls.specs.Reading.{done}
use Rattle.reader_laws.specs.Lines.{lines_of}
use Rattle.reader_text_laws.specs.Said.{of_lane}
use Rattle.reader_text_laws.specs.Family.{line_at, Counted, Follow, of_pair, Family}
use Rattle.reader_text_laws.proofs.Folds.{track_after, after-sound, plain-track, State, Step}
use Rattle.reader_text_laws.proofs.States.{Reading, state, state-step, state-first, state-end, reading, sound-reading, state-last, state-long, blank}
use Rattle.reader_text_laws.proofs.Ranges.{NoWord, no_own, none_owned, extent-ranged, height-ranged, shape-ranged, cubic-ranged, ranges-right}
use Rattle.reader_text_laws.proofs.Lanes.{section_in, lanes-right}
use Rattle.reader_text_laws.proofs.Those.{pair-tells, pair-holds}
use Rattle.reader_text_laws.proofs.LaneIds.{ids-kept, id-turn}
use Rattle.reader_text_laws.proofs.Listed.{strip-cells, cubic-cells}
use Rattle.reader_text_laws.proofs.ChildLines.{sections-few, lanes-few, profiles-few, lanes, rows-8, counts-8, rows-9, counts-9, extents, heights, shapes, lane_as, extent-parents, height-parents, shape-parents, profile-named, lane-names, lane-is, lane-follow, follow-there, follow-order, strips-12}
use Rattle.reader_text_laws.proofs.StripLines.{strip_at, strips-few, blank-12, seen-13, noted-13, I, cubics, cubic-parents, Term, term_as, term-is, term-there, two-bits, mods, strips-right}
use Rattle.reader_text_laws.proofs.MarkLines.{mark-ranged, MarkWord, mark-there, Marked, rows-14, counts-14, most-14, mark_named, marked-in, parents-14, owned-14, mark-there-14, mark-rising}

-- ---- strips by their pairs

pair_same : (strip r : Cells) → of_pair strip r ≡ true → strip_named r ≡ strip_named strip
pair_same strip r e = let p = pair-tells (cell_of strip 0) (cell_of strip 1) r e in joined (cell_of r 0) (cell_of r 1) (cell_of strip 0) (cell_of strip 1) p.0 p.1
  where
    joined : (x y a b : ℕ) → x ≡ a → y ≡ b → x % 2 * 2 + y % 2 ≡ a % 2 * 2 + b % 2
    joined x y a b p q = omega arith

pair_of : (strip r : Cells) → cell_of strip 0 < 2 → cell_of strip 1 < 2 → cell_of r 0 < 2 → cell_of r 1 < 2 → strip_named r ≡ strip_named strip → of_pair strip r ≡ true
pair_of strip r a b c d e =
    let t = two-bits (cell_of r 0) (cell_of r 1) (cell_of strip 0) (cell_of strip 1) c d a b (e ∙ bits (cell_of strip 0) (cell_of strip 1) a b) in
    pair-holds (cell_of strip 0) (cell_of strip 1) r t.0 t.1
  where
    bits : (x y : ℕ) → x < 2 → y < 2 → x % 2 * 2 + y % 2 ≡ x * 2 + y
    bits x y h g = omega arith

-- one with the pair of another that has a third's
pair_then : (a b c : Cells) → of_pair a b ≡ true → of_pair b c ≡ true → of_pair a c ≡ true
pair_then a b c e f =
    let p = pair-tells (cell_of a 0) (cell_of a 1) b e in
    let q = pair-tells (cell_of b 0) (cell_of b 1) c f in
    pair-holds (cell_of a 0) (cell_of a 1) c (q.0 ∙ p.0) (q.1 ∙ p.1)

rank-strip : (k m a b : ℕ) → a < 5 → b < 5 → k * 5 + a ≤ m * 5 + b → k ≤ m
rank-strip k m a b h g e = omega arith

rank-later : (x y a b : ℕ) → a < 5 → b < 5 → x < y → x * 5 + a ≤ y * 5 + b
rank-later x y a b h g l = omega arith

-- ---- a sound text

module _ (text : List ℕ) (l n : ℕ) (st : ℕ → State) (rd : Reading text l n 16 st) where
  abbrev T : ℕ → List Cells
  T t = lines_of text t

  few : length (T 10) ≤ 16
  few = profiles-few text l n 16 st rd

  family-lanes : Counted (length (T 6)) (T 7)
  family-lanes =
      let inv = lanes text l n 16 st rd (omega arith) in
      (λ j h. let a = inv.spans.good j h in let b = inv.section j h in (b, omega arith), λ i j g h. let a = inv.spans.rising i j g h in let b = inv.section i (omega arith) in let c = inv.section j h in omega arith)

  family-extents : Follow (T 7) (T 8) of_lane
  family-extents =
      lane-follow (T 7) (length (T 6)) (st 8).words (rows-8 text l n 16 st rd (omega arith)) (counts-8 text l n 16 st rd (omega arith)) (lanes-few text l n 16 st rd) 121 (T 8) (st 8).progress.strips (track_after 8 0 (T 8) (st 8).progress (st 8).words) _ (extents text l n 16 st rd (omega arith) (omega arith))

  family-heights : Follow (T 7) (T 9) of_lane
  family-heights =
      lane-follow (T 7) (length (T 6)) (st 9).words (rows-9 text l n 16 st rd (omega arith) (omega arith)) (counts-9 text l n 16 st rd (omega arith) (omega arith)) (lanes-few text l n 16 st rd) 123 (T 9) (st 9).progress.strips (track_after 9 0 (T 9) (st 9).progress (st 9).words) _ (heights text l n 16 st rd (omega arith) (omega arith) (omega arith))

  family-shapes : Counted (length (T 10)) (T 11)
  family-shapes = (
    λ j h. let q = at j h in let a = q.0 in let b = q.1 in let c = q.3 in (a, omega arith),
    λ i j g h.
        let p = at i (omega arith) in
        let q = at j h in
        let a = p.0 in
        let b = p.2 in
        let c = p.3 in
        let d = q.0 in
        let e = q.2 in
        let f = q.3 in
        let r = (shapes text l n 16 st rd (omega arith) (omega arith) (omega arith) (omega arith)).spans.rising i j g h in
        omega arith,
  )
    where
      at : (j : ℕ) → j < length (T 11) → (10000 ≤ cell_of (get_or (T 11) j no_cells) 0) × ((found (ranked_among (cell_of (get_or (T 11) j no_cells) 0) (get_or (st 11).words 6 0))).index < length (T 10)) × ((found (ranked_among (cell_of (get_or (T 11) j no_cells) 0) (get_or (st 11).words 6 0))).rank ≡ (found (ranked_among (cell_of (get_or (T 11) j no_cells) 0) (get_or (st 11).words 6 0))).index) × ((found (ranked_among (cell_of (get_or (T 11) j no_cells) 0) (get_or (st 11).words 6 0))).index ≡ cell_of (get_or (T 11) j no_cells) 0 - 10000)
      at j h = profile-named text l n 16 st rd (omega arith) (omega arith) (omega arith) (get_or (T 11) j no_cells) ((shapes text l n 16 st rd (omega arith) (omega arith) (omega arith) (omega arith)).there j h)

  line_of : (j : ℕ) → j < length (T 12) → strip_line (st 13).progress.strips (strip_at (T 12) j) ≡ Some j
  line_of j h = noted-13 text l n 16 st rd (omega arith) few j h

  family-strips : (i j : ℕ) → i < length (T 12) → j < length (T 12) → of_pair (line_at (T 12) i) (line_at (T 12) j) ≡ true → i ≡ j
  family-strips i j h g e = same_Some i j (sym (line_of i h) ∙ ap (strip_line (st 13).progress.strips) (sym (pair_same (get_or (T 12) i no_cells) (get_or (T 12) j no_cells) e)) ∙ line_of j g)

  -- a cubic's rank, by its strip's line
  ranked : (i k : ℕ) → k < length (T 12) → of_pair (get_or (T 12) k no_cells) (get_or (T 13) i no_cells) ≡ true → (found (term_as (st 13).progress.strips (get_or (T 13) i no_cells))).rank ≡ k * 5 + cell_of (get_or (T 13) i no_cells) 2 % 5
  ranked i k h e = ap (λ (o : Option Ranked). (found o).rank) (term-is (st 13).progress.strips (get_or (T 13) i no_cells) k (ap (strip_line (st 13).progress.strips) (pair_same (get_or (T 12) k no_cells) (get_or (T 13) i no_cells) e) ∙ line_of k h))

  rising : (i j : ℕ) → i ≤ j → j < length (T 13) → (found (term_as (st 13).progress.strips (get_or (T 13) i no_cells))).rank ≤ (found (term_as (st 13).progress.strips (get_or (T 13) j no_cells))).rank
  rising i j g h = (cubics text l n 16 st rd (omega arith) few (omega arith)).spans.rising i j g h

  five : (i : ℕ) → cell_of (get_or (T 13) i no_cells) 2 % 5 < 5
  five i = (mods (cell_of (get_or (T 13) i no_cells) 0) (cell_of (get_or (T 13) i no_cells) 1) (cell_of (get_or (T 13) i no_cells) 2)).1

  -- the strip of a cubic
  strip_found : (j : ℕ) → j < length (T 13) → (k : ℕ) × (k < length (T 12)) × (of_pair (get_or (T 12) k no_cells) (get_or (T 13) j no_cells) ≡ true)
  strip_found j h =
      let t = term-there (st 13).progress.strips (get_or (T 13) j no_cells) ((cubics text l n 16 st rd (omega arith) few (omega arith)).there j h) in
      let s = seen-13 text l n 16 st rd (omega arith) few (strip_at (T 13) j) t.0 (mods (cell_of (get_or (T 13) j no_cells) 0) (cell_of (get_or (T 13) j no_cells) 1) 0).0 t.1 in
      let a = strip-cells text t.0 in
      let b = cubic-cells text j in
      (t.0, s.0, pair_of (get_or (T 12) t.0 no_cells) (get_or (T 13) j no_cells) a.0 a.1 b.0 b.1 (sym s.1))

  family-cubics : Follow (T 12) (T 13) of_pair
  family-cubics = (
    strip_found,
    λ i j k m g h a b e f.
        rank-strip k m (cell_of (get_or (T 13) i no_cells) 2 % 5) (cell_of (get_or (T 13) j no_cells) 2 % 5) (five i) (five j)
        (subst (λ (q : ℕ). q ≤ m * 5 + cell_of (get_or (T 13) j no_cells) 2 % 5) (ranked i k a e) (subst (λ (q : ℕ). (found (term_as (st 13).progress.strips (get_or (T 13) i no_cells))).rank ≤ q) (ranked j m b f) (rising i j g h))),
  )

  family-terms : (i j : ℕ) → i ≤ j → j < length (T 13) → of_pair (line_at (T 13) i) (line_at (T 13) j) ≡ true → cell_of (line_at (T 13) i) 2 ≤ cell_of (line_at (T 13) j) 2
  family-terms i j g h e =
      let s = strip_found i (omega arith) in
      let p = ranked i s.0 s.1 s.2 in
      let q = ranked j s.0 s.1 (pair_then (get_or (T 12) s.0 no_cells) (get_or (T 13) i no_cells) (get_or (T 13) j no_cells) s.2 e) in
      let r = rising i j g h in
      let a = mod-eq_of_lt (cubic-cells text i).2 in
      let b = mod-eq_of_lt (cubic-cells text j).2 in
      omega arith

  mark_at_lem : (j : ℕ) → j < length (T 14) → Marked (length (T 6)) (st 14).words (get_or (T 14) j no_cells)
  mark_at_lem j h = marked-in text l n 16 st rd (omega arith) (get_or (T 14) j no_cells) (mark-there-14 text l n 16 st rd (omega arith) (omega arith) j h)

  family-marks : Counted (length (T 6)) (T 14)
  family-marks = (
    λ j h. let q = mark_at_lem j h in let a = q.section in let b = q.known in (a, omega arith),
    λ i j g h.
        let p = mark_at_lem i (omega arith) in
        let q = mark_at_lem j h in
        let a = p.section in
        let b = p.rank in
        let c = q.section in
        let d = q.rank in
        let r = mark-rising text l n 16 st rd (omega arith) (omega arith) i j g h in
        omega arith,
  )

  family-mark-lanes : (j : ℕ) → j < length (T 14) → (k : ℕ) × (k < length (T 7)) × (of_lane (line_at (T 7) k) (line_at (T 14) j) ≡ true)
  family-mark-lanes j h =
      let z = rows-14 text l n 16 st rd (omega arith) in
      let c = counts-14 text l n 16 st rd (omega arith) in
      let w = most-14 text l n 16 st rd (omega arith) in
      lane-names (T 7) (length (T 6)) (st 14).words z c w (get_or (T 14) j no_cells)
      (there_if (lane_as (T 7) (length (T 6)) (st 14).words z c w (get_or (T 14) j no_cells)) (sym (mark-there (T 7) (length (T 6)) (st 14).words z c w (get_or (T 14) j no_cells)) ∙ ap (λ (o : Option Ranked). is_some o) (mark-there-14 text l n 16 st rd (omega arith) (omega arith) j h)))

  pub sound-family : 0 < length (T 0) → Family T
  sound-family road =
      record {
        road = road;
        lanes = family-lanes;
        ids = λ i h. ids-kept (T 7) (length (T 6)) (st 8).words (rows-8 text l n 16 st rd (omega arith)) i h (lanes-few text l n 16 st rd);
        extents = family-extents;
        heights = family-heights;
        shapes = family-shapes;
        strips = family-strips;
        cubics = family-cubics;
        terms = family-terms;
        marks = family-marks;
        mark_lanes = family-mark-lanes;
      }

-- ---- a right family

module _ (text : List ℕ) (l m n at count : ℕ) (progress : Progress) (ws : List ℕ) (ns : List Float) (vs : List ℕ) (form : RightForm text l m n (done at count progress ws ns vs)) where
  abbrev T' : ℕ → List Cells
  T' t = lines_of text t

  abbrev st' : ℕ → State
  st' t = state text l m n at count progress ws ns vs form t

  abbrev Sound : ℕ → Type 0
  Sound t = (track_after t 0 (T' t) (st' t).progress (st' t).words).sound ≡ true

  abbrev rd' : (u : ℕ) → ((t : ℕ) → t < u → Sound t) → Reading text l n u st'
  rd' u f = reading text l m n at count progress ws ns vs form u f

  abbrev step' : (t : ℕ) → t < 16 → Step t (T' t) (st' t) (st' (suc t))
  step' t h = state-step text l m n at count progress ws ns vs form t h

  last' : (t : ℕ) → t ≤ 16 → (st' t).progress.last ≡ 0
  last' t h = state-last text l n 0 st' (rd' 0 (λ t h. absurd (omega arith))) t h

  extend : (u : ℕ) → ((t : ℕ) → t < u → Sound t) → Sound u → (t : ℕ) → t < suc u → Sound t
  extend u f s t h = ⊎_elim (λ e. subst Sound (sym e) s) (λ l. f t l) (eq-or-lt_of_le (le_of_suc-le-suc h))

  plain-sound : (t : ℕ) → rule_of t ≡ None → (st' t).progress.sound ≡ true → Sound t
  plain-sound t e s = ap (λ (x : Progress). x.sound) (plain-track t e (T' t) 0 (st' t).progress (st' t).words) ∙ s

  module _ (family : Family T') where
    go_on : (t : ℕ) → t < 16 → Sound t → (st' (suc t)).progress.sound ≡ true
    go_on t h s = (step' t h).sound_if s (λ z. subst (λ (u : ℕ). 0 < length (T' u)) (sym z) family.road)

    section-there : (k : ℕ) → k < length (T' 7) → (10000 ≤ cell_of (get_or (T' 7) k no_cells) 0) × (section_in (T' 7) k < length (T' 6))
    section-there k h = let q = family.lanes.0 k h in let a = q.0 in let b = q.1 in (a, omega arith)

    section-order : (k : ℕ) → suc k < length (T' 7) → section_in (T' 7) k ≤ section_in (T' 7) (suc k)
    section-order k h = let q = family.lanes.1 k (suc k) (omega arith) h in omega arith

    sound-7 : ((t : ℕ) → t < 7 → Sound t) → (st' 7).progress.sound ≡ true → Sound 7
    sound-7 f s =
        lanes-right (T' 7) (length (T' 6)) (st' 7).progress.strips (st' 7).words (sections-few text l n 7 st' (rd' 7 f)) (lanes-few text l n 7 st' (rd' 7 f)) (state-long text l n 7 st' (rd' 7 f) 7 (omega arith)) ((rd' 7 f).sections 7 (omega arith) (omega arith))
        section-there section-order
        (λ k x us h inv. id-turn (T' 7) (length (T' 6)) (st' 7).progress.strips (st' 7).words (lanes-few text l n 7 st' (rd' 7 f)) section-there section-order family.ids k x us h inv)
        (st' 7).progress refl (blank text l n 7 st' (rd' 7 f) (omega arith)) s (last' 7 (omega arith))

    sound-8 : ((t : ℕ) → t < 8 → Sound t) → (st' 8).progress.sound ≡ true → Sound 8
    sound-8 f s =
        let r = rd' 8 f in
        let z = rows-8 text l n 8 st' r (omega arith) in
        let c = counts-8 text l n 8 st' r (omega arith) in
        let w = lanes-few text l n 8 st' r in
        ranges-right 121 6 (λ i. i < length (T' 7)) NoWord (T' 8) (st' 8).progress.strips (st' 8).words (lane_as (T' 7) (length (T' 6)) (st' 8).words z c w) families.Extent (extent-parents text l n 8 st' r (omega arith)) 8 no_own (none_owned 121 6 (λ i. i < length (T' 7)) (T' 8)) extent-ranged
        (follow-there (T' 7) (length (T' 6)) (st' 8).words z c w (T' 8) family.extents) (follow-order (T' 7) (length (T' 6)) (st' 8).words z c w (T' 8) family.extents)
        (st' 8).progress refl s (last' 8 (omega arith))

    sound-9 : ((t : ℕ) → t < 9 → Sound t) → (st' 9).progress.sound ≡ true → Sound 9
    sound-9 f s =
        let r = rd' 9 f in
        let z = rows-9 text l n 9 st' r (omega arith) (omega arith) in
        let c = counts-9 text l n 9 st' r (omega arith) (omega arith) in
        let w = lanes-few text l n 9 st' r in
        ranges-right 123 6 (λ i. i < length (T' 7)) NoWord (T' 9) (st' 9).progress.strips (st' 9).words (lane_as (T' 7) (length (T' 6)) (st' 9).words z c w) families.Height (height-parents text l n 9 st' r (omega arith) (omega arith)) 9 no_own (none_owned 123 6 (λ i. i < length (T' 7)) (T' 9)) height-ranged
        (follow-there (T' 7) (length (T' 6)) (st' 9).words z c w (T' 9) family.heights) (follow-order (T' 7) (length (T' 6)) (st' 9).words z c w (T' 9) family.heights)
        (st' 9).progress refl s (last' 9 (omega arith))

    sound-11 : ((t : ℕ) → t < 11 → Sound t) → (st' 11).progress.sound ≡ true → Sound 11
    sound-11 f s =
        ranges-right 1271 2 (λ i. i < length (T' 10)) NoWord (T' 11) (st' 11).progress.strips (st' 11).words (λ cells. ranked_among (cell_of cells 0) (get_or (st' 11).words 6 0)) families.Shape (shape-parents text l n 11 st' (rd' 11 f) (omega arith) (omega arith) (omega arith)) 11 no_own (none_owned 1271 2 (λ i. i < length (T' 10)) (T' 11)) shape-ranged
        (λ k h. there (here k h))
        (λ k h. let q = family.shapes.1 k (suc k) (omega arith) h in let a = ap (λ (o : Option Ranked). (found o).rank) (here k (omega arith)) in let b = ap (λ (o : Option Ranked). (found o).rank) (here (suc k) h) in omega arith)
        (st' 11).progress refl s (last' 11 (omega arith))
      where
        here : (k : ℕ) → k < length (T' 11) → ranked_among (cell_of (get_or (T' 11) k no_cells) 0) (get_or (st' 11).words 6 0) ≡ Some (index_at (cell_of (get_or (T' 11) k no_cells) 0 - 10000))
        here k h = let q = family.shapes.0 k h in let a = q.0 in let b = q.1 in let w = (rd' 11 f).profiles 11 (omega arith) (omega arith) in counted-in (cell_of (get_or (T' 11) k no_cells) 0) (get_or (st' 11).words 6 0) a (omega arith)

    few' : (u : ℕ) → Reading text l n u st' → length (T' 10) ≤ 16
    few' u r = profiles-few text l n u st' r

    sound-12 : ((t : ℕ) → t < 12 → Sound t) → (st' 12).progress.sound ≡ true → Sound 12
    sound-12 f s =
        let r = rd' 12 f in
        strips-right (T' 12) (st' 12).words (strips-few text l n 12 st' r) (state-long text l n 12 st' r 12 (omega arith))
        (λ i j h g e. let a = strip-cells text i in let b = strip-cells text j in family.strips i j h g (pair_of (get_or (T' 12) i no_cells) (get_or (T' 12) j no_cells) a.0 a.1 b.0 b.1 (sym e)))
        (st' 12).progress (strips-12 text l n 12 st' r (omega arith) (omega arith) (omega arith) (omega arith)) (λ p h. blank-12 text l n 12 st' r (omega arith) p h (few' 12 r)) s

    module _ (f : (t : ℕ) → t < 13 → Sound t) where
      -- a cubic's term, by the line of its strip
      term' : (i k : ℕ) → k < length (T' 12) → of_pair (get_or (T' 12) k no_cells) (get_or (T' 13) i no_cells) ≡ true
          → term_as (st' 13).progress.strips (get_or (T' 13) i no_cells) ≡ Some (record { rank = k * 5 + cell_of (get_or (T' 13) i no_cells) 2 % 5; index = strip_at (T' 13) i * 11 + cell_of (get_or (T' 13) i no_cells) 2 % 5 * 2 })
      term' i k h e =
          term-is (st' 13).progress.strips (get_or (T' 13) i no_cells) k (ap (strip_line (st' 13).progress.strips) (pair_same (get_or (T' 12) k no_cells) (get_or (T' 13) i no_cells) e) ∙ noted-13 text l n 13 st' (rd' 13 f) (omega arith) (few' 13 (rd' 13 f)) k h)

      term-here : (k : ℕ) → k < length (T' 13) → There (term_as (st' 13).progress.strips (get_or (T' 13) k no_cells))
      term-here k h = let q = family.cubics.0 k h in there (term' k q.0 q.1 q.2)

      term-order : (k : ℕ) → suc k < length (T' 13) → (found (term_as (st' 13).progress.strips (get_or (T' 13) k no_cells))).rank ≤ (found (term_as (st' 13).progress.strips (get_or (T' 13) (suc k) no_cells))).rank
      term-order k h =
          let a = family.cubics.0 k (omega arith) in
          let b = family.cubics.0 (suc k) h in
          let o = family.cubics.1 k (suc k) a.0 b.0 (omega arith) h a.1 b.1 a.2 b.2 in
          subst (λ (x : ℕ). x ≤ (found (term_as (st' 13).progress.strips (get_or (T' 13) (suc k) no_cells))).rank) (sym (rank-of k a.0 a.1 a.2))
          (subst (λ (x : ℕ). a.0 * 5 + cell_of (get_or (T' 13) k no_cells) 2 % 5 ≤ x) (sym (rank-of (suc k) b.0 b.1 b.2))
          (⊎_elim (same a.0 b.0 a.2 b.2) (λ l. rank-later a.0 b.0 (cell_of (get_or (T' 13) k no_cells) 2 % 5) (cell_of (get_or (T' 13) (suc k) no_cells) 2 % 5) (five' k) (five' (suc k)) l) (eq-or-lt_of_le o)))
        where
          rank-of : (i m : ℕ) → m < length (T' 12) → of_pair (get_or (T' 12) m no_cells) (get_or (T' 13) i no_cells) ≡ true → (found (term_as (st' 13).progress.strips (get_or (T' 13) i no_cells))).rank ≡ m * 5 + cell_of (get_or (T' 13) i no_cells) 2 % 5
          rank-of i m g e = ap (λ (o : Option Ranked). (found o).rank) (term' i m g e)

          five' : (i : ℕ) → cell_of (get_or (T' 13) i no_cells) 2 % 5 < 5
          five' i = (mods (cell_of (get_or (T' 13) i no_cells) 0) (cell_of (get_or (T' 13) i no_cells) 1) (cell_of (get_or (T' 13) i no_cells) 2)).1

          later : (a b c d : ℕ) → a ≡ b → c < 5 → d < 5 → c ≤ d → a * 5 + c % 5 ≤ b * 5 + d % 5
          later a b c d e h g l = let x = mod-eq_of_lt h in let y = mod-eq_of_lt g in omega arith

          same : (a b : ℕ) → of_pair (get_or (T' 12) a no_cells) (get_or (T' 13) k no_cells) ≡ true → of_pair (get_or (T' 12) b no_cells) (get_or (T' 13) (suc k) no_cells) ≡ true → a ≡ b
              → a * 5 + cell_of (get_or (T' 13) k no_cells) 2 % 5 ≤ b * 5 + cell_of (get_or (T' 13) (suc k) no_cells) 2 % 5
          same a b p q e =
              let x = cubic-cells text k in
              let y = cubic-cells text (suc k) in
              let s = pair_same (get_or (T' 12) a no_cells) (get_or (T' 13) k no_cells) p in
              let t = pair_same (get_or (T' 12) b no_cells) (get_or (T' 13) (suc k) no_cells) q in
              let z = family.terms k (suc k) (omega arith) h (pair_of (get_or (T' 13) k no_cells) (get_or (T' 13) (suc k) no_cells) x.0 x.1 y.0 y.1 (t ∙ ap (strip_at (T' 12)) (sym e) ∙ sym s)) in
              later a b (cell_of (get_or (T' 13) k no_cells) 2) (cell_of (get_or (T' 13) (suc k) no_cells) 2) e x.2 y.2 z

      sound-13 : (st' 13).progress.sound ≡ true → Sound 13
      sound-13 s =
          ranges-right 1304 1 Term NoWord (T' 13) (st' 13).progress.strips (st' 13).words (I text l n 13 st' (rd' 13 f) (omega arith) (few' 13 (rd' 13 f))) families.Cubic (cubic-parents text l n 13 st' (rd' 13 f) (omega arith) (few' 13 (rd' 13 f))) 13 no_own (none_owned 1304 1 Term (T' 13)) cubic-ranged
          term-here term-order (st' 13).progress refl s (last' 13 (omega arith))

    sound-14 : ((t : ℕ) → t < 14 → Sound t) → (st' 14).progress.sound ≡ true → Sound 14
    sound-14 f s =
        ranges-right 1347 2 (λ i. i < length (T' 6)) MarkWord (T' 14) (st' 14).progress.strips (st' 14).words (mark_named text l n 14 st' r (omega arith)) families.Mark (parents-14 text l n 14 st' r (omega arith)) 14 mark_put (owned-14 text l n 14 st' r (omega arith)) mark-ranged
        here
        (λ k h. let q = family.marks.1 k (suc k) (omega arith) h in let a = (marked-in text l n 14 st' r (omega arith) (get_or (T' 14) k no_cells) (here k (omega arith))).rank in let b = (marked-in text l n 14 st' r (omega arith) (get_or (T' 14) (suc k) no_cells) (here (suc k) h)).rank in omega arith)
        (st' 14).progress refl s (last' 14 (omega arith))
      where
        r : Reading text l n 14 st'
        r = rd' 14 f

        here : (k : ℕ) → k < length (T' 14) → There (mark_named text l n 14 st' (rd' 14 f) (omega arith) (get_or (T' 14) k no_cells))
        here k h =
            let z = rows-14 text l n 14 st' (rd' 14 f) (omega arith) in
            let c = counts-14 text l n 14 st' (rd' 14 f) (omega arith) in
            let w = most-14 text l n 14 st' (rd' 14 f) (omega arith) in
            let q = family.mark_lanes k h in
            there_if (mark_named text l n 14 st' (rd' 14 f) (omega arith) (get_or (T' 14) k no_cells))
            (mark-there (T' 7) (length (T' 6)) (st' 14).words z c w (get_or (T' 14) k no_cells) ∙ ap (λ (o : Option Ranked). is_some o) (lane-is (T' 7) (length (T' 6)) (st' 14).words z c w (get_or (T' 14) k no_cells) q.0 q.1 q.2))

    -- table by table: one is sound where those before it are
    each : (t : ℕ) → t < 16 → ((v : ℕ) → v < t → Sound v) → (st' t).progress.sound ≡ true → Sound t
    unfolding rule_of
    each zero h f s = plain-sound 0 refl s
    each (suc zero) h f s = plain-sound 1 refl s
    each (suc (suc zero)) h f s = plain-sound 2 refl s
    each (suc (suc (suc zero))) h f s = plain-sound 3 refl s
    each (suc (suc (suc (suc zero)))) h f s = plain-sound 4 refl s
    each (suc (suc (suc (suc (suc zero))))) h f s = plain-sound 5 refl s
    each (suc (suc (suc (suc (suc (suc zero)))))) h f s = plain-sound 6 refl s
    each (suc (suc (suc (suc (suc (suc (suc zero))))))) h f s = sound-7 f s
    each (suc (suc (suc (suc (suc (suc (suc (suc zero)))))))) h f s = sound-8 f s
    each (suc (suc (suc (suc (suc (suc (suc (suc (suc zero))))))))) h f s = sound-9 f s
    each (suc (suc (suc (suc (suc (suc (suc (suc (suc (suc zero)))))))))) h f s = plain-sound 10 refl s
    each (suc (suc (suc (suc (suc (suc (suc (suc (suc (suc (suc zero))))))))))) h f s = sound-11 f s
    each (suc (suc (suc (suc (suc (suc (suc (suc (suc (suc (suc (suc zero)))))))))))) h f s = sound-12 f s
    each (suc (suc (suc (suc (suc (suc (suc (suc (suc (suc (suc (suc (suc zero))))))))))))) h f s = sound-13 f s
    each (suc (suc (suc (suc (suc (suc (suc (suc (suc (suc (suc (suc (suc (suc zero)))))))))))))) h f s = sound-14 f s
    each (suc (suc (suc (suc (suc (suc (suc (suc (suc (suc (suc (suc (suc (suc (suc zero))))))))))))))) h f s = plain-sound 15 refl s
    each (suc (suc (suc (suc (suc (suc (suc (suc (suc (suc (suc (suc (suc (suc (suc (suc t)))))))))))))))) h f s = absurd (omega arith)

    -- the state after a sound table is sound
    begun : (t : ℕ) → t ≤ 16 → ((v : ℕ) → v < t → Sound v) → (st' t).progress.sound ≡ true
    begun zero h f = ap (λ (s : State). s.progress.sound) (state-first text l m n at count progress ws ns vs form)
    begun (suc t) h f = go_on t (omega arith) (f t (omega arith))

    upto : (u : ℕ) → u ≤ 16 → (t : ℕ) → t < u → Sound t
    upto zero h t l = absurd (omega arith)
    upto (suc u) h t l = let f = upto u (omega arith) in extend u f (each u (omega arith) f (begun u (omega arith) f)) t l

    pub family-sound : progress.sound ≡ true
    family-sound = ap (λ (s : State). s.progress.sound) (sym (state-end text l m n at count progress ws ns vs form)) ∙ begun 16 (omega arith) (upto 16 (omega arith))

  pub sound-is-family : (progress.sound ≡ true → Family T') × (Family T' → progress.sound ≡ true)
  sound-is-family = (
    λ s.
        let r = sound-reading text l m n at count progress ws ns vs form s in
        sound-family text l n st' r ((step' 0 (omega arith)).road_line refl (after-sound 1 0 (T' 1) (st' 1).progress (st' 1).words (r.sound 1 (omega arith)))),
    family-sound,
  )
