-- The extents and heights of every lane and the shapes of every profile of a text of right form that is sound up to their table: each range in memory is the lines that name that parent (`extent-part`, `height-part`, `shape-part`).
use Prim.Native.Nat.{ℕ, suc, ◌+◌, ◌-◌, ◌*◌, ◌<◌, ◌≤◌}
use native.Mathlib.Omega.{arith}
use mathlib.Core.Path.{◌≡◌, refl, sym, ◌∙◌, ap, subst}
use mathlib.Core.Bool.{Bool, true}
use mathlib.Core.List.{List}
use lib.ListN.{length, get_or, replicate}
use borrow.Author.Tests.{eqb-true, eq-eqb}
use Rattle.std.specs.Prelude.{Option, Some, None, option_and_then}
use Rattle.reader_schema.specs.Schema.{limit_of}
use Rattle.reader_lines.specs.Columns.{cell_of, no_cells}
use Rattle.reader_lines.specs.declared.columns.Cells.{Cells}
use Rattle.reader_store.specs.Parents.{index_at, section_at, ranked_among, lane_among, lane_within, lane_index, index_of}
use Rattle.reader_store.specs.declared.layout.Family.{Family}
use Rattle.reader_store.specs.declared.layout.Family.TheVariants.{Extent, Height, Shape}
use Rattle.reader_store.specs.declared.parents.Ranked.{Ranked}
use Rattle.reader_store.specs.declared.parents.SectionRecord.{SectionRecord}
use Rattle.reader_store.specs.declared.progress.Progress.{Progress}
use Rattle.reader_laws.specs.Lines.{lines_of}
use Rattle.reader_laws.proofs.LineLimits.{line_limits}
use Rattle.reader_text_laws.specs.Said.{under, of_lane}
use Rattle.reader_text_laws.specs.Family.{Follow}
use Rattle.reader_text_laws.proofs.ParentCases.{found, There, there, counted-there, section_record-same}
use Rattle.reader_text_laws.proofs.Those.{pair-tells, pair-holds, Part, part_same}
use Rattle.reader_text_laws.proofs.Folds.{track_after, words_after, State, Step}
use Rattle.reader_text_laws.proofs.States.{Reading, state-long, blank, blank-strips, still-10}
use Rattle.reader_text_laws.proofs.Ranges.{NoWord, no_own, none_owned, Outside, Parents, Kept, extent-ranged, height-ranged, shape-ranged, ranges-kept}
use Rattle.reader_text_laws.proofs.Lanes.{Lanes, lanes-kept}
use Rattle.reader_text_laws.proofs.LaneLines.{LaneRows, lane_rows_lem, lane-one, Named, of_lane_named, lane-found}

-- a parent's range is the lines that a test picks, where the test picks the lines that name it
pub kept-part : (base stride : ℕ) (Good Mine : ℕ → Type 0) (all : List Cells) (strips : List (Option ℕ)) (ws : List ℕ) (I : Cells → Option Ranked) (progress : Progress) (us : List ℕ) → Kept base stride Good Mine all strips ws I (length all) progress us
    → (i : ℕ) → Good i → (p : Cells → Bool)
    → ((k : ℕ) → k < length all → p (get_or all k no_cells) ≡ true → (found (I (get_or all k no_cells))).index ≡ i) → ((k : ℕ) → k < length all → (found (I (get_or all k no_cells))).index ≡ i → p (get_or all k no_cells) ≡ true)
    → Part p all (get_or us (base + i * stride) 0) (get_or us (base + i * stride + 1) 0)
kept-part base stride Good Mine all strips ws I progress us kept i g p to from =
    record {
      fits = kept.spans.below i g;
      within = λ j l e. subst (λ (i : ℕ). (get_or us (base + i * stride) 0 ≤ j) × (j < get_or us (base + i * stride) 0 + get_or us (base + i * stride + 1) 0)) (to j l e) (kept.spans.into j l);
      passes = λ j a b. let f = kept.spans.below i g in from j (omega arith) (kept.spans.own i j g a b);
    }

-- ---- the lane that a line names depends on the sections' words alone

index-lane : (us : List ℕ) (cells : Cells) (strips : List (Option ℕ))
    → (index_of us Extent cells strips ≡ lane_index us (cell_of cells 0) (cell_of cells 1)) × (index_of us Height cells strips ≡ lane_index us (cell_of cells 0) (cell_of cells 1)) × (index_of us Shape cells strips ≡ ranked_among (cell_of cells 0) (get_or us 6 0))
unfolding index_of
index-lane us cells strips = (refl, refl, refl)

-- what depends on the sections' words alone, of the section that a line names
module _ {A : Type 0} (us zs : List ℕ) (section : ℕ) (e : get_or us 5 0 ≡ get_or zs 5 0) (small : get_or zs 5 0 ≤ 16) (f g : Ranked → Option A) where
  pub section-same : ((s : ℕ) → s < 16 → f (index_at s) ≡ g (index_at s)) → option_and_then f (section_at us section) ≡ option_and_then g (section_at zs section)
  section-same same = ap (λ (n : ℕ). option_and_then f (ranked_among section n)) e ∙ go (ranked_among section (get_or zs 5 0)) refl
    where
      go : (o : Option Ranked) → ranked_among section (get_or zs 5 0) ≡ o → option_and_then f o ≡ option_and_then g o
      go None t = refl
      go (Some x) t = let c = counted-there section (get_or zs 5 0) x t in let d = c.1 in subst (λ (x : Ranked). f x ≡ g x) (sym c.2) (same (section - 10000) (omega arith))

lane_of-same : (us zs : List ℕ) (section id : ℕ) → get_or us 5 0 ≡ get_or zs 5 0 → get_or zs 5 0 ≤ 16 → ((p : ℕ) → 71 ≤ p → p < 119 → get_or us p 0 ≡ get_or zs p 0) → lane_index us section id ≡ lane_index zs section id
unfolding lane_index
lane_of-same us zs section id e small same =
    section-same us zs section e small (lane_within us id) (lane_within zs id)
    (λ s h. section_record-same (λ (r : SectionRecord). lane_among r id) (same (71 + 3 * s) (omega arith) (omega arith)) (same (71 + 3 * s + 1) (omega arith) (omega arith)) (same (71 + 3 * s + 2) (omega arith) (omega arith)))

-- ---- a table under the lanes

module _ (lanes : List Cells) (S : ℕ) (zs : List ℕ) (rows : LaneRows lanes S zs) (counts : get_or zs 5 0 ≡ S) (most : length lanes ≤ 192) where
  abbrev pub lane_as : Cells → Option Ranked
  lane_as cells = lane_index zs (cell_of cells 0) (cell_of cells 1)

  named : (cells : Cells) → There (lane_as cells) → Named lanes S zs rows (cell_of cells 0) (cell_of cells 1) (found (lane_as cells))
  named cells t = of_lane_named lanes S zs rows (cell_of cells 0) (cell_of cells 1) (found (lane_as cells)) counts t

  pub lane-parents : (family : Family) (base : ℕ) (all : List Cells) (strips : List (Option ℕ)) → 121 ≤ base → base ≤ 123 → length all < 65535 → 1891 ≤ length zs → ((us : List ℕ) (cells : Cells) → index_of us family cells strips ≡ lane_index us (cell_of cells 0) (cell_of cells 1))
      → ((i : ℕ) → i < length lanes → (get_or zs (base + i * 6) 0 ≡ 0) × (get_or zs (base + i * 6 + 1) 0 ≡ 0)) → Parents family base 6 (λ i. i < length lanes) NoWord all strips zs lane_as
  lane-parents family base all strips from to few long is blanks =
      record {
        few = few;
        blank = blanks;
        room = λ i h. omega arith;
        apart = λ i j g h. (λ e. omega arith, λ e. omega arith);
        same = λ us f cells. is us cells ∙ lane_of-same us zs (cell_of cells 0) (cell_of cells 1) (f 5 (λ i g. (λ e. omega arith, λ e. omega arith)) (λ e. e)) (let s = rows.sections in omega arith) (λ p a b. f p (λ i g. (λ e. omega arith, λ e. omega arith)) (λ e. e));
        good = λ cells t. (named cells t).inside;
        alike = λ a b s t e. sym (named a s).ranked ∙ e ∙ (named b t).ranked;
        ranked = λ a b s t e. (named a s).ranked ∙ e ∙ sym (named b t).ranked;
      }

  -- the lines of a lane: those with its section and id
  pub lane-part : (base : ℕ) (all : List Cells) (strips : List (Option ℕ)) (progress : Progress) (us : List ℕ) → Kept base 6 (λ i. i < length lanes) NoWord all strips zs lane_as (length all) progress us
      → (i : ℕ) → i < length lanes → Part (of_lane (get_or lanes i no_cells)) all (get_or us (base + i * 6) 0) (get_or us (base + i * 6 + 1) 0)
  lane-part base all strips progress us kept i h =
      kept-part base 6 (λ i. i < length lanes) NoWord all strips zs lane_as progress us kept i h (of_lane (get_or lanes i no_cells))
      (λ k l e.
      let p = pair-tells (cell_of (get_or lanes i no_cells) 0) (cell_of (get_or lanes i no_cells) 1) (get_or all k no_cells) e in
      let n = named (get_or all k no_cells) (kept.there k l) in
      lane-one lanes S zs rows (found (lane_as (get_or all k no_cells))).index i n.inside h (n.same_section ∙ p.0) (n.same_id ∙ p.1))
      (λ k l e.
      let n = named (get_or all k no_cells) (kept.there k l) in
      pair-holds (cell_of (get_or lanes i no_cells) 0) (cell_of (get_or lanes i no_cells) 1) (get_or all k no_cells) (sym n.same_section ∙ ap (λ (j : ℕ). cell_of (get_or lanes j no_cells) 0) e) (sym n.same_id ∙ ap (λ (j : ℕ). cell_of (get_or lanes j no_cells) 1) e))

  -- the lane that a line names, where the table has it
  pub lane-is : (cells : Cells) (k : ℕ) → k < length lanes → of_lane (get_or lanes k no_cells) cells ≡ true → lane_as cells ≡ Some (index_at k)
  lane-is cells k g e =
      let p = pair-tells (cell_of (get_or lanes k no_cells) 0) (cell_of (get_or lanes k no_cells) 1) cells e in
      ap (λ (a : ℕ). lane_index zs a (cell_of cells 1)) p.0 ∙ ap (lane_index zs (cell_of (get_or lanes k no_cells) 0)) p.1 ∙ lane-found lanes S zs rows counts k g

  pub lane-names : (cells : Cells) → There (lane_as cells) → (k : ℕ) × (k < length lanes) × (of_lane (get_or lanes k no_cells) cells ≡ true)
  lane-names cells t =
      let q = named cells t in
      let k : ℕ = (found (lane_as cells)).index in
      (k, q.inside, pair-holds (cell_of (get_or lanes k no_cells) 0) (cell_of (get_or lanes k no_cells) 1) cells (sym q.same_section) (sym q.same_id))

  lane-rank : (cells : Cells) (k : ℕ) → k < length lanes → of_lane (get_or lanes k no_cells) cells ≡ true → (found (lane_as cells)).rank ≡ k
  lane-rank cells k g e = ap (λ (o : Option Ranked). (found o).rank) (lane-is cells k g e)

  -- each line has its lane, and the lanes never go back
  pub lane-follow : (base : ℕ) (all : List Cells) (strips : List (Option ℕ)) (progress : Progress) (us : List ℕ) → Kept base 6 (λ i. i < length lanes) NoWord all strips zs lane_as (length all) progress us → Follow lanes all of_lane
  lane-follow base all strips progress us kept = (
    λ j h. lane-names (get_or all j no_cells) (kept.there j h),
    λ i j k m h g a b e f. let p = lane-rank (get_or all i no_cells) k a e in let q = lane-rank (get_or all j no_cells) m b f in let r = kept.spans.rising i j h g in omega arith,
  )

  pub follow-there : (all : List Cells) → Follow lanes all of_lane → (k : ℕ) → k < length all → There (lane_as (get_or all k no_cells))
  follow-there all f k h = let q = f.0 k h in there (lane-is (get_or all k no_cells) q.0 q.1 q.2)

  pub follow-order : (all : List Cells) → Follow lanes all of_lane → (k : ℕ) → suc k < length all → (found (lane_as (get_or all k no_cells))).rank ≤ (found (lane_as (get_or all (suc k) no_cells))).rank
  follow-order all f k h =
      let a = f.0 k (omega arith) in
      let b = f.0 (suc k) h in
      let o = f.1 k (suc k) a.0 b.0 (omega arith) h a.1 b.1 a.2 b.2 in
      let x = lane-rank (get_or all k no_cells) a.0 a.1 a.2 in
      let y = lane-rank (get_or all (suc k) no_cells) b.0 b.1 b.2 in
      omega arith

module _ (text : List ℕ) (l n u : ℕ) (state : ℕ → State) (reading : Reading text l n u state) where
  abbrev st : ℕ → State
  st t = state t

  abbrev step : (t : ℕ) → t < 16 → Step t (lines_of text t) (st t) (st (suc t))
  step t h = reading.step t h

  pub few : (t : ℕ) → t < 16 → length (lines_of text t) ≤ limit_of t
  few t h = reading.few t h

  pub sections-few : length (lines_of text 6) ≤ 16
  sections-few = let f = few 6 (omega arith) in let e = line_limits.sections in omega arith

  pub lanes-few : length (lines_of text 7) ≤ 192
  lanes-few = let f = few 7 (omega arith) in let e = line_limits.lanes in omega arith

  pub profiles-few : length (lines_of text 10) ≤ 16
  profiles-few = let f = few 10 (omega arith) in let e = line_limits.profiles in omega arith

  pub long : (t : ℕ) → t ≤ 16 → 1891 ≤ length (st t).words
  long t h = state-long text l n u state reading t h

  module _ (s7 : 7 < u) where
    pub lanes : Lanes (lines_of text 7) (length (lines_of text 6)) (st 7).progress.strips (st 7).words (length (lines_of text 7)) (track_after 7 0 (lines_of text 7) (st 7).progress (st 7).words) (words_after 7 0 (lines_of text 7) (st 7).progress (st 7).words)
    lanes =
        lanes-kept (lines_of text 7) (length (lines_of text 6)) (st 7).progress.strips (st 7).words sections-few lanes-few (long 7 (omega arith)) (reading.sections 7 (omega arith) (omega arith)) (st 7).progress refl
        (blank text l n u state reading (omega arith)) (reading.sound 7 (omega arith))

    pub lanes-after : (zs : List ℕ) → ((p : ℕ) → 71 ≤ p → p < 119 → get_or zs p 0 ≡ get_or (st 8).words p 0) → LaneRows (lines_of text 7) (length (lines_of text 6)) zs
    lanes-after zs same =
        lane_rows_lem (lines_of text 7) (length (lines_of text 6)) (st 7).progress.strips (st 7).words (track_after 7 0 (lines_of text 7) (st 7).progress (st 7).words) (words_after 7 0 (lines_of text 7) (st 7).progress (st 7).words) zs sections-few
        (λ p a b. same p a b ∙ (step 7 (omega arith)).high p (omega arith)) lanes

    -- words that are not a lane's codes are blank yet
    pub blank-8 : (p : ℕ) → 119 ≤ p → ((j : ℕ) → j < 192 → (p ≡ 119 + j * 6 → ⊥) × (p ≡ 119 + j * 6 + 1 → ⊥)) → get_or (st 8).words p 0 ≡ 0
    blank-8 p h f = (step 7 (omega arith)).high p (omega arith) ∙ lanes.high p h f ∙ blank text l n u state reading (omega arith) p (omega arith)

    -- ---- extents

    pub rows-8 : LaneRows (lines_of text 7) (length (lines_of text 6)) (st 8).words
    rows-8 = lanes-after (st 8).words (λ p a b. refl)

    pub counts-8 : get_or (st 8).words 5 0 ≡ length (lines_of text 6)
    counts-8 = reading.sections 8 (omega arith) (omega arith)

    pub extent-parents : Parents Extent 121 6 (λ i. i < length (lines_of text 7)) NoWord (lines_of text 8) (st 8).progress.strips (st 8).words (lane_as (lines_of text 7) (length (lines_of text 6)) (st 8).words rows-8 counts-8 lanes-few)
    extent-parents =
        lane-parents (lines_of text 7) (length (lines_of text 6)) (st 8).words rows-8 counts-8 lanes-few Extent 121 (lines_of text 8) (st 8).progress.strips (omega arith) (omega arith) (let f = few 8 (omega arith) in let e = line_limits.extents in omega arith) (long 8 (omega arith))
        (λ us cells. (index-lane us cells (st 8).progress.strips).0)
        (λ i h. let f = lanes-few in (blank-8 (121 + i * 6) (omega arith) (λ j g. (λ e. omega arith, λ e. omega arith)), blank-8 (121 + i * 6 + 1) (omega arith) (λ j g. (λ e. omega arith, λ e. omega arith))))

    module _ (s8 : 8 < u) where
      pub extents : Kept 121 6 (λ i. i < length (lines_of text 7)) NoWord (lines_of text 8) (st 8).progress.strips (st 8).words (lane_as (lines_of text 7) (length (lines_of text 6)) (st 8).words rows-8 counts-8 lanes-few) (length (lines_of text 8)) (track_after 8 0 (lines_of text 8) (st 8).progress (st 8).words) (words_after 8 0 (lines_of text 8) (st 8).progress (st 8).words)
      extents =
          ranges-kept 121 6 (λ i. i < length (lines_of text 7)) NoWord (lines_of text 8) (st 8).progress.strips (st 8).words (lane_as (lines_of text 7) (length (lines_of text 6)) (st 8).words rows-8 counts-8 lanes-few) Extent
          extent-parents
          8 no_own (none_owned 121 6 (λ i. i < length (lines_of text 7)) (lines_of text 8)) extent-ranged (st 8).progress refl (reading.sound 8 (omega arith))

      pub frame-8 : (p : ℕ) → 7 ≤ p → Outside (λ i. i < length (lines_of text 7)) 121 6 p → get_or (st 9).words p 0 ≡ get_or (st 8).words p 0
      frame-8 p h f = (step 8 (omega arith)).high p h ∙ extents.frame p f (λ e. e)

      pub extent-part-9 : (i : ℕ) → i < length (lines_of text 7) → Part (of_lane (get_or (lines_of text 7) i no_cells)) (lines_of text 8) (get_or (st 9).words (121 + i * 6) 0) (get_or (st 9).words (121 + i * 6 + 1) 0)
      extent-part-9 i h =
          let p = lane-part (lines_of text 7) (length (lines_of text 6)) (st 8).words rows-8 counts-8 lanes-few 121 (lines_of text 8) (st 8).progress.strips (track_after 8 0 (lines_of text 8) (st 8).progress (st 8).words) (words_after 8 0 (lines_of text 8) (st 8).progress (st 8).words) extents i h in
          part_same (of_lane (get_or (lines_of text 7) i no_cells)) (lines_of text 8) (sym ((step 8 (omega arith)).high (121 + i * 6) (omega arith))) (sym ((step 8 (omega arith)).high (121 + i * 6 + 1) (omega arith))) p

      -- ---- heights

      pub rows-9 : LaneRows (lines_of text 7) (length (lines_of text 6)) (st 9).words
      rows-9 = lanes-after (st 9).words (λ p a b. frame-8 p (omega arith) (λ i g. (λ e. omega arith, λ e. omega arith)))

      pub counts-9 : get_or (st 9).words 5 0 ≡ length (lines_of text 6)
      counts-9 = reading.sections 9 (omega arith) (omega arith)

      pub blank-9 : (p : ℕ) → 119 ≤ p → ((j : ℕ) → j < 192 → (p ≡ 119 + j * 6 → ⊥) × (p ≡ 119 + j * 6 + 1 → ⊥)) → ((j : ℕ) → j < 192 → (p ≡ 121 + j * 6 → ⊥) × (p ≡ 121 + j * 6 + 1 → ⊥)) → get_or (st 9).words p 0 ≡ 0
      blank-9 p h f g = let k = lanes-few in frame-8 p (omega arith) (λ i q. g i (omega arith)) ∙ blank-8 p h f

      pub height-parents : Parents Height 123 6 (λ i. i < length (lines_of text 7)) NoWord (lines_of text 9) (st 9).progress.strips (st 9).words (lane_as (lines_of text 7) (length (lines_of text 6)) (st 9).words rows-9 counts-9 lanes-few)
      height-parents =
          lane-parents (lines_of text 7) (length (lines_of text 6)) (st 9).words rows-9 counts-9 lanes-few Height 123 (lines_of text 9) (st 9).progress.strips (omega arith) (omega arith) (let f = few 9 (omega arith) in let e = line_limits.heights in omega arith) (long 9 (omega arith))
          (λ us cells. (index-lane us cells (st 9).progress.strips).1)
          (λ i h. let f = lanes-few in (blank-9 (123 + i * 6) (omega arith) (λ j g. (λ e. omega arith, λ e. omega arith)) (λ j g. (λ e. omega arith, λ e. omega arith)), blank-9 (123 + i * 6 + 1) (omega arith) (λ j g. (λ e. omega arith, λ e. omega arith)) (λ j g. (λ e. omega arith, λ e. omega arith))))

      module _ (s9 : 9 < u) where
        pub heights : Kept 123 6 (λ i. i < length (lines_of text 7)) NoWord (lines_of text 9) (st 9).progress.strips (st 9).words (lane_as (lines_of text 7) (length (lines_of text 6)) (st 9).words rows-9 counts-9 lanes-few) (length (lines_of text 9)) (track_after 9 0 (lines_of text 9) (st 9).progress (st 9).words) (words_after 9 0 (lines_of text 9) (st 9).progress (st 9).words)
        heights =
            ranges-kept 123 6 (λ i. i < length (lines_of text 7)) NoWord (lines_of text 9) (st 9).progress.strips (st 9).words (lane_as (lines_of text 7) (length (lines_of text 6)) (st 9).words rows-9 counts-9 lanes-few) Height
            height-parents
            9 no_own (none_owned 123 6 (λ i. i < length (lines_of text 7)) (lines_of text 9)) height-ranged (st 9).progress refl (reading.sound 9 (omega arith))

        pub frame-9 : (p : ℕ) → 7 ≤ p → Outside (λ i. i < length (lines_of text 7)) 123 6 p → get_or (st 10).words p 0 ≡ get_or (st 9).words p 0
        frame-9 p h f = (step 9 (omega arith)).high p h ∙ heights.frame p f (λ e. e)

        pub height-part-10 : (i : ℕ) → i < length (lines_of text 7) → Part (of_lane (get_or (lines_of text 7) i no_cells)) (lines_of text 9) (get_or (st 10).words (123 + i * 6) 0) (get_or (st 10).words (123 + i * 6 + 1) 0)
        height-part-10 i h =
            let p = lane-part (lines_of text 7) (length (lines_of text 6)) (st 9).words rows-9 counts-9 lanes-few 123 (lines_of text 9) (st 9).progress.strips (track_after 9 0 (lines_of text 9) (st 9).progress (st 9).words) (words_after 9 0 (lines_of text 9) (st 9).progress (st 9).words) heights i h in
            part_same (of_lane (get_or (lines_of text 7) i no_cells)) (lines_of text 9) (sym ((step 9 (omega arith)).high (123 + i * 6) (omega arith))) (sym ((step 9 (omega arith)).high (123 + i * 6 + 1) (omega arith))) p

        -- ---- shapes

        pub frame-10 : (p : ℕ) → 71 ≤ p → get_or (st 11).words p 0 ≡ get_or (st 10).words p 0
        frame-10 p h = (still-10 text l n u state reading).1 p h

        pub blank-11 : (p : ℕ) → 1271 ≤ p → get_or (st 11).words p 0 ≡ 0
        blank-11 p h = let k = lanes-few in frame-10 p (omega arith) ∙ frame-9 p (omega arith) (λ i g. (λ e. omega arith, λ e. omega arith)) ∙ blank-9 p (omega arith) (λ j g. (λ e. omega arith, λ e. omega arith)) (λ j g. (λ e. omega arith, λ e. omega arith))

        abbrev pub profile_as : Cells → Option Ranked
        profile_as cells = ranked_among (cell_of cells 0) (get_or (st 11).words 6 0)

        -- the profile that a line names is one of the table, by its number
        pub profile-named : (cells : Cells) → There (profile_as cells) → (10000 ≤ cell_of cells 0) × ((found (profile_as cells)).index < length (lines_of text 10)) × ((found (profile_as cells)).rank ≡ (found (profile_as cells)).index) × ((found (profile_as cells)).index ≡ cell_of cells 0 - 10000)
        profile-named cells t =
            let c = counted-there (cell_of cells 0) (get_or (st 11).words 6 0) (found (profile_as cells)) t in
            let d = c.1 in
            let w = reading.profiles 11 (omega arith) (omega arith) in
            subst (λ (x : Ranked). (10000 ≤ cell_of cells 0) × (x.index < length (lines_of text 10)) × (x.rank ≡ x.index) × (x.index ≡ cell_of cells 0 - 10000)) (sym c.2) (c.0, omega arith, refl, refl)

        pub shape-parents : Parents Shape 1271 2 (λ i. i < length (lines_of text 10)) NoWord (lines_of text 11) (st 11).progress.strips (st 11).words profile_as
        shape-parents =
            record {
              few = let f = few 11 (omega arith) in let e = line_limits.shapes in omega arith;
              blank = λ i h. (blank-11 (1271 + i * 2) (omega arith), blank-11 (1271 + i * 2 + 1) (omega arith));
              room = λ i h. let f = profiles-few in let g = long 11 (omega arith) in omega arith;
              apart = λ i j g h. (λ e. omega arith, λ e. omega arith);
              same = λ us f cells. (index-lane us cells (st 11).progress.strips).2 ∙ ap (ranked_among (cell_of cells 0)) (f 6 (λ i g. (λ e. omega arith, λ e. omega arith)) (λ e. e));
              good = λ cells t. (profile-named cells t).1;
              alike = λ a b s t e. sym (profile-named a s).2 ∙ e ∙ (profile-named b t).2;
              ranked = λ a b s t e. (profile-named a s).2 ∙ e ∙ sym (profile-named b t).2;
            }

        module _ (s11 : 11 < u) where
          pub shapes : Kept 1271 2 (λ i. i < length (lines_of text 10)) NoWord (lines_of text 11) (st 11).progress.strips (st 11).words profile_as (length (lines_of text 11)) (track_after 11 0 (lines_of text 11) (st 11).progress (st 11).words) (words_after 11 0 (lines_of text 11) (st 11).progress (st 11).words)
          shapes =
              ranges-kept 1271 2 (λ i. i < length (lines_of text 10)) NoWord (lines_of text 11) (st 11).progress.strips (st 11).words profile_as Shape
              shape-parents
              11 no_own (none_owned 1271 2 (λ i. i < length (lines_of text 10)) (lines_of text 11)) shape-ranged (st 11).progress refl (reading.sound 11 (omega arith))

          pub frame-11 : (p : ℕ) → 7 ≤ p → Outside (λ i. i < length (lines_of text 10)) 1271 2 p → get_or (st 12).words p 0 ≡ get_or (st 11).words p 0
          frame-11 p h f = (step 11 (omega arith)).high p h ∙ shapes.frame p f (λ e. e)

          pub shape-part-12 : (i : ℕ) → i < length (lines_of text 10) → Part (under i) (lines_of text 11) (get_or (st 12).words (1271 + i * 2) 0) (get_or (st 12).words (1271 + i * 2 + 1) 0)
          shape-part-12 i h =
              let p =
              kept-part 1271 2 (λ i. i < length (lines_of text 10)) NoWord (lines_of text 11) (st 11).progress.strips (st 11).words profile_as (track_after 11 0 (lines_of text 11) (st 11).progress (st 11).words) (words_after 11 0 (lines_of text 11) (st 11).progress (st 11).words) shapes i h (under i)
              (λ k g e. let q = profile-named (get_or (lines_of text 11) k no_cells) (shapes.there k g) in let r = q.3 in let s = eqb-true (cell_of (get_or (lines_of text 11) k no_cells) 0) (10000 + i) e in omega arith)
              (λ k g e. let q = profile-named (get_or (lines_of text 11) k no_cells) (shapes.there k g) in let r = q.3 in let s = q.0 in eq-eqb (cell_of (get_or (lines_of text 11) k no_cells) 0) (10000 + i) (omega arith))
              in
              part_same (under i) (lines_of text 11) (sym ((step 11 (omega arith)).high (1271 + i * 2) (omega arith))) (sym ((step 11 (omega arith)).high (1271 + i * 2 + 1) (omega arith))) p

          -- the strips of the progress, before the table strip
          pub strips-12 : (st 12).progress.strips ≡ replicate 4 None
          strips-12 =
              (step 11 (omega arith)).strips ∙ shapes.noted ∙ (still-10 text l n u state reading).0 ∙ (step 9 (omega arith)).strips ∙ heights.noted ∙ (step 8 (omega arith)).strips ∙ extents.noted ∙ (step 7 (omega arith)).strips ∙ lanes.noted ∙ blank-strips text l n u state reading (omega arith)
