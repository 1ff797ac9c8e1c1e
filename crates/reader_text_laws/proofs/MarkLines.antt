-- The marks of every section of a text of right form that is sound up to their table: each section's range in memory is the lines that name it (`mark-part-16`), and a line's own words are the place of its lane and its kind (`mark_words-16`, `mark_kind-16`).
use Prim.Native.Nat.{ℕ, suc, ◌+◌, ◌-◌, ◌*◌, ◌<◌, ◌≤◌}
use native.Mathlib.Omega.{arith}
use native.Mathlib.Nat.{eq-or-lt_of_le}
use mathlib.Core.Path.{◌≡◌, refl, sym, ◌∙◌, ap, subst}
use mathlib.Core.Bool.{Bool, true, false, cond}
use mathlib.Core.List.{List}
use mathlib.Core.Logic.{⊎_elim}
use lib.ListN.{length, get_or, set, length-set}
use lib.Seq.{get_or-set_same, get_or-set_other}
use lib.Dec.{eqb, ltb}
use borrow.Author.Tests.{eqb-true, eq-eqb, lt-ltb, le-ltb}
use Rattle.std.specs.Prelude.{Option, Some, None, is_some, option_and_then}
use Rattle.std.proofs.lemmas.Option.{cond_some, option_and_then_some}
use Rattle.reader_lines.specs.Columns.{cell_of, no_cells}
use Rattle.reader_lines.specs.declared.columns.Cells.{Cells}
use Rattle.reader_store.specs.Layout.{code_of, word_columns, cells_kept, codes_kept, rule_of, ranges_of}
use Rattle.reader_store.specs.Parents.{index_at, ranked_among, section_with, lane_among, lane_within, lane_index, mark_lane_in, mark_lane, mark_within, mark_index, index_of, parent_of}
use Rattle.reader_store.specs.Keep.{mark_kind, mark_place, mark_put, own_words, ruled_words, ruled_progress, kept_words, kept_progress}
use Rattle.reader_store.specs.declared.layout.Family.TheVariants.{Mark}
use Rattle.reader_store.specs.declared.parents.Ranked.{Ranked}
use Rattle.reader_store.specs.declared.parents.SectionRecord.{SectionRecord}
use Rattle.reader_store.specs.declared.progress.Progress.{Progress}
use Rattle.reader_laws.specs.Lines.{lines_of}
use Rattle.reader_laws.proofs.LineLimits.{line_limits}
use Rattle.reader_text_laws.specs.Said.{under, place_said}
use Rattle.reader_text_laws.proofs.ParentCases.{found, There, there_if, counted-in, counted-there, section_record-same}
use Rattle.reader_text_laws.proofs.Those.{Part, part_same}
use Rattle.reader_text_laws.proofs.Folds.{track_after, words_after, after-lines, State, Step}
use Rattle.reader_text_laws.proofs.States.{Reading, state-long, still-15}
use Rattle.reader_text_laws.proofs.Ranges.{Ranged, Owned, Outside, Parents, Kept, kept-start, range-line, line-own}
use Rattle.reader_text_laws.proofs.Lanes.{lefts_at, rights_at}
use Rattle.reader_text_laws.proofs.LaneLines.{among_cases, LaneRows}
use Rattle.reader_text_laws.proofs.ChildLines.{kept-part, section-same, lane_as, sections-few, lanes-few, profiles-few, lanes-after, frame-8, frame-9, frame-10, frame-11}
use Rattle.reader_text_laws.proofs.StripLines.{end-12, blank-14}

-- ---- the lane of a mark, by its place among those of its section

-- it is there wherever the section's lanes begin
among_there : (left right id first : ℕ) → is_some (lane_among (section_with 0 left right) id) ≡ is_some (lane_among (section_with first left right) id)
unfolding lane_among
among_there left right id first = go (eqb id 10000) (ltb 10000 id) (ltb (left + 10000) id) (ltb (id + right) 10000)
  where
    among : ℕ → Bool → Bool → Bool → Bool → Option Ranked
    among f a b c d = cond a None (cond b (cond c None (Some (index_at (f + (id - 10001))))) (cond d None (Some (index_at (f + left + (9999 - id))))))

    go : (a b c d : Bool) → is_some (among 0 a b c d) ≡ is_some (among first a b c d)
    go true b c d = refl
    go false true true d = refl
    go false true false d = refl
    go false false c true = refl
    go false false c false = refl

among-place : (left right id : ℕ) (x : Ranked) → lane_among (section_with 0 left right) id ≡ Some x → (x.index ≡ place_said left id) × (x.index < left + right)
among-place left right id x t =
    among_cases (section_with 0 left right) id x t
    (λ a b e.
    let i = ap (λ (n : Ranked). n.index) e in
    ((let z : x.index ≡ id - 10001 = omega arith in z) ∙ ap (λ (b : Bool). cond b (id - 10001) (left + (9999 - id))) (sym (lt-ltb 10000 id a)), omega arith))
    (λ a b e.
    let i = ap (λ (n : Ranked). n.index) e in
    ((let z : x.index ≡ left + (9999 - id) = omega arith in z) ∙ ap (λ (b : Bool). cond b (id - 10001) (left + (9999 - id))) (sym (le-ltb 10000 id (omega arith))), omega arith))

counted-small : (number n : ℕ) → n ≤ 16 → (found (ranked_among number n)).index < 16
counted-small number n h = go (ranked_among number n) refl
  where
    go : (o : Option Ranked) → ranked_among number n ≡ o → (found o).index < 16
    go (Some x) e = let c = counted-there number n x e in let l = c.1 in subst (λ (x : Ranked). x.index < 16) (sym c.2) (omega arith)
    go None e = omega arith

-- it depends on the sections' words alone
module _ (us zs : List ℕ) (section id : ℕ) (e : get_or us 5 0 ≡ get_or zs 5 0) (small : get_or zs 5 0 ≤ 16) (same : (p : ℕ) → 71 ≤ p → p < 119 → get_or us p 0 ≡ get_or zs p 0) where
  within_same : (s : Ranked) → s.index < 16 → mark_lane_in us id s ≡ mark_lane_in zs id s
  within_same s h = section_record-same (λ (r : SectionRecord). lane_among r id) refl (same (71 + 3 * s.index + 1) (omega arith) (omega arith)) (same (71 + 3 * s.index + 2) (omega arith) (omega arith))

  lane-same : mark_lane us section id ≡ mark_lane zs section id
  unfolding mark_lane
  lane-same = ap (λ (n : ℕ). mark_lane_in us id (found (ranked_among section n))) e ∙ within_same (found (ranked_among section (get_or zs 5 0))) (counted-small section (get_or zs 5 0) small)

  index_same : mark_index us section id ≡ mark_index zs section id
  unfolding mark_index
  index_same = section-same us zs section e small (mark_within us id) (mark_within zs id) (λ s h. ap (λ (o : Option Ranked). cond (is_some o) (Some (index_at s)) None) (within_same (index_at s) h))

index-mark : (us : List ℕ) (cells : Cells) (strips : List (Option ℕ)) → index_of us Mark cells strips ≡ mark_index us (cell_of cells 0) (cell_of cells 1)
unfolding index_of
index-mark us cells strips = refl

-- a small code is kept as it is
pub code_same : (v : ℕ) → v < 65536 → code_of v ≡ v
unfolding code_of
code_same v h = ap (λ (b : Bool). cond b v 65535) (lt-ltb v 65536 h)

-- ---- a table under the sections, with lanes

pub mark-ranged : Ranged 14 Mark 1347 2 mark_put
unfolding kept_words ruled_words own_words kept_progress ruled_progress rule_of codes_kept cells_kept word_columns parent_of ranges_of
mark-ranged = record { words = λ k c t w. refl; progress = λ k c t w. refl }

-- marks' own words
abbrev pub MarkWord : ℕ → Type 0
MarkWord p = 1379 ≤ p

pub mark-owned : (S : ℕ) → S ≤ 16 → (all : List Cells) → Owned 1347 2 (λ i. i < S) all MarkWord mark_put
unfolding mark_put
mark-owned S h all =
    record {
      size = λ us k cells. length-set (set us (1379 + k * 2) (mark_place us cells)) (1379 + k * 2 + 1) (mark_kind (cell_of cells 4)) ∙ length-set us (1379 + k * 2) (mark_place us cells);
      other = λ us k cells l p f. get_or-set_other (set us (1379 + k * 2) (mark_place us cells)) (1379 + k * 2 + 1) p (mark_kind (cell_of cells 4)) 0 (λ e. f (omega arith)) ∙ get_or-set_other us (1379 + k * 2) p (mark_place us cells) 0 (λ e. f (omega arith));
      apart = λ i g. (λ e. omega arith, λ e. omega arith);
    }

-- the place of a mark's lane, before it is kept as a word
abbrev pub place_in : List ℕ → Cells → ℕ
place_in zs cells = (found (mark_lane zs (cell_of cells 0) (cell_of cells 1))).index

-- a mark on a lane of one of S sections, by the sections' words
pub record Marked (S : ℕ) (zs : List ℕ) (cells : Cells) : Type 0 where
  pub section : 10000 ≤ cell_of cells 0
  pub known : cell_of cells 0 - 10000 < S
  pub index : (found (mark_index zs (cell_of cells 0) (cell_of cells 1))).index ≡ cell_of cells 0 - 10000
  pub rank : (found (mark_index zs (cell_of cells 0) (cell_of cells 1))).rank ≡ cell_of cells 0 - 10000
  pub place : place_in zs cells ≡ place_said (lefts_at zs (cell_of cells 0 - 10000)) (cell_of cells 1)
  pub lane : place_in zs cells < lefts_at zs (cell_of cells 0 - 10000) + rights_at zs (cell_of cells 0 - 10000)

module _ (lanes : List Cells) (S : ℕ) (zs : List ℕ) (rows : LaneRows lanes S zs) (counts : get_or zs 5 0 ≡ S) (most : length lanes ≤ 192) where
  abbrev pub mark_as : Cells → Option Ranked
  mark_as cells = mark_index zs (cell_of cells 0) (cell_of cells 1)

  -- a mark is under a section exactly where its section has its lane
  pub mark-there : (cells : Cells) → is_some (mark_as cells) ≡ is_some (lane_as lanes S zs rows counts most cells)
  unfolding mark_index lane_index
  mark-there cells = go (ranked_among (cell_of cells 0) (get_or zs 5 0))
    where
      among : (x y : Option Ranked) (s : Ranked) → is_some x ≡ is_some y → is_some (cond (is_some x) (Some s) None) ≡ is_some y
      among (Some a) y s e = e
      among None y s e = e

      go : (o : Option Ranked) → is_some (option_and_then (mark_within zs (cell_of cells 1)) o) ≡ is_some (option_and_then (lane_within zs (cell_of cells 1)) o)
      go None = refl
      go (Some s) = among (mark_lane_in zs (cell_of cells 1) s) (lane_within zs (cell_of cells 1) s) s (among_there (get_or zs (71 + 3 * s.index + 1) 0) (get_or zs (71 + 3 * s.index + 2) 0) (cell_of cells 1) (get_or zs (71 + 3 * s.index) 0))

  pub marked : (cells : Cells) → There (mark_as cells) → Marked S zs cells
  unfolding mark_index mark_lane
  marked cells t =
      option_and_then_some (mark_within zs (cell_of cells 1)) (ranked_among (cell_of cells 0) (get_or zs 5 0)) (found (mark_as cells)) t
      (λ s e f. let c = counted-there (cell_of cells 0) (get_or zs 5 0) s e in at c.0 c.1 (cond_some (is_some (mark_lane_in zs (cell_of cells 1) (index_at (cell_of cells 0 - 10000)))) (index_at (cell_of cells 0 - 10000)) (found (mark_as cells)) (subst (λ (s : Ranked). mark_within zs (cell_of cells 1) s ≡ Some (found (mark_as cells))) c.2 f)))
    where
      at : 10000 ≤ cell_of cells 0 → cell_of cells 0 - 10000 < get_or zs 5 0
          → (is_some (mark_lane_in zs (cell_of cells 1) (index_at (cell_of cells 0 - 10000))) ≡ true) × (index_at (cell_of cells 0 - 10000) ≡ found (mark_as cells)) → Marked S zs cells
      at h g q =
          let l : There (mark_lane_in zs (cell_of cells 1) (index_at (cell_of cells 0 - 10000))) = there_if (mark_lane_in zs (cell_of cells 1) (index_at (cell_of cells 0 - 10000))) q.0 in
          let p = among-place (lefts_at zs (cell_of cells 0 - 10000)) (rights_at zs (cell_of cells 0 - 10000)) (cell_of cells 1) (found (mark_lane_in zs (cell_of cells 1) (index_at (cell_of cells 0 - 10000)))) l in
          let e : place_in zs cells ≡ (found (mark_lane_in zs (cell_of cells 1) (index_at (cell_of cells 0 - 10000)))).index = ap (λ (o : Option Ranked). (found (mark_lane_in zs (cell_of cells 1) (found o))).index) (counted-in (cell_of cells 0) (get_or zs 5 0) h g) in
          record { section = h; known = omega arith; index = ap (λ (x : Ranked). x.index) (sym q.1); rank = ap (λ (x : Ranked). x.rank) (sym q.1); place = e ∙ p.0; lane = let a = p.1 in omega arith }

  module _ (all : List Cells) (strips : List (Option ℕ)) (few : length all ≤ 256) (long : 1891 ≤ length zs) (blanks : (p : ℕ) → 1347 ≤ p → get_or zs p 0 ≡ 0) where
    pub mark-parents : Parents Mark 1347 2 (λ i. i < S) MarkWord all strips zs mark_as
    mark-parents =
        record {
          few = omega arith;
          blank = λ i h. (blanks (1347 + i * 2) (omega arith), blanks (1347 + i * 2 + 1) (omega arith));
          room = λ i h. let s = rows.sections in omega arith;
          apart = λ i j g h. (λ e. omega arith, λ e. omega arith);
          same = λ us f cells. index-mark us cells strips ∙ index_same us zs (cell_of cells 0) (cell_of cells 1) (f 5 (λ i g. (λ e. omega arith, λ e. omega arith)) (λ e. omega arith)) (let s = rows.sections in omega arith) (λ p a b. f p (λ i g. (λ e. omega arith, λ e. omega arith)) (λ e. omega arith));
          good = λ cells t. let m = marked cells t in let a = m.index in let b = m.known in omega arith;
          alike = λ a b s t e. let m = marked a s in let n = marked b t in m.index ∙ sym m.rank ∙ e ∙ n.rank ∙ sym n.index;
          ranked = λ a b s t e. let m = marked a s in let n = marked b t in m.rank ∙ sym m.index ∙ e ∙ n.index ∙ sym n.rank;
        }

    abbrev pub Held : ℕ → Progress → List ℕ → Type 0
    Held k progress us = Kept 1347 2 (λ i. i < S) MarkWord all strips zs mark_as k progress us

    -- the ranges, and the own words of the lines so far
    pub record Marks (k : ℕ) (progress : Progress) (us : List ℕ) : Type 0 where
      pub ranges : Held k progress us
      pub lane : (j : ℕ) → j < k → get_or us (1379 + j * 2) 0 ≡ mark_place zs (get_or all j no_cells)
      pub kind : (j : ℕ) → j < k → get_or us (1379 + j * 2 + 1) 0 ≡ mark_kind (cell_of (get_or all j no_cells) 4)

    mark-line : (k : ℕ) (progress : Progress) (us : List ℕ) → k < length all → (kept_progress 14 k (get_or all k no_cells) progress us).sound ≡ true → Marks k progress us
        → Marks (k + 1) (kept_progress 14 k (get_or all k no_cells) progress us) (kept_words 14 k (get_or all k no_cells) progress us)
    unfolding mark_put
    mark-line k progress us h s inv =
        record {
          ranges = range-line 1347 2 (λ i. i < S) MarkWord all strips zs mark_as Mark mark-parents 14 mark_put owned mark-ranged k progress us h s inv.ranges;
          lane = λ j g. after (1379 + j * 2) (omega arith) ∙ ⊎_elim (λ e. subst (λ (j : ℕ). get_or us' (1379 + j * 2) 0 ≡ mark_place zs (get_or all j no_cells)) (sym e) lane_here_lem) (λ l. other (1379 + j * 2) (λ e. omega arith) (λ e. omega arith) ∙ inv.lane j l) (eq-or-lt_of_le (omega arith));
          kind = λ j g. after (1379 + j * 2 + 1) (omega arith) ∙ ⊎_elim (λ e. subst (λ (j : ℕ). get_or us' (1379 + j * 2 + 1) 0 ≡ mark_kind (cell_of (get_or all j no_cells) 4)) (sym e) kind-here) (λ l. other (1379 + j * 2 + 1) (λ e. omega arith) (λ e. omega arith) ∙ inv.kind j l) (eq-or-lt_of_le (omega arith));
        }
      where
        owned : Owned 1347 2 (λ i. i < S) all MarkWord mark_put
        owned = mark-owned S rows.sections all

        r : Cells
        r = get_or all k no_cells

        code : ℕ
        code = mark_place us r

        us1 : List ℕ
        us1 = set us (1379 + k * 2) code

        us' : List ℕ
        us' = set us1 (1379 + k * 2 + 1) (mark_kind (cell_of r 4))

        after : (p : ℕ) → 1379 ≤ p → get_or (kept_words 14 k r progress us) p 0 ≡ get_or us' p 0
        after p g = line-own 1347 2 (λ i. i < S) MarkWord all strips zs mark_as Mark mark-parents 14 mark_put owned mark-ranged k progress us h s inv.ranges p (λ i l. let q = rows.sections in (λ e. omega arith, λ e. omega arith))

        other : (p : ℕ) → (p ≡ 1379 + k * 2 → ⊥) → (p ≡ 1379 + k * 2 + 1 → ⊥) → get_or us' p 0 ≡ get_or us p 0
        other p a b = get_or-set_other us1 (1379 + k * 2 + 1) p (mark_kind (cell_of r 4)) 0 b ∙ get_or-set_other us (1379 + k * 2) p code 0 a

        room : 1379 + k * 2 + 1 < length us
        room = let z = inv.ranges.size in omega arith

        named : mark_lane us (cell_of r 0) (cell_of r 1) ≡ mark_lane zs (cell_of r 0) (cell_of r 1)
        named = let f = inv.ranges.frame in lane-same us zs (cell_of r 0) (cell_of r 1) (f 5 (λ i g. (λ e. omega arith, λ e. omega arith)) (λ e. omega arith)) (let s = rows.sections in omega arith) (λ p a b. f p (λ i g. (λ e. omega arith, λ e. omega arith)) (λ e. omega arith))

        lane_here_lem : get_or us' (1379 + k * 2) 0 ≡ mark_place zs r
        lane_here_lem = let q = room in get_or-set_other us1 (1379 + k * 2 + 1) (1379 + k * 2) (mark_kind (cell_of r 4)) 0 (λ e. omega arith) ∙ get_or-set_same us (1379 + k * 2) code 0 (omega arith) ∙ ap (λ (o : Option Ranked). code_of (found o).index) named

        kind-here : get_or us' (1379 + k * 2 + 1) 0 ≡ mark_kind (cell_of r 4)
        kind-here = let q = room in let w = length-set us (1379 + k * 2) code in get_or-set_same us1 (1379 + k * 2 + 1) (mark_kind (cell_of r 4)) 0 (omega arith)

    pub marks-kept : (progress : Progress) → progress.strips ≡ strips → (track_after 14 0 all progress zs).sound ≡ true → Marks (length all) (track_after 14 0 all progress zs) (words_after 14 0 all progress zs)
    marks-kept progress e s =
        after-lines 14 all Marks mark-line progress zs s (record { ranges = kept-start 1347 2 (λ i. i < S) MarkWord all strips zs mark_as Mark mark-parents progress e; lane = λ j h. absurd (omega arith); kind = λ j h. absurd (omega arith) })

-- ---- a text

module _ (text : List ℕ) (l n u : ℕ) (state : ℕ → State) (reading : Reading text l n u state) (s13 : 13 < u) where
  abbrev st : ℕ → State
  st t = state t

  abbrev step : (t : ℕ) → t < 16 → Step t (lines_of text t) (st t) (st (suc t))
  step t h = reading.step t h

  abbrev T : ℕ → List Cells
  T t = lines_of text t

  few : length (T 10) ≤ 16
  few = profiles-few text l n u state reading

  pub marks-few : length (T 14) ≤ 256
  marks-few = let f = reading.few 14 (omega arith) in let e = line_limits.marks in omega arith

  -- ---- words from before the table cubic

  pub before-10 : (p : ℕ) → 71 ≤ p → p < 1271 → get_or (st 14).words p 0 ≡ get_or (st 10).words p 0
  before-10 p h g =
      end-12 text l n u state reading (omega arith) few s13 p h (omega arith)
      ∙ frame-11 text l n u state reading (omega arith) (omega arith) (omega arith) (omega arith) p (omega arith) (λ i q. (λ e. omega arith, λ e. omega arith))
      ∙ frame-10 text l n u state reading (omega arith) (omega arith) (omega arith) p h

  abbrev Lane? : ℕ → Type 0
  Lane? i = i < length (T 7)

  pub before-9 : (p : ℕ) → 71 ≤ p → p < 1271 → Outside Lane? 123 6 p → get_or (st 14).words p 0 ≡ get_or (st 9).words p 0
  before-9 p h g f = before-10 p h g ∙ frame-9 text l n u state reading (omega arith) (omega arith) (omega arith) p (omega arith) f

  pub before-8 : (p : ℕ) → 71 ≤ p → p < 1271 → Outside Lane? 123 6 p → Outside Lane? 121 6 p → get_or (st 14).words p 0 ≡ get_or (st 8).words p 0
  before-8 p h g f e = before-9 p h g f ∙ frame-8 text l n u state reading (omega arith) (omega arith) p (omega arith) e

  pub rows-14 : LaneRows (T 7) (length (T 6)) (st 14).words
  rows-14 = lanes-after text l n u state reading (omega arith) (st 14).words (λ p a b. before-8 p a (omega arith) (λ i q. (λ e. omega arith, λ e. omega arith)) (λ i q. (λ e. omega arith, λ e. omega arith)))

  pub counts-14 : get_or (st 14).words 5 0 ≡ length (T 6)
  counts-14 = reading.sections 14 (omega arith) (omega arith)

  pub most-14 : length (T 7) ≤ 192
  most-14 = lanes-few text l n u state reading

  -- ---- marks

  abbrev pub mark_named : Cells → Option Ranked
  mark_named cells = mark_as (T 7) (length (T 6)) (st 14).words rows-14 counts-14 most-14 cells

  pub marked-in : (cells : Cells) → There (mark_named cells) → Marked (length (T 6)) (st 14).words cells
  marked-in cells t = marked (T 7) (length (T 6)) (st 14).words rows-14 counts-14 most-14 cells t

  blank-here : (p : ℕ) → 1347 ≤ p → get_or (st 14).words p 0 ≡ 0
  blank-here p h = blank-14 text l n u state reading (omega arith) few s13 p h

  pub parents-14 : Parents Mark 1347 2 (λ i. i < length (T 6)) MarkWord (T 14) (st 14).progress.strips (st 14).words mark_named
  parents-14 = mark-parents (T 7) (length (T 6)) (st 14).words rows-14 counts-14 most-14 (T 14) (st 14).progress.strips marks-few (state-long text l n u state reading 14 (omega arith)) blank-here

  pub owned-14 : Owned 1347 2 (λ i. i < length (T 6)) (T 14) MarkWord mark_put
  owned-14 = mark-owned (length (T 6)) (sections-few text l n u state reading) (T 14)

  module _ (s14 : 14 < u) where
    marks : Marks (T 7) (length (T 6)) (st 14).words rows-14 counts-14 most-14 (T 14) (st 14).progress.strips marks-few (state-long text l n u state reading 14 (omega arith)) blank-here (length (T 14)) (track_after 14 0 (T 14) (st 14).progress (st 14).words) (words_after 14 0 (T 14) (st 14).progress (st 14).words)
    marks = marks-kept (T 7) (length (T 6)) (st 14).words rows-14 counts-14 most-14 (T 14) (st 14).progress.strips marks-few (state-long text l n u state reading 14 (omega arith)) blank-here (st 14).progress refl (reading.sound 14 s14)

    -- the words of memory after the last table
    end-15 : (p : ℕ) → 71 ≤ p → get_or (st 16).words p 0 ≡ get_or (words_after 14 0 (T 14) (st 14).progress (st 14).words) p 0
    end-15 p h = (still-15 text l n u state reading).1 p h ∙ (step 14 (omega arith)).high p (omega arith)

    pub end-14 : (p : ℕ) → 71 ≤ p → p < 1347 → get_or (st 16).words p 0 ≡ get_or (st 14).words p 0
    end-14 p h g = end-15 p h ∙ marks.ranges.frame p (λ i q. (λ e. omega arith, λ e. omega arith)) (λ e. omega arith)

    pub mark-there-14 : (j : ℕ) → j < length (T 14) → There (mark_named (get_or (T 14) j no_cells))
    mark-there-14 j h = marks.ranges.there j h

    -- a section's marks: the lines that name it
    pub mark-part-16 : (i : ℕ) → i < length (T 6) → Part (under i) (T 14) (get_or (st 16).words (1347 + i * 2) 0) (get_or (st 16).words (1347 + i * 2 + 1) 0)
    mark-part-16 i h =
        let p =
        kept-part 1347 2 (λ i. i < length (T 6)) MarkWord (T 14) (st 14).progress.strips (st 14).words mark_named (track_after 14 0 (T 14) (st 14).progress (st 14).words) (words_after 14 0 (T 14) (st 14).progress (st 14).words) marks.ranges i h (under i)
        (λ k g e. let q = marked-in (get_or (T 14) k no_cells) (mark-there-14 k g) in let r = q.index in let s = eqb-true (cell_of (get_or (T 14) k no_cells) 0) (10000 + i) e in omega arith)
        (λ k g e. let q = marked-in (get_or (T 14) k no_cells) (mark-there-14 k g) in let r = q.index in let s = q.section in eq-eqb (cell_of (get_or (T 14) k no_cells) 0) (10000 + i) (omega arith))
        in
        part_same (under i) (T 14) (sym (end-15 (1347 + i * 2) (omega arith))) (sym (end-15 (1347 + i * 2 + 1) (omega arith))) p

    -- a mark's lane, by its place, and its kind
    pub mark_words-16 : (j : ℕ) → j < length (T 14) → (i : ℕ) → under i (get_or (T 14) j no_cells) ≡ true
        → (get_or (st 16).words (1379 + j * 2) 0 ≡ place_said (lefts_at (st 14).words i) (cell_of (get_or (T 14) j no_cells) 1)) × (get_or (st 16).words (1379 + j * 2) 0 < lefts_at (st 14).words i + rights_at (st 14).words i)
    mark_words-16 j h i e = subst (λ (i : ℕ). (get_or (st 16).words (1379 + j * 2) 0 ≡ place_said (lefts_at (st 14).words i) (cell_of r 1)) × (get_or (st 16).words (1379 + j * 2) 0 < lefts_at (st 14).words i + rights_at (st 14).words i)) here (held ∙ q.place, subst (λ (v : ℕ). v < lefts_at (st 14).words (cell_of r 0 - 10000) + rights_at (st 14).words (cell_of r 0 - 10000)) (sym held) q.lane)
      where
        r : Cells
        r = get_or (T 14) j no_cells

        q : Marked (length (T 6)) (st 14).words (get_or (T 14) j no_cells)
        q = marked-in (get_or (T 14) j no_cells) (mark-there-14 j h)

        here : cell_of r 0 - 10000 ≡ i
        here = let s = eqb-true (cell_of r 0) (10000 + i) e in omega arith

        small : place_in (st 14).words r < 65536
        small = let a = q.lane in let b = rows-14.below (cell_of r 0 - 10000) q.known in let c = most-14 in omega arith

        held : get_or (st 16).words (1379 + j * 2) 0 ≡ place_in (st 14).words r
        held = end-15 (1379 + j * 2) (omega arith) ∙ marks.lane j h ∙ code_same (place_in (st 14).words r) small

    pub mark_kind-16 : (j : ℕ) → j < length (T 14) → get_or (st 16).words (1379 + j * 2 + 1) 0 ≡ mark_kind (cell_of (get_or (T 14) j no_cells) 4)
    mark_kind-16 j h = end-15 (1379 + j * 2 + 1) (omega arith) ∙ marks.kind j h

    pub mark-rising : (i j : ℕ) → i ≤ j → j < length (T 14) → (found (mark_named (get_or (T 14) i no_cells))).rank ≤ (found (mark_named (get_or (T 14) j no_cells))).rank
    mark-rising i j g h = marks.ranges.spans.rising i j g h
