-- A child table's lines in ranges: after a sound table each parent's range (first, count) is where its lines stand (`ranges-kept`). Extents, heights, shapes, cubics and marks alike; a mark keeps words of its own beside.
use Prim.Native.Nat.{ℕ, zero, suc, ◌+◌, ◌*◌, ◌<◌, ◌≤◌}
use native.Mathlib.Omega.{arith}
use native.Mathlib.Nat.{eq-or-lt_of_le}
use native.Mathlib.Numerals.{add-one}
use mathlib.Core.Path.{◌≡◌, refl, sym, ◌∙◌, ap, subst}
use mathlib.Core.Bool.{Bool, true, false, cond}
use mathlib.Core.List.{List}
use mathlib.Core.Logic.{⊎_elim}
use lib.ListN.{length, get_or, set, length-set}
use lib.Seq.{get_or-set_same, get_or-set_other}
use Rattle.std.proofs.lemmas.Bool.{false≢true}
use Rattle.std.proofs.lemmas.List.{set-get_or}
use lib.Dec.{eqb, leb}
use borrow.Author.Tests.{leb-true, le-leb, eq-eqb, ne_eqb, lt-ltb}
use Rattle.reader_lines.specs.Columns.{no_cells}
use Rattle.reader_lines.specs.declared.columns.Cells.{Cells}
use Rattle.std.specs.Prelude.{Option, Some, None, option_map}
use Rattle.reader_store.specs.Layout.{spaced, one_more, put_at, word_columns, cells_kept, codes_kept, rule_of, ranges_of}
use Rattle.reader_store.specs.Progress.{unsound_progress}
use Rattle.reader_store.specs.Parents.{first_if, index_of, range_of, parent_of}
use Rattle.reader_store.specs.Keep.{added, in_order, under_words, under_progress, own_words, ruled_words, ruled_progress, kept_words, kept_progress}
use Rattle.reader_store.specs.declared.layout.Family.{Family}
use Rattle.reader_store.specs.declared.layout.Family.TheVariants.{Extent, Height, Shape, Cubic}
use Rattle.reader_store.specs.declared.parents.Ranked.{Ranked}
use Rattle.reader_store.specs.declared.parents.Counted.{Counted}
use Rattle.reader_store.specs.declared.progress.Progress.{Progress}
use Rattle.reader_text_laws.proofs.ParentCases.{found, There, there, map_some}
use Rattle.reader_text_laws.proofs.Spans.{Spans, spans-start, spans-same, spans-next}
use Rattle.reader_text_laws.proofs.Folds.{track_after, words_after, after-lines, right-lines}

-- ---- a line under its parent, in a sound reading

abbrev pub held_by : Counted → Progress → Progress
held_by parent progress = record { sound = progress.sound; last = parent.rank; strips = progress.strips }

pub record Under (ws : List ℕ) (k : ℕ) (parent : Counted) (progress : Progress) : Type 0 where
  pub order : progress.last ≤ parent.rank
  pub words : under_words ws k (Some parent) progress ≡ added ws k parent
  pub held : under_progress (Some parent) progress ≡ held_by parent progress

-- a sound line has a parent that is there
pub under-there : {P : Type 0} (parent : Option Counted) (progress : Progress) → (under_progress parent progress).sound ≡ true → ((p : Counted) → parent ≡ Some p → P) → P
unfolding under_progress
under-there (Some parent) progress e go = go parent refl
under-there None progress e go = absurd (false≢true e)

pub under-sound : (ws : List ℕ) (k : ℕ) (parent : Counted) (progress : Progress) → (under_progress (Some parent) progress).sound ≡ true → Under ws k parent progress
unfolding under_progress under_words in_order
under-sound ws k parent progress e = let g = go (leb progress.last parent.rank) refl e in record { order = g.0; words = g.1; held = g.2 }
  where
    go : (b : Bool) → leb progress.last parent.rank ≡ b → (cond b (held_by parent progress) (unsound_progress progress)).sound ≡ true
        → (progress.last ≤ parent.rank) × (cond b (added ws k parent) ws ≡ added ws k parent) × (cond b (held_by parent progress) (unsound_progress progress) ≡ held_by parent progress)
    go true q s = (leb-true progress.last parent.rank q, refl, refl)
    go false q s = absurd (false≢true s)

-- and a right line is sound
pub under-right : (parent : Counted) (progress : Progress) → progress.last ≤ parent.rank → progress.sound ≡ true → (under_progress (Some parent) progress).sound ≡ true
unfolding under_progress in_order
under-right parent progress h s = rw (le-leb progress.last parent.rank h) s

-- the word of a parent's first line: that of its first one, and else as it was
pub first-put : (fresh : Bool) (place k : ℕ) (ws : List ℕ) → put_at (first_if fresh place) k ws ≡ set ws place (cond fresh k (get_or ws place 0))
first-put true place k ws = refl
first-put false place k ws = sym (set-get_or ws place 0)

pub one_more_lem : (n : ℕ) → n < 65535 → one_more n ≡ n + 1
unfolding one_more
one_more_lem n h = rw (lt-ltb n 65535 h)

-- ---- tables of ranges

-- what a line keeps beside its range, by the words before it; nothing in most tables
abbrev pub Own : Type 0
Own = List ℕ → ℕ → Cells → List ℕ

abbrev pub no_own : Own
no_own ws k cells = ws

pub record Ranged (t : ℕ) (family : Family) (base stride : ℕ) (own : Own) : Type 0 where
  pub words : (k : ℕ) (cells : Cells) (progress : Progress) (ws : List ℕ) → kept_words t k cells progress ws ≡ under_words (own ws k cells) k (option_map (range_of ws (spaced base stride)) (index_of ws family cells progress.strips)) progress
  pub progress : (k : ℕ) (cells : Cells) (progress : Progress) (ws : List ℕ) → kept_progress t k cells progress ws ≡ under_progress (option_map (range_of ws (spaced base stride)) (index_of ws family cells progress.strips)) progress

pub extent-ranged : Ranged 8 Extent 121 6 no_own
unfolding kept_words ruled_words own_words kept_progress ruled_progress rule_of codes_kept cells_kept word_columns parent_of ranges_of
extent-ranged = record { words = λ k c t w. refl; progress = λ k c t w. refl }

pub height-ranged : Ranged 9 Height 123 6 no_own
unfolding kept_words ruled_words own_words kept_progress ruled_progress rule_of codes_kept cells_kept word_columns parent_of ranges_of
height-ranged = record { words = λ k c t w. refl; progress = λ k c t w. refl }

pub shape-ranged : Ranged 11 Shape 1271 2 no_own
unfolding kept_words ruled_words own_words kept_progress ruled_progress rule_of codes_kept cells_kept word_columns parent_of ranges_of
shape-ranged = record { words = λ k c t w. refl; progress = λ k c t w. refl }

pub cubic-ranged : Ranged 13 Cubic 1304 1 no_own
unfolding kept_words ruled_words own_words kept_progress ruled_progress rule_of codes_kept cells_kept word_columns parent_of ranges_of
cubic-ranged = record { words = λ k c t w. refl; progress = λ k c t w. refl }

-- a word that belongs to no range
abbrev pub Outside : (ℕ → Type 0) → ℕ → ℕ → ℕ → Type 0
Outside Good base stride p = (i : ℕ) → Good i → (p ≡ base + i * stride → ⊥) × (p ≡ base + i * stride + 1 → ⊥)

-- own words stand apart from the ranges, and a line changes no word but its own beside its range
pub record Owned (base stride : ℕ) (Good : ℕ → Type 0) (all : List Cells) (Mine : ℕ → Type 0) (own : Own) : Type 0 where
  pub size : (us : List ℕ) (k : ℕ) (cells : Cells) → length (own us k cells) ≡ length us
  pub other : (us : List ℕ) (k : ℕ) (cells : Cells) → k < length all → (p : ℕ) → (Mine p → ⊥) → get_or (own us k cells) p 0 ≡ get_or us p 0
  pub apart : (i : ℕ) → Good i → (Mine (base + i * stride) → ⊥) × (Mine (base + i * stride + 1) → ⊥)

abbrev pub NoWord : ℕ → Type 0
NoWord p = ⊥

pub none_owned : (base stride : ℕ) (Good : ℕ → Type 0) (all : List Cells) → Owned base stride Good all NoWord no_own
none_owned base stride Good all = record { size = λ us k cells. refl; other = λ us k cells h p f. refl; apart = λ i g. (λ e. e, λ e. e) }

-- what is known before the table: the parents' ranges empty, inside the words and apart; which parent a line names, whatever the ranges hold
pub record Parents (family : Family) (base stride : ℕ) (Good Mine : ℕ → Type 0) (all : List Cells) (strips : List (Option ℕ)) (ws : List ℕ) (I : Cells → Option Ranked) : Type 0 where
  pub few : length all < 65535
  pub blank : (i : ℕ) → Good i → (get_or ws (base + i * stride) 0 ≡ 0) × (get_or ws (base + i * stride + 1) 0 ≡ 0)
  pub room : (i : ℕ) → Good i → base + i * stride + 1 < length ws
  pub apart : (i j : ℕ) → Good i → Good j → (base + i * stride ≡ base + j * stride → i ≡ j) × (base + i * stride ≡ base + j * stride + 1 → ⊥)
  pub same : (us : List ℕ) → ((p : ℕ) → Outside Good base stride p → (Mine p → ⊥) → get_or us p 0 ≡ get_or ws p 0) → (cells : Cells) → index_of us family cells strips ≡ I cells
  pub good : (cells : Cells) → There (I cells) → Good (found (I cells)).index
  pub alike : (a b : Cells) → There (I a) → There (I b) → (found (I a)).rank ≡ (found (I b)).rank → (found (I a)).index ≡ (found (I b)).index
  pub ranked : (a b : Cells) → There (I a) → There (I b) → (found (I a)).index ≡ (found (I b)).index → (found (I a)).rank ≡ (found (I b)).rank

pub record Kept (base stride : ℕ) (Good Mine : ℕ → Type 0) (all : List Cells) (strips : List (Option ℕ)) (ws : List ℕ) (I : Cells → Option Ranked) (k : ℕ) (progress : Progress) (us : List ℕ) : Type 0 where
  pub noted : progress.strips ≡ strips
  pub size : length us ≡ length ws
  pub frame : (p : ℕ) → Outside Good base stride p → (Mine p → ⊥) → get_or us p 0 ≡ get_or ws p 0
  pub there : (j : ℕ) → j < k → There (I (get_or all j no_cells))
  pub spans : Spans Good (λ j. (found (I (get_or all j no_cells))).index) (λ j. (found (I (get_or all j no_cells))).rank) k progress.last (λ i. get_or us (base + i * stride) 0) (λ i. get_or us (base + i * stride + 1) 0)

module _ (base stride : ℕ) (Good Mine : ℕ → Type 0) (all : List Cells) (strips : List (Option ℕ)) (ws : List ℕ) (I : Cells → Option Ranked) (family : Family) (parents : Parents family base stride Good Mine all strips ws I) where
  abbrev Inv : ℕ → Progress → List ℕ → Type 0
  Inv k progress us = Kept base stride Good Mine all strips ws I k progress us

  module _ (k : ℕ) (progress : Progress) (us : List ℕ) (small : k < length all) (inv : Inv k progress us) where
    abbrev cells : Cells
    cells = get_or all k no_cells

    abbrev x : ℕ
    x = (found (I cells)).index

    abbrev pf : ℕ
    pf = base + x * stride

    abbrev first : ℕ
    first = cond (eqb (get_or us (pf + 1) 0) 0) k (get_or us pf 0)

    abbrev us1 : List ℕ
    us1 = set us pf first

    abbrev us2 : List ℕ
    us2 = set us1 (pf + 1) (one_more (get_or us (pf + 1) 0))

    kept_next : There (I cells) → progress.last ≤ (found (I cells)).rank → Kept base stride Good Mine all strips ws I (k + 1) (record { sound = progress.sound; last = (found (I cells)).rank; strips = progress.strips }) us2
    kept_next there order =
        record {
          noted = inv.noted;
          size = length-set us1 (pf + 1) (one_more (get_or us (pf + 1) 0)) ∙ length-set us pf first ∙ inv.size;
          frame = λ p h f. other p (h x g).0 (h x g).1 ∙ inv.frame p h f;
          there = all_there;
          spans = subst (λ (n : ℕ). Spans Good (λ j. (found (I (get_or all j no_cells))).index) (λ j. (found (I (get_or all j no_cells))).rank) n (found (I cells)).rank (λ i. get_or us2 (base + i * stride) 0) (λ i. get_or us2 (base + i * stride + 1) 0)) (sym (add-one k)) next;
        }
      where
        g : Good x
        g = parents.good cells there

        other : (p : ℕ) → (p ≡ pf → ⊥) → (p ≡ pf + 1 → ⊥) → get_or us2 p 0 ≡ get_or us p 0
        other p a b = get_or-set_other us1 (pf + 1) p (one_more (get_or us (pf + 1) 0)) 0 b ∙ get_or-set_other us pf p first 0 a

        all_there : (j : ℕ) → j < k + 1 → There (I (get_or all j no_cells))
        all_there j h = ⊎_elim (λ e. subst (λ (j : ℕ). There (I (get_or all j no_cells))) (sym e) there) (λ l. inv.there j l) (eq-or-lt_of_le (omega arith))

        inside : pf + 1 < length us
        inside = let r = parents.room x g in let e = inv.size in omega arith

        first_at_lem : get_or us2 pf 0 ≡ first
        first_at_lem = get_or-set_other us1 (pf + 1) pf (one_more (get_or us (pf + 1) 0)) 0 (λ e. omega arith) ∙ get_or-set_same us pf first 0 (let i = inside in omega arith)

        count_at : get_or us2 (pf + 1) 0 ≡ get_or us (pf + 1) 0 + 1
        count_at =
            let b = inv.spans.below x g in
            let f = parents.few in
            let l = length-set us pf first in
            get_or-set_same us1 (pf + 1) (one_more (get_or us (pf + 1) 0)) 0 (let i = inside in omega arith) ∙ one_more_lem (get_or us (pf + 1) 0) (omega arith)

        others : (i : ℕ) → Good i → (i ≡ x → ⊥) → (get_or us2 (base + i * stride) 0 ≡ get_or us (base + i * stride) 0) × (get_or us2 (base + i * stride + 1) 0 ≡ get_or us (base + i * stride + 1) 0)
        others i h n =
            (other (base + i * stride) (λ e. n ((parents.apart i x h g).0 e)) (parents.apart i x h g).1, other (base + i * stride + 1) (λ e. (parents.apart x i g h).1 (sym e)) (λ e. n ((parents.apart i x h g).0 (omega arith))))

        next : Spans Good (λ j. (found (I (get_or all j no_cells))).index) (λ j. (found (I (get_or all j no_cells))).rank) (suc k) (found (I cells)).rank (λ i. get_or us2 (base + i * stride) 0) (λ i. get_or us2 (base + i * stride + 1) 0)
        next =
            spans-next Good (λ j. (found (I (get_or all j no_cells))).index) (λ j. (found (I (get_or all j no_cells))).rank) k progress.last (λ i. get_or us (base + i * stride) 0) (λ i. get_or us (base + i * stride + 1) 0) (λ i. get_or us2 (base + i * stride) 0) (λ i. get_or us2 (base + i * stride + 1) 0)
            inv.spans g order
            (λ j l e. parents.alike (get_or all j no_cells) cells (inv.there j l) there e) (λ j l e. parents.ranked (get_or all j no_cells) cells (inv.there j l) there e)
            (λ e. first_at_lem ∙ ap (λ (b : Bool). cond b k (get_or us pf 0)) (eq-eqb (get_or us (pf + 1) 0) 0 e))
            (λ l. first_at_lem ∙ ap (λ (b : Bool). cond b k (get_or us pf 0)) (ne_eqb (get_or us (pf + 1) 0) 0 (λ e. omega arith)))
            count_at others

    abbrev parent : Counted
    parent = range_of us (spaced base stride) (found (I cells))

    kept_line : There (I cells) → (under_progress (Some parent) progress).sound ≡ true → Kept base stride Good Mine all strips ws I (k + 1) (under_progress (Some parent) progress) (under_words us k (Some parent) progress)
    unfolding range_of added
    kept_line there s =
        let u = under-sound us k parent progress s in
        subst (λ (y : Progress). Kept base stride Good Mine all strips ws I (k + 1) y (under_words us k (Some parent) progress)) (sym u.held)
        (subst (λ (zs : List ℕ). Kept base stride Good Mine all strips ws I (k + 1) (held_by parent progress) zs) (sym (u.words ∙ ap (λ (zs : List ℕ). set zs (pf + 1) (one_more (get_or us (pf + 1) 0))) (first-put (eqb (get_or us (pf + 1) 0) 0) pf k us))) (kept_next there u.order))

  pub kept-start : (progress : Progress) → progress.strips ≡ strips → Inv 0 progress ws
  kept-start progress e =
      record {
        noted = e;
        size = refl;
        frame = λ p h f. refl;
        there = λ j h. absurd (omega arith);
        spans = spans-start Good (λ j. (found (I (get_or all j no_cells))).index) (λ j. (found (I (get_or all j no_cells))).rank) progress.last (λ i. get_or ws (base + i * stride) 0) (λ i. get_or ws (base + i * stride + 1) 0) parents.blank;
      }

  module _ (t : ℕ) (own : Own) (owned : Owned base stride Good all Mine own) (ranged : Ranged t family base stride own) where
    -- a line's own words leave the ranges as they were
    own-kept : (k : ℕ) (progress : Progress) (us : List ℕ) → k < length all → (cells : Cells) → Inv k progress us → Inv k progress (own us k cells)
    own-kept k progress us h cells inv =
        record {
          noted = inv.noted;
          size = owned.size us k cells ∙ inv.size;
          frame = λ p o f. owned.other us k cells h p f ∙ inv.frame p o f;
          there = inv.there;
          spans = spans-same Good (λ j. (found (I (get_or all j no_cells))).index) (λ j. (found (I (get_or all j no_cells))).rank) k progress.last (λ i. get_or us (base + i * stride) 0) (λ i. get_or us (base + i * stride + 1) 0) (λ i. get_or (own us k cells) (base + i * stride) 0) (λ i. get_or (own us k cells) (base + i * stride + 1) 0)
              (λ i g. (owned.other us k cells h (base + i * stride) (owned.apart i g).0, owned.other us k cells h (base + i * stride + 1) (owned.apart i g).1)) inv.spans;
        }

    module _ (k : ℕ) (progress : Progress) (us : List ℕ) (h : k < length all) (s : (kept_progress t k (get_or all k no_cells) progress us).sound ≡ true) (inv : Inv k progress us) where
      abbrev r : Cells
      r = get_or all k no_cells

      abbrev zs : List ℕ
      zs = own us k r

      -- the parent's range, in the words before the line and in its own
      abbrev parent_in : List ℕ → Counted
      parent_in ys = range_of ys (spaced base stride) (found (I r))

      named : index_of us family r progress.strips ≡ I r
      named = ap (index_of us family r) inv.noted ∙ parents.same us inv.frame r

      line-progress : kept_progress t k r progress us ≡ under_progress (option_map (range_of us (spaced base stride)) (I r)) progress
      line-progress = ranged.progress k r progress us ∙ ap (λ (i : Option Ranked). under_progress (option_map (range_of us (spaced base stride)) i) progress) named

      there-here : There (I r)
      there-here =
          under-there (option_map (range_of us (spaced base stride)) (I r)) progress (ap (λ (y : Progress). y.sound) (sym line-progress) ∙ s)
          (λ p e. map_some (range_of us (spaced base stride)) (I r) p e (λ x d f. there d))

      good-here : Good (found (I r)).index
      good-here = parents.good r there-here

      parent-same : option_map (range_of us (spaced base stride)) (I r) ≡ Some (parent_in zs)
      unfolding range_of
      parent-same =
          ap (option_map (range_of us (spaced base stride))) there-here
          ∙ ap (λ (v : ℕ). Some (record { rank = (found (I r)).rank; first = first_if (eqb v 0) (base + (found (I r)).index * stride); count = base + (found (I r)).index * stride + 1 })) (sym (owned.other us k r h (base + (found (I r)).index * stride + 1) (owned.apart (found (I r)).index good-here).1))

      line-words : kept_words t k r progress us ≡ under_words zs k (Some (parent_in zs)) progress
      line-words = ranged.words k r progress us ∙ ap (λ (i : Option Ranked). under_words zs k (option_map (range_of us (spaced base stride)) i) progress) named ∙ ap (λ (y : Option Counted). under_words zs k y progress) parent-same

      held-progress : kept_progress t k r progress us ≡ under_progress (Some (parent_in zs)) progress
      held-progress = line-progress ∙ ap (λ (y : Option Counted). under_progress y progress) parent-same

      sound-here : (under_progress (Some (parent_in zs)) progress).sound ≡ true
      sound-here = ap (λ (y : Progress). y.sound) (sym held-progress) ∙ s

      pub range-line : Inv (k + 1) (kept_progress t k r progress us) (kept_words t k r progress us)
      range-line =
          subst (λ (y : Progress). Inv (k + 1) y (kept_words t k r progress us)) (sym held-progress)
          (subst (λ (ys : List ℕ). Inv (k + 1) (under_progress (Some (parent_in zs)) progress) ys) (sym line-words) (kept_line k progress zs h (own-kept k progress us h r inv) there-here sound-here))

      -- a word of no range is as the line's own words have it
      pub line-own : (p : ℕ) → Outside Good base stride p → get_or (kept_words t k r progress us) p 0 ≡ get_or zs p 0
      unfolding range_of added
      line-own p o =
          let x = o (found (I r)).index good-here in
          ap (λ (ys : List ℕ). get_or ys p 0) (line-words ∙ (under-sound zs k (parent_in zs) progress sound-here).words)
          ∙ get_or-set_other (put_at (parent_in zs).first k zs) (parent_in zs).count p (one_more (get_or zs (parent_in zs).count 0)) 0 x.1 ∙ first-other (eqb (get_or zs (parent_in zs).count 0) 0) x.0
        where
          first-other : (fresh : Bool) → (p ≡ base + (found (I r)).index * stride → ⊥) → get_or (put_at (first_if fresh (base + (found (I r)).index * stride)) k zs) p 0 ≡ get_or zs p 0
          first-other true f = get_or-set_other zs (base + (found (I r)).index * stride) p k 0 f
          first-other false f = refl

    pub ranges-kept : (progress : Progress) → progress.strips ≡ strips → (track_after t 0 all progress ws).sound ≡ true → Inv (length all) (track_after t 0 all progress ws) (words_after t 0 all progress ws)
    ranges-kept progress e s = after-lines t all Inv range-line progress ws s (kept-start progress e)

    -- a table whose lines all name parents, in the parents' order, is sound
    module _ (there : (k : ℕ) → k < length all → There (I (get_or all k no_cells))) (order : (k : ℕ) → suc k < length all → (found (I (get_or all k no_cells))).rank ≤ (found (I (get_or all (suc k) no_cells))).rank) where
      abbrev Right : ℕ → Progress → List ℕ → Type 0
      Right k progress us = Inv k progress us × (progress.sound ≡ true) × (k ≡ 0 → progress.last ≡ 0)

      right-line : (k : ℕ) (progress : Progress) (us : List ℕ) → k < length all → Right k progress us → Right (k + 1) (kept_progress t k (get_or all k no_cells) progress us) (kept_words t k (get_or all k no_cells) progress us)
      unfolding range_of
      right-line k progress us h p =
          let r : Cells = get_or all k no_cells in
          let e : index_of us family r progress.strips ≡ Some (found (I r)) = ap (index_of us family r) p.0.noted ∙ parents.same us p.0.frame r ∙ there k h in
          let a : kept_progress t k r progress us ≡ under_progress (Some (range_of us (spaced base stride) (found (I r)))) progress = ranged.progress k r progress us ∙ ap (λ (i : Option Ranked). under_progress (option_map (range_of us (spaced base stride)) i) progress) e in
          let s : (kept_progress t k r progress us).sound ≡ true = ap (λ (y : Progress). y.sound) a ∙ under-right (range_of us (spaced base stride) (found (I r))) progress (last_line k refl) p.1 in
          (range-line k progress us h s p.0, s, λ z. absurd (omega arith))
        where
          last_line : (n : ℕ) → n ≡ k → progress.last ≤ (found (I (get_or all k no_cells))).rank
          last_line zero e = let z = p.2 (sym e) in omega arith
          last_line (suc j) e = let d = (p.0.spans.end j e).0 in subst (λ (n : ℕ). progress.last ≤ (found (I (get_or all n no_cells))).rank) e (let o = order j (omega arith) in omega arith)

      pub ranges-right : (progress : Progress) → progress.strips ≡ strips → progress.sound ≡ true → progress.last ≡ 0 → (track_after t 0 all progress ws).sound ≡ true
      ranges-right progress e s z = (right-lines t all Right right-line progress ws (kept-start progress e, s, λ q. z)).1
