-- The strips of a text of right form that is sound up to their table, and their cubics: a strip's word says whether the text has its line, and which (`strip-none`, `strip-one`); the range of each of its terms is the lines of cubic that name it (`term-part`).
use Prim.Native.Nat.{ℕ, suc, ◌+◌, ◌*◌, ◌%◌, ◌<◌, ◌≤◌}
use native.Mathlib.Omega.{arith}
use native.Mathlib.Nat.{eq-or-lt_of_le}
use mathlib.Core.Path.{◌≡◌, refl, sym, ◌∙◌, ap, subst}
use mathlib.Core.Bool.{true, cond}
use mathlib.Core.List.{List}
use mathlib.Core.Logic.{⊎_elim}
use lib.ListN.{length, get_or, set, replicate, length-set}
use lib.Seq.{get_or-set_same, get_or-set_other}
use lib.Dec.{eqb}
use borrow.Author.Tests.{eqb-true, eq-eqb}
use Rattle.std.specs.Prelude.{Option, Some, None, is_some, option_map}
use Rattle.std.specs.Cmp.Derive.{both_true}
use Rattle.std.proofs.lemmas.Bool.{false≢true, and_parts, cases_eq}
use Rattle.std.proofs.lemmas.Nat.{same_from_place}
use Rattle.std.proofs.lemmas.Option.{none-some, same_Some}
use Rattle.std.proofs.lemmas.List.{get_or-replicate}
use Rattle.reader_lines.specs.Columns.{cell_of, no_cells}
use Rattle.reader_lines.specs.declared.columns.Cells.{Cells}
use Rattle.reader_store.specs.Layout.{word_columns, cells_kept, codes_kept, rule_of}
use Rattle.reader_store.specs.Progress.{strip_line, listed_as, unsound_progress}
use Rattle.reader_store.specs.Parents.{term_at, term_of, index_of}
use Rattle.reader_store.specs.Keep.{strip_named, strips_kept, strip_progress, ruled_words, ruled_progress, kept_words, kept_progress}
use Rattle.reader_store.specs.declared.layout.Family.TheVariants.{Cubic}
use Rattle.reader_store.specs.declared.parents.Ranked.{Ranked}
use Rattle.reader_store.specs.declared.progress.Progress.{Progress}
use Rattle.reader_laws.specs.Lines.{lines_of}
use Rattle.reader_laws.proofs.LineLimits.{line_limits}
use Rattle.reader_text_laws.specs.Said.{of_strip, of_term}
use Rattle.reader_text_laws.proofs.ParentCases.{found, There, map_some}
use Rattle.reader_text_laws.proofs.Those.{pair-tells, pair-holds, Part, part_same}
use Rattle.reader_text_laws.proofs.Folds.{track_after, words_after, after-lines, right-lines, State, Step}
use Rattle.reader_text_laws.proofs.States.{Reading, state-long}
use Rattle.reader_text_laws.proofs.Ranges.{NoWord, no_own, none_owned, Outside, Parents, Kept, cubic-ranged, ranges-kept}
use Rattle.reader_text_laws.proofs.Listed.{strip-cells, cubic-cells}
use Rattle.reader_text_laws.proofs.ChildLines.{kept-part, strips-12, frame-11, blank-11}

-- ---- a strip's line noted

strip-small : (a b : ℕ) → a % 2 * 2 + b % 2 < 4
strip-small a b = omega arith

no_lines : (i : ℕ) → i < 4 → ◌≡◌ {A = Option ℕ} (strip_line (replicate 4 None) i) None
no_lines i h = get_or-replicate 4 i None None h

strip_line_lem : (k : ℕ) (cells : Cells) (progress : Progress) (us : List ℕ) → (kept_words 12 k cells progress us ≡ strips_kept us cells progress) × (kept_progress 12 k cells progress us ≡ strip_progress k cells progress)
unfolding kept_words ruled_words kept_progress ruled_progress rule_of codes_kept cells_kept word_columns
strip_line_lem k cells progress us = (refl, refl)

abbrev noted_by : ℕ → Cells → Progress → Progress
noted_by k cells progress = record { sound = progress.sound; last = progress.last; strips = listed_as progress.strips (strip_named cells) k }

strip-sound : (k : ℕ) (cells : Cells) (progress : Progress) (us : List ℕ) → (strip_progress k cells progress).sound ≡ true
    → (strip_line progress.strips (strip_named cells) ≡ None) × (strip_progress k cells progress ≡ noted_by k cells progress) × (strips_kept us cells progress ≡ set us (1303 + strip_named cells * 11) (cell_of cells 2 % 2 + 1))
unfolding strip_progress strips_kept
strip-sound k cells progress us e = go (strip_line progress.strips (strip_named cells)) e
  where
    go : (o : Option ℕ) → (cond (is_some o) (unsound_progress progress) (noted_by k cells progress)).sound ≡ true
        → (o ≡ None) × (cond (is_some o) (unsound_progress progress) (noted_by k cells progress) ≡ noted_by k cells progress) × (cond (is_some o) us (set us (1303 + strip_named cells * 11) (cell_of cells 2 % 2 + 1)) ≡ set us (1303 + strip_named cells * 11) (cell_of cells 2 % 2 + 1))
    go None s = (refl, refl, refl)
    go (Some line) s = absurd (false≢true s)

-- ---- the table strip

abbrev pub strip_at : List Cells → ℕ → ℕ
strip_at all j = strip_named (get_or all j no_cells)

pub record StripsKept (all : List Cells) (ws : List ℕ) (k : ℕ) (progress : Progress) (us : List ℕ) : Type 0 where
  pub four : length progress.strips ≡ 4
  pub size : length us ≡ length ws
  pub frame : (p : ℕ) → ((i : ℕ) → i < 4 → p ≡ 1303 + i * 11 → ⊥) → get_or us p 0 ≡ get_or ws p 0
  pub none : (i : ℕ) → i < 4 → strip_line progress.strips i ≡ None → get_or us (1303 + i * 11) 0 ≡ 0
  pub seen : (i j : ℕ) → i < 4 → strip_line progress.strips i ≡ Some j → (j < k) × (strip_at all j ≡ i) × (get_or us (1303 + i * 11) 0 ≡ cell_of (get_or all j no_cells) 2 % 2 + 1)
  pub noted : (j : ℕ) → j < k → strip_line progress.strips (strip_at all j) ≡ Some j

module _ (all : List Cells) (ws : List ℕ) (few : length all ≤ 4) (long : 1891 ≤ length ws) where
  strips-line : (k : ℕ) (progress : Progress) (us : List ℕ) → k < length all → (kept_progress 12 k (get_or all k no_cells) progress us).sound ≡ true → StripsKept all ws k progress us
      → StripsKept all ws (k + 1) (kept_progress 12 k (get_or all k no_cells) progress us) (kept_words 12 k (get_or all k no_cells) progress us)
  strips-line k progress us h s inv =
      let l = strip_line_lem k cells progress us in
      let q = strip-sound k cells progress us (ap (λ (y : Progress). y.sound) (sym l.1) ∙ s) in
      subst (λ (y : Progress). StripsKept all ws (k + 1) y (kept_words 12 k cells progress us)) (sym (l.1 ∙ q.1))
      (subst (λ (zs : List ℕ). StripsKept all ws (k + 1) (noted_by k cells progress) zs) (sym (l.0 ∙ q.2)) (next q.0))
    where
      cells : Cells
      cells = get_or all k no_cells

      x : ℕ
      x = strip_named cells

      below : x < 4
      below = strip-small (cell_of cells 0) (cell_of cells 1)

      us' : List ℕ
      us' = set us (1303 + strip_named cells * 11) (cell_of cells 2 % 2 + 1)

      other : (p : ℕ) → (p ≡ 1303 + x * 11 → ⊥) → get_or us' p 0 ≡ get_or us p 0
      other p f = get_or-set_other us (1303 + strip_named cells * 11) p (cell_of cells 2 % 2 + 1) 0 f

      line : List (Option ℕ)
      line = listed_as progress.strips (strip_named cells) k

      line_same : strip_line line x ≡ Some k
      line_same = get_or-set_same progress.strips (strip_named cells) (Some k) None (room below)
        where
          room : x < 4 → x < length progress.strips
          room h = let l = inv.four in omega arith

      line_other : (i : ℕ) → (i ≡ x → ⊥) → strip_line line i ≡ strip_line progress.strips i
      line_other i f = get_or-set_other progress.strips (strip_named cells) i (Some k) None f

      apart : (i : ℕ) → (i ≡ x → ⊥) → 1303 + i * 11 ≡ 1303 + x * 11 → ⊥
      apart i f e = f (cancel i x e)
        where
          cancel : (a b : ℕ) → 1303 + a * 11 ≡ 1303 + b * 11 → a ≡ b
          cancel a b e = omega arith

      word : get_or us' (1303 + x * 11) 0 ≡ cell_of cells 2 % 2 + 1
      word = get_or-set_same us (1303 + strip_named cells * 11) (cell_of cells 2 % 2 + 1) 0 (room x below)
        where
          room : (y : ℕ) → y < 4 → 1303 + y * 11 < length us
          room y g = let z = inv.size in omega arith

      next : strip_line progress.strips (strip_named cells) ≡ None → StripsKept all ws (k + 1) (noted_by k cells progress) us'
      next free =
          record {
            four = length-set progress.strips (strip_named cells) (Some k) ∙ inv.four;
            size = length-set us (1303 + strip_named cells * 11) (cell_of cells 2 % 2 + 1) ∙ inv.size;
            frame = λ p f. other p (f x below) ∙ inv.frame p f;
            none = λ i g e. ⊎_elim (λ d. absurd (none-some k (sym e ∙ ap (strip_line line) d ∙ line_same))) (λ f. other (1303 + i * 11) (apart i f) ∙ inv.none i g (sym (line_other i f) ∙ e)) (cases_eq i x);
            seen = λ i j g e. ⊎_elim (λ d. let y : k ≡ j = same_Some k j (sym line_same ∙ ap (strip_line line) (sym d) ∙ e) in
                subst (λ (i : ℕ). (j < k + 1) × (strip_at all j ≡ i) × (get_or us' (1303 + i * 11) 0 ≡ cell_of (get_or all j no_cells) 2 % 2 + 1)) (sym d)
                (subst (λ (j : ℕ). (j < k + 1) × (strip_at all j ≡ x) × (get_or us' (1303 + x * 11) 0 ≡ cell_of (get_or all j no_cells) 2 % 2 + 1)) y (omega arith, refl, word))) (λ f. let p = inv.seen i j g (sym (line_other i f) ∙ e) in let a = p.0 in (omega arith, p.1, other (1303 + i * 11) (apart i f) ∙ p.2)) (cases_eq i x);
            noted = λ j g. ⊎_elim (λ d. subst (λ (j : ℕ). strip_line line (strip_at all j) ≡ Some j) (sym d) line_same)
                (λ b. let p = inv.noted j b in line_other (strip_at all j) (λ d. none-some j (sym free ∙ ap (strip_line progress.strips) (sym d) ∙ p)) ∙ p) (eq-or-lt_of_le (omega arith));
          }

  strips-start : (progress : Progress) → progress.strips ≡ replicate 4 None → ((p : ℕ) → 1303 ≤ p → get_or ws p 0 ≡ 0) → StripsKept all ws 0 progress ws
  strips-start progress e blank =
      record {
        four = ap (λ (x : List (Option ℕ)). length x) e;
        size = refl;
        frame = λ p f. refl;
        none = λ i g f. blank (1303 + i * 11) (omega arith);
        seen = λ i j g f. absurd (none-some j (sym (no_lines i g) ∙ ap (λ (x : List (Option ℕ)). strip_line x i) (sym e) ∙ f));
        noted = λ j g. absurd (omega arith);
      }

  pub strips_kept_lem : (progress : Progress) → progress.strips ≡ replicate 4 None → ((p : ℕ) → 1303 ≤ p → get_or ws p 0 ≡ 0) → (track_after 12 0 all progress ws).sound ≡ true
      → StripsKept all ws (length all) (track_after 12 0 all progress ws) (words_after 12 0 all progress ws)
  strips_kept_lem progress e blank sound = after-lines 12 all (StripsKept all ws) strips-line progress ws sound (strips-start progress e blank)

  -- a table of different strips is sound
  module _ (distinct : (i j : ℕ) → i < length all → j < length all → strip_at all i ≡ strip_at all j → i ≡ j) where
    abbrev Right : ℕ → Progress → List ℕ → Type 0
    Right k progress us = StripsKept all ws k progress us × (progress.sound ≡ true)

    sound-line : (k : ℕ) (progress : Progress) (us : List ℕ) → k < length all → Right k progress us → Right (k + 1) (kept_progress 12 k (get_or all k no_cells) progress us) (kept_words 12 k (get_or all k no_cells) progress us)
    unfolding strip_progress
    sound-line k progress us h p = (strips-line k progress us h sound p.0, sound)
      where
        free : (o : Option ℕ) → strip_line progress.strips (strip_at all k) ≡ o → o ≡ None
        free None e = refl
        free (Some j) e = let q = p.0.seen (strip_at all k) j (strip-small (cell_of (get_or all k no_cells) 0) (cell_of (get_or all k no_cells) 1)) e in let l = q.0 in let z = distinct j k (omega arith) h q.1 in absurd (omega arith)

        sound : (kept_progress 12 k (get_or all k no_cells) progress us).sound ≡ true
        sound =
            ap (λ (y : Progress). y.sound) (strip_line_lem k (get_or all k no_cells) progress us).1
            ∙ ap (λ (o : Option ℕ). (cond (is_some o) (unsound_progress progress) (noted_by k (get_or all k no_cells) progress)).sound) (free (strip_line progress.strips (strip_at all k)) refl) ∙ p.1

    pub strips-right : (progress : Progress) → progress.strips ≡ replicate 4 None → ((p : ℕ) → 1303 ≤ p → get_or ws p 0 ≡ 0) → progress.sound ≡ true → (track_after 12 0 all progress ws).sound ≡ true
    strips-right progress e blank s = (right-lines 12 all Right sound-line progress ws (strips-start progress e blank, s)).1

-- ---- terms

-- the range of a strip's term, by its place among the words
pub record Term (i : ℕ) : Type 0 where
  pub strip : ℕ
  pub term : ℕ
  pub strip_small : strip < 4
  pub term_small : term < 5
  pub is : i ≡ strip * 11 + term * 2

pub mods : (a b c : ℕ) → (a % 2 * 2 + b % 2 < 4) × (c % 5 < 5)
mods a b c = (strip-small a b, omega arith)

index-term : (us : List ℕ) (cells : Cells) (strips : List (Option ℕ)) → index_of us Cubic cells strips ≡ term_of strips (cell_of cells 0) (cell_of cells 1) (cell_of cells 2)
unfolding index_of
index-term us cells strips = refl

module _ (strips : List (Option ℕ)) (cells : Cells) where
  abbrev pub term_as : Option Ranked
  term_as = term_of strips (cell_of cells 0) (cell_of cells 1) (cell_of cells 2)

  abbrev term_by : ℕ → Ranked
  term_by line = term_at (strip_named cells) (cell_of cells 2 % 5) line

  -- a term of a strip that has a line
  pub term-is : (line : ℕ) → strip_line strips (strip_named cells) ≡ Some line → term_as ≡ Some (term_by line)
  unfolding term_of
  term-is line e = ap (option_map (term_by)) e

  pub term-there : There term_as → (line : ℕ) × (strip_line strips (strip_named cells) ≡ Some line) × (found term_as ≡ term_by line)
  unfolding term_of
  term-there t = map_some term_by (strip_line strips (strip_named cells)) (found term_as) t (λ line e f. (line, e, sym f))

same-term : (x y a b : ℕ) → a < 5 → b < 5 → x * 11 + a * 2 ≡ y * 11 + b * 2 → (x ≡ y) × (a ≡ b)
same-term x y a b h g e = (omega arith, omega arith)

-- no range's first word is another's second
no-next : (x a y b : ℕ) → a < 5 → b < 5 → x * 11 + a * 2 ≡ y * 11 + b * 2 + 1 → ⊥
no-next x a y b p q e = omega arith

pub two-bits : (x y a b : ℕ) → x < 2 → y < 2 → a < 2 → b < 2 → x % 2 * 2 + y % 2 ≡ a * 2 + b → (x ≡ a) × (y ≡ b)
two-bits x y a b p q h g e = (omega arith, omega arith)

one-term : (z c : ℕ) → z < 5 → z % 5 ≡ c → z ≡ c
one-term z c h e = omega arith

-- and none is a presence
no-presence : (i j x a : ℕ) → a < 5 → i ≡ x * 11 + a * 2 → (1304 + i * 1 ≡ 1303 + j * 11 → ⊥) × (1304 + i * 1 + 1 ≡ 1303 + j * 11 → ⊥)
no-presence i j x a h e = (λ f. omega arith, λ f. omega arith)

module _ (text : List ℕ) (l n u : ℕ) (state : ℕ → State) (reading : Reading text l n u state) where
  abbrev st : ℕ → State
  st t = state t

  abbrev step : (t : ℕ) → t < 16 → Step t (lines_of text t) (st t) (st (suc t))
  step t h = reading.step t h

  abbrev T : ℕ → List Cells
  T t = lines_of text t

  pub strips-few : length (T 12) ≤ 4
  strips-few = let f = reading.few 12 (omega arith) in let e = line_limits.strips in omega arith

  pub blank-12 : 11 < u → (p : ℕ) → 1303 ≤ p → length (T 10) ≤ 16 → get_or (st 12).words p 0 ≡ 0
  blank-12 s11 p h f = frame-11 text l n u state reading (omega arith) (omega arith) (omega arith) (omega arith) p (omega arith) (λ i g. (λ e. omega arith, λ e. omega arith)) ∙ blank-11 text l n u state reading (omega arith) (omega arith) (omega arith) p (omega arith)

  pub strips : 12 < u → length (T 10) ≤ 16 → StripsKept (T 12) (st 12).words (length (T 12)) (track_after 12 0 (T 12) (st 12).progress (st 12).words) (words_after 12 0 (T 12) (st 12).progress (st 12).words)
  strips s12 f =
      strips_kept_lem (T 12) (st 12).words strips-few (state-long text l n u state reading 12 (omega arith)) (st 12).progress (strips-12 text l n u state reading (omega arith) (omega arith) (omega arith) (omega arith)) (λ p h. blank-12 (omega arith) p h f) (reading.sound 12 (omega arith))

  module _ (s12 : 12 < u) (few : length (T 10) ≤ 16) where
    -- the strips of the progress once the table strip is read
    abbrev pub noted : List (Option ℕ)
    noted = (st 13).progress.strips

    noted-is : noted ≡ (track_after 12 0 (T 12) (st 12).progress (st 12).words).strips
    noted-is = (step 12 (omega arith)).strips

    frame-12 : (p : ℕ) → 7 ≤ p → ((i : ℕ) → i < 4 → p ≡ 1303 + i * 11 → ⊥) → get_or (st 13).words p 0 ≡ get_or (st 12).words p 0
    frame-12 p h f = (step 12 (omega arith)).high p h ∙ (strips s12 few).frame p f

    none-13 : (i : ℕ) → i < 4 → strip_line noted i ≡ None → get_or (st 13).words (1303 + i * 11) 0 ≡ 0
    none-13 i h e = (step 12 (omega arith)).high (1303 + i * 11) (omega arith) ∙ (strips s12 few).none i h (ap (λ (x : List (Option ℕ)). strip_line x i) (sym noted-is) ∙ e)

    pub seen-13 : (i j : ℕ) → i < 4 → strip_line noted i ≡ Some j → (j < length (T 12)) × (strip_at (T 12) j ≡ i) × (get_or (st 13).words (1303 + i * 11) 0 ≡ cell_of (get_or (T 12) j no_cells) 2 % 2 + 1)
    seen-13 i j h e = let p = (strips s12 few).seen i j h (ap (λ (x : List (Option ℕ)). strip_line x i) (sym noted-is) ∙ e) in (p.0, p.1, (step 12 (omega arith)).high (1303 + i * 11) (omega arith) ∙ p.2)

    pub noted-13 : (j : ℕ) → j < length (T 12) → strip_line noted (strip_at (T 12) j) ≡ Some j
    noted-13 j h = ap (λ (x : List (Option ℕ)). strip_line x (strip_at (T 12) j)) noted-is ∙ (strips s12 few).noted j h

    blank-13 : (p : ℕ) → 1303 ≤ p → ((i : ℕ) → i < 4 → p ≡ 1303 + i * 11 → ⊥) → get_or (st 13).words p 0 ≡ 0
    blank-13 p h f = frame-12 p (omega arith) f ∙ blank-12 (omega arith) p h few

    abbrev pub I : Cells → Option Ranked
    I cells = term_as noted cells

    -- a cubic that has a term: its strip's line is the one that names the strip
    record Termed (cells : Cells) (x : Ranked) : Type 0 where
      line : ℕ
      noted_as : strip_line noted (strip_named cells) ≡ Some line
      strip : strip_at (T 12) line ≡ strip_named cells
      rank : x.rank ≡ line * 5 + cell_of cells 2 % 5
      index : x.index ≡ strip_named cells * 11 + cell_of cells 2 % 5 * 2

    termed : (cells : Cells) → There (I cells) → Termed cells (found (I cells))
    termed cells t =
        let q = term-there noted cells t in
        record { line = q.0; noted_as = q.1; strip = (seen-13 (strip_named cells) q.0 (mods (cell_of cells 0) (cell_of cells 1) 0).0 q.1).1; rank = ap (λ (x : Ranked). x.rank) q.2; index = ap (λ (x : Ranked). x.index) q.2 }

    good : (cells : Cells) → There (I cells) → Term (found (I cells)).index
    good cells t = let q = mods (cell_of cells 0) (cell_of cells 1) (cell_of cells 2) in record { strip = strip_named cells; term = cell_of cells 2 % 5; strip_small = q.0; term_small = q.1; is = (termed cells t).index }

    alike : (a b : Cells) → There (I a) → There (I b) → (found (I a)).rank ≡ (found (I b)).rank → (found (I a)).index ≡ (found (I b)).index
    alike a b s t e =
        let x = termed a s in
        let y = termed b t in
        let p = mods (cell_of a 0) (cell_of a 1) (cell_of a 2) in
        let q = mods (cell_of b 0) (cell_of b 1) (cell_of b 2) in
        let r = same_from_place x.line (cell_of a 2 % 5) y.line (cell_of b 2 % 5) 5 p.1 q.1 (sym x.rank ∙ e ∙ y.rank) in
        x.index ∙ together (sym x.strip ∙ ap (strip_at (T 12)) r.0 ∙ y.strip) r.1 ∙ sym y.index
      where
        together : {x y c d : ℕ} → x ≡ y → c ≡ d → x * 11 + c * 2 ≡ y * 11 + d * 2
        together {x} {y} {c} {d} e f = omega arith

    ranked : (a b : Cells) → There (I a) → There (I b) → (found (I a)).index ≡ (found (I b)).index → (found (I a)).rank ≡ (found (I b)).rank
    ranked a b s t e =
        let x = termed a s in
        let y = termed b t in
        let p = mods (cell_of a 0) (cell_of a 1) (cell_of a 2) in
        let q = mods (cell_of b 0) (cell_of b 1) (cell_of b 2) in
        let r = same-term (strip_named a) (strip_named b) (cell_of a 2 % 5) (cell_of b 2 % 5) p.1 q.1 (sym x.index ∙ e ∙ y.index) in
        x.rank ∙ together (same_Some x.line y.line (sym x.noted_as ∙ ap (strip_line noted) r.0 ∙ y.noted_as)) r.1 ∙ sym y.rank
      where
        together : {x y c d : ℕ} → x ≡ y → c ≡ d → x * 5 + c ≡ y * 5 + d
        together {x} {y} {c} {d} e f = omega arith

    apart : (i j : ℕ) → Term i → Term j → (1304 + i * 1 ≡ 1304 + j * 1 → i ≡ j) × (1304 + i * 1 ≡ 1304 + j * 1 + 1 → ⊥)
    apart i j g h = (λ e. omega arith, λ e. no-next g.strip g.term h.strip h.term g.term_small h.term_small (let a = g.is in let b = h.is in omega arith))

    pub cubic-parents : Parents Cubic 1304 1 Term NoWord (T 13) noted (st 13).words I
    cubic-parents =
        record {
          few = let f = reading.few 13 (omega arith) in let e = line_limits.cubics in omega arith;
          blank = λ i g. (blank-13 (1304 + i * 1) (omega arith) (λ j h. (no-presence i j g.strip g.term g.term_small g.is).0), blank-13 (1304 + i * 1 + 1) (omega arith) (λ j h. (no-presence i j g.strip g.term g.term_small g.is).1));
          room = λ i g. let a = g.strip_small in let b = g.term_small in let c = g.is in let d = state-long text l n u state reading 13 (omega arith) in omega arith;
          apart = apart;
          same = λ us f cells. index-term us cells noted;
          good = good;
          alike = alike;
          ranked = ranked;
        }

    module _ (s13 : 13 < u) where
      pub cubics : Kept 1304 1 Term NoWord (T 13) noted (st 13).words I (length (T 13)) (track_after 13 0 (T 13) (st 13).progress (st 13).words) (words_after 13 0 (T 13) (st 13).progress (st 13).words)
      cubics =
          ranges-kept 1304 1 Term NoWord (T 13) noted (st 13).words I Cubic
          cubic-parents
          13 no_own (none_owned 1304 1 Term (T 13)) cubic-ranged (st 13).progress refl (reading.sound 13 (omega arith))

      frame-13 : (p : ℕ) → 7 ≤ p → Outside Term 1304 1 p → get_or (st 14).words p 0 ≡ get_or (st 13).words p 0
      frame-13 p h f = (step 13 (omega arith)).high p h ∙ cubics.frame p f (λ e. e)

      -- the words of memory after the table cubic
      pub end-12 : (p : ℕ) → 71 ≤ p → p < 1303 → get_or (st 14).words p 0 ≡ get_or (st 12).words p 0
      end-12 p h g = frame-13 p (omega arith) (λ i q. (λ e. omega arith, λ e. omega arith)) ∙ frame-12 p (omega arith) (λ i q e. omega arith)

      pub blank-14 : (p : ℕ) → 1347 ≤ p → get_or (st 14).words p 0 ≡ 0
      blank-14 p h = frame-13 p (omega arith) (λ i g. let a = g.strip_small in let b = g.term_small in let c = g.is in (λ e. omega arith, λ e. omega arith)) ∙ blank-13 p (omega arith) (λ i q e. omega arith)

      end-13 : (i : ℕ) → i < 4 → get_or (st 14).words (1303 + i * 11) 0 ≡ get_or (st 13).words (1303 + i * 11) 0
      end-13 i h = frame-13 (1303 + i * 11) (omega arith) (λ j g. (λ e. (no-presence j i g.strip g.term g.term_small g.is).0 (sym e), λ e. (no-presence j i g.strip g.term g.term_small g.is).1 (sym e)))

      -- ---- a strip by its side and place

      cell-strip : (j a b : ℕ) → a < 2 → b < 2 → (strip_at (T 12) j ≡ a * 2 + b → of_strip a b (get_or (T 12) j no_cells) ≡ true) × (of_strip a b (get_or (T 12) j no_cells) ≡ true → strip_at (T 12) j ≡ a * 2 + b)
      cell-strip j a b h g =
          let r : Cells = get_or (T 12) j no_cells in
          let c = strip-cells text j in (
            λ e. let p = two-bits (cell_of r 0) (cell_of r 1) a b c.0 c.1 h g e in pair-holds a b r p.0 p.1,
            λ e. let p = pair-tells a b r e in joined (cell_of r 0) (cell_of r 1) p.0 p.1,
          )
        where
          joined : (x y : ℕ) → x ≡ a → y ≡ b → x % 2 * 2 + y % 2 ≡ a * 2 + b
          joined x y p q = omega arith

      -- no line: the presence is 0 and no line has the pair
      pub strip-none : (a b : ℕ) → a < 2 → b < 2 → strip_line noted (a * 2 + b) ≡ None → (get_or (st 14).words (1303 + (a * 2 + b) * 11) 0 ≡ 0) × Part (of_strip a b) (T 12) 0 0
      strip-none a b h g e =
          (end-13 (a * 2 + b) (omega arith) ∙ none-13 (a * 2 + b) (omega arith) e, record { fits = omega arith; within = λ j q f. let s = (cell-strip j a b h g).1 f in absurd (none-some j (sym e ∙ ap (strip_line noted) (sym s) ∙ noted-13 j q)); passes = λ j p q. absurd (omega arith) })

      -- a line: the presence is its relative plus 1, and it alone has the pair
      pub strip-one : (a b j : ℕ) → a < 2 → b < 2 → strip_line noted (a * 2 + b) ≡ Some j → (get_or (st 14).words (1303 + (a * 2 + b) * 11) 0 ≡ cell_of (get_or (T 12) j no_cells) 2 % 2 + 1) × Part (of_strip a b) (T 12) j 1
      strip-one a b j h g e =
          let s = seen-13 (a * 2 + b) j (omega arith) e in
          let in12 = s.0 in (
            end-13 (a * 2 + b) (omega arith) ∙ s.2,
            record {
              fits = omega arith;
              within = λ i q f. let t = (cell-strip i a b h g).1 f in let z : j ≡ i = same_Some j i (sym e ∙ ap (strip_line noted) (sym t) ∙ noted-13 i q) in (omega arith, omega arith);
              passes = λ i p q. let z : j ≡ i = omega arith in (cell-strip i a b h g).0 (ap (strip_at (T 12)) (sym z) ∙ s.1);
            },
          )

      -- the cubics of a strip's term
      pub term-part : (a b c : ℕ) → a < 2 → b < 2 → c < 5 → Part (of_term a b c) (T 13) (get_or (st 14).words (1304 + ((a * 2 + b) * 11 + c * 2) * 1) 0) (get_or (st 14).words (1304 + ((a * 2 + b) * 11 + c * 2) * 1 + 1) 0)
      term-part a b c h g k =
          let p =
          kept-part 1304 1 Term NoWord (T 13) noted (st 13).words I (track_after 13 0 (T 13) (st 13).progress (st 13).words) (words_after 13 0 (T 13) (st 13).progress (st 13).words) cubics i
          (record { strip = a * 2 + b; term = c; strip_small = omega arith; term_small = k; is = refl }) (of_term a b c) to from
          in
          part_same (of_term a b c) (T 13) (sym ((step 13 (omega arith)).high (1304 + i * 1) (omega arith))) (sym ((step 13 (omega arith)).high (1304 + i * 1 + 1) (omega arith))) p
        where
          i : ℕ
          i = (a * 2 + b) * 11 + c * 2

          joined : (x y z : ℕ) → x ≡ a → y ≡ b → z ≡ c → (x % 2 * 2 + y % 2) * 11 + z % 5 * 2 ≡ (a * 2 + b) * 11 + c * 2
          joined x y z p q r = omega arith

          parts : (x y z : ℕ) → x < 2 → y < 2 → z < 5 → (x % 2 * 2 + y % 2) * 11 + z % 5 * 2 ≡ (a * 2 + b) * 11 + c * 2 → (x ≡ a) × (y ≡ b) × (z ≡ c)
          parts x y z p q r e =
              let s = same-term (x % 2 * 2 + y % 2) (a * 2 + b) (z % 5) c (mods x y z).1 k e in
              let t = two-bits x y a b p q h g s.0 in
              (t.0, t.1, one-term z c r s.1)

          to : (j : ℕ) → j < length (T 13) → of_term a b c (get_or (T 13) j no_cells) ≡ true → (found (I (get_or (T 13) j no_cells))).index ≡ i
          to j q e =
              let r : Cells = get_or (T 13) j no_cells in
              let u = and_parts (of_strip a b r) (eqb (cell_of r 2) c) e in
              let v = pair-tells a b r u.0 in
              (termed r (cubics.there j q)).index ∙ joined (cell_of r 0) (cell_of r 1) (cell_of r 2) v.0 v.1 (eqb-true (cell_of r 2) c u.1)

          from : (j : ℕ) → j < length (T 13) → (found (I (get_or (T 13) j no_cells))).index ≡ i → of_term a b c (get_or (T 13) j no_cells) ≡ true
          from j q e =
              let r : Cells = get_or (T 13) j no_cells in
              let d = cubic-cells text j in
              let u = parts (cell_of r 0) (cell_of r 1) (cell_of r 2) d.0 d.1 d.2 (sym (termed r (cubics.there j q)).index ∙ e) in
              both_true (pair-holds a b r u.0 u.1) (eq-eqb (cell_of r 2) c u.2)
