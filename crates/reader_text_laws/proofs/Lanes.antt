-- The lanes of a sound text: each section's lines stand together, first the left ones with the ids 1, 2, .., then the right ones with -1, -2, .., and its words say where (`lanes-kept`).
use Prim.Native.Nat.{ℕ, zero, suc, ◌+◌, ◌-◌, ◌*◌, ◌<◌, ◌≤◌}
use native.Mathlib.Omega.{arith}
use native.Mathlib.Nat.{le_of_suc-le-suc, eq-or-lt_of_le}
use native.Mathlib.Numerals.{add-one}
use mathlib.Core.Path.{◌≡◌, refl, sym, ◌∙◌, ap, subst}
use mathlib.Core.Bool.{Bool, true, false, ◌&&◌, cond}
use mathlib.Core.List.{List}
use mathlib.Core.Logic.{⊎_elim}
use lib.ListN.{length, get_or, set, length-set}
use lib.Seq.{get_or-set_same, get_or-set_other}
use lib.Dec.{eqb}
use borrow.Author.Tests.{eqb-true, eq-eqb}
use Rattle.std.specs.Prelude.{Option, Some, option_map, option_and_then}
use Rattle.std.proofs.lemmas.Bool.{cases_eq}
use Rattle.std.proofs.lemmas.Option.{option_and_then_some}
use Rattle.reader_lines.specs.Columns.{cell_of, no_cells}
use Rattle.reader_lines.specs.declared.columns.Cells.{Cells}
use Rattle.reader_store.specs.Layout.{word_lines, one_more, code_of, word_columns, cells_kept, codes_kept, rule_of}
use Rattle.reader_store.specs.Parents.{index_at, section_at, section_record, side_word, lane_beside, lane_under, lane_turn}
use Rattle.reader_store.specs.Keep.{added, under_words, under_progress, ruled_words, ruled_progress, kept_words, kept_progress}
use Rattle.reader_store.specs.declared.parents.Ranked.{Ranked}
use Rattle.reader_store.specs.declared.parents.SectionRecord.{SectionRecord}
use Rattle.reader_store.specs.declared.parents.Counted.{Counted}
use Rattle.reader_store.specs.declared.progress.Progress.{Progress}
use Rattle.reader_text_laws.proofs.ParentCases.{map_some, counted-in, counted-there, section_record-same}
use Rattle.reader_store.proofs.SideLaw.{side-cases}
use Rattle.reader_text_laws.proofs.Spans.{Spans, spans-start, spans-next, whole}
use Rattle.reader_text_laws.proofs.Folds.{track_after, words_after, after-lines, right-lines}
use Rattle.reader_text_laws.proofs.Ranges.{held_by, Under, under-there, under-sound, under-right, first-put, one_more_lem}

-- ---- the rules that a line of lane meets

-- a lane whose turn it is: its section is there, and it has a side
turn_there : {P : Type 0} (ws : List ℕ) (section id : ℕ) (parent : Counted) → lane_turn ws section id ≡ Some parent
    → ((side : ℕ) → (10000 ≤ section) × (section - 10000 < get_or ws 5 0) → side_word (section_record ws (section - 10000)) id ≡ Some side → lane_beside ws (index_at (section - 10000)) side ≡ parent → P) → P
unfolding lane_turn
turn_there {P} ws section id parent e go = option_and_then_some (lane_under ws id) (section_at ws section) parent e (λ s f g. let c = counted-there section (get_or ws 5 0) s f in at (c.0, c.1) (subst (λ (s : Ranked). lane_under ws id s ≡ Some parent) c.2 g))
  where
    at : (10000 ≤ section) × (section - 10000 < get_or ws 5 0) → lane_under ws id (index_at (section - 10000)) ≡ Some parent → P
    at h f = map_some (lane_beside ws (index_at (section - 10000))) (side_word (section_record ws (section - 10000)) id) parent f (λ side g i. go side h g i)

lane_words_lem : (k : ℕ) (cells : Cells) (us : List ℕ) → codes_kept 7 k cells us ≡ set (set us (119 + k * 6) (code_of (cell_of cells 2))) (119 + k * 6 + 1) (code_of (cell_of cells 3))
unfolding codes_kept cells_kept word_columns word_lines
lane_words_lem k cells us = refl

lane_line_lem : (k : ℕ) (cells : Cells) (progress : Progress) (us : List ℕ)
    → (kept_words 7 k cells progress us ≡ under_words (codes_kept 7 k cells us) k (lane_turn (codes_kept 7 k cells us) (cell_of cells 0) (cell_of cells 1)) progress)
    × (kept_progress 7 k cells progress us ≡ under_progress (lane_turn (codes_kept 7 k cells us) (cell_of cells 0) (cell_of cells 1)) progress)
unfolding kept_words ruled_words kept_progress ruled_progress rule_of
lane_line_lem k cells progress us = (refl, refl)

-- the first line of a section without lanes, and of one that has some
pick-new : (a b k f : ℕ) → a + b ≡ 0 → cond (eqb a 0 && eqb b 0) k f ≡ k
pick-new a b k f e = rw (eq-eqb a 0 (omega arith), eq-eqb b 0 (omega arith))

pick-old : (a b k f : ℕ) → 0 < a + b → cond (eqb a 0 && eqb b 0) k f ≡ f
pick-old a b k f h = go (eqb a 0) (eqb b 0) refl refl
  where
    go : (x y : Bool) → eqb a 0 ≡ x → eqb b 0 ≡ y → cond (x && y) k f ≡ f
    go true true p q = let u = eqb-true a 0 p in let v = eqb-true b 0 q in absurd (omega arith)
    go true false p q = refl
    go false y p q = refl

-- ---- what holds after k lines

module _ (us : List ℕ) (i : ℕ) where
  abbrev pub first_at : ℕ
  first_at = get_or us (71 + 3 * i) 0

  abbrev pub lefts_at : ℕ
  lefts_at = get_or us (71 + 3 * i + 1) 0

  abbrev pub rights_at : ℕ
  rights_at = get_or us (71 + 3 * i + 2) 0

abbrev pub section_in : List Cells → ℕ → ℕ
section_in all j = cell_of (get_or all j no_cells) 0 - 10000

abbrev pub id_in : List Cells → ℕ → ℕ
id_in all j = cell_of (get_or all j no_cells) 1

pub record Lanes (all : List Cells) (S : ℕ) (strips : List (Option ℕ)) (ws : List ℕ) (k : ℕ) (progress : Progress) (us : List ℕ) : Type 0 where
  pub noted : progress.strips ≡ strips
  pub size : length us ≡ length ws
  pub low : (p : ℕ) → p < 71 → get_or us p 0 ≡ get_or ws p 0
  pub high : (p : ℕ) → 119 ≤ p → ((j : ℕ) → j < 192 → (p ≡ 119 + j * 6 → ⊥) × (p ≡ 119 + j * 6 + 1 → ⊥)) → get_or us p 0 ≡ get_or ws p 0
  pub section : (j : ℕ) → j < k → 10000 ≤ cell_of (get_or all j no_cells) 0
  pub extent : (j : ℕ) → j < k → get_or us (119 + j * 6) 0 ≡ code_of (cell_of (get_or all j no_cells) 2)
  pub level : (j : ℕ) → j < k → get_or us (119 + j * 6 + 1) 0 ≡ code_of (cell_of (get_or all j no_cells) 3)
  pub spans : Spans (λ i. i < S) (section_in all) (section_in all) k progress.last (first_at us) (λ i. lefts_at us i + rights_at us i)
  pub lefts : (i j : ℕ) → i < S → first_at us i ≤ j → j < first_at us i + lefts_at us i → id_in all j + first_at us i ≡ 10001 + j
  pub rights : (i j : ℕ) → i < S → first_at us i + lefts_at us i ≤ j → j < first_at us i + lefts_at us i + rights_at us i → id_in all j + j + 1 ≡ 10000 + (first_at us i + lefts_at us i)

module _ (all : List Cells) (S : ℕ) (strips : List (Option ℕ)) (ws : List ℕ) (sections : S ≤ 16) (few : length all ≤ 192) (long : 1891 ≤ length ws) (counts : get_or ws 5 0 ≡ S) where
  module _ (k : ℕ) (progress : Progress) (us : List ℕ) (small : k < length all) (inv : Lanes all S strips ws k progress us) where
    abbrev cells : Cells
    cells = get_or all k no_cells

    abbrev s : ℕ
    s = section_in all k

    abbrev us1 : List ℕ
    us1 = set (set us (119 + k * 6) (code_of (cell_of cells 2))) (119 + k * 6 + 1) (code_of (cell_of cells 3))

    one-other : (p : ℕ) → (p ≡ 119 + k * 6 → ⊥) → (p ≡ 119 + k * 6 + 1 → ⊥) → get_or us1 p 0 ≡ get_or us p 0
    one-other p a b =
        get_or-set_other (set us (119 + k * 6) (code_of (cell_of cells 2))) (119 + k * 6 + 1) p (code_of (cell_of cells 3)) 0 b
        ∙ get_or-set_other us (119 + k * 6) p (code_of (cell_of cells 2)) 0 a

    one-low : (p : ℕ) → p < 119 → get_or us1 p 0 ≡ get_or us p 0
    one-low p h = one-other p (λ e. omega arith) (λ e. omega arith)

    one_size : length us1 ≡ length us
    one_size = length-set (set us (119 + k * 6) (code_of (cell_of cells 2))) (119 + k * 6 + 1) (code_of (cell_of cells 3)) ∙ length-set us (119 + k * 6) (code_of (cell_of cells 2))

    one-extent : get_or us1 (119 + k * 6) 0 ≡ code_of (cell_of cells 2)
    one-extent =
        let z = inv.size in
        get_or-set_other (set us (119 + k * 6) (code_of (cell_of cells 2))) (119 + k * 6 + 1) (119 + k * 6) (code_of (cell_of cells 3)) 0 (λ e. omega arith)
        ∙ get_or-set_same us (119 + k * 6) (code_of (cell_of cells 2)) 0 (omega arith)

    one-level : get_or us1 (119 + k * 6 + 1) 0 ≡ code_of (cell_of cells 3)
    one-level =
        let z = inv.size in
        let y = length-set us (119 + k * 6) (code_of (cell_of cells 2)) in
        get_or-set_same (set us (119 + k * 6) (code_of (cell_of cells 2))) (119 + k * 6 + 1) (code_of (cell_of cells 3)) 0 (omega arith)

    abbrev first : ℕ
    first = cond (eqb (get_or us1 (71 + 3 * s + 1) 0) 0 && eqb (get_or us1 (71 + 3 * s + 2) 0) 0) k (get_or us1 (71 + 3 * s) 0)

    -- the line counted left (d = 1) or right (d = 2)
    module _ (d : ℕ) (from : 1 ≤ d) (to : d ≤ 2) (there : 10000 ≤ cell_of cells 0) (known : s < S) (order : progress.last ≤ s) (fewer : get_or us (71 + 3 * s + d) 0 ≤ k) where
      abbrev us2 : List ℕ
      us2 = set us1 (71 + 3 * s) first

      abbrev us3 : List ℕ
      us3 = set us2 (71 + 3 * s + d) (one_more (get_or us1 (71 + 3 * s + d) 0))

      three_other : (p : ℕ) → (p ≡ 71 + 3 * s → ⊥) → (p ≡ 71 + 3 * s + d → ⊥) → get_or us3 p 0 ≡ get_or us1 p 0
      three_other p a b = get_or-set_other us2 (71 + 3 * s + d) p (one_more (get_or us1 (71 + 3 * s + d) 0)) 0 b ∙ get_or-set_other us1 (71 + 3 * s) p first 0 a

      first_at_lem : get_or us3 (71 + 3 * s) 0 ≡ first
      first_at_lem =
          let z = inv.size in
          let y = one_size in
          get_or-set_other us2 (71 + 3 * s + d) (71 + 3 * s) (one_more (get_or us1 (71 + 3 * s + d) 0)) 0 (λ e. omega arith) ∙ get_or-set_same us1 (71 + 3 * s) first 0 (omega arith)

      count_at : get_or us3 (71 + 3 * s + d) 0 ≡ get_or us (71 + 3 * s + d) 0 + 1
      count_at =
          let z = inv.size in
          let y = one_size in
          let x = length-set us1 (71 + 3 * s) first in
          let o = one-low (71 + 3 * s + d) (omega arith) in
          get_or-set_same us2 (71 + 3 * s + d) (one_more (get_or us1 (71 + 3 * s + d) 0)) 0 (omega arith) ∙ one_more_lem (get_or us1 (71 + 3 * s + d) 0) (omega arith) ∙ ap (λ (n : ℕ). n + 1) o

      word_at : (p : ℕ) → p < 119 → (p ≡ 71 + 3 * s → ⊥) → (p ≡ 71 + 3 * s + d → ⊥) → get_or us3 p 0 ≡ get_or us p 0
      word_at p h a b = three_other p a b ∙ one-low p h

      pub first-new : lefts_at us s + rights_at us s ≡ 0 → first_at us3 s ≡ k
      first-new e =
          let a = one-low (71 + 3 * s + 1) (omega arith) in
          let b = one-low (71 + 3 * s + 2) (omega arith) in
          first_at_lem ∙ pick-new (get_or us1 (71 + 3 * s + 1) 0) (get_or us1 (71 + 3 * s + 2) 0) k (get_or us1 (71 + 3 * s) 0) (omega arith)

      pub first-old : 0 < lefts_at us s + rights_at us s → first_at us3 s ≡ first_at us s
      first-old h =
          let a = one-low (71 + 3 * s + 1) (omega arith) in
          let b = one-low (71 + 3 * s + 2) (omega arith) in
          first_at_lem ∙ pick-old (get_or us1 (71 + 3 * s + 1) 0) (get_or us1 (71 + 3 * s + 2) 0) k (get_or us1 (71 + 3 * s) 0) (omega arith) ∙ one-low (71 + 3 * s) (omega arith)

      others : (i : ℕ) → i < S → (i ≡ s → ⊥) → (first_at us3 i ≡ first_at us i) × (lefts_at us3 i ≡ lefts_at us i) × (rights_at us3 i ≡ rights_at us i)
      others i h n =
          (word_at (71 + 3 * i) (omega arith) (λ e. n (omega arith)) (λ e. n (omega arith)), word_at (71 + 3 * i + 1) (omega arith) (λ e. n (omega arith)) (λ e. n (omega arith)), word_at (71 + 3 * i + 2) (omega arith) (λ e. n (omega arith)) (λ e. n (omega arith)))

      module _ (more : lefts_at us3 s + rights_at us3 s ≡ lefts_at us s + rights_at us s + 1) where
        other-two : (i : ℕ) → i < S → (i ≡ s → ⊥) → (first_at us3 i ≡ first_at us i) × (lefts_at us3 i + rights_at us3 i ≡ lefts_at us i + rights_at us i)
        other-two i h n = let o = others i h n in let a = o.1 in let b = o.2 in (o.0, omega arith)

        next : Spans (λ i. i < S) (section_in all) (section_in all) (suc k) s (first_at us3) (λ i. lefts_at us3 i + rights_at us3 i)
        next =
            spans-next (λ i. i < S) (section_in all) (section_in all) k progress.last (first_at us) (λ i. lefts_at us i + rights_at us i) (first_at us3) (λ i. lefts_at us3 i + rights_at us3 i) inv.spans known order
            (λ j l e. e) (λ j l e. e) first-new first-old more other-two

        -- the section's lines end with this one
        ended : first_at us3 s + (lefts_at us3 s + rights_at us3 s) ≡ suc k
        ended =
            whole (λ i. i < S) (section_in all) (section_in all) k progress.last (first_at us) (λ i. lefts_at us i + rights_at us i) (first_at us3) (λ i. lefts_at us3 i + rights_at us3 i) inv.spans known order
            (λ j l e. e) (λ j l e. e) first-new first-old more other-two

        lane-next : ((j : ℕ) → first_at us3 s ≤ j → j < first_at us3 s + lefts_at us3 s → id_in all j + first_at us3 s ≡ 10001 + j)
            → ((j : ℕ) → first_at us3 s + lefts_at us3 s ≤ j → j < first_at us3 s + lefts_at us3 s + rights_at us3 s → id_in all j + j + 1 ≡ 10000 + (first_at us3 s + lefts_at us3 s))
            → Lanes all S strips ws (k + 1) (record { sound = progress.sound; last = s; strips = progress.strips }) us3
        lane-next mine-left mine-right =
            record {
              noted = inv.noted;
              size = length-set us2 (71 + 3 * s + d) (one_more (get_or us1 (71 + 3 * s + d) 0)) ∙ length-set us1 (71 + 3 * s) first ∙ one_size ∙ inv.size;
              low = λ p h. word_at p (omega arith) (λ e. omega arith) (λ e. omega arith) ∙ inv.low p h;
              high = λ p h f. three_other p (λ e. omega arith) (λ e. omega arith) ∙ one-other p (f k (omega arith)).0 (f k (omega arith)).1 ∙ inv.high p h f;
              section = λ j h. ⊎_elim (λ e. subst (λ (j : ℕ). 10000 ≤ cell_of (get_or all j no_cells) 0) (sym e) there) (λ l. inv.section j l) (eq-or-lt_of_le (omega arith));
              extent = λ j h. three_other (119 + j * 6) (λ e. omega arith) (λ e. omega arith) ∙ ⊎_elim (λ e. subst (λ (j : ℕ). get_or us1 (119 + j * 6) 0 ≡ code_of (cell_of (get_or all j no_cells) 2)) (sym e) one-extent) (λ l. one-other (119 + j * 6) (λ e. omega arith) (λ e. omega arith) ∙ inv.extent j l) (eq-or-lt_of_le (omega arith));
              level = λ j h. three_other (119 + j * 6 + 1) (λ e. omega arith) (λ e. omega arith) ∙ ⊎_elim (λ e. subst (λ (j : ℕ). get_or us1 (119 + j * 6 + 1) 0 ≡ code_of (cell_of (get_or all j no_cells) 3)) (sym e) one-level) (λ l. one-other (119 + j * 6 + 1) (λ e. omega arith) (λ e. omega arith) ∙ inv.level j l) (eq-or-lt_of_le (omega arith));
              spans = subst (λ (n : ℕ). Spans (λ i. i < S) (section_in all) (section_in all) n s (first_at us3) (λ i. lefts_at us3 i + rights_at us3 i)) (sym (add-one k)) next;
              lefts = λ i j h. by i (λ (i : ℕ). first_at us3 i ≤ j → j < first_at us3 i + lefts_at us3 i → id_in all j + first_at us3 i ≡ 10001 + j) (mine-left j) (λ n a b. let o = others i h n in let p = o.0 in let q = o.1 in let f = inv.lefts i j h (omega arith) (omega arith) in omega arith);
              rights = λ i j h. by i (λ (i : ℕ). first_at us3 i + lefts_at us3 i ≤ j → j < first_at us3 i + lefts_at us3 i + rights_at us3 i → id_in all j + j + 1 ≡ 10000 + (first_at us3 i + lefts_at us3 i)) (mine-right j) (λ n a b. let o = others i h n in let p = o.0 in let q = o.1 in let r = o.2 in let f = inv.rights i j h (omega arith) (omega arith) in omega arith);
            }
          where
            by : (i : ℕ) → (P : ℕ → Type 0) → P s → ((i ≡ s → ⊥) → P i) → P i
            by i P p f = ⊎_elim (λ e. subst P (sym e) p) f (cases_eq i s)

    module _ (there : 10000 ≤ cell_of cells 0) (known : s < S) (order : progress.last ≤ s) where
      abbrev words_by : ℕ → List ℕ
      words_by d = set (set us1 (71 + 3 * s) first) (71 + 3 * s + d) (one_more (get_or us1 (71 + 3 * s + d) 0))

      abbrev Next : ℕ → Type 0
      Next d = Lanes all S strips ws (k + 1) (record { sound = progress.sound; last = s; strips = progress.strips }) (words_by d)

      left-line : id_in all k ≡ lefts_at us s + 10001 → rights_at us s ≡ 0 → Next 1
      left-line id none = lane-next 1 (omega arith) (omega arith) there known order fewer more mine-left mine-right
        where
          fewer : get_or us (71 + 3 * s + 1) 0 ≤ k
          fewer = let b = inv.spans.below s known in omega arith

          left : lefts_at (words_by 1) s ≡ lefts_at us s + 1
          left = count_at 1 (omega arith) (omega arith) there known order fewer

          right : rights_at (words_by 1) s ≡ rights_at us s
          right = word_at 1 (omega arith) (omega arith) there known order fewer (71 + 3 * s + 2) (omega arith) (λ e. omega arith) (λ e. omega arith)

          more : lefts_at (words_by 1) s + rights_at (words_by 1) s ≡ lefts_at us s + rights_at us s + 1
          more = let a = left in let b = right in omega arith

          mine-left : (j : ℕ) → first_at (words_by 1) s ≤ j → j < first_at (words_by 1) s + lefts_at (words_by 1) s → id_in all j + first_at (words_by 1) s ≡ 10001 + j
          mine-left j a b =
              let w = ended 1 (omega arith) (omega arith) there known order fewer more in
              let l = left in
              let r = right in
              ⊎_elim (λ e. subst (λ (j : ℕ). id_in all j + first_at (words_by 1) s ≡ 10001 + j) (sym e) (omega arith))
              (λ h.
              let o = first-old 1 (omega arith) (omega arith) there known order fewer (omega arith) in
              let i = inv.lefts s j known (omega arith) (omega arith) in
              omega arith)
              (eq-or-lt_of_le (le_of_suc-le-suc (the (omega arith))))
            where
              the : j < suc k → j < suc k
              the h = h

          mine-right : (j : ℕ) → first_at (words_by 1) s + lefts_at (words_by 1) s ≤ j → j < first_at (words_by 1) s + lefts_at (words_by 1) s + rights_at (words_by 1) s → id_in all j + j + 1 ≡ 10000 + (first_at (words_by 1) s + lefts_at (words_by 1) s)
          mine-right j a b = let r = right in absurd (omega arith)

      right-line : id_in all k + rights_at us s + 1 ≡ 10000 → Next 2
      right-line id = lane-next 2 (omega arith) (omega arith) there known order fewer more mine-left mine-right
        where
          fewer : get_or us (71 + 3 * s + 2) 0 ≤ k
          fewer = let b = inv.spans.below s known in omega arith

          left : lefts_at (words_by 2) s ≡ lefts_at us s
          left = word_at 2 (omega arith) (omega arith) there known order fewer (71 + 3 * s + 1) (omega arith) (λ e. omega arith) (λ e. omega arith)

          right : rights_at (words_by 2) s ≡ rights_at us s + 1
          right = count_at 2 (omega arith) (omega arith) there known order fewer

          more : lefts_at (words_by 2) s + rights_at (words_by 2) s ≡ lefts_at us s + rights_at us s + 1
          more = let a = left in let b = right in omega arith

          mine-left : (j : ℕ) → first_at (words_by 2) s ≤ j → j < first_at (words_by 2) s + lefts_at (words_by 2) s → id_in all j + first_at (words_by 2) s ≡ 10001 + j
          mine-left j a b =
              let l = left in
              let o = first-old 2 (omega arith) (omega arith) there known order fewer (omega arith) in
              let i = inv.lefts s j known (omega arith) (omega arith) in
              omega arith

          mine-right : (j : ℕ) → first_at (words_by 2) s + lefts_at (words_by 2) s ≤ j → j < first_at (words_by 2) s + lefts_at (words_by 2) s + rights_at (words_by 2) s → id_in all j + j + 1 ≡ 10000 + (first_at (words_by 2) s + lefts_at (words_by 2) s)
          mine-right j a b =
              let w = ended 2 (omega arith) (omega arith) there known order fewer more in
              let l = left in
              let r = right in
              ⊎_elim (λ e. subst (λ (j : ℕ). id_in all j + j + 1 ≡ 10000 + (first_at (words_by 2) s + lefts_at (words_by 2) s)) (sym e) (omega arith))
              (λ h.
              let o = first-old 2 (omega arith) (omega arith) there known order fewer (omega arith) in
              let i = inv.rights s j known (omega arith) (omega arith) in
              omega arith)
              (eq-or-lt_of_le (le_of_suc-le-suc (the (omega arith))))
            where
              the : j < suc k → j < suc k
              the h = h

      -- the line beside the others of its side
      abbrev lane : ℕ → Counted
      lane side = lane_beside us1 (index_at s) side

      lane-added : (side : ℕ) → added us1 k (lane side) ≡ words_by side
      unfolding added
      lane-added side = ap (λ (zs : List ℕ). set zs (71 + 3 * s + side) (one_more (get_or us1 (71 + 3 * s + side) 0))) (first-put (eqb (get_or us1 (71 + 3 * s + 1) 0) 0 && eqb (get_or us1 (71 + 3 * s + 2) 0) 0) (71 + 3 * s) k us1)

      lane-turned : (side : ℕ) → side_word (section_record us1 s) (cell_of cells 1) ≡ Some side → Under us1 k (lane side) progress
          → Lanes all S strips ws (k + 1) (under_progress (Some (lane side)) progress) (under_words us1 k (Some (lane side)) progress)
      lane-turned side turn u =
          subst (λ (y : Progress). Lanes all S strips ws (k + 1) y (under_words us1 k (Some (lane side)) progress)) (sym u.held)
          (subst (λ (zs : List ℕ). Lanes all S strips ws (k + 1) (held_by (lane side) progress) zs) (sym (u.words ∙ lane-added side))
          (side-cases (section_record us1 s) (cell_of cells 1) side turn
          (λ e id none. let a = one-low (71 + 3 * s + 1) (omega arith) in let b = one-low (71 + 3 * s + 2) (omega arith) in subst Next e (left-line (omega arith) (omega arith)))
          (λ e id. let b = one-low (71 + 3 * s + 2) (omega arith) in subst Next e (right-line (omega arith)))))

    lane-kept : (kept_progress 7 k cells progress us).sound ≡ true → Lanes all S strips ws (k + 1) (kept_progress 7 k cells progress us) (kept_words 7 k cells progress us)
    lane-kept sound =
        under-there turn progress (ap (λ (y : Progress). y.sound) (sym a) ∙ sound)
        (λ parent e.
        turn_there us1 (cell_of cells 0) (cell_of cells 1) parent e
        (λ side there f g.
        let l = there.1 in
        let i = one-low 5 (omega arith) in
        let j = inv.low 5 (omega arith) in
        let c = counts in
        let h : turn ≡ Some (lane_beside us1 (index_at s) side) = e ∙ ap (λ (p : Counted). Some p) (sym g) in
        let u = under-sound us1 k (lane_beside us1 (index_at s) side) progress (ap (λ (p : Option Counted). (under_progress p progress).sound) (sym h) ∙ ap (λ (y : Progress). y.sound) (sym a) ∙ sound) in
        subst (λ (y : Progress). Lanes all S strips ws (k + 1) y (kept_words 7 k cells progress us)) (sym a)
        (subst (λ (zs : List ℕ). Lanes all S strips ws (k + 1) (under_progress turn progress) zs) (sym b)
        (subst (λ (p : Option Counted). Lanes all S strips ws (k + 1) (under_progress p progress) (under_words us1 k p progress)) (sym h)
        (lane-turned there.0 (omega arith) u.order side f u)))))
      where
        turn : Option Counted
        turn = lane_turn us1 (cell_of cells 0) (cell_of cells 1)

        a : kept_progress 7 k cells progress us ≡ under_progress turn progress
        a = (lane_line_lem k cells progress us).1 ∙ ap (λ (zs : List ℕ). under_progress (lane_turn zs (cell_of cells 0) (cell_of cells 1)) progress) (lane_words_lem k cells us)

        b : kept_words 7 k cells progress us ≡ under_words us1 k turn progress
        b = (lane_line_lem k cells progress us).0 ∙ ap (λ (zs : List ℕ). under_words zs k (lane_turn zs (cell_of cells 0) (cell_of cells 1)) progress) (lane_words_lem k cells us)

  start : (progress : Progress) → progress.strips ≡ strips → ((p : ℕ) → 71 ≤ p → get_or ws p 0 ≡ 0) → Lanes all S strips ws 0 progress ws
  start progress e blank =
      record {
        noted = e;
        size = refl;
        low = λ p h. refl;
        high = λ p h f. refl;
        section = λ j h. absurd (omega arith);
        extent = λ j h. absurd (omega arith);
        level = λ j h. absurd (omega arith);
        spans = spans-start (λ i. i < S) (section_in all) (section_in all) progress.last (first_at ws) (λ i. lefts_at ws i + rights_at ws i) (λ i h. let a = blank (71 + 3 * i + 1) (omega arith) in let b = blank (71 + 3 * i + 2) (omega arith) in (blank (71 + 3 * i) (omega arith), omega arith));
        lefts = λ i j h a b. let c = blank (71 + 3 * i) (omega arith) in let d = blank (71 + 3 * i + 1) (omega arith) in absurd (omega arith);
        rights = λ i j h a b. let c = blank (71 + 3 * i + 2) (omega arith) in absurd (omega arith);
      }

  pub lanes-kept : (progress : Progress) → progress.strips ≡ strips → ((p : ℕ) → 71 ≤ p → get_or ws p 0 ≡ 0) → (track_after 7 0 all progress ws).sound ≡ true
      → Lanes all S strips ws (length all) (track_after 7 0 all progress ws) (words_after 7 0 all progress ws)
  lanes-kept progress e blank sound = after-lines 7 all (Lanes all S strips ws) (λ k x us h s inv. lane-kept k x us h inv s) progress ws sound (start progress e blank)

  -- a table whose lines all name sections, in their order, and have the id whose turn it is, is sound
  module _ (there : (k : ℕ) → k < length all → (10000 ≤ cell_of (get_or all k no_cells) 0) × (section_in all k < S)) (rising : (k : ℕ) → suc k < length all → section_in all k ≤ section_in all (suc k))
      (turn : (k : ℕ) (progress : Progress) (us : List ℕ) → k < length all → Lanes all S strips ws k progress us → (side : ℕ) × (side_word (section_record us (section_in all k)) (id_in all k) ≡ Some side)) where
    abbrev Right : ℕ → Progress → List ℕ → Type 0
    Right k progress us = Lanes all S strips ws k progress us × (progress.sound ≡ true) × (k ≡ 0 → progress.last ≡ 0)

    sound-line : (k : ℕ) (progress : Progress) (us : List ℕ) → k < length all → Right k progress us → Right (k + 1) (kept_progress 7 k (get_or all k no_cells) progress us) (kept_words 7 k (get_or all k no_cells) progress us)
    unfolding lane_turn
    sound-line k progress us h p = (lane-kept k progress us h p.0 sound, sound, λ z. absurd (omega arith))
      where
        r : Cells
        r = get_or all k no_cells

        s : ℕ
        s = section_in all k

        zs : List ℕ
        zs = set (set us (119 + k * 6) (code_of (cell_of (get_or all k no_cells) 2))) (119 + k * 6 + 1) (code_of (cell_of (get_or all k no_cells) 3))

        low : (q : ℕ) → q < 119 → get_or zs q 0 ≡ get_or us q 0
        low q g = one-low k progress us h p.0 q g

        last_line : (n : ℕ) → n ≡ k → progress.last ≤ s
        last_line zero e = let z = p.2 (sym e) in omega arith
        last_line (suc j) e = let d = (p.0.spans.end j e).0 in subst (λ (n : ℕ). progress.last ≤ section_in all n) e (let o = rising j (omega arith) in omega arith)

        side : ℕ
        side = (turn k progress us h p.0).0

        turned : side_word (section_record zs s) (cell_of r 1) ≡ Some side
        turned =
            let b = (there k h).1 in
            section_record-same (λ (q : SectionRecord). side_word q (cell_of r 1)) (low (71 + 3 * s) (omega arith)) (low (71 + 3 * s + 1) (omega arith)) (low (71 + 3 * s + 2) (omega arith)) ∙ (turn k progress us h p.0).1

        lane : lane_turn zs (cell_of r 0) (cell_of r 1) ≡ Some (lane_beside zs (index_at s) side)
        lane =
            let b = (there k h).1 in
            let a = low 5 (omega arith) in
            let c = p.0.low 5 (omega arith) in
            let d = counts in
            ap (option_and_then (lane_under zs (cell_of r 1))) (counted-in (cell_of r 0) (get_or zs 5 0) (there k h).0 (omega arith)) ∙ ap (option_map (lane_beside zs (index_at s))) turned

        sound : (kept_progress 7 k (get_or all k no_cells) progress us).sound ≡ true
        sound =
            ap (λ (y : Progress). y.sound) ((lane_line_lem k (get_or all k no_cells) progress us).1 ∙ ap (λ (ys : List ℕ). under_progress (lane_turn ys (cell_of (get_or all k no_cells) 0) (cell_of (get_or all k no_cells) 1)) progress) (lane_words_lem k (get_or all k no_cells) us) ∙ ap (λ (y : Option Counted). under_progress y progress) lane)
            ∙ under-right (lane_beside zs (index_at s) side) progress (last_line k refl) p.1

    pub lanes-right : (progress : Progress) → progress.strips ≡ strips → ((p : ℕ) → 71 ≤ p → get_or ws p 0 ≡ 0) → progress.sound ≡ true → progress.last ≡ 0 → (track_after 7 0 all progress ws).sound ≡ true
    lanes-right progress e blank s z = (right-lines 7 all Right sound-line progress ws (start progress e blank, s, λ q. z)).1
