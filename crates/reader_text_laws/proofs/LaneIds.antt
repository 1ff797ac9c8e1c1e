-- A section's ids: in a sound text they are 1 to n, then -1 to -m (`ids-kept`); and where they are, it is the turn of each line's id (`id-turn`).
use Prim.Native.Nat.{ℕ, zero, suc, ◌+◌, ◌-◌, ◌<◌, ◌≤◌, suc-le-suc}
use native.Mathlib.Omega.{arith}
use native.Mathlib.Nat.{eq-or-lt_of_le, zero-lt-suc, add-zero}
use mathlib.Core.Path.{◌≡◌, refl, sym, ◌∙◌, ap, subst}
use mathlib.Core.Bool.{Bool, true, false, ◌&&◌}
use mathlib.Core.List.{List, [], ◌∷◌, map}
use mathlib.Core.Logic.{⊎_elim}
use lib.ListN.{length, get_or, length-map, length-append, get_or-map}
use lib.Seq.{ext_get_or}
use lib.Dec.{eqb, ltb}
use borrow.Author.Tests.{ltb-true, ltb-false, eqb-true, eq-eqb, ne_eqb}
use Rattle.records_lent.specs.Lists.{tabulate, span}
use Rattle.records_lent.proofs.TableLaws.{length-table, table_at, span-at}
use Rattle.reader_lines.specs.Columns.{cell_of, no_cells}
use Rattle.reader_lines.specs.declared.columns.Cells.{Cells}
use Rattle.reader_store.specs.Parents.{section_record, left_word, right_word, side_word}
use Rattle.std.specs.Prelude.{Option, Some}
use Rattle.std.specs.Cmp.Derive.{both_true}
use Rattle.std.proofs.lemmas.List.{get_or_append_left, get_or-append-add}
use Rattle.reader_store.specs.declared.progress.Progress.{Progress}
use Rattle.reader_text_laws.proofs.ParentCases.{side_left, side_right}
use Rattle.reader_text_laws.specs.Said.{those, under, left_under, right_under}
use Rattle.reader_text_laws.specs.Family.{ids_of, id_said}
use Rattle.reader_text_laws.proofs.Those.{Part, those-part, part_length}
use Rattle.reader_text_laws.proofs.Lanes.{first_at, lefts_at, rights_at, section_in, id_in, Lanes}
use Rattle.reader_text_laws.proofs.LaneLines.{LaneRows, left-part, right-part}

-- ---- lists

module _ (n m : ℕ) where
  ids-left : (q : ℕ) → q < n → get_or (ids_of n m) q 0 ≡ 10001 + q
  ids-left q h = get_or_append_left (tabulate (λ k. 10001 + k) n) (tabulate (λ k. 9999 - k) m) 0 q (let l = length-table (λ k. 10001 + k) n in omega arith) ∙ table_at (λ k. 10001 + k) n q 0 h

  ids-right : (r : ℕ) → r < m → get_or (ids_of n m) (n + r) 0 ≡ 9999 - r
  ids-right r h = ap (λ (q : ℕ). get_or (ids_of n m) (q + r) 0) (sym (length-table (λ k. 10001 + k) n)) ∙ get_or-append-add (tabulate (λ k. 10001 + k) n) (tabulate (λ k. 9999 - k) m) r 0 ∙ table_at (λ k. 9999 - k) m r 0 h

  ids-length : length (ids_of n m) ≡ n + m
  ids-length = let a = length-append (tabulate (λ k. 10001 + k) n) (tabulate (λ k. 9999 - k) m) in let b = length-table (λ k. 10001 + k) n in let c = length-table (λ k. 9999 - k) m in omega arith

-- where no line before f passes and those from f to f + q do, the q-th that passes is line f + q
those-at : (p : Cells → Bool) (rows : List Cells) (f q : ℕ) → f + q < length rows → ((j : ℕ) → j < f → p (get_or rows j no_cells) ≡ false) → ((j : ℕ) → f ≤ j → j ≤ f + q → p (get_or rows j no_cells) ≡ true)
    → (q < length (those p rows)) × (get_or (those p rows) q no_cells ≡ get_or rows (f + q) no_cells)
unfolding those
those-at p [] f q h a b = absurd (omega arith)
those-at p (r ∷ rs) (suc f) q h a b =
    let i = those-at p rs f q (omega arith) (λ j l. a (suc j) (suc-le-suc l)) (λ j l g. b (suc j) (omega arith) (omega arith)) in
    rw (a 0 (zero-lt-suc f)) (i.0, i.1 ∙ ap (λ (k : ℕ). get_or (r ∷ rs) k no_cells) (next f q))
  where
    next : (f q : ℕ) → suc (f + q) ≡ suc f + q
    next f q = omega arith
those-at p (r ∷ rs) zero zero h a b = rw (b 0 (omega arith) (omega arith)) (zero-lt-suc (length (those p rs)), refl)
those-at p (r ∷ rs) zero (suc q) h a b =
    let i = those-at p rs zero q (omega arith) (λ j l. absurd (omega arith)) (λ j l g. b (suc j) (omega arith) (omega arith)) in
    rw (b 0 (omega arith) (omega arith)) (suc-le-suc i.0, i.1 ∙ ap (λ (k : ℕ). get_or (r ∷ rs) k no_cells) (next q))
  where
    next : (q : ℕ) → suc (0 + q) ≡ 0 + suc q
    next q = omega arith

-- ---- a sound text's ids

module _ (all : List Cells) (S : ℕ) (us : List ℕ) (rows : LaneRows all S us) (i : ℕ) (h : i < S) where
  abbrev f : ℕ
  f = first_at us i

  abbrev N : ℕ
  N = lefts_at us i

  abbrev M : ℕ
  M = rights_at us i

  section-part : Part (under i) all f (N + M)
  section-part =
      record {
        fits = let b = rows.below i h in omega arith;
        within = λ j l e.
            let a = eqb-true (cell_of (get_or all j no_cells) 0) (10000 + i) e in
            let s : section_in all j ≡ i = omega arith in
            let q = subst (λ (i : ℕ). (first_at us i ≤ j) × (j < first_at us i + lefts_at us i + rights_at us i)) s (rows.into j l) in
            let x = q.0 in
            let y = q.1 in
            (omega arith, omega arith);
        passes = λ j a b.
            let o = rows.own i j h a (omega arith) in
            let g = rows.below i h in
            let s = rows.section j (omega arith) in
            eq-eqb (cell_of (get_or all j no_cells) 0) (10000 + i) (omega arith);
      }

  count_of : (p : Cells → Bool) (g c : ℕ) → Part p all g c → length (those p all) ≡ c
  count_of p g c part = ap (λ (xs : List Cells). length xs) (those-part p all g c part) ∙ part_length all g c part.fits

  pub ids-kept : length all ≤ 192 → map id_said (those (under i) all) ≡ ids_of (length (those (left_under i) all)) (length (those (right_under i) all))
  ids-kept few =
      ap (map id_said) (those-part (under i) all f (N + M) section-part) ∙ spanned
      ∙ ap (λ (q : ℕ). ids_of q M) (sym (count_of (left_under i) f N (left-part all S us rows i h)))
      ∙ ap (λ (q : ℕ). ids_of (length (those (left_under i) all)) q) (sym (count_of (right_under i) (f + N) M (right-part all S us rows i h)))
    where
      long : length (map id_said (span all f (N + M))) ≡ N + M
      long = length-map (span all f (N + M)) id_said ∙ part_length all f (N + M) section-part.fits

      each : (q : ℕ) → q < N + M → id_in all (f + q) ≡ get_or (ids_of N M) q 0
      each q l = go (ltb q N) refl
        where
          go : (b : Bool) → ltb q N ≡ b → id_in all (f + q) ≡ get_or (ids_of N M) q 0
          go true e = let x = ltb-true q N e in let y = rows.lefts i (f + q) h (omega arith) (omega arith) in (let z : id_in all (f + q) ≡ 10001 + q = omega arith in z) ∙ sym (ids-left N M q x)
          go false e =
              let x = ltb-false q N e in
              let y = rows.rights i (f + q) h (omega arith) (omega arith) in
              let w = rows.below i h in
              (let z : id_in all (f + q) ≡ 9999 - (q - N) = omega arith in z) ∙ sym (ids-right N M (q - N) (omega arith)) ∙ ap (λ (k : ℕ). get_or (ids_of N M) k 0) (back q N x)
            where
              back : (q N : ℕ) → N ≤ q → N + (q - N) ≡ q
              back q N h = omega arith

      spanned : map id_said (span all f (N + M)) ≡ ids_of N M
      spanned =
          ext_get_or 0 (map id_said (span all f (N + M))) (ids_of N M) (long ∙ sym (ids-length N M))
          (λ q l.
          let g : q < N + M = subst (λ (k : ℕ). q < k) long l in
          get_or-map id_said (span all f (N + M)) q no_cells ∙ ap id_said (span-at all f (N + M) q no_cells g) ∙ each q g)

-- ---- the turn of an id

module _ (all : List Cells) (S : ℕ) (strips : List (Option ℕ)) (ws : List ℕ) (few : length all ≤ 192)
    (there : (k : ℕ) → k < length all → (10000 ≤ cell_of (get_or all k no_cells) 0) × (section_in all k < S)) (rising : (k : ℕ) → suc k < length all → section_in all k ≤ section_in all (suc k))
    (ids : (i : ℕ) → i < S → map id_said (those (under i) all) ≡ ids_of (length (those (left_under i) all)) (length (those (right_under i) all)))
    (k : ℕ) (progress : Progress) (us : List ℕ) (h : k < length all) (inv : Lanes all S strips ws k progress us) where
  abbrev s : ℕ
  s = section_in all k

  abbrev c : ℕ
  c = lefts_at us s + rights_at us s

  known : s < S
  known = (there k h).1

  -- the section's lines so far end here
  met : 0 < c → first_at us s + c ≡ k
  met g =
      let o = inv.spans.own s (first_at us s) known (omega arith) (omega arith) in
      let b = inv.spans.below s known in
      let r = inv.spans.ranks (first_at us s) (omega arith) in
      last_line k refl (omega arith) (omega arith)
    where
      last_line : (n : ℕ) → n ≡ k → 0 < n → s ≤ progress.last → first_at us s + c ≡ k
      last_line zero e p q = absurd (omega arith)
      last_line (suc j) e p q =
          let d = inv.spans.end j e in
          let x = d.0 in
          let y : section_in all j ≤ s = subst (λ (n : ℕ). section_in all j ≤ section_in all n) e (rising j (omega arith)) in
          let z : section_in all j ≡ s = omega arith in
          subst (λ (i : ℕ). first_at us i + (lefts_at us i + rights_at us i) ≡ k) z d.1

  -- the line where they begin
  record Begun : Type 0 where
    from : ℕ
    sum : from + c ≡ k
    same : 0 < c → from ≡ first_at us s
    outside : (j : ℕ) → j < from → under s (get_or all j no_cells) ≡ false
    inside : (j : ℕ) → from ≤ j → j ≤ k → under s (get_or all j no_cells) ≡ true

  under_no : (j : ℕ) → j < k → (section_in all j ≡ s → ⊥) → under s (get_or all j no_cells) ≡ false
  under_no j l f = ne_eqb (cell_of (get_or all j no_cells) 0) (10000 + s) (λ e. f (omega arith))

  under-yes : (j : ℕ) → j < length all → section_in all j ≡ s → under s (get_or all j no_cells) ≡ true
  under-yes j l e = let t = (there j l).0 in eq-eqb (cell_of (get_or all j no_cells) 0) (10000 + s) (omega arith)

  begun : Begun
  begun = go c refl
    where
      go : (n : ℕ) → n ≡ c → Begun
      go zero e =
          record {
            from = k;
            sum = omega arith;
            same = λ g. absurd (omega arith);
            outside = λ j l. under_no j l (λ q. let a = subst (λ (i : ℕ). (first_at us i ≤ j) × (j < first_at us i + (lefts_at us i + rights_at us i))) q (inv.spans.into j l) in let x = a.0 in let y = a.1 in absurd (omega arith));
            inside = λ j a b. let z : j ≡ k = omega arith in under-yes j (omega arith) (ap (section_in all) z);
          }
      go (suc n) e =
          let m = met (omega arith) in
          record {
            from = first_at us s;
            sum = m;
            same = λ g. refl;
            outside = λ j l. under_no j (omega arith) (λ q. let a = subst (λ (i : ℕ). (first_at us i ≤ j) × (j < first_at us i + (lefts_at us i + rights_at us i))) q (inv.spans.into j (omega arith)) in let x = a.0 in omega arith);
            inside = λ j a b. ⊎_elim (λ z. under-yes j (omega arith) (ap (section_in all) z)) (λ l. under-yes j (omega arith) (inv.spans.own s j known a (omega arith))) (eq-or-lt_of_le b);
          }

  abbrev n : ℕ
  n = length (those (left_under s) all)

  abbrev m : ℕ
  m = length (those (right_under s) all)

  -- each of them has the id of its place
  id-at : (q : ℕ) → q ≤ c → (q < n + m) × (id_in all (begun.from + q) ≡ get_or (ids_of n m) q 0)
  id-at q l =
      let z = begun.sum in
      let t = those-at (under s) all begun.from q (omega arith) begun.outside (λ j a b. begun.inside j a (omega arith)) in
      let a = length-map (those (under s) all) id_said in
      let b = ap (λ (xs : List ℕ). length xs) (ids s known) in
      let d = ids-length n m in
      let u = t.0 in
      (omega arith, sym (ap id_said t.1) ∙ sym (get_or-map id_said (those (under s) all) q no_cells) ∙ ap (λ (xs : List ℕ). get_or xs q 0) (ids s known))

  abbrev L : ℕ
  L = lefts_at us s

  abbrev R : ℕ
  R = rights_at us s

  -- a left line so far, and a right one
  old-left : (q : ℕ) → q < L → id_in all (begun.from + q) ≡ 10001 + q
  old-left q l = let e = begun.same (omega arith) in let y = inv.lefts s (begun.from + q) known (omega arith) (omega arith) in omega arith

  old-right : 0 < R → id_in all (begun.from + L) ≡ 9999
  old-right l = let e = begun.same (omega arith) in let y = inv.rights s (begun.from + L) known (omega arith) (omega arith) in omega arith

  here : id_in all k ≡ get_or (ids_of n m) c 0
  here = ap (id_in all) (sym begun.sum) ∙ (id-at c (omega arith)).1

  pub id-turn : (side : ℕ) × (side_word (section_record us s) (id_in all k) ≡ Some side)
  id-turn = go (ltb c n) refl
    where
      room : c < n + m
      room = (id-at c (omega arith)).0

      none_right : c < n → R ≡ 0
      none_right l = by R refl
        where
          by : (r : ℕ) → r ≡ R → R ≡ 0
          by zero e = sym e
          by (suc r) e = let a = old-right (omega arith) in let b = (id-at L (omega arith)).1 in let d = ids-left n m L (omega arith) in absurd (omega arith)

      all_left : n ≤ c → L ≡ n
      all_left g = by (ltb L n) (ltb n L) refl refl
        where
          by : (a b : Bool) → ltb L n ≡ a → ltb n L ≡ b → L ≡ n
          by true b p q = let x = ltb-true L n p in let a = old-right (omega arith) in let e = (id-at L (omega arith)).1 in let d = ids-left n m L x in absurd (omega arith)
          by false true p q =
              let x = ltb-true n L q in
              let y = room in
              let a = old-left n x in
              let e = (id-at n (omega arith)).1 in
              let d = ids-right n m 0 (omega arith) in
              let w : get_or (ids_of n m) n 0 ≡ 9999 - 0 = ap (λ (k : ℕ). get_or (ids_of n m) k 0) (sym (add-zero n)) ∙ d in
              absurd (omega arith)
          by false false p q = let x = ltb-false L n p in let y = ltb-false n L q in omega arith

      go : (b : Bool) → ltb c n ≡ b → (side : ℕ) × (side_word (section_record us s) (id_in all k) ≡ Some side)
      go true e =
          let l = ltb-true c n e in
          let r = none_right l in
          let i = here in
          let d = ids-left n m c l in
          (left_word, side_left (section_record us s) (id_in all k) (both_true (eq-eqb (id_in all k) (L + 10001) (omega arith)) (eq-eqb R 0 r)))
      go false e =
          let g = ltb-false c n e in
          let l = all_left g in
          let i = here in
          let y = room in
          let d = ids-right n m R (omega arith) in
          let w : get_or (ids_of n m) c 0 ≡ 9999 - R = ap (λ (q : ℕ). get_or (ids_of n m) q 0) (ap (λ (q : ℕ). q + R) l) ∙ d in
          let b = inv.spans.below s known in
          let low : id_in all k < 10000 = omega arith in
          (right_word, side_right (section_record us s) (id_in all k) (not_left low (eqb R 0)) (omega arith))
        where
          not_left : id_in all k < 10000 → (b : Bool) → eqb (id_in all k) (L + 10001) && b ≡ false
          not_left low b = ap (λ (x : Bool). x && b) (ne_eqb (id_in all k) (L + 10001) (λ z. omega arith))
