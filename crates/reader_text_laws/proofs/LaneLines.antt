-- What the words of sections say of the lines of lane: a section's left and right lanes are parts of the table (`left-part`, `right-part`), and the lane that a section and an id name is the one line that has both_true
use Prim.Native.Nat.{ℕ, ◌+◌, ◌-◌, ◌*◌, ◌<◌, ◌≤◌}
use native.Mathlib.Omega.{arith}
use mathlib.Core.Path.{◌≡◌, refl, sym, ◌∙◌, ap, subst}
use mathlib.Core.Bool.{Bool, true, false, cond}
use mathlib.Core.List.{List}
use lib.ListN.{length, get_or}
use lib.Dec.{eqb, ltb}
use Rattle.std.specs.Prelude.{Option, Some, None, option_and_then}
use Rattle.std.specs.Cmp.Derive.{both_true}
use Rattle.std.proofs.lemmas.Bool.{and_parts}
use Rattle.std.proofs.lemmas.Option.{none-some, same_Some, option_and_then_some}
use borrow.Author.Tests.{ltb-true, ltb-false, eqb-true, eqb-false, eq-eqb, lt-ltb}
use Rattle.reader_lines.specs.Columns.{cell_of, no_cells}
use Rattle.reader_lines.specs.declared.columns.Cells.{Cells}
use Rattle.reader_store.specs.Parents.{index_at, section_at, section_record, lane_among, lane_within, lane_index}
use Rattle.reader_store.specs.declared.parents.Ranked.{Ranked}
use Rattle.reader_store.specs.declared.parents.SectionRecord.{SectionRecord}
use Rattle.reader_store.specs.declared.progress.Progress.{Progress}
use Rattle.reader_text_laws.proofs.ParentCases.{counted-in, counted-there, by_left, by_right}
use Rattle.reader_text_laws.specs.Said.{under, left_under, right_under}
use Rattle.reader_text_laws.proofs.Those.{Part}
use Rattle.reader_text_laws.proofs.Lanes.{first_at, lefts_at, rights_at, section_in, id_in, Lanes}

-- a lane that is there is a left one or a right one, and its place is that of its id
pub among_cases : {A : Type 0} (section : SectionRecord) (id : ℕ) (x : Ranked) → lane_among section id ≡ Some x
    → (10000 < id → id ≤ section.left + 10000 → x ≡ index_at (section.first + (id - 10001)) → A)
    → (id < 10000 → 10000 ≤ id + section.right → x ≡ index_at (section.first + section.left + (9999 - id)) → A) → A
unfolding lane_among
among_cases {A} section id x t l r = go (eqb id 10000) (ltb 10000 id) (ltb (section.left + 10000) id) (ltb (id + section.right) 10000) refl refl refl refl t
  where
    go : (a b c d : Bool) → eqb id 10000 ≡ a → ltb 10000 id ≡ b → ltb (section.left + 10000) id ≡ c → ltb (id + section.right) 10000 ≡ d
        → cond a None (cond b (cond c None (Some (index_at (section.first + (id - 10001))))) (cond d None (Some (index_at (section.first + section.left + (9999 - id)))))) ≡ Some x → A
    go true b c d p q u v e = absurd (none-some x e)
    go false true true d p q u v e = absurd (none-some x e)
    go false true false d p q u v e = l (ltb-true 10000 id q) (ltb-false (section.left + 10000) id u) (sym (same_Some (index_at (section.first + (id - 10001))) x e))
    go false false c true p q u v e = absurd (none-some x e)
    go false false c false p q u v e = r (let m = ltb-false 10000 id q in let n = eqb-false id 10000 p in omega arith) (ltb-false (id + section.right) 10000 v) (sym (same_Some (index_at (section.first + section.left + (9999 - id))) x e))

-- the sections' words and the lines, in words that may have changed elsewhere
pub record LaneRows (all : List Cells) (S : ℕ) (us : List ℕ) : Type 0 where
  pub sections : S ≤ 16
  pub section : (j : ℕ) → j < length all → 10000 ≤ cell_of (get_or all j no_cells) 0
  pub known : (j : ℕ) → j < length all → section_in all j < S
  pub below : (i : ℕ) → i < S → first_at us i + lefts_at us i + rights_at us i ≤ length all
  pub into : (j : ℕ) → j < length all → (first_at us (section_in all j) ≤ j) × (j < first_at us (section_in all j) + lefts_at us (section_in all j) + rights_at us (section_in all j))
  pub own : (i j : ℕ) → i < S → first_at us i ≤ j → j < first_at us i + lefts_at us i + rights_at us i → section_in all j ≡ i
  pub lefts : (i j : ℕ) → i < S → first_at us i ≤ j → j < first_at us i + lefts_at us i → id_in all j + first_at us i ≡ 10001 + j
  pub rights : (i j : ℕ) → i < S → first_at us i + lefts_at us i ≤ j → j < first_at us i + lefts_at us i + rights_at us i → id_in all j + j + 1 ≡ 10000 + (first_at us i + lefts_at us i)

pub lane_rows_lem : (all : List Cells) (S : ℕ) (strips : List (Option ℕ)) (ws : List ℕ) (progress : Progress) (us zs : List ℕ) → S ≤ 16 → ((p : ℕ) → 71 ≤ p → p < 119 → get_or zs p 0 ≡ get_or us p 0) → Lanes all S strips ws (length all) progress us → LaneRows all S zs
lane_rows_lem all S strips ws progress us zs small same inv =
    record {
      sections = small;
      section = inv.section;
      known = inv.spans.good;
      below = λ i h. let a = f i h in let b = g i h in let c = r i h in let d = inv.spans.below i h in omega arith;
      into = λ j h. let k = inv.spans.good j h in let a = f (section_in all j) k in let b = g (section_in all j) k in let c = r (section_in all j) k in let d = inv.spans.into j h in let p = d.0 in let q = d.1 in (omega arith, omega arith);
      own = λ i j h p q. let a = f i h in let b = g i h in let c = r i h in inv.spans.own i j h (omega arith) (omega arith);
      lefts = λ i j h p q. let a = f i h in let b = g i h in let d = inv.lefts i j h (omega arith) (omega arith) in omega arith;
      rights = λ i j h p q. let a = f i h in let b = g i h in let c = r i h in let d = inv.rights i j h (omega arith) (omega arith) in omega arith;
    }
  where
    f : (i : ℕ) → i < S → first_at zs i ≡ first_at us i
    f i h = same (71 + 3 * i) (omega arith) (omega arith)

    g : (i : ℕ) → i < S → lefts_at zs i ≡ lefts_at us i
    g i h = same (71 + 3 * i + 1) (omega arith) (omega arith)

    r : (i : ℕ) → i < S → rights_at zs i ≡ rights_at us i
    r i h = same (71 + 3 * i + 2) (omega arith) (omega arith)

module _ (all : List Cells) (S : ℕ) (us : List ℕ) (rows : LaneRows all S us) where
  -- a section's lanes, by their ids' signs
  pub left-part : (i : ℕ) → i < S → Part (left_under i) all (first_at us i) (lefts_at us i)
  left-part i h =
      record {
        fits = let b = rows.below i h in omega arith;
        within = λ j l e.
            let p = and_parts (under i (get_or all j no_cells)) (ltb 10000 (id_in all j)) e in
            let a = eqb-true (cell_of (get_or all j no_cells) 0) (10000 + i) p.0 in
            let b = ltb-true 10000 (id_in all j) p.1 in
            let s : section_in all j ≡ i = omega arith in
            let n = subst (λ (i : ℕ). (first_at us i ≤ j) × (j < first_at us i + lefts_at us i + rights_at us i)) s (rows.into j l) in
            (n.0, side j n.0 n.1 b (ltb j (first_at us i + lefts_at us i)) refl);
        passes = λ j a b.
            let o = rows.own i j h a (omega arith) in
            let f = rows.below i h in
            let s = rows.section j (omega arith) in
            let d = rows.lefts i j h a b in
            both_true (eq-eqb (cell_of (get_or all j no_cells) 0) (10000 + i) (omega arith)) (lt-ltb 10000 (id_in all j) (omega arith));
      }
    where
      side : (j : ℕ) → first_at us i ≤ j → j < first_at us i + lefts_at us i + rights_at us i → 10000 < id_in all j → (b : Bool) → ltb j (first_at us i + lefts_at us i) ≡ b → j < first_at us i + lefts_at us i
      side j a b c true e = ltb-true j (first_at us i + lefts_at us i) e
      side j a b c false e = let f = ltb-false j (first_at us i + lefts_at us i) e in let d = rows.rights i j h f b in absurd (omega arith)

  pub right-part : (i : ℕ) → i < S → Part (right_under i) all (first_at us i + lefts_at us i) (rights_at us i)
  right-part i h =
      record {
        fits = rows.below i h;
        within = λ j l e.
            let p = and_parts (under i (get_or all j no_cells)) (ltb (id_in all j) 10000) e in
            let a = eqb-true (cell_of (get_or all j no_cells) 0) (10000 + i) p.0 in
            let b = ltb-true (id_in all j) 10000 p.1 in
            let s : section_in all j ≡ i = omega arith in
            let n = subst (λ (i : ℕ). (first_at us i ≤ j) × (j < first_at us i + lefts_at us i + rights_at us i)) s (rows.into j l) in
            (side j n.0 b (ltb j (first_at us i + lefts_at us i)) refl, n.1);
        passes = λ j a b.
            let o = rows.own i j h (omega arith) b in
            let f = rows.below i h in
            let s = rows.section j (omega arith) in
            let d = rows.rights i j h a b in
            both_true (eq-eqb (cell_of (get_or all j no_cells) 0) (10000 + i) (omega arith)) (lt-ltb (id_in all j) 10000 (omega arith));
      }
    where
      side : (j : ℕ) → first_at us i ≤ j → id_in all j < 10000 → (b : Bool) → ltb j (first_at us i + lefts_at us i) ≡ b → first_at us i + lefts_at us i ≤ j
      side j a c true e = let f = ltb-true j (first_at us i + lefts_at us i) e in let d = rows.lefts i j h a f in absurd (omega arith)
      side j a c false e = ltb-false j (first_at us i + lefts_at us i) e

  -- no two lines have one section and one id
  pub lane-one : (i j : ℕ) → i < length all → j < length all → cell_of (get_or all i no_cells) 0 ≡ cell_of (get_or all j no_cells) 0 → id_in all i ≡ id_in all j → i ≡ j
  lane-one i j h k e f =
      let s : section_in all i ≡ section_in all j = ap (λ (n : ℕ). n - 10000) e in
      let m = subst (λ (q : ℕ). (first_at us q ≤ i) × (i < first_at us q + lefts_at us q + rights_at us q)) s (rows.into i h) in
      let n = rows.into j k in
      go m.0 m.1 n.0 n.1 (ltb i (first_at us q + lefts_at us q)) (ltb j (first_at us q + lefts_at us q)) refl refl
    where
      q : ℕ
      q = section_in all j

      l : q < S
      l = rows.known j k

      go : first_at us q ≤ i → i < first_at us q + lefts_at us q + rights_at us q → first_at us q ≤ j → j < first_at us q + lefts_at us q + rights_at us q
          → (x y : Bool) → ltb i (first_at us q + lefts_at us q) ≡ x → ltb j (first_at us q + lefts_at us q) ≡ y → i ≡ j
      go a b c d true true u v = let w = rows.lefts q i l a (ltb-true i (first_at us q + lefts_at us q) u) in let z = rows.lefts q j l c (ltb-true j (first_at us q + lefts_at us q) v) in omega arith
      go a b c d true false u v = let w = rows.lefts q i l a (ltb-true i (first_at us q + lefts_at us q) u) in let y = ltb-false j (first_at us q + lefts_at us q) v in let z = rows.rights q j l y d in absurd (omega arith)
      go a b c d false true u v = let y = ltb-false i (first_at us q + lefts_at us q) u in let w = rows.rights q i l y b in let z = rows.lefts q j l c (ltb-true j (first_at us q + lefts_at us q) v) in absurd (omega arith)
      go a b c d false false u v = let w = rows.rights q i l (ltb-false i (first_at us q + lefts_at us q) u) b in let z = rows.rights q j l (ltb-false j (first_at us q + lefts_at us q) v) d in omega arith

  -- the lane that a section and an id name
  pub record Named (section id : ℕ) (x : Ranked) : Type 0 where
    pub inside : x.index < length all
    pub ranked : x.rank ≡ x.index
    pub same_section : cell_of (get_or all x.index no_cells) 0 ≡ section
    pub same_id : id_in all x.index ≡ id

  module _ (section id : ℕ) (from : 10000 ≤ section) (known : section - 10000 < S) where
    abbrev s : ℕ
    s = section - 10000

    named-at : (j : ℕ) → first_at us s ≤ j → j < first_at us s + lefts_at us s + rights_at us s → id_in all j ≡ id → Named section id (index_at j)
    named-at j a b e =
        let f = rows.below s known in
        let o = rows.own s j known a b in
        let t = rows.section j (omega arith) in
        record { inside = omega arith; ranked = refl; same_section = omega arith; same_id = e }

    named_by : (x : Ranked) → lane_within us id (index_at s) ≡ Some x → Named section id x
    named_by x t =
        among_cases (section_record us s) id x t
        (λ a b e.
        let w = rows.lefts s (first_at us s + (id - 10001)) known (omega arith) (omega arith) in
        subst (Named section id) (sym e) (named-at (first_at us s + (id - 10001)) (omega arith) (omega arith) (omega arith)))
        (λ a b e.
        let w = rows.rights s (first_at us s + lefts_at us s + (9999 - id)) known (omega arith) (omega arith) in
        subst (Named section id) (sym e) (named-at (first_at us s + lefts_at us s + (9999 - id)) (omega arith) (omega arith) (omega arith)))

  pub of_lane_named : (section id : ℕ) (x : Ranked) → get_or us 5 0 ≡ S → lane_index us section id ≡ Some x → Named section id x
  unfolding lane_index
  of_lane_named section id x e t =
      option_and_then_some (lane_within us id) (section_at us section) x t
      (λ r f g. let c = counted-there section (get_or us 5 0) r f in named_by section id c.0 (let k = c.1 in omega arith) x (subst (λ (r : Ranked). lane_within us id r ≡ Some x) c.2 g))

  -- every line of lane is named by its section and id
  pub lane-found : get_or us 5 0 ≡ S → (j : ℕ) → j < length all → lane_index us (cell_of (get_or all j no_cells) 0) (id_in all j) ≡ Some (index_at j)
  unfolding lane_index
  lane-found e j h =
      let t = rows.section j h in
      let k = rows.known j h in
      ap (option_and_then (lane_within us (id_in all j))) (counted-in (cell_of (get_or all j no_cells) 0) (get_or us 5 0) t (omega arith)) ∙ go (ltb j (first_at us (section_in all j) + lefts_at us (section_in all j))) refl
    where
      q : ℕ
      q = section_in all j

      here : (i : ℕ) → i ≡ j → Some (index_at i) ≡ Some (index_at j)
      here i f = ap (λ (i : ℕ). Some (index_at i)) f

      go : (b : Bool) → ltb j (first_at us q + lefts_at us q) ≡ b → lane_within us (id_in all j) (index_at q) ≡ Some (index_at j)
      go true f =
          let a = (rows.into j h).0 in
          let d = ltb-true j (first_at us q + lefts_at us q) f in
          let w = rows.lefts q j (rows.known j h) a d in
          by_left (section_record us q) (id_in all j) (omega arith) (omega arith) ∙ here (first_at us q + (id_in all j - 10001)) (omega arith)
      go false f =
          let a = (rows.into j h).1 in
          let d = ltb-false j (first_at us q + lefts_at us q) f in
          let w = rows.rights q j (rows.known j h) d a in
          by_right (section_record us q) (id_in all j) (omega arith) (omega arith) ∙ here (first_at us q + lefts_at us q + (9999 - id_in all j)) (omega arith)
