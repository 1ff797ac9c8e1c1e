-- The lines that pass a test, where those are the lines from one on: a part of the list (`those-part`). And lists of such parts.
use Prim.Native.Nat.{ℕ, zero, suc, ◌+◌, ◌<◌, ◌≤◌, suc-le-suc}
use native.Mathlib.Omega.{arith}
use native.Mathlib.Nat.{le_of_suc-le-suc, not-suc-le-zero, zero-add, add-zero, zero-lt-suc}
use mathlib.Core.Path.{◌≡◌, refl, sym, ◌∙◌, ap, subst}
use Rattle.reader_store.proofs.Puts.{one_on}
use mathlib.Core.Bool.{Bool, true}
use mathlib.Core.List.{List, [], ◌∷◌, map}
use lib.ListN.{length, get_or, take, drop, length-map, length-drop, get_or-map}
use lib.Seq.{ext_get_or, length-take-le}
use lib.Dec.{eqb}
use borrow.Author.Tests.{eqb-true, eq-eqb}
use Rattle.std.specs.Cmp.Derive.{both_true}
use Rattle.std.proofs.lemmas.Bool.{and_parts, false_from_ne_true}
use Rattle.records_lent.specs.Lists.{tabulate, span}
use Rattle.records_lent.proofs.TableLaws.{length-table, table_at, span-at}
use Rattle.reader_lines.specs.Columns.{cell_of, no_cells}
use Rattle.reader_lines.specs.declared.columns.Cells.{Cells}
use Rattle.reader_text_laws.specs.Said.{those, numbered, of_strip}

-- a line by its first two cells: a strip's side and place, a lane's section and id
module _ (a b : ℕ) (r : Cells) where
  pub pair-tells : of_strip a b r ≡ true → (cell_of r 0 ≡ a) × (cell_of r 1 ≡ b)
  pair-tells e = let p = and_parts (eqb (cell_of r 0) a) (eqb (cell_of r 1) b) e in (eqb-true (cell_of r 0) a p.0, eqb-true (cell_of r 1) b p.1)

  pub pair-holds : cell_of r 0 ≡ a → cell_of r 1 ≡ b → of_strip a b r ≡ true
  pair-holds e f = both_true (eq-eqb (cell_of r 0) a e) (eq-eqb (cell_of r 1) b f)

-- the test passes from f on, for c lines, and nowhere else
pub record Part (p : Cells → Bool) (rows : List Cells) (f c : ℕ) : Type 0 where
  pub fits : f + c ≤ length rows
  pub within : (j : ℕ) → j < length rows → p (get_or rows j no_cells) ≡ true → (f ≤ j) × (j < f + c)
  pub passes : (j : ℕ) → f ≤ j → j < f + c → p (get_or rows j no_cells) ≡ true

pub part_same : (p : Cells → Bool) (rows : List Cells) {a b c d : ℕ} → a ≡ c → b ≡ d → Part p rows a b → Part p rows c d
part_same p rows {a} {b} {c} {d} e f x = subst (λ (q : ℕ). Part p rows q d) e (subst (λ (q : ℕ). Part p rows a q) f x)

pub those-part : (p : Cells → Bool) (rows : List Cells) (f c : ℕ) → Part p rows f c → those p rows ≡ span rows f c
unfolding those
those-part p [] f zero h = none f
  where
    none : (f : ℕ) → ◌≡◌ {A = List Cells} [] (take 0 (drop f []))
    none f = refl
those-part p [] f (suc c) h = let e = h.fits in absurd (omega arith)
those-part p (r ∷ rs) zero zero h =
    rw (false_from_ne_true (p r) (λ e. let w = h.within 0 (zero-lt-suc (length rs)) e in not-suc-le-zero w.1))
    (those-part p rs zero zero (record { fits = omega arith; within = λ j l e. let w = h.within (suc j) (suc-le-suc l) e in absurd (omega arith); passes = λ j a b. absurd (omega arith) }))
those-part p (r ∷ rs) zero (suc c) h =
    rw (h.passes 0 (omega arith) (omega arith))
    (ap (λ (xs : List Cells). r ∷ xs)
    (those-part p rs zero c (record {
      fits = let e = h.fits in omega arith;
      within = λ j l e. let w = h.within (suc j) (suc-le-suc l) e in (omega arith, omega arith);
      passes = λ j a b. h.passes (suc j) (omega arith) (omega arith);
    })))
those-part p (r ∷ rs) (suc f) c h =
    rw (false_from_ne_true (p r) (λ e. let w = h.within 0 (zero-lt-suc (length rs)) e in not-suc-le-zero w.0))
    (those-part p rs f c (record {
      fits = let e = h.fits in omega arith;
      within = λ j l e. let w = h.within (suc j) (suc-le-suc l) e in (omega arith, omega arith);
      passes = λ j a b. h.passes (suc j) (omega arith) (omega arith);
    }))

pub part_length : {A : Type 0} (xs : List A) (f c : ℕ) → f + c ≤ length xs → length (span xs f c) ≡ c
part_length xs f c h = length-take-le c (drop f xs) (let l = length-drop f xs in omega arith)

pub part_count : {B : Type 0} (g : Cells → B) (p : Cells → Bool) (rows : List Cells) (f c : ℕ) → Part p rows f c → length (map g (those p rows)) ≡ c
part_count g p rows f c part = length-map (those p rows) g ∙ ap length (those-part p rows f c part) ∙ part_length rows f c part.fits

-- below a list's length any default will do
pub any : {A : Type 0} (xs : List A) (i : ℕ) (d e : A) → i < length xs → get_or xs i d ≡ get_or xs i e
any [] i d e h = absurd (not-suc-le-zero h)
any (x ∷ xs) zero d e h = refl
any (x ∷ xs) (suc i) d e h = any xs i d e (le_of_suc-le-suc h)

-- the values of a function from f on are those of the lines of that part, each by itself
pub table-part : {B : Type 0} (g : ℕ → B) (s : Cells → B) (rows : List Cells) (f c : ℕ) → f + c ≤ length rows → ((j : ℕ) → f ≤ j → j < f + c → g j ≡ s (get_or rows j no_cells)) → tabulate (λ j. g (f + j)) c ≡ map s (span rows f c)
table-part g s rows f c h e =
    ext_get_or (s no_cells) (tabulate (λ j. g (f + j)) c) (map s (span rows f c)) (length-table (λ j. g (f + j)) c ∙ sym (length-map (span rows f c) s ∙ part_length rows f c h))
    (λ i l.
    let m : i < c = subst (λ (k : ℕ). i < k) (length-table (λ j. g (f + j)) c) l in
    table_at (λ j. g (f + j)) c i (s no_cells) m ∙ e (f + i) (omega arith) (omega arith) ∙ ap s (sym (span-at rows f c i no_cells m)) ∙ sym (get_or-map s (span rows f c) i no_cells))

cons_same : {B : Type 0} {x y : B} {xs ys : List B} → x ≡ y → xs ≡ ys → ◌≡◌ {A = List B} (x ∷ xs) (y ∷ ys)
cons_same e f = cc

-- the values of a function are those of the lines with their numbers
numbered-from : {B : Type 0} (g : ℕ → B) (s : ℕ → Cells → B) (rows : List Cells) (k : ℕ) → ((i : ℕ) → i < length rows → g i ≡ s (k + i) (get_or rows i no_cells)) → tabulate g (length rows) ≡ numbered s k rows
unfolding tabulate numbered
numbered-from g s [] k h = refl
numbered-from g s (r ∷ rs) k h =
    cons_same (h 0 (zero-lt-suc (length rs)) ∙ ap (λ (i : ℕ). s i r) (add-zero k))
    (numbered-from (λ i. g (suc i)) s rs (k + 1) (λ i l. h (suc i) (suc-le-suc l) ∙ ap (λ (n : ℕ). s n (get_or rs i no_cells)) (one_on k i)))

pub table-numbered : {B : Type 0} (g : ℕ → B) (s : ℕ → Cells → B) (rows : List Cells) → ((i : ℕ) → i < length rows → g i ≡ s i (get_or rows i no_cells)) → tabulate g (length rows) ≡ numbered s 0 rows
table-numbered g s rows h = numbered-from g s rows 0 (λ i l. h i l ∙ ap (λ (n : ℕ). s n (get_or rows i no_cells)) (sym (zero-add i)))

pub numbered-count : {B : Type 0} (s : ℕ → Cells → B) (k : ℕ) (rows : List Cells) → length (numbered s k rows) ≡ length rows
unfolding numbered
numbered-count s k [] = refl
numbered-count s k (r ∷ rs) = ap suc (numbered-count s (k + 1) rs)
