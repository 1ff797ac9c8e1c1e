-- The cells of a line kept one after the other: what each of them leaves as it is the line does (`cells-keep`), and each stands at its place (`cell-same`).
use Prim.Native.Nat.{ℕ, zero, suc, ◌+◌, ◌<◌, ◌≤◌}
use native.Mathlib.Omega.{arith}
use native.Mathlib.Nat.{le_of_suc-le-suc, not-suc-le-zero, add-zero}
use mathlib.Core.Path.{◌≡◌, refl, sym, ◌∙◌, ap, subst}
use mathlib.Core.List.{List, [], ◌∷◌}
use lib.ListN.{length, get_or, set, drop, length-set}
use lib.Seq.{get_or-set_same, get_or-set_other}
use Rattle.std.proofs.lemmas.List.{drop_more, drop_all}
use Rattle.reader_lines.specs.Columns.{cell_of}
use Rattle.reader_lines.specs.declared.columns.Cells.{Cells}
use Rattle.reader_store.specs.Layout.{cells_kept}

-- an index one on in a list, counted from the place after
pub one_on : (n i : ℕ) → n + suc i ≡ n + 1 + i
one_on n i = omega arith

module _ {A : Type 0} (f : ℕ → A) (cells : Cells) where
  abbrev kept_of : ℕ → A
  kept_of column = f (cell_of cells column)

  -- the cells from column i on: at first all, one kept, at last none
  pub cells_start : (columns : List ℕ) (place : ℕ) (xs : List A) → cells_kept f cells columns (place + 0) xs ≡ cells_kept f cells columns place xs
  cells_start columns place xs = ap (λ (n : ℕ). cells_kept f cells columns n xs) (add-zero place)

  pub cells_more : (columns : List ℕ) (place i : ℕ) (xs : List A) {ys : List A} {x : ℕ} {v : A} → i < length columns → x ≡ cell_of cells (get_or columns i 0) → v ≡ f x → ys ≡ set xs (place + i) v
      → cells_kept f cells (drop (i + 1) columns) (place + (i + 1)) ys ≡ cells_kept f cells (drop i columns) (place + i) xs
  unfolding cells_kept
  cells_more columns place i xs h e g s =
      rw (s, g, e, drop_more columns i 0 h) (ap (λ (n : ℕ). cells_kept f cells (drop (i + 1) columns) n (set xs (place + i) (kept_of (get_or columns i 0)))) (sum place i))
    where
      sum : (n i : ℕ) → n + (i + 1) ≡ n + i + 1
      sum n i = omega arith

  pub cells_end : (columns : List ℕ) (place i : ℕ) (xs : List A) → length columns ≤ i → cells_kept f cells (drop i columns) place xs ≡ xs
  unfolding cells_kept
  cells_end columns place i xs h = rw (drop_all i columns h)

  pub cells-keep : (P : List A → Type 0) (columns : List ℕ) (place : ℕ) → ((i : ℕ) → i < length columns → (xs : List A) → P xs → P (set xs (place + i) (kept_of (get_or columns i 0)))) → (xs : List A) → P xs → P (cells_kept f cells columns place xs)
  unfolding cells_kept
  cells-keep P [] place kept xs p = p
  cells-keep P (c ∷ cs) place kept xs p =
      cells-keep P cs (place + 1) (λ i h ys q. subst (λ (n : ℕ). P (set ys n (kept_of (get_or cs i 0)))) (one_on place i) (kept (suc i) (omega arith) ys q)) (set xs place (kept_of c))
      (subst (λ (n : ℕ). P (set xs n (kept_of c))) (add-zero place) (kept 0 (omega arith) xs p))

  pub cells-length : (columns : List ℕ) (place : ℕ) (xs : List A) → length (cells_kept f cells columns place xs) ≡ length xs
  cells-length columns place xs = cells-keep (λ ys. length ys ≡ length xs) columns place (λ i h ys e. length-set ys (place + i) (kept_of (get_or columns i 0)) ∙ e) xs refl

  pub cells_other : (d : A) (p : ℕ) (columns : List ℕ) (place : ℕ) (xs : List A) → ((i : ℕ) → i < length columns → p ≡ place + i → ⊥) → get_or (cells_kept f cells columns place xs) p d ≡ get_or xs p d
  cells_other d p columns place xs h = cells-keep (λ ys. get_or ys p d ≡ get_or xs p d) columns place (λ i l ys e. get_or-set_other ys (place + i) p (kept_of (get_or columns i 0)) d (h i l) ∙ e) xs refl

  pub cell-same : (d : A) (columns : List ℕ) (place i : ℕ) (xs : List A) → i < length columns → place + i < length xs → get_or (cells_kept f cells columns place xs) (place + i) d ≡ kept_of (get_or columns i 0)
  unfolding cells_kept
  cell-same d [] place i xs h l = absurd (not-suc-le-zero h)
  cell-same d (c ∷ cs) place zero xs h l =
      cells_other d (place + 0) cs (place + 1) (set xs place (kept_of c)) (λ i g e. omega arith) ∙ ap (λ (n : ℕ). get_or (set xs n (kept_of c)) (place + 0) d) (sym (add-zero place))
      ∙ get_or-set_same xs (place + 0) (kept_of c) d l
  cell-same d (c ∷ cs) place (suc i) xs h l =
      let s = length-set xs place (kept_of c) in
      ap (λ (n : ℕ). get_or (cells_kept f cells cs (place + 1) (set xs place (kept_of c))) n d) (one_on place i) ∙ cell-same d cs (place + 1) i (set xs place (kept_of c)) (le_of_suc-le-suc h) (omega arith)
