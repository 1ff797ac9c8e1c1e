-- The numbers of a table's lines, kept one after another: each stands where the layout says (`rows_same`), and no other place changes (`rows_other`).
-- A line's numbers stand one after the other in it, and lines stand apart, so nothing that is kept later touches them.
use Prim.Native.Nat.{ℕ, zero, suc, ◌+◌, ◌*◌, ◌<◌, ◌≤◌}
use native.Mathlib.Omega.{arith}
use native.Mathlib.Nat.{le_of_suc-le-suc, not-suc-le-zero, mul-le-mul_right, add-zero}
use mathlib.Core.Path.{◌≡◌, refl, ◌∙◌, ap}
use mathlib.Core.List.{List, [], ◌∷◌}
use lib.ListN.{length, get_or}
use lib.Ieee.{Float, nan, binary64, of_bits}
use Rattle.reader_lines.specs.Columns.{cell_of, no_cells}
use Rattle.reader_lines.specs.declared.columns.Cells.{Cells}
use Rattle.reader_store.specs.Layout.{number_lines, number_columns, numbers_kept}
use Rattle.reader_store.proofs.Puts.{one_on, cells-length, cells_other, cell-same}

-- the place of number i of line k
abbrev pub place_at : ℕ → ℕ → ℕ → ℕ
place_at t k i = (number_lines t).first + k * (number_lines t).stride + i

-- the lines of a table kept from line k on
unfoldable pub rows_put : ℕ → ℕ → List Cells → List Float → List Float
rows_put t k [] ns = ns
rows_put t k (r ∷ rs) ns = rows_put t (k + 1) rs (numbers_kept t k r ns)

module _ (t : ℕ) where
  -- ---- one line

  line-length : (k : ℕ) (cells : Cells) (ns : List Float) → length (numbers_kept t k cells ns) ≡ length ns
  unfolding numbers_kept
  line-length k cells ns = cells-length (of_bits binary64) cells (number_columns t) ((number_lines t).first + k * (number_lines t).stride) ns

  line_other : (k : ℕ) (cells : Cells) (p : ℕ) (ns : List Float) → ((i : ℕ) → i < length (number_columns t) → p ≡ place_at t k i → ⊥) → get_or (numbers_kept t k cells ns) p nan ≡ get_or ns p nan
  unfolding numbers_kept
  line_other k cells p ns h = cells_other (of_bits binary64) cells nan p (number_columns t) ((number_lines t).first + k * (number_lines t).stride) ns h

  line_same : (k : ℕ) (cells : Cells) (i : ℕ) (ns : List Float) → i < length (number_columns t) → place_at t k i < length ns
      → get_or (numbers_kept t k cells ns) (place_at t k i) nan ≡ of_bits binary64 (cell_of cells (get_or (number_columns t) i 0))
  unfolding numbers_kept
  line_same k cells i ns h l = cell-same (of_bits binary64) cells nan (number_columns t) ((number_lines t).first + k * (number_lines t).stride) i ns h l

  -- ---- lines

  pub rows-length : (rows : List Cells) (k : ℕ) (ns : List Float) → length (rows_put t k rows ns) ≡ length ns
  unfolding rows_put
  rows-length [] k ns = refl
  rows-length (r ∷ rs) k ns = rows-length rs (k + 1) (numbers_kept t k r ns) ∙ line-length k r ns

  pub rows_other : (rows : List Cells) (k p : ℕ) (ns : List Float) → ((j i : ℕ) → k ≤ j → j < k + length rows → i < length (number_columns t) → p ≡ place_at t j i → ⊥) → get_or (rows_put t k rows ns) p nan ≡ get_or ns p nan
  unfolding rows_put
  rows_other [] k p ns h = refl
  rows_other (r ∷ rs) k p ns h =
      rows_other rs (k + 1) p (numbers_kept t k r ns) (λ j i a b. h j i (omega arith) (omega arith))
      ∙ line_other k r p ns (λ i. h k i (omega arith) (omega arith))

  module _ (inside : length (number_columns t) ≤ (number_lines t).stride) (i : ℕ) (small : i < length (number_columns t)) where
    later : (k j d : ℕ) → k + 1 ≤ j → place_at t k i ≡ place_at t j d → ⊥
    later k j d h e =
        let a = inside in
        let s = small in
        let m : (k + 1) * (number_lines t).stride ≤ j * (number_lines t).stride = mul-le-mul_right (number_lines t).stride h in
        omega arith

    pub rows_same : (rows : List Cells) (k n : ℕ) (ns : List Float) → n < length rows → (number_lines t).first + (k + length rows) * (number_lines t).stride ≤ length ns
        → get_or (rows_put t k rows ns) (place_at t (k + n) i) nan ≡ of_bits binary64 (cell_of (get_or rows n no_cells) (get_or (number_columns t) i 0))
    unfolding rows_put
    rows_same [] k n ns h l = absurd (not-suc-le-zero h)
    rows_same (r ∷ rs) k zero ns h l =
        let a = inside in
        let s = small in
        ap (λ (j : ℕ). get_or (rows_put t (k + 1) rs (numbers_kept t k r ns)) (place_at t j i) nan) (add-zero k)
        ∙ rows_other rs (k + 1) (place_at t k i) (numbers_kept t k r ns) (λ j d b e g. later k j d b)
        ∙ line_same k r i ns small (omega arith)
    rows_same (r ∷ rs) k (suc n) ns h l =
        ap (λ (j : ℕ). get_or (rows_put t (k + 1) rs (numbers_kept t k r ns)) (place_at t j i) nan) (one_on k n)
        ∙ rows_same rs (k + 1) n (numbers_kept t k r ns) (le_of_suc-le-suc h) (let e = line-length k r ns in omega arith)
