-- What is printed is bytes. By its pieces: words are, so are a space and an LF, and what is joined of them. The lines of names are looked through.
use Prim.Native.Nat.{ℕ, zero, suc, ◌+◌, ◌<◌, ◌≤◌}
use native.Mathlib.Omega.{arith}
use mathlib.Core.Path.{◌≡◌, refl}
use mathlib.Core.Bool.{Bool, true, false}
use mathlib.Core.List.{List, [], ◌∷◌, ◌++◌}
use lib.ListN.{length, get_or, get_or-eq_default}
use lib.Dec.{ltb}
use borrow.Author.Tests.{ltb-true, ltb-false}
use Rattle.records_lent.specs.Lists.{all_below}
use Rattle.records_lent.proofs.TestLaws.{all-at}
use Rattle.reader_schema.specs.Schema.{word_count, column_kind}
use Rattle.reader_cells.specs.Cells.{byte_at}
use Rattle.reader_lines.specs.Columns.{no_cells, cell_of}
use Rattle.reader_lines.specs.declared.columns.Cells.{Cells}
use Rattle.reader_print_laws.specs.Printing.{printed_line, words_of, title_of, columns_line, printed_word, values_from, values_line, values_lines, table_of, tables_of}
use Rattle.reader_print_laws.specs.PrintReads.{LineFits, Within}
use Rattle.reader_print_laws.proofs.Words.{dark, dark-rest, dark-below, cell-word}

abbrev pub Bytes : List ℕ → Type 0
Bytes xs = (i : ℕ) → byte_at xs i < 256

none : Bytes []
none i = omega arith

more : (b : ℕ) (xs : List ℕ) → b < 256 → Bytes xs → Bytes (b ∷ xs)
more b xs l h zero = l
more b xs l h (suc i) = h i

joined : (xs ys : List ℕ) → Bytes xs → Bytes ys → Bytes (xs ++ ys)
joined [] ys h f = f
joined (x ∷ xs) ys h f = more x (xs ++ ys) (h 0) (joined xs ys (λ i. h (suc i)) f)

dark-bytes : (xs : List ℕ) → dark xs ≡ true → Bytes xs
dark-bytes [] e = none
dark-bytes (x ∷ xs) e = more x xs (dark-below x xs e) (dark-bytes xs (dark-rest x xs e))

names-test : all_below (λ t. all_below (λ i. ltb (byte_at (columns_line t) i) 256) (length (columns_line t))) 16 ≡ true
unfolding all_below printed_line words_of title_of columns_line
names-test = refl

module _ (t : ℕ) (small : t < 16) where
  names-bytes : Bytes (columns_line t)
  names-bytes i = go (ltb i (length (columns_line t))) refl
    where
      go : (b : Bool) → ltb i (length (columns_line t)) ≡ b → byte_at (columns_line t) i < 256
      go true e = ltb-true (byte_at (columns_line t) i) 256 (all-at (λ i. ltb (byte_at (columns_line t) i) 256) (length (columns_line t)) (all-at (λ t. all_below (λ i. ltb (byte_at (columns_line t) i) 256) (length (columns_line t))) 16 names-test t small) i (ltb-true i (length (columns_line t)) e))
      go false e = omega (arith, get_or-eq_default (columns_line t) 0 (ltb-false i (length (columns_line t)) e))

  module _ (cells : Cells) (h : LineFits t cells) where
    word_bytes : (i : ℕ) → i < word_count t → Bytes (printed_word (column_kind t i) (cell_of cells i))
    word_bytes i l = dark-bytes (printed_word (column_kind t i) (cell_of cells i)) (cell-word (column_kind t i) (cell_of cells i) (h.cell i l)).darkness

    values-bytes : (n i : ℕ) → i + n ≤ word_count t → Bytes (printed_line (values_from n t i cells))
    unfolding printed_line values_from
    values-bytes zero i l = more 10 [] (omega arith) none
    values-bytes (suc zero) i l = joined (printed_word (column_kind t i) (cell_of cells i)) (10 ∷ []) (word_bytes i (omega arith)) (more 10 [] (omega arith) none)
    values-bytes (suc (suc n)) i l =
        joined (printed_word (column_kind t i) (cell_of cells i)) (32 ∷ printed_line (values_from (suc n) t (i + 1) cells)) (word_bytes i (omega arith))
        (more 32 (printed_line (values_from (suc n) t (i + 1) cells)) (omega arith) (values-bytes (suc n) (i + 1) (omega arith)))

    line-bytes : Bytes (values_line t cells)
    unfolding values_line
    line-bytes = values-bytes (word_count t) 0 (omega arith)

  lines-bytes : (rows : List Cells) → ((k : ℕ) → k < length rows → LineFits t (get_or rows k no_cells)) → Bytes (values_lines t rows)
  unfolding values_lines
  lines-bytes [] f = none
  lines-bytes (cells ∷ rows) f = joined (values_line t cells) (values_lines t rows) (line-bytes cells (f 0 (omega arith))) (lines-bytes rows (λ k l. f (suc k) (omega arith)))

  table-bytes : (rows : List Cells) → ((k : ℕ) → k < length rows → LineFits t (get_or rows k no_cells)) → Bytes (table_of t rows)
  unfolding table_of
  table-bytes rows f = joined (columns_line t) (values_lines t rows ++ (10 ∷ [])) names-bytes (joined (values_lines t rows) (10 ∷ []) (lines-bytes rows f) (more 10 [] (omega arith) none))

pub tables-bytes : (T : ℕ → List Cells) → Within T → (n t : ℕ) → t + n ≤ 16 → Bytes (tables_of n t T)
unfolding tables_of
tables-bytes T w zero t most = none
tables-bytes T w (suc n) t most = joined (table_of t (T t)) (tables_of n (t + 1) T) (table-bytes t (omega arith) (T t) (w.line t (omega arith))) (tables-bytes T w n (t + 1) (omega arith))
