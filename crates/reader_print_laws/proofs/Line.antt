-- A line of values, read where it stands with the columns in the schema's order, gives its cells back. By induction on the columns left: those before are held, the others are still 0.
use Prim.Native.Nat.{ℕ, zero, suc, ◌+◌, ◌<◌, ◌≤◌}
use native.Mathlib.Omega.{arith}
use mathlib.Core.Path.{◌≡◌, refl, sym, ◌∙◌, ap, subst}
use mathlib.Core.Bool.{Bool, true, false}
use mathlib.Core.List.{List, [], ◌∷◌, ◌++◌, append_assoc}
use lib.ListN.{length, drop, length-append, length-set}
use lib.Seq.{get_or-set_same, get_or-set_other, ext_get_or}
use lib.Dec.{leb, ltb, eqb}
use borrow.Author.Tests.{eqb-true, eqb-false, eq-eqb, ltb-true, ltb-false, leb-true}
use Rattle.records_lent.specs.Lists.{all_below}
use Rattle.records_lent.proofs.TestLaws.{all-at}
use Rattle.reader_schema.specs.Schema as schema
use Rattle.reader_schema.specs.Schema.{word_count, column_kind}
use Rattle.reader_cells.specs.Cells.{byte_at, cell_at, span_of}
use Rattle.std.specs.Prelude.{Option, Some}
use Rattle.reader_lines.specs.Columns.{no_cells, ordered_column, cell_of, valued_by}
use Rattle.reader_lines.specs.ValuesLine.{stop_of, values_read, values_at}
use Rattle.reader_lines.specs.declared.columns.Order.{Order}
use Rattle.reader_lines.specs.declared.columns.Cells.{Cells}
use Rattle.reader_cells.specs.declared.names.Span.{Span}
use Rattle.reader_text_laws.proofs.Listed.{no_cells_lem}
use Rattle.reader_print_laws.specs.Printing.{printed_line, printed_word, values_from, values_line}
use Rattle.reader_print_laws.specs.PrintReads.{LineFits}
use Rattle.reader_print_laws.proofs.Places.{here, past, next}
use Rattle.reader_print_laws.proofs.Names.{in_order}
use Rattle.reader_print_laws.proofs.Words.{cell-word, cell-read, word-starts}

-- ---- the schema: every table has one to eight columns, in order

some-test : all_below (λ t. ltb 0 (word_count t)) 16 ≡ true
unfolding all_below schema.word_count schema.counts
some-test = refl

few-test : all_below (λ t. leb (word_count t) 8) 16 ≡ true
unfolding all_below schema.word_count schema.counts
few-test = refl

order-test : all_below (λ t. all_below (λ i. eqb (ordered_column (in_order (word_count t)) i) i) (word_count t)) 16 ≡ true
unfolding all_below schema.word_count schema.counts
order-test = refl

abbrev pub good_row : ℕ → Cells → Option (Span Cells)
good_row at cells = Some (record { value = cells; next = at })

module _ (t : ℕ) (small : t < 16) where
  pub columns-some : 0 < word_count t
  columns-some = ltb-true 0 (word_count t) (all-at (λ t. ltb 0 (word_count t)) 16 some-test t small)

  pub columns-few : word_count t ≤ 8
  columns-few = leb-true (word_count t) 8 (all-at (λ t. leb (word_count t) 8) 16 few-test t small)

  abbrev order : Order
  order = in_order (word_count t)

  straight : (i : ℕ) → i < word_count t → ordered_column order i ≡ i
  straight i l = eqb-true (ordered_column order i) i (all-at (λ i. eqb (ordered_column order i) i) (word_count t) (all-at (λ t. all_below (λ i. eqb (ordered_column (in_order (word_count t)) i) i) (word_count t)) 16 order-test t small) i l)

  module _ (cells : Cells) (h : LineFits t cells) where
    -- the cells before column i are held
    record Held (i : ℕ) (acc : Cells) : Type 0 where
      long : length acc.of ≡ 8
      before : (j : ℕ) → j < i → cell_of acc j ≡ cell_of cells j
      after : (j : ℕ) → i ≤ j → cell_of acc j ≡ 0

    held_start : Held 0 no_cells
    held_start = record { long = refl; before = λ j l. absurd (omega arith); after = λ j l. no_cells_lem j }

    held_next : (i : ℕ) (acc : Cells) → i < word_count t → Held i acc → Held (i + 1) (valued_by acc i (cell_of cells i))
    held_next i acc l a = record { long = length-set acc.of i (cell_of cells i) ∙ a.long; before = before; after = after }
      where
        before : (j : ℕ) → j < i + 1 → cell_of (valued_by acc i (cell_of cells i)) j ≡ cell_of cells j
        before j m = go (eqb j i) refl
          where
            go : (b : Bool) → eqb j i ≡ b → cell_of (valued_by acc i (cell_of cells i)) j ≡ cell_of cells j
            go true e = rw (eqb-true j i e) (get_or-set_same acc.of i (cell_of cells i) 0 (omega (arith, a.long, columns-few)))
            go false e = let z = eqb-false j i e in get_or-set_other acc.of i j (cell_of cells i) 0 z ∙ a.before j (omega (arith, z))

        after : (j : ℕ) → i + 1 ≤ j → cell_of (valued_by acc i (cell_of cells i)) j ≡ 0
        after j m = get_or-set_other acc.of i j (cell_of cells i) 0 (λ z. omega arith) ∙ a.after j (omega arith)

    held_all : (acc : Cells) → Held (word_count t) acc → acc ≡ cells
    held_all acc a = ap (λ (xs : List ℕ). let c : Cells = record { of = xs } in c) (ext_get_or 0 acc.of cells.of (a.long ∙ sym h.places) (λ j l. go j (ltb j (word_count t)) refl))
      where
        go : (j : ℕ) (b : Bool) → ltb j (word_count t) ≡ b → cell_of acc j ≡ cell_of cells j
        go j true e = a.before j (ltb-true j (word_count t) e)
        go j false e = let l = ltb-false j (word_count t) e in a.after j l ∙ sym (h.rest j l)

    module _ (text : List ℕ) where
      row_step : (n i at : ℕ) (acc : Cells) (v q : ℕ) → i < word_count t → cell_at text at (column_kind t i) ≡ Some (span_of v q) → byte_at text q ≡ stop_of n
          → values_read (suc n) text at t order i acc ≡ values_read n text (q + 1) t order (i + 1) (valued_by acc i v)
      unfolding values_read
      row_step n i at acc v q l a b = rw (straight i l, a, b, eq-eqb (stop_of n) (stop_of n) refl)

      row_from : (n i at : ℕ) (acc : Cells) (rest : List ℕ) → suc n + i ≡ word_count t → Held i acc → drop at text ≡ printed_line (values_from (suc n) t i cells) ++ rest
          → values_read (suc n) text at t order i acc ≡ good_row (at + length (printed_line (values_from (suc n) t i cells))) cells
      unfolding values_read stop_of printed_line values_from
      row_from zero i at acc rest c a e =
          let w = printed_word (column_kind t i) (cell_of cells i) in
          let l : i < word_count t = omega arith in
          let f : drop at text ≡ w ++ (10 ∷ rest) = e ∙ append_assoc w (10 ∷ []) rest in
          let p : at + length w + 1 ≡ at + length (w ++ (10 ∷ [])) = omega (arith, length-append w (10 ∷ [])) in
          let d : i + 1 ≡ word_count t = omega arith in
          let q : valued_by acc i (cell_of cells i) ≡ cells = held_all (valued_by acc i (cell_of cells i)) (subst (λ (j : ℕ). Held j (valued_by acc i (cell_of cells i))) d (held_next i acc l a)) in
          row_step 0 i at acc (cell_of cells i) (at + length w) l (cell-read (column_kind t i) (cell_of cells i) text at 0 rest (h.cell i l) f) (here text (at + length w) (past text at w f))
          ∙ rw (p, q)
      row_from (suc n) i at acc rest c a e =
          let w = printed_word (column_kind t i) (cell_of cells i) in
          let more = printed_line (values_from (suc n) t (i + 1) cells) in
          let l : i < word_count t = omega arith in
          let f : drop at text ≡ w ++ (32 ∷ (more ++ rest)) = e ∙ append_assoc w (32 ∷ more) rest in
          let g = past text at w f in
          let p : at + length w + 1 + length more ≡ at + length (w ++ (32 ∷ more)) = omega (arith, length-append w (32 ∷ more)) in
          row_step (suc n) i at acc (cell_of cells i) (at + length w) l (cell-read (column_kind t i) (cell_of cells i) text at (suc n) (more ++ rest) (h.cell i l) f) (here text (at + length w) g)
          ∙ row_from n (i + 1) (at + length w + 1) (valued_by acc i (cell_of cells i)) rest (omega arith) (held_next i acc l a) (next text (at + length w) g)
          ∙ rw p

      -- a line, read where it stands; it is no empty line
      pub line_read : (at : ℕ) (rest : List ℕ) → drop at text ≡ values_line t cells ++ rest → values_at text at t order ≡ good_row (at + length (values_line t cells)) cells
      unfolding values_at values_line
      line_read at rest = go (word_count t) refl columns-some
        where
          go : (n : ℕ) → n ≡ word_count t → 0 < n → drop at text ≡ printed_line (values_from n t 0 cells) ++ rest → values_read n text at t order 0 no_cells ≡ good_row (at + length (printed_line (values_from n t 0 cells))) cells
          go zero c p e = absurd (omega arith)
          go (suc n) c p e = row_from n 0 at no_cells rest (omega arith) held_start e

      starts_from_lem : (n at : ℕ) (rest : List ℕ) → 0 < word_count t → drop at text ≡ printed_line (values_from (suc n) t 0 cells) ++ rest → eqb (byte_at text at) 10 ≡ false
      unfolding printed_line values_from
      starts_from_lem zero at rest p e = let w = printed_word (column_kind t 0) (cell_of cells 0) in word-starts w text at (10 ∷ rest) (cell-word (column_kind t 0) (cell_of cells 0) (h.cell 0 p)) (e ∙ append_assoc w (10 ∷ []) rest)
      starts_from_lem (suc n) at rest p e =
          let w = printed_word (column_kind t 0) (cell_of cells 0) in
          let more = printed_line (values_from (suc n) t 1 cells) in
          word-starts w text at (32 ∷ (more ++ rest)) (cell-word (column_kind t 0) (cell_of cells 0) (h.cell 0 p)) (e ∙ append_assoc w (32 ∷ more) rest)

      pub line-starts : (at : ℕ) (rest : List ℕ) → drop at text ≡ values_line t cells ++ rest → eqb (byte_at text at) 10 ≡ false
      unfolding values_line
      line-starts at rest = go (word_count t) columns-some
        where
          go : (n : ℕ) → 0 < n → drop at text ≡ printed_line (values_from n t 0 cells) ++ rest → eqb (byte_at text at) 10 ≡ false
          go zero p e = absurd (omega arith)
          go (suc n) p e = starts_from_lem n at rest columns-some e
