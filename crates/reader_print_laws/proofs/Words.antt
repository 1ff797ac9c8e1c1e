-- A cell's word: it is not empty, has no space and no LF in it, and is read back as the cell where a space or an LF stands after it. The listed words are tried all, whatever stands after the space or the LF.
use Prim.Native.Nat.{ℕ, zero, suc, ◌+◌, ◌-◌, ◌/◌, ◌%◌, ◌<◌}
use native.Mathlib.Omega.{arith}
use mathlib.Core.Path.{◌≡◌, refl}
use mathlib.Core.Bool.{Bool, true, false, ◌&&◌, cond}
use mathlib.Core.List.{List, [], ◌∷◌, ◌++◌}
use lib.ListN.{length, get_or, drop, get_or-eq_default}
use lib.Dec.{ltb, eqb}
use borrow.Author.Tests.{eqb-true, ltb-true, ltb-false, lt-ltb, ne_eqb}
use Rattle.records_lent.specs.Lists.{all_below}
use Rattle.records_lent.proofs.TestLaws.{all-at, chain-at}
use Rattle.reader_schema.specs.Schema as schema
use Rattle.reader_schema.specs.Schema.{word_count, place_of}
use Rattle.reader_cells.specs.Cells.{byte_at, name_from, name_span, listed_at, cell_at, span_of}
use Rattle.std.specs.Prelude.{Some}
use Rattle.reader_lines.specs.ValuesLine.{stop_of}
use Rattle.reader_hex.specs.Digits.{glyph_of, hex_of}
use Rattle.reader_print_laws.specs.Printing.{words_of, decimals_of, whole_of, printed_word}
use Rattle.reader_print_laws.specs.PrintReads.{CellFits}
use Rattle.reader_print_laws.proofs.Places.{here, name-here}
use Rattle.reader_hex.proofs.HexWritten.{hex-length}
use Rattle.reader_print_laws.proofs.Numbers.{hex-read, whole-read, decimals-some}

-- ---- no space, no LF, bytes

unfoldable pub dark : List ℕ → Bool
dark [] = true
dark (b ∷ bs) = (ltb 32 b && ltb b 256) && dark bs

module _ (b : ℕ) (bs : List ℕ) (e : dark (b ∷ bs) ≡ true) where
  dark-byte : (ltb 32 b && ltb b 256) ≡ true
  unfolding dark
  dark-byte = chain-at (ltb 32 b && ltb b 256) (dark bs ∷ []) e 0

  pub dark-rest : dark bs ≡ true
  unfolding dark
  dark-rest = chain-at (ltb 32 b && ltb b 256) (dark bs ∷ []) e 1

  pub dark-above : 32 < b
  dark-above = ltb-true 32 b (chain-at (ltb 32 b) (ltb b 256 ∷ []) dark-byte 0)

  pub dark-below : b < 256
  dark-below = ltb-true b 256 (chain-at (ltb 32 b) (ltb b 256 ∷ []) dark-byte 1)

dark-append : (xs ys : List ℕ) → dark xs ≡ true → dark ys ≡ true → dark (xs ++ ys) ≡ true
unfolding dark
dark-append [] ys e f = f
dark-append (x ∷ xs) ys e f = rw (dark-byte x xs e) (dark-append xs ys (dark-rest x xs e) f)

glyph-test : all_below (λ d. dark (glyph_of d ∷ [])) 16 ≡ true
unfolding all_below dark glyph_of
glyph-test = refl

hex-dark : (k n : ℕ) → dark (hex_of k n) ≡ true
unfolding hex_of dark
hex-dark zero n = refl
hex-dark (suc k) n = dark-append (hex_of k (n / 16)) (glyph_of (n % 16) ∷ []) (hex-dark k (n / 16)) (all-at (λ d. dark (glyph_of d ∷ [])) 16 glyph-test (n % 16) (omega arith))

decimal-test : all_below (λ d. dark ((48 + d) ∷ [])) 10 ≡ true
unfolding all_below dark
decimal-test = refl

decimals-dark : (k n : ℕ) → dark (decimals_of k n) ≡ true
unfolding decimals_of dark
decimals-dark zero n = refl
decimals-dark (suc k) n = go (ltb n 10) refl (decimals-dark k (n / 10))
  where
    go : (t : Bool) → ltb n 10 ≡ t → dark (decimals_of k (n / 10)) ≡ true → dark (cond t ((48 + n) ∷ []) (decimals_of k (n / 10) ++ ((48 + n % 10) ∷ []))) ≡ true
    go true t ih = all-at (λ d. dark ((48 + d) ∷ [])) 10 decimal-test n (ltb-true n 10 t)
    go false t ih = dark-append (decimals_of k (n / 10)) ((48 + n % 10) ∷ []) ih (all-at (λ d. dark ((48 + d) ∷ [])) 10 decimal-test (n % 10) (omega arith))

pub record Word (bytes : List ℕ) : Type 0 where
  pub some : 0 < length bytes
  pub darkness : dark bytes ≡ true

hex-word : (n : ℕ) → Word (hex_of 16 n)
hex-word n = record { some = omega (arith, hex-length 16 n); darkness = hex-dark 16 n }

whole_word : (cell : ℕ) → Word (whole_of cell)
unfolding whole_of dark
whole_word cell = go (ltb cell 10000)
  where
    go : (t : Bool) → Word (cond t (45 ∷ decimals_of 4 (10000 - cell)) (decimals_of 4 (cell - 10000)))
    go true = record { some = omega arith; darkness = decimals-dark 4 (10000 - cell) }
    go false = record { some = decimals-some 3 (cell - 10000); darkness = decimals-dark 4 (cell - 10000) }

-- ---- the listed words

-- a list has words
list-below : (list i : ℕ) → i < word_count list → list < 21
unfolding schema.word_count schema.counts
list-below list i h = go (ltb list 21) refl
  where
    go : (t : Bool) → ltb list 21 ≡ t → list < 21
    go true t = ltb-true list 21 t
    go false t = absurd (omega (arith, get_or-eq_default schema.counts 0 (ltb-false list 21 t)))

-- a test of every word of every list
all_listed : (p : ℕ → ℕ → Bool) → all_below (λ list. all_below (p list) (word_count list)) 21 ≡ true → (list i : ℕ) → i < word_count list → p list i ≡ true
all_listed p e list i h = all-at (p list) (word_count list) (all-at (λ list. all_below (p list) (word_count list)) 21 e list (list-below list i h)) i h

abbrev is_word : ℕ → ℕ → Bool
is_word list i = ltb 0 (length (get_or (words_of list) i [])) && dark (get_or (words_of list) i [])

word_test : all_below (λ list. all_below (is_word list) (word_count list)) 21 ≡ true
unfolding all_below dark schema.word_count schema.counts words_of
word_test = refl

listed-word : (list i : ℕ) → i < word_count list → Word (get_or (words_of list) i [])
listed-word list i h =
    let t = chain-at (ltb 0 (length (get_or (words_of list) i []))) (dark (get_or (words_of list) i []) ∷ []) (all_listed is_word word_test list i h) in
    record { some = ltb-true 0 (length (get_or (words_of list) i [])) (t 0); darkness = t 1 }

-- the word of a place in a list, at the start of a text, is read as that place
abbrev is_read : List ℕ → ℕ → ℕ → Bool
is_read after list i =
    eqb (place_of list (name_span (get_or (words_of list) i [] ++ after) 0).value) i && eqb (name_span (get_or (words_of list) i [] ++ after) 0).next (length (get_or (words_of list) i []))

read-test : (r : ℕ) (rest : List ℕ) → all_below (λ list. all_below (is_read (stop_of r ∷ rest) list) (word_count list)) 21 ≡ true
unfolding all_below schema.word_count schema.counts schema.words schema.word_of schema.firsts schema.first_of schema.seek schema.place_of schema.listed_place words_of name_span name_from stop_of
read-test zero rest = refl
read-test (suc r) rest = refl

listed-read : (list i : ℕ) (text : List ℕ) (at r : ℕ) (rest : List ℕ) → i < word_count list → drop at text ≡ get_or (words_of list) i [] ++ (stop_of r ∷ rest) → listed_at text at list ≡ Some (span_of i (at + length (get_or (words_of list) i [])))
unfolding listed_at
listed-read list i text at r rest h e =
    let w = get_or (words_of list) i [] ++ (stop_of r ∷ rest) in
    let t = chain-at (eqb (place_of list (name_span w 0).value) i) (eqb (name_span w 0).next (length (get_or (words_of list) i [])) ∷ []) (all_listed (is_read (stop_of r ∷ rest)) (read-test r rest) list i h) in
    rw (name-here text at, e, eqb-true (place_of list (name_span w 0).value) i (t 0), eqb-true (name_span w 0).next (length (get_or (words_of list) i [])) (t 1), lt-ltb i (word_count list) h)

-- ---- any cell

module _ (n : ℕ) where
  above_zero : eqb (suc (suc n)) 0 ≡ false
  above_zero = ne_eqb (suc (suc n)) 0 (λ z. omega arith)

  above-one : eqb (suc (suc n)) 1 ≡ false
  above-one = ne_eqb (suc (suc n)) 1 (λ z. omega arith)

pub cell-word : (kind cell : ℕ) → CellFits kind cell → Word (printed_word kind cell)
unfolding printed_word
cell-word zero cell h = hex-word cell
cell-word (suc zero) cell h = whole_word cell
cell-word (suc (suc n)) cell h = rw (above_zero n, above-one n) (listed-word (suc (suc n)) cell (h.listed (omega arith)))

pub cell-read : (kind cell : ℕ) (text : List ℕ) (at r : ℕ) (rest : List ℕ) → CellFits kind cell → drop at text ≡ printed_word kind cell ++ (stop_of r ∷ rest) → cell_at text at kind ≡ Some (span_of cell (at + length (printed_word kind cell)))
unfolding cell_at printed_word
cell-read zero cell text at r rest h = hex-read cell text at (stop_of r ∷ rest) (h.number refl)
cell-read (suc zero) cell text at r rest h = let w = h.whole refl in whole-read cell text at r rest (omega arith) (omega arith)
cell-read (suc (suc n)) cell text at r rest h = rw (above_zero n, above-one n) (listed-read (suc (suc n)) cell text at r rest (h.listed (omega arith)))

-- no line is empty where a word stands
pub word-starts : (bytes : List ℕ) (text : List ℕ) (at : ℕ) (after : List ℕ) → Word bytes → drop at text ≡ bytes ++ after → eqb (byte_at text at) 10 ≡ false
word-starts [] text at after w e = absurd (omega (arith, w.some))
word-starts (b ∷ bs) text at after w e = let h = dark-above b bs w.darkness in let f = here text at e in ne_eqb (byte_at text at) 10 (λ z. omega arith)
