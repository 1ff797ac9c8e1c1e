-- Numbers: their digits, read where they stand, give them back. Each by induction on the digits, the last one taken off; a digit's byte gives the digit by trying all of them.
use Prim.Native.Nat.{ℕ, zero, suc, ◌+◌, ◌-◌, ◌*◌, ◌/◌, ◌%◌, ◌^◌, ◌<◌, ◌≤◌}
use native.Mathlib.Omega.{arith}
use mathlib.Core.Path.{◌≡◌, refl, ap, ◌∙◌, subst}
use mathlib.Core.Bool.{Bool, true, false, cond}
use mathlib.Core.List.{List, [], ◌∷◌, ◌++◌, append_assoc}
use lib.ListN.{length, drop, length-append}
use lib.Dec.{leb, ltb, eqb}
use borrow.Author.Tests.{eqb-true, lt-leb, ltb-true, ltb-false, lt-ltb, le-ltb, ne_eqb}
use Rattle.records_lent.specs.Lists.{all_below}
use Rattle.records_lent.proofs.TestLaws.{all-at}
use Rattle.reader_cells.specs.Cells.{byte_at, digit_of, span_of, decimal_from, natural_at, negative, positive, whole_at, hex_from, hex_at}
use Rattle.reader_cells.specs.declared.names.Span.{Span}
use Rattle.std.specs.Prelude.{Some, None}
use Rattle.reader_lines.specs.ValuesLine.{stop_of}
use Rattle.reader_hex.specs.Digits.{glyph_of, hex_of}
use Rattle.reader_hex.proofs.HexWritten.{hex-length}
use Rattle.reader_print_laws.specs.Printing.{decimals_of, whole_of}
use Rattle.reader_print_laws.proofs.Places.{first, here, past, next}

-- ---- an f64

glyph-test : all_below (λ d. eqb (digit_of (glyph_of d)) d) 16 ≡ true
unfolding all_below digit_of glyph_of
glyph-test = refl

glyph-read : (d : ℕ) → d < 16 → digit_of (glyph_of d) ≡ d
glyph-read d h = eqb-true (digit_of (glyph_of d)) d (all-at (λ d. eqb (digit_of (glyph_of d)) d) 16 glyph-test d h)

-- one digit more
hex-step : (m : ℕ) (text : List ℕ) (at v d : ℕ) → byte_at text at ≡ glyph_of d → d < 16 → hex_from (suc m) text at v ≡ hex_from m text (at + 1) (v * 16 + d)
unfolding hex_from
hex-step m text at v d e h = rw (e, glyph-read d h, lt-leb 16 d h)

hex_from_lem : (k m j n : ℕ) (text : List ℕ) (at : ℕ) (rest : List ℕ) → j ≡ k + m → n < 16 ^ k → drop at text ≡ hex_of k n ++ rest → hex_from j text at 0 ≡ hex_from m text (at + k) n
unfolding hex_of
hex_from_lem zero m j n text at rest a l e = let b : j ≡ m = omega arith in let c : n ≡ 0 = omega arith in let d : at + 0 ≡ at = omega arith in rw (b, c, d)
hex_from_lem (suc k) m j n text at rest a l e =
    let f : drop at text ≡ hex_of k (n / 16) ++ (glyph_of (n % 16) ∷ rest) = e ∙ append_assoc (hex_of k (n / 16)) (glyph_of (n % 16) ∷ []) rest in
    let g : drop (at + k) text ≡ glyph_of (n % 16) ∷ rest = subst (λ (i : ℕ). drop (at + i) text ≡ glyph_of (n % 16) ∷ rest) (hex-length k (n / 16)) (past text at (hex_of k (n / 16)) f) in
    let p : at + k + 1 ≡ at + suc k = omega arith in
    let q : n / 16 * 16 + n % 16 ≡ n = omega arith in
    hex_from_lem k (suc m) j (n / 16) text at (glyph_of (n % 16) ∷ rest) (omega arith) (omega arith) f
    ∙ hex-step m text (at + k) (n / 16) (n % 16) (here text (at + k) g) (omega arith)
    ∙ rw (p, q)

pub hex-read : (n : ℕ) (text : List ℕ) (at : ℕ) (rest : List ℕ) → n < 2 ^ 64 → drop at text ≡ hex_of 16 n ++ rest → hex_at text at ≡ Some (span_of n (at + length (hex_of 16 n)))
unfolding hex_at hex_from
hex-read n text at rest l e = rw (hex-length 16 n) (hex_from_lem 16 0 16 n text at rest refl l e)

-- ---- a whole number

decimal-test : all_below (λ d. eqb (digit_of (48 + d)) d) 10 ≡ true
unfolding all_below digit_of
decimal-test = refl

decimal_step : (m : ℕ) (text : List ℕ) (at v d : ℕ) → byte_at text at ≡ 48 + d → d < 10 → decimal_from (suc m) text at v ≡ decimal_from m text (at + 1) (v * 10 + d)
unfolding decimal_from
decimal_step m text at v d e h = rw (e, eqb-true (digit_of (48 + d)) d (all-at (λ d. eqb (digit_of (48 + d)) d) 10 decimal-test d h), lt-leb 10 d h)

-- the digits, the last one taken off
module _ (k n : ℕ) where
  decimals-one : n < 10 → decimals_of (suc k) n ≡ (48 + n) ∷ []
  unfolding decimals_of
  decimals-one h = rw (lt-ltb n 10 h)

  decimals-more : 10 ≤ n → decimals_of (suc k) n ≡ decimals_of k (n / 10) ++ ((48 + n % 10) ∷ [])
  unfolding decimals_of
  decimals-more h = rw (le-ltb n 10 h)

decimals-length : (k n : ℕ) → length (decimals_of k n) ≤ k
unfolding decimals_of
decimals-length zero n = omega arith
decimals-length (suc k) n = go (ltb n 10) (decimals-length k (n / 10))
  where
    go : (t : Bool) → length (decimals_of k (n / 10)) ≤ k → length (cond t ((48 + n) ∷ []) (decimals_of k (n / 10) ++ ((48 + n % 10) ∷ []))) ≤ suc k
    go true l = omega arith
    go false l = omega (arith, length-append (decimals_of k (n / 10)) ((48 + n % 10) ∷ []))

decimals-from : (k m j n : ℕ) (text : List ℕ) (at : ℕ) (rest : List ℕ) → n < 10 ^ k → j ≡ length (decimals_of k n) + m → drop at text ≡ decimals_of k n ++ rest
    → decimal_from j text at 0 ≡ decimal_from m text (at + length (decimals_of k n)) n
decimals-from zero m j n text at rest l = unfold decimals_of in (λ a e. let b : j ≡ m = omega arith in let c : n ≡ 0 = omega arith in let d : at + 0 ≡ at = omega arith in rw (b, c, d))
decimals-from (suc k) m j n text at rest l = go (ltb n 10) refl (decimals-from k (suc m) j (n / 10) text at ((48 + n % 10) ∷ rest) (omega arith))
  where
    go : (t : Bool) → ltb n 10 ≡ t
        → (j ≡ length (decimals_of k (n / 10)) + suc m → drop at text ≡ decimals_of k (n / 10) ++ ((48 + n % 10) ∷ rest) → decimal_from j text at 0 ≡ decimal_from (suc m) text (at + length (decimals_of k (n / 10))) (n / 10))
        → j ≡ length (decimals_of (suc k) n) + m → drop at text ≡ decimals_of (suc k) n ++ rest → decimal_from j text at 0 ≡ decimal_from m text (at + length (decimals_of (suc k) n)) n
    go true t ih =
        let h = ltb-true n 10 t in
        rw (decimals-one k n h)
        (λ a e. let b : j ≡ suc m = omega arith in let c : 0 * 10 + n ≡ n = omega arith in rw b (decimal_step m text at 0 n (here text at e) h ∙ rw c))
    go false t ih =
        rw (decimals-more k n (ltb-false n 10 t))
        (λ a e.
        let f : drop at text ≡ decimals_of k (n / 10) ++ ((48 + n % 10) ∷ rest) = e ∙ append_assoc (decimals_of k (n / 10)) ((48 + n % 10) ∷ []) rest in
        let b = length-append (decimals_of k (n / 10)) ((48 + n % 10) ∷ []) in
        let p : at + length (decimals_of k (n / 10)) + 1 ≡ at + length (decimals_of k (n / 10) ++ ((48 + n % 10) ∷ [])) = omega arith in
        let q : n / 10 * 10 + n % 10 ≡ n = omega arith in
        ih (omega arith) f ∙ decimal_step m text (at + length (decimals_of k (n / 10))) (n / 10) (n % 10) (here text (at + length (decimals_of k (n / 10))) (past text at (decimals_of k (n / 10)) f)) (omega arith) ∙ rw (p, q))

-- no leading zero
decimals-first : (k n : ℕ) (rest : List ℕ) → 0 < n → n < 10 ^ k → 48 < byte_at (decimals_of k n ++ rest) 0
decimals-first zero n rest p l = absurd (omega arith)
decimals-first (suc k) n rest p l = go (ltb n 10) refl (decimals-first k (n / 10) ((48 + n % 10) ∷ rest))
  where
    go : (t : Bool) → ltb n 10 ≡ t → (0 < n / 10 → n / 10 < 10 ^ k → 48 < byte_at (decimals_of k (n / 10) ++ ((48 + n % 10) ∷ rest)) 0) → 48 < byte_at (decimals_of (suc k) n ++ rest) 0
    go true t ih = rw (decimals-one k n (ltb-true n 10 t)) (omega arith)
    go false t ih =
        let h = ltb-false n 10 t in
        rw (decimals-more k n h, append_assoc (decimals_of k (n / 10)) ((48 + n % 10) ∷ []) rest) (ih (omega arith) (omega arith))

-- a space or an LF is no digit
decimal-end : (m : ℕ) (text : List ℕ) (at v r : ℕ) → byte_at text at ≡ stop_of r → decimal_from m text at v ≡ span_of v at
unfolding decimal_from stop_of digit_of
decimal-end zero text at v r e = refl
decimal-end (suc m) text at v zero e = rw e
decimal-end (suc m) text at v (suc r) e = rw e

natural-zero : (text : List ℕ) (at : ℕ) (rest : List ℕ) → drop at text ≡ decimals_of 4 0 ++ rest → natural_at text at ≡ Some (span_of 0 (at + length (decimals_of 4 0)))
unfolding natural_at decimals_of
natural-zero text at rest e = rw (here text at e)

-- a number that is not 0 has a first digit
read-some : (text : List ℕ) (at n q : ℕ) → 0 < n → decimal_from 4 text at 0 ≡ span_of n q → cond (leb 10 (digit_of (byte_at text at))) None (Some (decimal_from 4 text at 0)) ≡ Some (span_of n q)
unfolding decimal_from
read-some text at n q p = go (leb 10 (digit_of (byte_at text at))) (decimal_from 3 text (at + 1) (0 * 10 + digit_of (byte_at text at)))
  where
    go : (b : Bool) (s : Span ℕ) → cond b (span_of 0 at) s ≡ span_of n q → cond b None (Some (cond b (span_of 0 at) s)) ≡ Some (span_of n q)
    go true s e = let z : 0 ≡ n = ap (λ (t : Span ℕ). t.value) e in absurd (omega arith)
    go false s e = ap (λ (t : Span ℕ). Some t) e

natural-more : (n : ℕ) (text : List ℕ) (at r : ℕ) (rest : List ℕ) → 0 < n → n < 10000 → drop at text ≡ decimals_of 4 n ++ (stop_of r ∷ rest) → natural_at text at ≡ Some (span_of n (at + length (decimals_of 4 n)))
unfolding natural_at
natural-more n text at r rest p l e =
    let f = decimals-first 4 n (stop_of r ∷ rest) p l in
    let g = first text at e in
    let b = decimals-length 4 n in
    rw (ne_eqb (byte_at text at) 48 (λ z. omega arith))
    (read-some text at n (at + length (decimals_of 4 n)) p
    (decimals-from 4 (4 - length (decimals_of 4 n)) 4 n text at (stop_of r ∷ rest) l (omega arith) e
    ∙ decimal-end (4 - length (decimals_of 4 n)) text (at + length (decimals_of 4 n)) n r (here text (at + length (decimals_of 4 n)) (past text at (decimals_of 4 n) e))))

natural-read : (n : ℕ) (text : List ℕ) (at r : ℕ) (rest : List ℕ) → n < 10000 → drop at text ≡ decimals_of 4 n ++ (stop_of r ∷ rest) → natural_at text at ≡ Some (span_of n (at + length (decimals_of 4 n)))
natural-read zero text at r rest l e = natural-zero text at (stop_of r ∷ rest) e
natural-read (suc n) text at r rest l e = natural-more (suc n) text at r rest (omega arith) l e

-- its first byte is a digit, and there is one
decimals-digit : (n : ℕ) (rest : List ℕ) → n < 10000 → 48 ≤ byte_at (decimals_of 4 n ++ rest) 0
decimals-digit zero rest l = unfold decimals_of in (omega arith)
decimals-digit (suc n) rest l = omega (arith, decimals-first 4 (suc n) rest (omega arith) l)

pub decimals-some : (k n : ℕ) → 0 < length (decimals_of (suc k) n)
unfolding decimals_of
decimals-some k n = go (ltb n 10)
  where
    go : (t : Bool) → 0 < length (cond t ((48 + n) ∷ []) (decimals_of k (n / 10) ++ ((48 + n % 10) ∷ [])))
    go true = omega arith
    go false = omega (arith, length-append (decimals_of k (n / 10)) ((48 + n % 10) ∷ []))

pub whole-read : (cell : ℕ) (text : List ℕ) (at r : ℕ) (rest : List ℕ) → 0 < cell → cell < 20000 → drop at text ≡ whole_of cell ++ (stop_of r ∷ rest) → whole_at text at ≡ Some (span_of cell (at + length (whole_of cell)))
unfolding whole_of whole_at
whole-read cell text at r rest p l = go (ltb cell 10000) refl
  where
    go : (t : Bool) → ltb cell 10000 ≡ t → drop at text ≡ cond t (45 ∷ decimals_of 4 (10000 - cell)) (decimals_of 4 (cell - 10000)) ++ (stop_of r ∷ rest)
        → cond (eqb (byte_at text at) 45) (negative (natural_at text (at + 1))) (positive (natural_at text at)) ≡ Some (span_of cell (at + length (cond t (45 ∷ decimals_of 4 (10000 - cell)) (decimals_of 4 (cell - 10000)))))
    go true t e =
        let b = ltb-true cell 10000 t in
        let c : 10000 - (10000 - cell) ≡ cell = omega arith in
        let d : at + 1 + length (decimals_of 4 (10000 - cell)) ≡ at + suc (length (decimals_of 4 (10000 - cell))) = omega arith in
        rw (here text at e, natural-read (10000 - cell) text (at + 1) r rest (omega arith) (next text at e), ne_eqb (10000 - cell) 0 (λ z. omega arith), c, d)
    go false t e =
        let b = ltb-false cell 10000 t in
        let c : 10000 + (cell - 10000) ≡ cell = omega arith in
        let f = decimals-digit (cell - 10000) (stop_of r ∷ rest) (omega arith) in
        let g = first text at e in
        rw (ne_eqb (byte_at text at) 45 (λ z. omega arith), natural-read (cell - 10000) text at r rest (omega arith) e, c)
