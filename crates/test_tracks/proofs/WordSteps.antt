-- The words of a line, one more a turn; and the number of eight digits fits 32 bits.
use Rattle.std.proofs.Common.{◌≡◌, ℕ, zero, suc, ◌+◌, ◌*◌, ◌/◌, ◌%◌, ◌^◌, ◌<◌, ◌≤◌, Bool, true, false, cond, ◌&&◌, List, length, ◌++◌, [], ◌∷◌, refl, sym, ap, ◌∙◌, arith, ne_eqb, eq-eqb, leb-true}
use borrow.Author.Tests.{ltb-true, ltb-false}
use Rattle.std.specs.declared.option.Option.{Option}
use Rattle.std.specs.declared.option.Option.TheVariants.{None, Some}
use Rattle.records_lent.proofs.TestLaws.{and-fst, and-snd}
use lib.Dec.{ltb, leb, eqb}
use Rattle.reader_hex.proofs.HexDigits.{more-below}
use Rattle.reader_hex.specs.Hex.{digit_of, byte_at, digits_ok, digits_value, digits_at}
use Rattle.test_tracks.specs.Words.{word_in, and_then, first_words, most_words, words_in}

abbrev number : Option ℕ → ℕ
number None = 0
number (Some x) = x

module _ (line : List ℕ) (at : ℕ) where
  below : (n : ℕ) → digits_ok line at n ≡ true → digits_value line at n < 16 ^ n
  unfolding digits_ok digits_value
  below zero e = omega arith
  below (suc n) e =
      let d = digit_of (byte_at line (at + n)) in
      let l = more-below n (digits_value line at n) d (below n (and-fst (digits_ok line at n) (ltb d 16) e)) (ltb-true d 16 (and-snd (digits_ok line at n) (ltb d 16) e)) in
      let s : n + 1 ≡ suc n = omega arith in
      rw s at l

  pub eight_fit : {v : ℕ} → digits_at 8 line at ≡ Some v → v < 2 ^ 32
  unfolding digits_at
  eight_fit {v} e = go (digits_ok line at 8) refl e
    where
      go : (b : Bool) → digits_ok line at 8 ≡ b → cond b (Some (digits_value line at 8)) None ≡ Some v → v < 2 ^ 32
      go true f g = let l = below 8 f in let h = ap number g in omega arith
      go false f g = let h = ap number g in omega arith

module _ (line : List ℕ) where
  none-after : (o : Option (List ℕ)) → and_then o None ≡ None
  none-after None = refl
  none-after (Some xs) = refl

  -- one that is broken breaks the line
  pub first_none : (i n : ℕ) → i < n → word_in line i ≡ None → first_words line n ≡ None
  unfolding first_words
  first_none i zero l e = absurd (omega arith)
  first_none i (suc n) l e = go (ltb i n) refl (first_none i n)
    where
      go : (b : Bool) → ltb i n ≡ b → (i < n → word_in line i ≡ None → first_words line n ≡ None) → and_then (first_words line n) (word_in line n) ≡ None
      go true f before = ap (λ (o : Option (List ℕ)). and_then o (word_in line n)) (before (ltb-true i n f) e)
      go false f before =
          let same : n ≡ i = (let h = ltb-false i n f in omega arith) in
          ap (λ (k : ℕ). and_then (first_words line n) (word_in line k)) same ∙ ap (λ (o : Option ℕ). and_then (first_words line n) o) e ∙ none-after (first_words line n)

  pub none_of : (i : ℕ) → i < length line / 9 → word_in line i ≡ None → None ≡ words_in line
  unfolding words_in
  none_of i l e = go (eqb (length line % 9) 1 && leb (length line / 9) most_words) (first_none i (length line / 9) l e)
    where
      go : (b : Bool) → first_words line (length line / 9) ≡ None → None ≡ cond b (first_words line (length line / 9)) None
      go true f = sym f
      go false f = refl

  pub first_next : (i : ℕ) {x : ℕ} {xs ys : List ℕ} → Some xs ≡ first_words line i → word_in line i ≡ Some x → ys ≡ xs ++ x ∷ [] → Some ys ≡ first_words line (suc i)
  unfolding first_words
  first_next i h e f = rw (f, ← h, e)

  pub all_words : {xs : List ℕ} → eqb (length line % 9) 1 && leb (length line / 9) most_words ≡ true → Some xs ≡ first_words line (length line / 9) → Some xs ≡ words_in line
  unfolding words_in
  all_words e h = rw (e, ← h)

  pub few_words : eqb (length line % 9) 1 && leb (length line / 9) most_words ≡ true → length line / 9 ≤ 1600
  few_words e = leb-true (length line / 9) most_words (and-snd (eqb (length line % 9) 1) (leb (length line / 9) most_words) e)

  pub no_line : eqb (length line % 9) 1 && leb (length line / 9) most_words ≡ false → None ≡ words_in line
  unfolding words_in
  no_line e = rw e

  pub first_start : {xs : List ℕ} → xs ≡ [] → Some xs ≡ first_words line 0
  unfolding first_words
  first_start e = ap (λ (ys : List ℕ). Some ys) e

  module _ (i : ℕ) where
    pub no_space : (byte_at line (i * 9 + 1) ≡ 32 → ⊥) → None ≡ word_in line i
    unfolding word_in
    no_space h = rw (ne_eqb (byte_at line (i * 9 + 1)) 32 h)

    pub spaced : {o : Option ℕ} → byte_at line (i * 9 + 1) ≡ 32 → o ≡ digits_at 8 line (i * 9 + 1 + 1) → o ≡ word_in line i
    unfolding word_in
    spaced h e = let s : i * 9 + 1 + 1 ≡ i * 9 + 2 = omega arith in rw (eq-eqb (byte_at line (i * 9 + 1)) 32 h, e, s)
