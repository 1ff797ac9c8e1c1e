-- Hexadecimal digits, one at a time: each more multiplies the number by sixteen, and the first byte that is none breaks the word.
use Prim.Native.Nat.{ℕ, zero, suc, ◌+◌, ◌*◌, ◌^◌, ◌<◌, ◌≤◌}
use Prim.Native.Nat.{◌-◌}
use mathlib.Core.Path.{◌≡◌, refl, sym, ap, ◌∙◌}
use mathlib.Core.Bool.{Bool, true, false, ◌&&◌, cond}
use mathlib.Core.List.{List}
use mathlib.Core.Logic.{⊎_elim}
use native.Mathlib.Numerals.{add-one}
use native.Mathlib.Nat.{pow-suc, pow-le-pow_right, le_of_suc-le-suc, eq-or-lt_of_le}
use native.Mathlib.Omega.{arith}
use lib.Dec.{ltb, eqb}
use lib.ListN.{length, get_or, drop, get_or-eq_default}
use borrow.Author.Tests.{lt-ltb, le-ltb, ltb-true, ltb-false}
use Rattle.std.specs.Bool.{then_some}
use Rattle.std.specs.Prelude.{Option, Some, None}
use Rattle.std.specs.Array.{IsFirstChunk}
use Rattle.std.specs.List.{slice_range}
use Rattle.std.proofs.lemmas.List.{get_or-take, get_or-drop}
use Rattle.std.proofs.lemmas.Option.{none-some, cond_some}
use Rattle.reader_hex.specs.Hex.{digit_of, byte_at, digits_ok, digits_value, digits_at, word_within, sixteen_before}

and-false : (a : Bool) → a && false ≡ false
and-false true = refl
and-false false = refl

-- one digit more than n < 16 fits a u64
pub more-fits : (n v d : ℕ) → n < 16 → v < 16 ^ n → d < 16 → v * 16 + d < 2 ^ 64
more-fits n v d h k l =
    let o : 0 < 16 = omega arith in
    let q : n ≤ 15 = omega arith in
    let p : 16 ^ n ≤ 16 ^ 15 = pow-le-pow_right o q in
    omega arith

pub more-below : (n v d : ℕ) → v < 16 ^ n → d < 16 → v * 16 + d < 16 ^ (n + 1)
more-below n v d k l = rw (add-one, pow-suc) (omega arith)

module _ (text : List ℕ) (at : ℕ) where
  -- the first n bytes of the text from a place on
  pub part-digit : (n i : ℕ) {rest word : List ℕ} {d : ℕ} → (rest ≡ slice_range text at (length text)) × (length rest + at ≡ length text) → IsFirstChunk rest word n → i < n → d ≡ digit_of (get_or word i 0) → d ≡ digit_of (byte_at text (at + i))
  part-digit n i {rest} {word} h w l e = e ∙ ap digit_of (rw (w.same, get_or-take n rest i 0 l, h.0, get_or-take (length text - at) (drop at text) i 0 inside) (get_or-drop at text i 0))
    where
      inside : i < length text - at
      inside = omega (arith, h.1, w.enough, l)

  pub digits-none : digits_ok text at 0 ≡ true
  unfolding digits_ok
  digits-none = refl

  pub value_none : 0 ≡ digits_value text at 0
  unfolding digits_value
  value_none = refl

  module _ (n : ℕ) {d : ℕ} (f : d ≡ digit_of (byte_at text (at + n))) where
    pub digits_more : digits_ok text at n ≡ true → d < 16 → digits_ok text at (n + 1) ≡ true
    unfolding digits_ok
    digits_more h k = rw (add-one, h, ← f, lt-ltb d 16 k)

    pub value-more : {v : ℕ} → v ≡ digits_value text at n → v * 16 + d ≡ digits_value text at (n + 1)
    unfolding digits_value
    value-more h = rw (add-one, ← h, ← f)

    pub digits-stop : 16 ≤ d → digits_ok text at (suc n) ≡ false
    unfolding digits_ok
    digits-stop k = rw (← f, le-ltb d 16 k) (and-false (digits_ok text at n))

  pub digits-keep : (m n : ℕ) → m ≤ n → digits_ok text at m ≡ false → digits_ok text at n ≡ false
  unfolding digits_ok
  digits-keep m zero l h = rw (zero-only m l) at h
    where
      zero-only : (k : ℕ) → k ≤ 0 → k ≡ 0
      zero-only k q = omega arith
  digits-keep m (suc n) l h =
      ⊎_elim
      (λ e. rw e at h)
      (λ lt. rw (digits-keep m n (le_of_suc-le-suc lt) h))
      (eq-or-lt_of_le l)

  -- a byte that is none among the first n
  pub digits-broken : (m n : ℕ) {d : ℕ} → d ≡ digit_of (byte_at text (at + m)) → m < n → 16 ≤ d → None ≡ digits_at n text at
  unfolding digits_at
  digits-broken m n f l k = rw (digits-keep (suc m) n l (digits-stop m f k))

  -- a text that ends within them: the byte past its end is no digit
  pub digits-short : (n : ℕ) → 0 < n → length text < at + n → None ≡ digits_at n text at
  unfolding digit_of
  digits-short n o h = digits-broken (n - 1) n refl (omega (arith, o)) (past (omega (arith, h, o)))
    where
      past : length text ≤ at + (n - 1) → 16 ≤ digit_of (byte_at text (at + (n - 1)))
      past l = rw (get_or-eq_default text 0 l) (omega arith)

  pub digits-all : (n : ℕ) {v : ℕ} → digits_ok text at n ≡ true → v ≡ digits_value text at n → Some v ≡ digits_at n text at
  unfolding digits_at
  digits-all n e f = rw (e, f)

  pub digits-inside : (n : ℕ) {v : ℕ} → 0 < n → digits_at n text at ≡ Some v → at + n ≤ length text
  digits-inside n {v} o e = go (ltb (length text) (at + n)) refl
    where
      go : (b : Bool) → ltb (length text) (at + n) ≡ b → at + n ≤ length text
      go true q = absurd (none-some v (digits-short n o (ltb-true (length text) (at + n) q) ∙ e))
      go false q = ltb-false (length text) (at + n) q

-- sixteen digits and the byte after them
module _ (text : List ℕ) (at stop : ℕ) where
  pub word-none : digits_at 16 text at ≡ None → None ≡ sixteen_before text at stop
  unfolding digits_at sixteen_before word_within
  word-none = go (digits_value text at 16) (digits_ok text at 16) (ltb (at + 16) (length text)) (eqb (byte_at text (at + 16)) stop)
    where
      go : (v : ℕ) (a b c : Bool) → cond a (Some v) None ≡ None → None ≡ cond b (cond (a && c) (Some v) None) None
      go v true b c e = absurd (none-some v (sym e))
      go v false true c e = refl
      go v false false c e = refl

  pub word-outside : length text ≤ at + 16 → None ≡ sixteen_before text at stop
  unfolding sixteen_before
  word-outside h = rw (le-ltb (at + 16) (length text) h)

  module _ {v b : ℕ} (e : digits_at 16 text at ≡ Some v) (h : at + 16 < length text) (f : b ≡ byte_at text (at + 16)) where
    all : (digits_ok text at 16 ≡ true) × (digits_value text at 16 ≡ v)
    unfolding digits_at
    all = cond_some (digits_ok text at 16) (digits_value text at 16) v e

    -- the byte after them is tested
    pub word-closed : {r : Option ℕ} → r ≡ then_some (eqb b stop) v → r ≡ sixteen_before text at stop
    unfolding sixteen_before word_within
    word-closed g = rw (lt-ltb (at + 16) (length text) h, all.0, ← f, all.1) (g ∙ some (eqb b stop))
      where
        some : (c : Bool) → then_some c v ≡ cond c (Some v) None
        some true = refl
        some false = refl
