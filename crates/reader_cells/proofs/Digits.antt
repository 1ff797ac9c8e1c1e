-- Words and numbers, one byte at a time: a law for each way out of the loops that read them, and that one digit more fits 64 bits.
use Prim.Native.Nat.{ℕ, zero, suc, ◌+◌, ◌-◌, ◌*◌, ◌^◌, ◌<◌, ◌≤◌}
use mathlib.Core.Path.{◌≡◌, refl, sym, ap, ◌∙◌}
use mathlib.Core.Bool.{Bool, true, false, cond, ◌&&◌, and_assoc, and-true}
use mathlib.Core.List.{List}
use mathlib.Core.Logic.{inl, inr}
use native.Mathlib.Numerals.{add-one}
use native.Mathlib.Nat.{pow-suc, pow-le-pow_right, mul-le-mul_right, suc-mul}
use native.Mathlib.Omega.{arith}
use borrow.Author.Tests.{eq-eqb, ne_eqb, le-leb, lt-leb, le-ltb, lt-ltb, ltb-true, ltb-false}
use Rattle.std.specs.Char.{IsAsciiDigit, IsNotAsciiDigit}
use lib.Dec.{ltb, leb}
use Rattle.reader_cells.specs.Cells.{digit_of, byte_at, span_of, name_from, name_span, decimal_from, natural_at, hex_from, hex_at}
use Rattle.std.specs.Prelude.{Option, Some, None}
use Rattle.reader_cells.specs.declared.names.Span.{Span}
use Rattle.std.proofs.lemmas.Option.{none-some, cond_some}
use Rattle.reader_hex.specs.Hex.{digits_ok, digits_value, digits_at}

-- one digit more, at any base
pub more-below : (b n v d : ℕ) → v < b ^ n → d < b → v * b + d < b ^ (n + 1)
more-below b n v d k l =
    rw (add-one, pow-suc) (below (b ^ n) k)
  where
    below : (p : ℕ) → v < p → v * b + d < p * b
    below p q = let m : suc v * b ≤ p * b = mul-le-mul_right b q in omega (arith, m, suc-mul v b)

-- a word: byte n of eight at most
module _ (text : List ℕ) (from n v : ℕ) {b : ℕ} (e : b ≡ byte_at text (from + n)) (l : n < 8) where
  step : 8 - n ≡ suc (8 - (n + 1))
  step = omega arith

  pub name-stop : b ≤ 32 → name_from (8 - n) text (from + n) v ≡ span_of v (from + n)
  unfolding name_from
  name-stop h = rw (step, ← e, le-leb b 32 h)

  pub name-next : 32 < b → name_from (8 - n) text (from + n) v ≡ name_from (8 - (n + 1)) text (from + (n + 1)) (v * 256 + b)
  unfolding name_from
  name-next h =
      let q : from + n + 1 ≡ from + (n + 1) = omega arith in
      rw (step, ← e, lt-leb b 32 h, q)

pub name-whole : (text : List ℕ) (from n v : ℕ) → n ≤ 8 → 8 ≤ n → name_from (8 - n) text (from + n) v ≡ span_of v (from + 8)
unfolding name_from
name-whole text from n v g h = let e : n ≡ 8 = omega arith in rw e

pub name-is : (text : List ℕ) (from : ℕ) → name_span text from ≡ name_from (8 - 0) text (from + 0) 0
unfolding name_span
name-is text from = let z : from + 0 ≡ from = omega arith in rw z

-- the value of a decimal digit; any other byte is worth ten or more
pub decimal_digit : (b : ℕ) → IsAsciiDigit b → (b - 48 ≡ digit_of b) × (b - 48 < 10)
unfolding digit_of
decimal_digit b r = (rw (le-ltb b 48 r.0, le-leb b 57 r.1), omega (arith, r.0, r.1))

past_nine : (b : ℕ) → 57 < b → 10 ≤ digit_of b
unfolding digit_of
past_nine b h = let l : 48 ≤ b = omega arith in rw (le-ltb b 48 l, lt-leb b 57 h) (letter (ltb b 97) refl (leb b 102))
  where
    letter : (t : Bool) → ltb b 97 ≡ t → (u : Bool) → 10 ≤ cond t 16 (cond u (b - 87) 16)
    letter true e u = omega arith
    letter false e true = let l : 97 ≤ b = ltb-false b 97 e in omega arith
    letter false e false = omega arith

pub no_decimal : (b : ℕ) → IsNotAsciiDigit b → 10 ≤ digit_of b
unfolding digit_of
no_decimal b (inl l) = rw (lt-ltb b 48 l) (omega arith)
no_decimal b (inr h) = past_nine b h

-- a decimal number: digit n of four at most
module _ (text : List ℕ) (from n v : ℕ) {b d : ℕ} (e : b ≡ byte_at text (from + n)) (f : d ≡ digit_of b) (l : n < 4) where
  step4 : 4 - n ≡ suc (4 - (n + 1))
  step4 = omega arith

  pub decimal-stop : 10 ≤ d → decimal_from (4 - n) text (from + n) v ≡ span_of v (from + n)
  unfolding decimal_from
  decimal-stop h = rw (step4, ← e, ← f, le-leb 10 d h)

  pub decimal-next : d < 10 → decimal_from (4 - n) text (from + n) v ≡ decimal_from (4 - (n + 1)) text (from + (n + 1)) (v * 10 + d)
  unfolding decimal_from
  decimal-next h =
      let q : from + n + 1 ≡ from + (n + 1) = omega arith in
      rw (step4, ← e, ← f, lt-leb 10 d h, q)

pub decimal-whole : (text : List ℕ) (from n v : ℕ) → n ≤ 4 → 4 ≤ n → decimal_from (4 - n) text (from + n) v ≡ span_of v (from + 4)
unfolding decimal_from
decimal-whole text from n v g h = let e : n ≡ 4 = omega arith in rw e

module _ (text : List ℕ) (from : ℕ) {b : ℕ} (e : b ≡ byte_at text from) where
  pub natural-zero : b ≡ 48 → natural_at text from ≡ Some (span_of 0 (from + 1))
  unfolding natural_at
  natural-zero h = rw (← e, eq-eqb b 48 h)

  module _ {d : ℕ} (f : d ≡ digit_of b) where
    pub natural-none : (b ≡ 48 → ⊥) → 10 ≤ d → natural_at text from ≡ None
    unfolding natural_at
    natural-none h l = rw (← e, ← f, ne_eqb b 48 h, le-leb 10 d l)

    pub natural-is : (b ≡ 48 → ⊥) → d < 10 → natural_at text from ≡ Some (decimal_from (4 - 0) text (from + 0) 0)
    unfolding natural_at
    natural-is h l = let z : from + 0 ≡ from = omega arith in rw (← e, ← f, ne_eqb b 48 h, lt-leb 10 d l, z)

-- an f64: its digits from the first on are its digits from the last on
-- one digit more at the other end
power-more : (p d x y : ℕ) → (d * p + x) * 16 + y ≡ d * (p * 16) + (x * 16 + y)
power-more p d x y = grind arith

power-front : (p v d x : ℕ) → (v * 16 + d) * p + x ≡ v * (p * 16) + (d * p + x)
power-front p v d x = grind arith

-- a digit, then what the others lead to
by-digit : (d : ℕ) (o : Bool) (x : Option (Span ℕ)) {w : Option (Span ℕ)} → w ≡ cond o x None → cond (leb 16 d) None w ≡ cond (ltb d 16 && o) x None
by-digit d o x {w} e = go (ltb d 16) refl
  where
    go : (t : Bool) → ltb d 16 ≡ t → cond (leb 16 d) None w ≡ cond (t && o) x None
    go true q = rw (lt-leb 16 d (ltb-true d 16 q)) e
    go false q = rw (le-leb 16 d (ltb-false d 16 q))

module _ (text : List ℕ) where
  ok-front : (n at : ℕ) → digits_ok text at (suc n) ≡ ltb (digit_of (byte_at text at)) 16 && digits_ok text (at + 1) n
  unfolding digits_ok digit_of
  ok-front zero at = let z : at + 0 ≡ at = omega arith in rw (z, and-true (ltb (digit_of (byte_at text at)) 16))
  ok-front (suc n) at =
      let q : at + suc n ≡ at + 1 + n = omega arith in
      rw (ok-front n at, q) (and_assoc (ltb (digit_of (byte_at text at)) 16) (digits_ok text (at + 1) n) (ltb (digit_of (byte_at text (at + 1 + n))) 16))

  value-front : (n at : ℕ) → digits_value text at (suc n) ≡ digit_of (byte_at text at) * 16 ^ n + digits_value text (at + 1) n
  unfolding digits_value digit_of
  value-front zero at = let z : at + 0 ≡ at = omega arith in rw z (omega arith)
  value-front (suc n) at =
      let q : at + suc n ≡ at + 1 + n = omega arith in
      rw (value-front n at, q, pow-suc) (power-more (16 ^ n) (digit_of (byte_at text at)) (digits_value text (at + 1) n) (digit_of (byte_at text (at + 1 + n))))

  abbrev read : ℕ → ℕ → ℕ → Option (Span ℕ)
  read n at v = Some (span_of (v * 16 ^ n + digits_value text at n) (at + n))

  hex-none : (at v : ℕ) → hex_from 0 text at v ≡ cond (digits_ok text at 0) (read 0 at v) None
  unfolding hex_from digits_ok digits_value
  hex-none at v =
      let e : at + 0 ≡ at = omega arith in
      let f : v * 1 + 0 ≡ v = omega arith in
      rw (e, f)

  read-next : (n at v : ℕ) → read n (at + 1) (v * 16 + digit_of (byte_at text at)) ≡ read (suc n) at v
  read-next n at v =
      let q : at + 1 + n ≡ at + suc n = omega arith in
      rw (q, value-front n at, pow-suc, power-front (16 ^ n) v (digit_of (byte_at text at)) (digits_value text (at + 1) n))

  pub hex-digits : (n at v : ℕ) → hex_from n text at v ≡ cond (digits_ok text at n) (read n at v) None
  unfolding hex_from
  hex-digits zero at v = hex-none at v
  hex-digits (suc n) at v =
      rw (ok-front n at)
      (by-digit (digit_of (byte_at text at)) (digits_ok text (at + 1) n) (read (suc n) at v) (hex-digits n (at + 1) (v * 16 + digit_of (byte_at text at)) ∙ ap (λ (x : Option (Span ℕ)). cond (digits_ok text (at + 1) n) x None) (read-next n at v)))

-- an f64, by the number of its sixteen digits
module _ (text : List ℕ) (at : ℕ) where
  pub hex-broken : digits_at 16 text at ≡ None → None ≡ hex_at text at
  unfolding digits_at hex_at
  hex-broken e = rw (hex-digits text 16 at 0) (go (digits_ok text at 16) (digits_value text at 16) _ e)
    where
      go : (b : Bool) (v : ℕ) (x : Option (Span ℕ)) → cond b (Some v) None ≡ None → None ≡ cond b x None
      go true v x f = absurd (none-some v (sym f))
      go false v x f = refl

  pub hex-read : {v : ℕ} → digits_at 16 text at ≡ Some v → Some (span_of v (at + 16)) ≡ hex_at text at
  unfolding digits_at hex_at
  hex-read {v} e =
      let p = cond_some (digits_ok text at 16) (digits_value text at 16) v e in
      let z : 0 * 16 ^ 16 + v ≡ v = omega arith in
      rw (hex-digits text 16 at 0, p.0, p.1, z)

-- a digit more fits in 64 bits
pub fits : (b n m v d : ℕ) → n < m → 0 < b → b ^ m ≤ 2 ^ 64 → v < b ^ n → d < b → v * b + d < 2 ^ 64
fits b n m v d h o top k l =
    let p : b ^ (n + 1) ≤ b ^ m = pow-le-pow_right o (omega arith) in
    let q = more-below b n v d k l in
    omega (arith, p, q, top)
