-- Lowercase hexadecimal digits, and a number of some of them.
use Rattle.std.specs.Prelude.{ℕ, zero, suc, ◌+◌, ◌-◌, ◌*◌, Bool, true, ◌&&◌, cond, List, Option, Some, None, get_or, length, leb, ltb, eqb}

-- the value of a digit, 0-9 or a-f; 16 for any other byte
unfoldable pub digit_of : ℕ → ℕ
digit_of b =
    cond (ltb b 48) 16 (cond (leb b 57) (b - 48) (cond (ltb b 97) 16 (cond (leb b 102) (b - 87) 16)))

-- a text past its end has the byte 0, which is no digit, no space and no LF
abbrev pub byte_at : List ℕ → ℕ → ℕ
byte_at text i = get_or text i 0

-- whether the n bytes from a place on are digits, and the number that they stand for
unfoldable pub digits_ok : List ℕ → ℕ → ℕ → Bool
unfolding digit_of
digits_ok text at zero = true
digits_ok text at (suc n) = digits_ok text at n && ltb (digit_of (byte_at text (at + n))) 16

unfoldable pub digits_value : List ℕ → ℕ → ℕ → ℕ
unfolding digit_of
digits_value text at zero = 0
digits_value text at (suc n) = digits_value text at n * 16 + digit_of (byte_at text (at + n))

-- the number of n digits at a place; none where a byte is no digit
unfoldable pub digits_at : ℕ → List ℕ → ℕ → Option ℕ
unfolding digits_ok digits_value
digits_at n text at = cond (digits_ok text at n) (Some (digits_value text at n)) None

-- the number of sixteen digits at a place, with a given byte after it
unfoldable pub word_within : List ℕ → ℕ → ℕ → Option ℕ
unfolding digits_ok digits_value
word_within text at stop =
    cond (digits_ok text at 16 && eqb (byte_at text (at + 16)) stop) (Some (digits_value text at 16)) None

-- the number of sixteen digits at any place, with a given byte after it; none where the text ends before that byte
unfoldable pub sixteen_before : List ℕ → ℕ → ℕ → Option ℕ
sixteen_before text at stop = cond (ltb (at + 16) (length text)) (word_within text at stop) None
