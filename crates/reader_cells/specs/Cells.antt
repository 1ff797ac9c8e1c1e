-- Document 01, "The job text": the cells of a line. "An f64 is its 16 lowercase hexadecimal digits; a whole number is decimal, up to 4 digits,
-- no leading zeros, `-` if negative. A word outside a column's listed ones is 1." Read `cell_at` first, at the end.
-- A cell ends where its digits or its word end; that a space or an LF stands there is the line's rule and is tested by the line.
use Rattle.std.specs.Prelude.{ℕ, zero, suc, ◌+◌, ◌-◌, ◌*◌, cond, List, Option, Some, None, leb, ltb, eqb}
pub use Rattle.reader_hex.specs.Hex.{byte_at}
unfoldable pub use Rattle.reader_hex.specs.Hex.{digit_of}
use Rattle.reader_schema.specs.declared.tables.Kind.TheVariants.{Number, Whole}
use Rattle.reader_schema.specs.Schema.{kind_by, word_count, place_of}
use Rattle.reader_cells.specs.declared.names.Span.{Span}

-- a value, and the place after it
abbrev pub span_of : ℕ → ℕ → Span ℕ
span_of v at = record { value = v; next = at }

-- A word: its bytes up to one that is at most 32 (a space, an LF, any control byte, or the end), at most eight, as one number, base 256. No byte of it is 0, so the number tells the word.
unfoldable pub name_from : ℕ → List ℕ → ℕ → ℕ → Span ℕ
name_from zero text at v = span_of v at
name_from (suc n) text at v =
    cond (leb (byte_at text at) 32) (span_of v at) (name_from n text (at + 1) (v * 256 + byte_at text at))

unfoldable pub name_span : List ℕ → ℕ → Span ℕ
name_span text at = name_from 8 text at 0

-- "decimal, up to 4 digits": at most n more of them
unfoldable pub decimal_from : ℕ → List ℕ → ℕ → ℕ → Span ℕ
decimal_from zero text at v = span_of v at
decimal_from (suc n) text at v =
    cond (leb 10 (digit_of (byte_at text at))) (span_of v at) (decimal_from n text (at + 1) (v * 10 + digit_of (byte_at text at)))

-- "no leading zeros": a number that begins with 0 is 0 and ends there; none that begins with no digit
unfoldable pub natural_at : List ℕ → ℕ → Option (Span ℕ)
natural_at text at =
    cond (eqb (byte_at text at) 48) (Some (span_of 0 (at + 1))) (cond (leb 10 (digit_of (byte_at text at))) None (Some (decimal_from 4 text at 0)))

-- A whole number n is kept as whole_bias + n: of "up to 4 digits" the sum is never negative, and it keeps the numbers' order.
abbrev pub whole_bias : ℕ
whole_bias = 10000

-- "`-` if negative": zero is not, so `-0` is broken
abbrev pub negative : Option (Span ℕ) → Option (Span ℕ)
negative (Some n) = cond (eqb n.value 0) None (Some (span_of (whole_bias - n.value) n.next))
negative None = None

abbrev pub positive : Option (Span ℕ) → Option (Span ℕ)
positive (Some n) = Some (span_of (whole_bias + n.value) n.next)
positive None = None

-- "a whole number is decimal, up to 4 digits, no leading zeros, `-` if negative"
unfoldable pub whole_at : List ℕ → ℕ → Option (Span ℕ)
whole_at text at = cond (eqb (byte_at text at) 45) (negative (natural_at text (at + 1))) (positive (natural_at text at))

-- "An f64 is its 16 lowercase hexadecimal digits": its bit pattern, kept as a number
unfoldable pub hex_from : ℕ → List ℕ → ℕ → ℕ → Option (Span ℕ)
hex_from zero text at v = Some (span_of v at)
hex_from (suc n) text at v =
    cond (leb 16 (digit_of (byte_at text at))) None (hex_from n text (at + 1) (v * 16 + digit_of (byte_at text at)))

unfoldable pub hex_at : List ℕ → ℕ → Option (Span ℕ)
hex_at text at = hex_from 16 text at 0

-- "A word outside a column's listed ones is 1": one of the list's words, kept as its place there, else broken
abbrev pub listed_in : ℕ → Span ℕ → Option (Span ℕ)
listed_in list w = cond (ltb (place_of list w.value) (word_count list)) (Some (span_of (place_of list w.value) w.next)) None

unfoldable pub listed_at : List ℕ → ℕ → ℕ → Option (Span ℕ)
listed_at text at list = listed_in list (name_span text at)

-- a cell by its column's kind: an f64, a whole number, else one of that list's words
unfoldable pub cell_at : List ℕ → ℕ → ℕ → Option (Span ℕ)
cell_at text at kind = cond (eqb kind (kind_by Number)) (hex_at text at) (cond (eqb kind (kind_by Whole)) (whole_at text at) (listed_at text at kind))
