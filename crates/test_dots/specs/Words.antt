-- A line of the list: a letter, then words, each a space and sixteen hexadecimal digits. Read `word_in` and `words_in` first.
use Rattle.std.specs.Prelude.{ℕ, zero, suc, ◌+◌, ◌*◌, ◌/◌, ◌%◌, cond, ◌&&◌, List, [], ◌∷◌, ◌++◌, length, map, Option, Some, None, ◌==◌, from_bits, nat_le, Float}
use Rattle.std.specs.Float.{binary64}
use Rattle.reader_hex.specs.Hex.{byte_at, digits_at}

-- the i-th word, with its space before it; none where it is broken
unfoldable pub word_in : List ℕ → ℕ → Option ℕ
unfolding digits_at
word_in line i = cond (byte_at line (i * 17 + 1) == 32) (digits_at 16 line (i * 17 + 2)) None

abbrev pub and_then : Option (List ℕ) → Option ℕ → Option (List ℕ)
and_then (Some xs) (Some x) = Some (xs ++ x ∷ [])
and_then (Some xs) None = None
and_then None x = None

-- the first n words, if none is broken
unfoldable pub first_words : List ℕ → ℕ → Option (List ℕ)
unfolding word_in
first_words line zero = Some []
first_words line (suc n) = and_then (first_words line n) (word_in line n)

-- how many a line has at most
abbrev pub most_words : ℕ
most_words = 700

-- the words of a line that is a letter and words, and nothing else
unfoldable pub words_in : List ℕ → Option (List ℕ)
unfolding first_words
words_in line = cond (length line % 17 == 1 && nat_le (length line / 17) most_words) (first_words line (length line / 17)) None

-- the f64 of each word
abbrev pub numbers_in : List ℕ → List Float
numbers_in row = map (λ n. from_bits binary64 n) row
