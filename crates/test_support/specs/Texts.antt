-- The pieces of a text that is put together as lines say. Read `piece_of` first.
use Rattle.std.specs.Prelude.{ℕ, ◌-◌, Bool, ◌||◌, cond, List, [], ◌++◌, take, drop, ◌==◌}
use Rattle.std.specs.Int.{w64, to_be_bytes}
use Rattle.test_support.specs.declared.lines.Line.{Line}

-- the bytes from `first` up to `last` of a list, those of them that there are
unfoldable pub part_of : List ℕ → ℕ → ℕ → List ℕ
part_of from first last = take (last - first) (drop first from)

-- the eight bytes of a word, the most significant first
abbrev pub word_bytes : ℕ → List ℕ
word_bytes w = to_be_bytes w64 w

-- The bytes that a line appends: t the sixteen of its numbers, x so many low ones of the second as the first says, c those of another text from the
-- first up to the second; no other letter appends any
unfoldable pub piece_of : Line → List ℕ → List ℕ
piece_of line base =
    cond (line.letter == 116) (word_bytes line.a ++ word_bytes line.b)
    (cond (line.letter == 120) (drop (8 - line.a) (word_bytes line.b)) (cond (line.letter == 99) (part_of base line.a line.b) []))

-- whether a letter is one of the three
abbrev pub is_named : ℕ → Bool
is_named letter = letter == 116 || letter == 120 || letter == 99
