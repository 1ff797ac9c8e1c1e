-- A line of a list of cases: a letter, a space, 16 digits, a space, 16 digits, LF. Read `line_of` first.
use Rattle.std.specs.Prelude.{ℕ, cond, List, length, ◌==◌, nat_le, Option, Some, None}
use Rattle.reader_hex.specs.Hex.{byte_at, sixteen_before}
use Rattle.test_support.specs.declared.lines.Line.{Line}

-- a letter and two numbers
abbrev pub line_with : ℕ → Option ℕ → Option ℕ → Option Line
line_with letter (Some a) (Some b) = Some (record { letter = letter; a = a; b = b })
line_with letter (Some a) None = None
line_with letter None b = None

-- the line that a list begins with, if it has the form
unfoldable pub line_of : List ℕ → Option Line
line_of list =
    cond (nat_le 36 (length list))
    (cond (byte_at list 1 == 32) (line_with (byte_at list 0) (sixteen_before list 2 32) (sixteen_before list 19 10)) None)
    None
