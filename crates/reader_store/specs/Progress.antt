-- What is remembered from line to line: whether all was right so far, the parent of the last line, and the strips' own order.
-- Document 01: "Lines of a child table follow their parents' order", and strips come in any order, each pair (side, place) once.
use Rattle.std.specs.Prelude.{ℕ, ◌+◌, ◌*◌, ◌%◌, true, false, List, Option, Some, None, get_or, set, replicate}
use Rattle.reader_store.specs.declared.progress.Progress.{Progress}

-- A cell of a column of two words is 0 or 1, its place in their list. The remainder changes no such cell; it bounds what is said of any other number.
abbrev pub bit_in : ℕ → ℕ
bit_in cell = cell % 2

-- the number of a strip: left inner 0, left outer 1, right inner 2, right outer 3
abbrev pub strip_of : ℕ → ℕ → ℕ
strip_of side place = bit_in side * 2 + bit_in place

-- the line of a strip in the strip table, counted from 0, if it has one
abbrev pub strip_line : List (Option ℕ) → ℕ → Option ℕ
strip_line strips strip = get_or strips strip None

-- the strips' lines with one noted for a strip
abbrev pub listed_as : List (Option ℕ) → ℕ → ℕ → List (Option ℕ)
listed_as strips strip line = set strips strip (Some line)

-- before the first line of a text
abbrev pub start_progress : Progress
start_progress = record { sound = true; last = 0; strips = replicate 4 None }

-- after a line that is out of its order or has no parent: 3, once every line's form has been tested
abbrev pub unsound_progress : Progress → Progress
unsound_progress progress = record { sound = false; last = progress.last; strips = progress.strips }

-- after a table: the next one's parents begin anew
abbrev pub ended_progress : Progress → Progress
ended_progress progress = record { sound = progress.sound; last = 0; strips = progress.strips }
