-- A text of at most `room` bytes.
use Rattle.std.specs.Prelude.{ℕ, List, ◌++◌, take}

-- a piece behind a text; what does not fit is left off
unfoldable pub appended : ℕ → List ℕ → List ℕ → List ℕ
appended room text piece = take room (text ++ piece)
