-- The place after a byte that has to stand at a place.
use Rattle.std.specs.Prelude.{ℕ, ◌+◌, cond, List, Option, Some, None, eqb}
use Rattle.reader_cells.specs.Cells.{byte_at}

abbrev pub place_after : List ℕ → ℕ → ℕ → Option ℕ
place_after text at byte = cond (eqb (byte_at text at) byte) (Some (at + 1)) None
