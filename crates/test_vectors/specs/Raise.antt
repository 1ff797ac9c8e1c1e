-- A signed number as a word.
use Rattle.std.specs.Prelude.{ℕ, ◌+◌, ◌-◌, ◌^◌, ℤ, pos, negsuc}

-- n + 2^63, for an n of 64 bits
unfoldable pub raised_of : ℤ → ℕ
raised_of (pos n) = n + 2 ^ 63
raised_of (negsuc n) = 2 ^ 63 - 1 - n
