-- A checksum over elements of 64 bits that depends on their order. Read `checksum_of` first.
use Rattle.std.specs.Prelude.{ℕ, ◌+◌, ◌*◌, ◌%◌, ◌^◌, List, map, fold, to_bits, Float}
use Rattle.std.specs.Float.{binary64}
use Rattle.std.specs.Int.{w64, rotate_left}

-- One element more: the sum's halves change places, so that its high bits reach all others; it is multiplied, and the element is added.
unfoldable pub mix_of : ℕ → ℕ → ℕ
mix_of sum element = (rotate_left w64 sum 32 * 0x9e37_79b1 + element) % 2 ^ 64

-- the checksum of all memory; of numbers the patterns are summed
unfoldable pub checksum_of : List ℕ → List Float → List ℕ → ℕ
checksum_of words numbers wants = fold mix_of (fold mix_of (fold mix_of 1 words) (map (to_bits binary64) numbers)) wants
