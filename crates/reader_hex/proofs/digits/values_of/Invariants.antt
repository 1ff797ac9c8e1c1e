-- The invariant: the values so far are those of the word's bytes, and the others are the bytes still.
use Rattle.std.proofs.Common.{◌≡◌, ℕ, ◌<◌, ◌≤◌, length, get_or}
use Rattle.reader_hex.specs.Hex.{digit_of}
use Rattle.reader_hex.proofs.digits.values_of.Given as goal

abbrev pub invariant-loop-value : goal.invariant-loop-value
invariant-loop-value g l = (length l.value-items ≡ g.row.N) × ((i : ℕ) → i < l.value-index → get_or l.value-items i 0 ≡ digit_of (get_or l.word i 0)) × ((i : ℕ) → l.value-index ≤ i → get_or l.value-items i 0 ≡ get_or l.word i 0)
