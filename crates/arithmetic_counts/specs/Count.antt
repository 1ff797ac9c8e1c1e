-- Document 01, "Counts (added)": v × 10,000 in f64 to the nearest whole number, halves away from zero; and row 12: a value outside -80..80, as a NaN is.
use Rattle.std.specs.Prelude.{ℕ, ◌+◌, ◌*◌, ◌/◌, cond, ℤ, pos, neg_ℤ, Float}
use Rattle.std.specs.Float.{nan, inf, fin, binary64}
use Rattle.std.specs.Float.Ieee.{up, down, neg, mul, of_bits}
use Rattle.arithmetic_ranges.specs.Ranges.{in_range}
use Rattle.refusals.specs.Answer.{Answer, value, refused}
use Rattle.refusals.specs.Refusal.{number_of}
use Rattle.refusals.specs.declared.refusals.Refusal.TheVariants.{CountRange}

-- The whole number nearest to num / den, a half going up: the greatest that is at most num / den + 1/2. Of a size, up is away from zero.
unfoldable pub nearest_away : ℕ → ℕ → ℕ
nearest_away num den = (2 * num + den) / (2 * den)

-- the whole number nearest to an f64, which is that of its size with its sign; 0 of what is no number
unfoldable pub nearest_whole : Float → ℤ
unfolding nearest_away
nearest_whole nan = pos 0
nearest_whole (inf s) = pos 0
nearest_whole (fin s m e) = cond s (neg_ℤ (pos (nearest_away (m * up e) (down e)))) (pos (nearest_away (m * up e) (down e)))

-- row 12: "value outside -80..80"
abbrev pub greatest_counted : Float
greatest_counted = of_bits binary64 0x4054_0000_0000_0000

-- "v × 10,000"
abbrev pub counts_per_metre : Float
counts_per_metre = of_bits binary64 0x40c3_8800_0000_0000

-- the count of v, or row 12
unfoldable pub counts_call : Float → Answer ℤ
unfolding nearest_whole neg mul of_bits
counts_call v = cond (in_range (neg greatest_counted) greatest_counted v) (value (nearest_whole (mul binary64 v counts_per_metre))) (refused (number_of CountRange))
