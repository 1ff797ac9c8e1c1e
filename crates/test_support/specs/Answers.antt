-- An answer of a call as a line of a list writes it.
use Rattle.std.specs.Prelude.{ℕ, ◌+◌, ◌%◌, ◌^◌}
use Rattle.refusals.specs.Answer.{Answer, value, refused}

-- n + 2^63, in 64 bits, for a count of n, else the number of the refusal
abbrev pub count_word : Answer ℕ → ℕ
count_word (value n) = (n + 2 ^ 63) % 2 ^ 64
count_word (refused number) = number
