-- What the count of a spiral's steps starts from. All steps but the last are 0.25, and such steps are exact, so a place n / 4 that lies below the end is the n-th without counting.
use Rattle.std.specs.Prelude.{ℕ, ◌≤◌, ◌≡◌, ◌⊎◌, T, pos, Float}
use Rattle.std.specs.Float.{binary64}
use Rattle.std.specs.Float.Ieee.{of_int, lt, le}
use Rattle.float_laws.specs.Binary64.{◌⊗◌, f64}
use Rattle.line_samples.specs.Samples.{whole_step, most_samples}

-- where n steps of 0.25 end
abbrev pub quarters : ℕ → Float
quarters n = of_int binary64 (pos n) ⊗ whole_step

-- 1 and 10,000: between them the steps are estimated, elsewhere all are counted
abbrev pub least_estimated : Float
least_estimated = f64 0x3ff0_0000_0000_0000

abbrev pub greatest_estimated : Float
greatest_estimated = f64 0x40c3_8800_0000_0000

-- no steps, or at most 2,000 that end below x, which is at most 10,000
abbrev pub QuartersBelow : Float → ℕ → Type 0
QuartersBelow x n = (n ≤ most_samples) × ((n ≡ 0) ⊎ (T (lt (quarters n) x) × T (le x greatest_estimated)))
