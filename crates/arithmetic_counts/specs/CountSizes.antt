-- A count is at most 800,000 either way: document 01's row 12, "value outside -80..80", and ten thousand counts a metre.
use Rattle.std.specs.Prelude.{◌≤◌, ◌≡◌, T, ℤ, nat_abs, Float}
use Rattle.std.specs.Float.{binary64}
use Rattle.std.specs.Float.Ieee.{fits}
use Rattle.refusals.specs.Answer.{value}
use Rattle.arithmetic_counts.specs.Count.{counts_call}

-- of every f64 that has a count
abbrev pub CountSizes : Type 0
CountSizes = (v : Float) (z : ℤ) → T (fits binary64 v) → counts_call v ≡ value z → nat_abs z ≤ 800000
