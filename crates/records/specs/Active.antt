-- Document 01, "Values": "Active record: the last with start ≤ s + 1e-9; none gives value and slope 0 (geometry, section: the first)".
use Rattle.std.specs.Prelude.{ℕ, zero, suc, List, length, Float, Option, Some, None}
use Rattle.std.specs.Float.Ieee.{le}
use Rattle.float_laws.specs.Binary64.{◌⊕◌, f64, zero64}
use Rattle.records_cubic.specs.declared.cubics.Cubic.{Cubic}
use Rattle.records_lent.specs.Lists.{last_that}
use Rattle.records_cubic.specs.Cubics.{cubic_at, eval_at, slope_at}

-- "start ≤ s + 1e-9": so far before its start a record is active
abbrev pub active_margin : Float
active_margin = f64 0x3e11_2e0b_e826_d695

-- s + 1e-9, one sum: up to here a record has started
abbrev pub active_up_to : Float → Float
active_up_to s = s ⊕ active_margin

-- the last of the first n starts that is at most the limit
unfoldable pub last_start : (ℕ → Float) → Float → ℕ → Option ℕ
unfolding last_that
last_start start limit n = last_that (λ i. le (start i) limit) n

-- 0 for none, and one more than the place for a place
unfoldable pub found_of : ℕ → Option ℕ
found_of zero = None
found_of (suc n) = Some n

-- "the last with start ≤ s + 1e-9"
unfoldable pub active_in : List Cubic → Float → Option ℕ
unfolding last_start
active_in cs s = last_start (λ i. (cubic_at cs i).start) (active_up_to s) (length cs)

-- "(geometry, section: the first)" where none is active
abbrev pub or_first : Option ℕ → ℕ
or_first (Some i) = i
or_first None = 0

-- value and slope at s of the active cubic; "none gives value and slope 0"
abbrev pub value_by : List Cubic → Float → Option ℕ → Float
value_by cs s (Some i) = eval_at (cubic_at cs i) s
value_by cs s None = zero64

unfoldable pub value_in : List Cubic → Float → Float
unfolding active_in
value_in cs s = value_by cs s (active_in cs s)

abbrev pub slope_of : List Cubic → Float → Option ℕ → Float
slope_of cs s (Some i) = slope_at (cubic_at cs i) s
slope_of cs s None = zero64

unfoldable pub slope_in : List Cubic → Float → Float
unfolding active_in
slope_in cs s = slope_of cs s (active_in cs s)
