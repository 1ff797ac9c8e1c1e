-- Document 01, "Admission": "Reach D of a cubic", "Bound B", the elevation's slope, and the tests of a list of cubics by them. In f64, operation by operation.
use Rattle.std.specs.Prelude.{ℕ, zero, suc, ◌+◌, Bool, ◌&&◌, cond, List, length, ltb, Float}
use Rattle.std.specs.Float.Ieee.{le, lt}
use Rattle.float_laws.specs.Binary64.{◌⊕◌, ◌⊖◌, ◌⊗◌, f64, zero64, abs_of}
use Rattle.records_cubic.specs.declared.cubics.Cubic.{Cubic}
use Rattle.records_lent.specs.Lists.{all_below}
use Rattle.records_cubic.specs.Cubics.{cubic_at}
use Rattle.arithmetic_ranges.specs.Ranges.{in_range, at_least_zero}

-- "Reach D of a cubic: next start less its own (after the last: list's end less its own), at least 0, plus 0.001"
abbrev pub end_at : List Cubic → Float → ℕ → Float
end_at cs end i = cond (ltb (i + 1) (length cs)) (cubic_at cs (i + 1)).start end

-- "plus 0.001"
abbrev pub reach_margin : Float
reach_margin = f64 0x3f50_624d_d2f1_a9fc

unfoldable pub reach_at : List Cubic → Float → ℕ → Float
reach_at cs end i = at_least_zero (end_at cs end i ⊖ (cubic_at cs i).start) ⊕ reach_margin

-- "B = ((|a| + |b|×D) + (|c|×D)×D) + ((|d|×D)×D)×D"
unfoldable pub bound_of : Cubic → Float → Float
bound_of c D =
    ((abs_of c.a ⊕ abs_of c.b ⊗ D) ⊕ abs_of c.c ⊗ D ⊗ D) ⊕ abs_of c.d ⊗ D ⊗ D ⊗ D

abbrev pub bound_at : List Cubic → Float → ℕ → Float
bound_at cs end i = bound_of (cubic_at cs i) (reach_at cs end i)

-- "|b| + (2×|c|)×D + ((3×|d|)×D)×D"
unfoldable pub slope_bound_of : Cubic → Float → Float
slope_bound_of c D = (abs_of c.b ⊕ f64 0x4000_0000_0000_0000 ⊗ abs_of c.c ⊗ D) ⊕ f64 0x4008_0000_0000_0000 ⊗ abs_of c.d ⊗ D ⊗ D

-- every start in lo..hi, and every B at most the limit, for a list that ends at end
unfoldable pub cubic_within : List Cubic → Float → Float → Float → Float → ℕ → Bool
unfolding reach_at bound_of
cubic_within cs lo hi end limit i = in_range lo hi (cubic_at cs i).start && le (bound_at cs end i) limit

unfoldable pub cubics_within : List Cubic → Float → Float → Float → Float → Bool
unfolding all_below cubic_within
cubics_within cs lo hi end limit = all_below (cubic_within cs lo hi end limit) (length cs)

-- every slope bound at most the limit
unfoldable pub slopes_within : List Cubic → Float → Float → Bool
unfolding all_below reach_at slope_bound_of
slopes_within cs end limit = all_below (λ i. le (slope_bound_of (cubic_at cs i) (reach_at cs end i)) limit) (length cs)

-- "at its greatest B (0 for none)": the greatest of the first n values
unfoldable pub greatest : (ℕ → Float) → ℕ → Float
greatest f zero = zero64
greatest f (suc n) = cond (lt (greatest f n) (f n)) (f n) (greatest f n)

unfoldable pub greatest_bound : List Cubic → Float → Float
unfolding greatest reach_at bound_of
greatest_bound cs end = greatest (bound_at cs end) (length cs)
