-- A strip that is not there is within every limit: it has no cubics, and the sum of no terms is 0.
use mathlib.Core.Path.{◌≡◌, refl}
use mathlib.Core.Bool.{true}
use lib.Ieee.{of_bits, mul, add, le}
use Rattle.records.specs.Roads.{Road, absent}
use Rattle.records_lent.specs.Lists.{all_below}
use Rattle.admission_bounds.specs.Bounds.{greatest, greatest_bound, cubics_within}
use Rattle.admission.specs.Limits.{strip_limited}

pub absent_limited : (road : Road) → true ≡ strip_limited road absent
unfolding strip_limited cubics_within greatest_bound greatest all_below of_bits mul add le
absent_limited road = refl
