-- An instance of demand 3, so that its premises are seen to be met: M1's road in lent memory, "road (length 10.0), geom (`line`, length 10.0, all else zero), section (0)". It is admitted by computation and needs no samples.
use Prim.Native.Nat.{ℕ, zero, suc}
use native.Mathlib.Omega.{arith}
use mathlib.Core.Path.{◌≡◌, refl}
use mathlib.Core.Bool.{true}
use mathlib.Core.List.{List, [], ◌∷◌}
use lib.ListN.{replicate}
use lib.Ieee.{Float, binary64, of_bits, add, sub, mul, div, le, lt, eq, neg}
use lib.Ieee.Fits.{nan-fits}
use lib.Ieee.Bits.{of_bits-fits}
use Rattle.float_laws.specs.Binary64.{f64, zero64}
use Rattle.refusals.specs.Answer.{Answers}
use Rattle.records_cubic.specs.Cubics.{cubics_of}
use Rattle.records_lent.specs.Lists.{tabulate, all_below}
use Rattle.records.specs.Roads.{road_of, heights_of}
use Rattle.line_samples.specs.Samples.{goes_on, steps_from, spiral_steps, sample_count, samples_before, samples_needed}
use Rattle.admission_structure.specs.Structure.{structured}
use Rattle.admission_order.specs.Order.{never_fall, rise_strictly, apart, cubics_in_order, lane_in_order, section_in_order, profiles_in_order, strip_in_order, marks_in_order, ordered}
use Rattle.admission_bounds.specs.Bounds.{reach_at, bound_of, slope_bound_of, cubic_within, cubics_within, slopes_within, greatest, greatest_bound}
use Rattle.admission.specs.Limits.{shape_limited, geom_limited, section_extent, height_limited, heights_limited, lane_limited, section_limited, profile_limited, strip_limited, mark_limited, marks_limited, limited}
use Rattle.admission.specs.Admission.{admitted}
use Rattle.line_calls.specs.SampleCall.{samples_list}
use Rattle.surface_calls.specs.SurfaceCalls.{surface_call}
use Rattle.admission_laws.specs.Fractions.{AllF64}
use Rattle.surface_demand.specs.Demand.{PointKept, Kept}
use Rattle.surface_demand.proofs.DemandKept.{demand-3}

abbrev ten : Float
ten = f64 0x4024_0000_0000_0000

-- one geometry, one section
abbrev pub words1 : List ℕ
words1 = 1 ∷ 0 ∷ 0 ∷ 0 ∷ 0 ∷ 1 ∷ replicate 1885 0

-- the road's length, and the geometry's
abbrev pub numbers1 : List Float
numbers1 = ten ∷ zero64 ∷ zero64 ∷ zero64 ∷ zero64 ∷ ten ∷ replicate 8443 zero64

zeros-fit : (n : ℕ) → AllF64 (replicate n zero64)
zeros-fit zero k = nan-fits binary64
zeros-fit (suc n) zero = of_bits-fits binary64 0
zeros-fit (suc n) (suc k) = zeros-fit n k

numbers_fit : AllF64 numbers1
numbers_fit zero = of_bits-fits binary64 0x4024_0000_0000_0000
numbers_fit (suc zero) = of_bits-fits binary64 0
numbers_fit (suc (suc zero)) = of_bits-fits binary64 0
numbers_fit (suc (suc (suc zero))) = of_bits-fits binary64 0
numbers_fit (suc (suc (suc (suc zero)))) = of_bits-fits binary64 0
numbers_fit (suc (suc (suc (suc (suc zero))))) = of_bits-fits binary64 0x4024_0000_0000_0000
numbers_fit (suc (suc (suc (suc (suc (suc k)))))) = zeros-fit 8443 k

is-admitted : admitted words1 numbers1 ≡ true
unfolding admitted structured road_of cubics_of tabulate all_below heights_of goes_on steps_from spiral_steps sample_count samples_before samples_needed never_fall rise_strictly apart cubics_in_order lane_in_order section_in_order profiles_in_order strip_in_order marks_in_order ordered reach_at bound_of slope_bound_of cubic_within cubics_within slopes_within greatest greatest_bound shape_limited geom_limited section_extent height_limited heights_limited lane_limited section_limited profile_limited strip_limited mark_limited marks_limited limited of_bits add sub mul div le lt eq neg
is-admitted = refl

needs-none : samples_needed (road_of words1 numbers1) ≡ 0
unfolding road_of cubics_of tabulate heights_of goes_on steps_from spiral_steps sample_count samples_before samples_needed of_bits
needs-none = refl

pub kept-on-m1 : Kept words1 numbers1 (samples_list words1 numbers1 [])
kept-on-m1 = let n = needs-none in demand-3 words1 numbers1 (samples_list words1 numbers1 []) numbers_fit is-admitted (record { lent = []; room = omega arith; written = refl })

-- M1's want: the surface at 1, 2 answers, within its sizes
pub point_on-m1 : Answers (surface_call words1 numbers1 (samples_list words1 numbers1 []) (f64 0x3ff0_0000_0000_0000) (f64 0x4000_0000_0000_0000)) PointKept
unfolding road_of of_bits le neg
point_on-m1 = kept-on-m1.surface (f64 0x3ff0_0000_0000_0000) (f64 0x4000_0000_0000_0000) (of_bits-fits binary64 0x3ff0_0000_0000_0000) (of_bits-fits binary64 0x4000_0000_0000_0000) refl refl
