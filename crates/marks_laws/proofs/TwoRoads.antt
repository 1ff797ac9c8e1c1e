-- An instance, so that the premises of `MarksUnseen` are seen to be met by roads whose marks differ: M1's road with one lane on the left, without a mark and with one of kind 1 along the whole lane. Both are admitted by computation.
use Prim.Native.Nat.{ℕ}
use mathlib.Core.Path.{◌≡◌, refl}
use mathlib.Core.Bool.{true}
use mathlib.Core.List.{List, ◌∷◌, ◌++◌}
use lib.ListN.{length, replicate, set}
use lib.Ieee.{Float, of_bits, add, sub, mul, div, le, lt, eq, neg}
use Rattle.float_laws.specs.Binary64.{f64, zero64}
use Rattle.records_lent.specs.Lists.{tabulate, all_below}
use Rattle.records_cubic.specs.Cubics.{cubics_of}
use Rattle.records.specs.Roads.{road_of, section_of, heights_of}
use Rattle.line_samples.specs.Samples.{goes_on, steps_from, spiral_steps, sample_count, samples_before, samples_needed}
use Rattle.admission_structure.specs.Structure.{structured}
use Rattle.admission_order.specs.Order.{never_fall, rise_strictly, apart, cubics_in_order, lane_in_order, section_in_order, profiles_in_order, strip_in_order, marks_in_order, ordered}
use Rattle.admission_bounds.specs.Bounds.{reach_at, bound_of, slope_bound_of, cubic_within, cubics_within, slopes_within, greatest, greatest_bound}
use Rattle.admission.specs.Limits.{shape_limited, geom_limited, section_extent, height_limited, heights_limited, lane_limited, section_limited, profile_limited, strip_limited, mark_limited, marks_limited, limited}
use Rattle.admission.specs.Admission.{admitted}
use Rattle.surface_calls.specs.SurfaceCalls.{surface_call}
use Rattle.marks_laws.specs.Unmarked.{unmarked}
use Rattle.marks_laws.proofs.MarksUnseen.{marks-unseen}

abbrev ten : Float
ten = f64 0x4024_0000_0000_0000

-- one geometry, one section, one lane on the left
abbrev words : List ℕ
words = 1 ∷ 0 ∷ 0 ∷ 0 ∷ 0 ∷ 1 ∷ (replicate 66 0 ++ (1 ∷ replicate 1818 0))

abbrev numbers : List Float
numbers = ten ∷ zero64 ∷ zero64 ∷ zero64 ∷ zero64 ∷ ten ∷ replicate 8443 zero64

-- the section has a mark, on its first lane, of kind 1, from 0 to 10
abbrev marked : List ℕ
marked = set (set words 1348 1) 1380 1

abbrev spans : List Float
spans = set numbers 7938 ten

one_more_lem : (length (section_of (road_of words numbers) 0).marks ≡ 0) × (length (section_of (road_of marked spans) 0).marks ≡ 1)
unfolding road_of tabulate cubics_of heights_of
one_more_lem = (refl, refl)

plain-admitted : admitted words numbers ≡ true
unfolding admitted structured road_of cubics_of tabulate all_below heights_of goes_on steps_from spiral_steps sample_count samples_before samples_needed never_fall rise_strictly apart cubics_in_order lane_in_order section_in_order profiles_in_order strip_in_order marks_in_order ordered reach_at bound_of slope_bound_of cubic_within cubics_within slopes_within greatest greatest_bound shape_limited geom_limited section_extent height_limited heights_limited lane_limited section_limited profile_limited strip_limited mark_limited marks_limited limited of_bits add sub mul div le lt eq neg
plain-admitted = refl

marked-admitted : admitted marked spans ≡ true
unfolding admitted structured road_of cubics_of tabulate all_below heights_of goes_on steps_from spiral_steps sample_count samples_before samples_needed never_fall rise_strictly apart cubics_in_order lane_in_order section_in_order profiles_in_order strip_in_order marks_in_order ordered reach_at bound_of slope_bound_of cubic_within cubics_within slopes_within greatest greatest_bound shape_limited geom_limited section_extent height_limited heights_limited lane_limited section_limited profile_limited strip_limited mark_limited marks_limited limited of_bits add sub mul div le lt eq neg
marked-admitted = refl

same-unmarked : unmarked (road_of words numbers) ≡ unmarked (road_of marked spans)
unfolding road_of tabulate cubics_of heights_of
same-unmarked = refl

pub surface-alike : (samples : List Float) (s t : Float) → surface_call words numbers samples s t ≡ surface_call marked spans samples s t
surface-alike samples s t = marks-unseen.surface samples s t words numbers marked spans plain-admitted marked-admitted same-unmarked
