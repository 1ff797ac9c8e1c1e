-- What rows 7 and 8 say of a place: their tests, as the laws on values take them.
use mathlib.Core.Path.{◌≡◌}
use mathlib.Core.Bool.{true}
use lib.Ieee.{Float, le, neg}
use Rattle.std.proofs.lemmas.Float.{T_from_true}
use Rattle.float_laws.specs.Binary64.{f64, zero64}
use Rattle.records.specs.Roads.{Road}
use Rattle.admission.specs.Limits.{on_road}
use Rattle.admission_arguments.specs.Arguments.{across_road}
use Rattle.admission_laws.specs.Fractions.{IsF64}
use Rattle.records_lent.proofs.TestLaws.{and-fst, and-snd}
use Rattle.admission_laws.proofs.RoadBounds.{OnRoad, Across}

-- row 7
pub on_road_lem : (road : Road) (s : Float) → IsF64 s → on_road road s ≡ true → OnRoad road s
on_road_lem road s f on =
    record {
      fits = f;
      above = T_from_true (le zero64 s) (and-fst (le zero64 s) (le s road.length) on);
      below = T_from_true (le s road.length) (and-snd (le zero64 s) (le s road.length) on);
    }

-- row 8
pub across_of_lem : (t : Float) → IsF64 t → across_road t ≡ true → Across t
across_of_lem t f e =
    let edge = f64 0x4054_0000_0000_0000 in
    record { fits = f; above = T_from_true (le (neg edge) t) (and-fst (le (neg edge) t) (le t edge) e); below = T_from_true (le t edge) (and-snd (le (neg edge) t) (le t edge) e) }
