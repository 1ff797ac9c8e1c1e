-- A worked line, by the definitions that the contracts cite, on which stations fall: each entry is a test that is computed, and one theorem says that all pass.
use Prim.Native.Nat.{ℕ}
use mathlib.Core.Path.{◌≡◌, refl}
use mathlib.Core.Bool.{Bool, true}
use mathlib.Core.List.{List, [], ◌∷◌}
use lib.Count.{count_trailing_zeros}
use lib.Ieee.{Float, size, span, climb, odd, units, round, sum, add, sub, mul, div, neg, lt, eq, le, of_bits, of_fields, of_int}
use Rattle.float_laws.specs.Binary32.{f32, zero32}
use Rattle.float_laws.specs.Binary64.{f64, zero64}
use Rattle.arithmetic.specs.Narrow.{narrowed}
use Rattle.arithmetic.specs.Root.{whole_root, root_units, root_of}
use Rattle.coordinates.specs.Vectors.{dot_of, length_of}
use Rattle.coordinates.specs.Points.{point_at}
use Rattle.tracks_calls.specs.TrackCalls.{all_inside}
use Rattle.tracks.specs.Lengths.{length_to}
use Rattle.tracks.specs.Poses.{leading_from}
use Rattle.tracks_laws.specs.TrackLaws.{is_track}
use Rattle.tracks_laws.proofs.WorkedTracks.{all}
use Rattle.dots.specs.Along.{nth_station, along, reached_from, station_at}
use Rattle.dots.specs.Dots.{multiple}
use Rattle.dots_laws.specs.NeverBack.{greatest_station}

-- (0, 0, 0), (8999, 0, 0), (9999, 0, 0)
abbrev pub line : List Float
line = zero32 ∷ zero32 ∷ zero32 ∷ f32 0x460c_9c00 ∷ zero32 ∷ zero32 ∷ f32 0x461c_3c00 ∷ zero32 ∷ zero32 ∷ []

-- 1 - 2^-40, 9000 + 2^-39, 9000 + 2^-38
abbrev pub stations : List Float
stations = f64 0x3fef_ffff_ffff_e000 ∷ f64 0x40c1_9400_0000_0001 ∷ f64 0x40c1_9400_0000_0002 ∷ []

-- 70.3046875, of which the 128th multiple is 8999
abbrev pub spacing : Float
spacing = f32 0x428c_9c00

-- the station of the k-th multiple
abbrev pub dot : ℕ → Float
dot k = station_at (point_at line) (nth_station stations) 3 (multiple spacing k)

unfoldable pub tests : List Bool
tests =
    -- the premises of `never-back-law` are met
    is_track line
    ∷ le zero64 (nth_station stations 0)
    ∷ lt (nth_station stations 0) (nth_station stations 1)
    ∷ lt (nth_station stations 1) (nth_station stations 2)
    ∷ le (nth_station stations 2) greatest_station
    -- the line is 9999 m long
    ∷ eq (along (point_at line) (nth_station stations) 3 (nth_station stations 2)) (f32 0x461c_3c00)
    ∷ eq (multiple spacing 128) (f32 0x460c_9c00)
    -- dot 128 lies an ulp past the end of its segment, and dot 129 below it
    ∷ eq (dot 128) (f64 0x40c1_9400_0000_0002)
    ∷ eq (dot 129) (f64 0x40c1_9400_0000_0001)
    ∷ lt (dot 129) (dot 128)
    ∷ []

pub worked-dots : all tests ≡ true
unfolding all tests all_inside along reached_from station_at leading_from length_to length_of dot_of narrowed root_of root_units whole_root size span climb round units odd sum add sub mul div neg lt eq le of_bits of_fields of_int count_trailing_zeros
worked-dots = refl
