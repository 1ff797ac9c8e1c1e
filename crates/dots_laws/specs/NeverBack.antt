-- Document 02, Point 4: "no station lies more than 0.000000001 m below the one before it", of any two arc lengths in order and not only of neighbours: dots that are left out stand between those that are kept. Read `NeverBack` at the end; its clauses are the fields of `StationsKept`.
-- That stations never fall is false: on 1 - 2^-40, 9000 + 2^-39, 9000 + 2^-38 the rounded way along the first segment ends an ulp past its end, and the next dot lies on the second (proofs, WorkedDots).
-- A finite f64 is (positive_part - negative_part) / den (admission_laws, Fractions); `length_to p i`, the arc length at point i (tracks, Lengths); `station_at`, the station at an arc length, and `along`, the arc length at a station (dots, Along). `le` and `lt` compare finite numbers exactly; a NaN is in no order (the kit's).
use Rattle.std.specs.Prelude.{ℕ, suc, ◌+◌, ◌-◌, ◌*◌, ◌/◌, ◌≤◌, ◌<◌, ◌≡◌, true, false, List, T, length, Float}
use Rattle.std.specs.Float.Ieee.{le, lt}
use Rattle.std.specs.Float.Ieee.Scale.{finite}
use Rattle.std.specs.Float.Ieee.Positive.{den}
use Rattle.float_laws.specs.Binary32.{zero32}
use Rattle.float_laws.specs.Binary64.{f64, zero64}
use Rattle.admission_laws.specs.Fractions.{AllF64, positive_part, negative_part}
use Rattle.records.specs.declared.points.Point.{Point}
use Rattle.coordinates.specs.Points.{point_at}
use Rattle.tracks.specs.Lengths.{length_to}
use Rattle.tracks_laws.specs.TrackLaws.{IsF32, AllF32, is_track}
use Rattle.dots.specs.Along.{nth_station, along, station_at}

-- ---- words

-- x lies at most 0.000000001 above y, exactly
abbrev pub NotBack : Float → Float → Type 0
NotBack x y = (positive_part x * den y + negative_part y * den x) * 1000000000 ≤ (positive_part y * den x + negative_part x * den y) * 1000000000 + den x * den y

-- 10,000: no road is longer
abbrev pub greatest_station : Float
greatest_station = f64 0x40c3_8800_0000_0000

-- n stations that rise strictly, from 0 or more up to 10,000 or less
pub record StationsRise (c : ℕ → Float) (n : ℕ) : Type 0 where
  pub from : T (le zero64 (c 0))
  pub rise : (i : ℕ) → suc i < n → T (lt (c i) (c (suc i)))
  pub to : T (le (c (n - 1)) greatest_station)

-- where an arc length lies, in words that do not know how it is sought: every segment before ends short of it, and this one does not, unless it is the last. The station is not before the one at the segment's start, and past the one at its end by a rounding at most
pub record StationIn (p : ℕ → Point) (c : ℕ → Float) (n : ℕ) (arc : Float) : Type 0 where
  pub i : ℕ
  pub there : suc i < n
  pub short : (j : ℕ) → j < i → le arc (length_to p (suc j)) ≡ false
  pub reaches : suc (suc i) < n → le arc (length_to p (suc i)) ≡ true
  pub from : T (le (c i) (station_at p c n arc))
  pub to : NotBack (station_at p c n arc) (c (suc i))

-- ---- the statement

pub record StationsKept (p : ℕ → Point) (c : ℕ → Float) (n : ℕ) : Type 0 where
  -- the line's length is the arc length at its last point
  pub line_length : along p c n (c (n - 1)) ≡ length_to p (n - 1)
  -- of every arc length from 0 on, past the line's end and the infinite one too
  pub number : (arc : Float) → IsF32 arc → T (le zero32 arc) → T (finite (station_at p c n arc))
  pub segment : (arc : Float) → IsF32 arc → T (le zero32 arc) → StationIn p c n arc
  -- within the stations, but for a rounding at the last
  pub from : (arc : Float) → IsF32 arc → T (le zero32 arc) → T (le (c 0) (station_at p c n arc))
  pub to : (arc : Float) → IsF32 arc → T (le zero32 arc) → NotBack (station_at p c n arc) (c (n - 1))
  pub never_back : (a b : Float) → IsF32 a → IsF32 b → T (le zero32 a) → T (le a b) → NotBack (station_at p c n a) (station_at p c n b)

abbrev pub NeverBack : Type 0
NeverBack = (xs stations : List Float) → AllF32 xs → AllF64 stations → is_track xs ≡ true → length stations ≡ length xs / 3 → StationsRise (nth_station stations) (length stations) → StationsKept (point_at xs) (nth_station stations) (length stations)
