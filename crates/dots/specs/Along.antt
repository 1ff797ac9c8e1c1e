-- Document 02, Point 4: `along` and `station_at` of src/road.rs. A line of n points p 0 .. p (n - 1), each at a road station c 0 .. c (n - 1).
use Rattle.std.specs.Prelude.{ℕ, zero, suc, ◌-◌, cond, List, get_or, Float}
use Rattle.std.specs.Float.{nan}
use Rattle.std.specs.Float.Ieee.{lt, le}
use Rattle.float_laws.specs.Binary32.{◌⊕◌, ◌⊖◌, ◌⊗◌, ◌⊘◌, zero32, one32, clamp_of}
use Rattle.float_laws.specs.Binary64.{f64, zero64}
use Rattle.arithmetic.specs.Narrow.{narrowed}
use Rattle.arithmetic_ranges.specs.Ranges.{blend, fraction}
use Rattle.records.specs.declared.points.Point.{Point}
use Rattle.tracks.specs.Lengths.{distance_of, length_to}
use Rattle.tracks.specs.Poses.{segment_in}

-- the stations of a lent list, NaN past its end
abbrev pub nth_station : List Float → ℕ → Float
nth_station xs i = get_or xs i nan

-- ---- along: the arc length at a station

abbrev pub one64 : Float
one64 = f64 0x3ff0_0000_0000_0000

-- the fraction of the way from the station a to b, in f64 and "clamp(0.0, 1.0)"
abbrev pub fraction_to : Float → Float → Float → Float
fraction_to a b s = clamp_of zero64 one64 (fraction a b s)

-- the segment of s: "stations.partition_point(|&x| x <= s).saturating_sub(1).min(stations.len().saturating_sub(2))"; stations rise, so that what its binary search finds is the number of leading ones that are at most s.
-- The lengths of the segments before, added up from 0 on, and the part of this one: "before + points[i].distance_to(points[i + 1]) * f as f32", in f32
unfoldable pub along : (ℕ → Point) → (ℕ → Float) → ℕ → Float → Float
unfolding length_to narrowed
along p c n s =
    let i = segment_in c n s in
    length_to p i ⊕ distance_of (p i) (p (suc i)) ⊗ narrowed (fraction_to (c i) (c (suc i)) s)

-- ---- station_at: the station at an arc length

-- the first segment from i on, of k + 1, whose end is not short of the arc length: "before + step >= arc || i == last"
unfoldable pub reached_from : (ℕ → Point) → Float → ℕ → ℕ → ℕ
unfolding length_to
reached_from p arc i zero = i
reached_from p arc i (suc k) = cond (le arc (length_to p (suc i))) i (reached_from p arc (suc i) k)

-- of all n - 1
abbrev pub segment_of_arc : (ℕ → Point) → ℕ → Float → ℕ
segment_of_arc p n arc = reached_from p arc 0 (n - 2)

-- how far along a segment, in f32; 0 of one without length
abbrev pub fraction_into : Float → Float → Float → Float
fraction_into before step arc = cond (lt zero32 step) (clamp_of zero32 one32 ((arc ⊖ before) ⊘ step)) zero32

-- the station so far on from the segment's start, in f64: an f32 is an f64
abbrev pub station_on : (ℕ → Point) → (ℕ → Float) → ℕ → Float → Float
station_on p c i arc = blend (c i) (c (suc i)) (fraction_into (length_to p i) (distance_of (p i) (p (suc i))) arc)

unfoldable pub station_at : (ℕ → Point) → (ℕ → Float) → ℕ → Float → Float
unfolding reached_from length_to
station_at p c n arc = station_on p c (segment_of_arc p n arc) arc
