-- Document 02, Point 4, of the dots on a line: "The dot list equals that rule, order and number included; no station lies more than 0.000000001 m below the one before it". Read `DotsLaws` at the end; its clauses are the fields of `DotsKept`, of which most speak of the dots of the first m multiples, for every m.
-- `multiple spacing k`, the k-th multiple; `line_length`, `along` at the last station, which is the arc length at the last point (NeverBack, `line_length`); `is_dotted`, some span of kind 1 covers a station (dots, Dots).
use Rattle.std.specs.Prelude.{ℕ, zero, suc, ◌+◌, ◌/◌, ◌≤◌, ◌<◌, ◌≡◌, Bool, true, cond, List, T, ltb, length, get_or, Float}
use Rattle.std.specs.Float.{nan}
use Rattle.std.specs.Float.Ieee.{le, lt}
use Rattle.std.specs.Float.Ieee.Scale.{finite}
use Rattle.float_laws.specs.Binary32.{zero32}
use Rattle.admission_laws.specs.Fractions.{AllF64}
use Rattle.records.specs.declared.points.Point.{Point}
use Rattle.records.specs.Roads.{Road}
use Rattle.coordinates.specs.Points.{point_at}
use Rattle.tracks_laws.specs.TrackLaws.{IsF32, AllF32, is_track}
use Rattle.dots.specs.Along.{nth_station, station_at}
use Rattle.dots.specs.Dots.{multiple, most_multiples, multiples_on, line_length, is_dotted, dots_to, dots_on}
use Rattle.dots_laws.specs.NeverBack.{NotBack, StationsRise}

-- ---- a list of what is kept, in words that know nothing of how it is made

-- how many of the first m pass
unfoldable pub passing : (ℕ → Bool) → ℕ → ℕ
passing passes zero = 0
passing passes (suc k) = passing passes k + cond (passes k) 1 0

module _ (at : ℕ → Float) (keep : Float → Bool) where
  -- how many are kept before the k-th
  abbrev pub kept_before : ℕ → ℕ
  kept_before k = passing (λ j. keep (at j)) k

  -- element i is one of the m, that is kept, with i kept before it
  pub record Taken (m : ℕ) (list : List Float) (i : ℕ) : Type 0 where
    pub k : ℕ
    pub there : k < m
    pub kept : keep (at k) ≡ true
    pub before : kept_before k ≡ i
    pub is : get_or list i nan ≡ at k

  pub record ListIs (m : ℕ) (list : List Float) : Type 0 where
    -- each that is kept stands behind as many as are kept before it
    pub all : (k : ℕ) → k < m → keep (at k) ≡ true → get_or list (kept_before k) nan ≡ at k
    -- and there are no others
    pub count : length list ≡ kept_before m
    pub only : (i : ℕ) → i < length list → Taken m list i

-- ---- the statement

module _ (road : Road) (section rank : ℕ) (p : ℕ → Point) (c : ℕ → Float) (n : ℕ) (spacing : Float) where
  abbrev multiples_there : ℕ
  multiples_there = multiples_on p c n spacing

  abbrev whole : Float
  whole = line_length p c n spacing

  abbrev dots : ℕ → List Float
  dots m = dots_to road section rank p c n spacing m

  pub record DotsKept : Type 0 where
    -- the line's dots are those of its multiples
    pub whole_list : dots_on road section rank p c n spacing ≡ dots multiples_there
    -- those counted are all that are at most the line's length, where they do not pass 65,536; the count stops one past that
    pub multiples : multiples_there ≤ most_multiples → (k : ℕ) → le (multiple spacing k) whole ≡ ltb k multiples_there
    pub too_many : suc most_multiples ≤ multiples_there → (k : ℕ) → k ≤ most_multiples → T (le (multiple spacing k) whole)
    pub listed : (m : ℕ) → ListIs (λ k. station_at p c n (multiple spacing k)) (is_dotted road section rank) m (dots m)
    -- every dot is covered
    pub dotted : (m i : ℕ) → i < length (dots m) → is_dotted road section rank (get_or (dots m) i nan) ≡ true
    -- a finite number; and of any two dots, not only of neighbours
    pub number : (m i : ℕ) → i < length (dots m) → T (finite (get_or (dots m) i nan))
    pub never_back : (m i j : ℕ) → i ≤ j → j < length (dots m) → NotBack (get_or (dots m) i nan) (get_or (dots m) j nan)

-- on a track with a station list, for every spacing above 0 and not only those from 0.1 to 100
abbrev pub DotsLaws : Type 0
DotsLaws = (xs stations : List Float) → AllF32 xs → AllF64 stations → is_track xs ≡ true → length stations ≡ length xs / 3 → StationsRise (nth_station stations) (length stations)
    → (spacing : Float) → IsF32 spacing → T (finite spacing) → T (lt zero32 spacing)
    → (road : Road) (section rank : ℕ) → DotsKept road section rank (point_at xs) (nth_station stations) (length stations) spacing
