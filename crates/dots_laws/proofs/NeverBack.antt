-- The theorem on stations, put together: in one segment the way along it never falls; from a segment to a later one the earlier station is past its segment's end by two roundings at most, and the later at its segment's start or after it, which is no earlier.
use Prim.Native.Nat.{ℕ, zero, suc, ◌-◌, ◌≤◌, ◌<◌}
use native.Mathlib.Nat.{eq-or-lt_of_le, le_of_suc-le-suc}
use native.Mathlib.Omega.{arith}
use mathlib.Core.Path.{◌≡◌, sym, subst}
use mathlib.Core.Logic.{⊎_elim}
use lib.ListN.{length}
use lib.Dec.{T}
use lib.Ieee.{Float, binary32, binary64, of_bits, le}
use Rattle.std.proofs.lemmas.Float.{le_trans as float_trans, le_refl as float-refl, le_of_lt as float-le_of_lt, le_right}
use Rattle.float_laws.specs.Binary32.{zero32}
use Rattle.float_laws.proofs.Value.{Real}
use Rattle.float_laws.proofs.Interval.{In, nil, nil-real, in-of_le}
use Rattle.records_lent.proofs.TestLaws.{and-fst, and-snd}
use Rattle.records.specs.declared.points.Point.{Point}
use Rattle.coordinates.specs.Points.{point_at}
use Rattle.tracks.specs.Lengths.{distance_of, length_to}
use Rattle.tracks_calls.specs.TrackCalls.{track_counted, all_inside}
use Rattle.tracks_laws.specs.TrackLaws.{IsF32}
use Rattle.tracks_laws.proofs.Admitted.{Placed, placed, counted_is}
use Rattle.tracks_laws.proofs.ArcLengths.{distance-in}
use Rattle.tracks_laws.proofs.Fractions.{length-in}
use Rattle.admission_laws.specs.Fractions.{IsF64}
use Rattle.dots.specs.Along.{one64, nth_station, segment_of_arc, along, fraction_into, station_on, station_at}
use Rattle.dots_laws.specs.NeverBack.{NotBack, greatest_station, StationsRise, StationIn, StationsKept, NeverBack}
use Rattle.dots_laws.proofs.Segments.{passed, stops, segment_there, segment_rise, starts}
use Rattle.dots_laws.proofs.FractionInto.{into-in, into_rise}
use Rattle.dots_laws.proofs.LineLength.{whole-fraction, along-last}
use Rattle.dots_laws.proofs.StationOn.{Station, widened, greatest-real, le_not-back, span, span-plus, on-real, on_from, on-to, on-rise}

-- ---- the stations of the list

module _ (c : ℕ → Float) (n : ℕ) (two : 2 ≤ n) (fit : (i : ℕ) → IsF64 (c i)) (listed : StationsRise c n) where
  up : (i : ℕ) → i < n → T (le nil (c i))
  unfolding of_bits
  up zero h = listed.from
  up (suc i) h = float_trans nil (c i) (c (suc i)) (up i (omega arith)) (float-le_of_lt (c i) (c (suc i)) (listed.rise i h))

  pub no-fall : (i j : ℕ) → i ≤ j → j < n → T (le (c i) (c j))
  no-fall i zero h l = let e : i ≡ 0 = omega arith in subst (λ (k : ℕ). T (le (c k) (c 0))) (sym e) (float-refl (c 0) (le_right nil (c 0) (up 0 l)))
  no-fall i (suc j) h l =
      ⊎_elim
      (λ (e : i ≡ suc j). subst (λ (k : ℕ). T (le (c k) (c (suc j)))) (sym e) (float-refl (c (suc j)) (le_right nil (c (suc j)) (up (suc j) l))))
      (λ (g : i < suc j). float_trans (c i) (c j) (c (suc j)) (no-fall i j (le_of_suc-le-suc g) (omega arith)) (float-le_of_lt (c j) (c (suc j)) (listed.rise j l)))
      (eq-or-lt_of_le h)

  pub station-in : (i : ℕ) → i < n → Station (c i)
  station-in i h = in-of_le binary64 nil greatest_station (c i) (nil-real binary64) greatest-real (fit i) (up i h) (float_trans (c i) (c (n - 1)) greatest_station (no-fall i (n - 1) (omega arith) (omega arith)) listed.to)

  -- ---- along the line

  module _ (p : ℕ → Point) (there : (i : ℕ) → i < n → Placed (p i)) (few : n ≤ 512) where
    abbrev segment : Float → ℕ
    segment arc = segment_of_arc p n arc

    within : (arc : Float) → suc (segment arc) < n
    within arc = let h = segment_there p n arc in omega arith

    abbrev share : ℕ → Float → Float
    share i arc = fraction_into (length_to p i) (distance_of (p i) (p (suc i))) arc

    module _ (i : ℕ) (h : suc i < n) where
      start : Station (c i)
      start = station-in i (omega arith)

      end : Station (c (suc i))
      end = station-in (suc i) h

      order : T (le (c i) (c (suc i)))
      order = no-fall i (suc i) (omega arith) h

      step : Real binary32 (distance_of (p i) (p (suc i)))
      step = (distance-in (p i) (p (suc i)) (there i (omega arith)) (there (suc i) h)).value

      -- of arc lengths from its start on
      share-in : (arc : Float) → IsF32 arc → T (le (length_to p i) arc) → In binary64 nil one64 (share i arc)
      share-in arc f l = widened (share i arc) (into-in (length_to p i) (distance_of (p i) (p (suc i))) (length-in p n there few two i (omega arith)) step arc f l)

      on-kept : (arc : Float) → IsF32 arc → T (le (length_to p i) arc) → Real binary64 (station_on p c i arc) × T (le (c i) (station_on p c i arc))
      on-kept arc f l = let t = share-in arc f l in (on-real (c i) (c (suc i)) start end order (share i arc) t, on_from (c i) (c (suc i)) start end order (share i arc) t)

      on-past : (arc : Float) → IsF32 arc → T (le (length_to p i) arc) → (y : Float) → Real binary64 y → T (le (c (suc i)) y) → NotBack (station_on p c i arc) y
      on-past arc f l = on-to (c i) (c (suc i)) start end order (share i arc) (share-in arc f l)

      on-same : (a b : Float) → IsF32 a → IsF32 b → T (le (length_to p i) a) → T (le a b) → T (le (station_on p c i a) (station_on p c i b))
      on-same a b f g l k =
          on-rise (c i) (c (suc i)) start end order (share i a) (share i b) (share-in a f l) (share-in b g (float_trans (length_to p i) a b l k))
          (into_rise (length_to p i) (distance_of (p i) (p (suc i))) (length-in p n there few two i (omega arith)) step a b f g l k)

    -- an arc length lies at its segment's start or after it
    from-start : (arc : Float) → T (le zero32 arc) → T (le (length_to p (segment arc)) arc)
    unfolding of_bits
    from-start = starts p n (λ i h. (length-in p n there few two i (omega arith)).above)

    at-kept : (arc : Float) → IsF32 arc → T (le zero32 arc) → Real binary64 (station_at p c n arc) × T (le (c (segment arc)) (station_at p c n arc))
    unfolding station_at
    at-kept arc f h = on-kept (segment arc) (within arc) arc f (from-start arc h)

    at-first : (arc : Float) → IsF32 arc → T (le zero32 arc) → T (le (c 0) (station_at p c n arc))
    at-first arc f h = let l = within arc in float_trans (c 0) (c (segment arc)) (station_at p c n arc) (no-fall 0 (segment arc) (omega arith) (omega arith)) (at-kept arc f h).1

    at-last : (arc : Float) → IsF32 arc → T (le zero32 arc) → NotBack (station_at p c n arc) (c (n - 1))
    unfolding station_at
    at-last arc f h =
        let l = within arc in
        on-past (segment arc) l arc f (from-start arc h) (c (n - 1)) (station-in (n - 1) (omega arith)).value (no-fall (suc (segment arc)) (n - 1) (omega arith) (omega arith))

    at-end : (arc : Float) → IsF32 arc → T (le zero32 arc) → NotBack (station_at p c n arc) (c (suc (segment arc)))
    unfolding station_at
    at-end arc f h = let l = within arc in on-past (segment arc) l arc f (from-start arc h) (c (suc (segment arc))) (station-in (suc (segment arc)) l).value (no-fall (suc (segment arc)) (suc (segment arc)) (omega arith) l)

    at-segment : (arc : Float) → IsF32 arc → T (le zero32 arc) → StationIn p c n arc
    at-segment arc f h =
        record {
          i = segment arc;
          there = within arc;
          short = λ j l. passed p arc 0 (n - 2) j (omega arith) l;
          reaches = λ l. stops p arc 0 (n - 2) (omega arith);
          from = (at-kept arc f h).1;
          to = at-end arc f h;
        }

    module _ (a b : Float) (f : IsF32 a) (g : IsF32 b) (h : T (le zero32 a)) (k : T (le a b)) where
      m : T (le zero32 b)
      m = float_trans zero32 a b h k

      -- in one segment
      same : segment a ≡ segment b → NotBack (station_at p c n a) (station_at p c n b)
      unfolding station_at
      same e =
          let o : T (le (station_on p c (segment a) a) (station_on p c (segment a) b)) = on-same (segment a) (within a) a b f g (from-start a h) k in
          le_not-back (station_at p c n a) (station_at p c n b) (at-kept a f h).0 (at-kept b g m).0
          (subst (λ (i : ℕ). T (le (station_on p c (segment a) a) (station_on p c i b))) e o)

      -- in a later one
      later : segment a < segment b → NotBack (station_at p c n a) (station_at p c n b)
      unfolding station_at
      later l =
          let q = at-kept b g m in
          let w = within b in
          on-past (segment a) (within a) a f (from-start a h) (station_at p c n b) q.0 (float_trans (c (suc (segment a))) (c (segment b)) (station_at p c n b) (no-fall (suc (segment a)) (segment b) l (omega arith)) q.1)

      never-back : NotBack (station_at p c n a) (station_at p c n b)
      never-back = ⊎_elim same later (eq-or-lt_of_le (segment_rise p n a b k))

    -- the last segment, between the stations i and suc i
    length-at : (i : ℕ) → n ≡ suc (suc i) → along p c n (c (suc i)) ≡ length_to p (suc i)
    length-at i e =
        let h : suc i < n = omega arith in
        let d = step i h in
        let a = start i h in
        let b = end i h in
        let o = order i h in
        along-last p c n i e (λ j l. no-fall j (suc i) (omega arith) h) d (whole-fraction (c i) (c (suc i)) a.value b.value (listed.rise i h) (span (c i) (c (suc i)) a b o) (span-plus (c i) (c (suc i)) a b o))

    whole-length : along p c n (c (n - 1)) ≡ length_to p (n - 1)
    whole-length = let e : suc (n - 2) ≡ n - 1 = omega arith in subst (λ (k : ℕ). along p c n (c k) ≡ length_to p k) e (length-at (n - 2) (omega arith))

    pub kept : StationsKept p c n
    kept = record { line_length = whole-length; number = λ arc f h. (at-kept arc f h).0.finite; segment = at-segment; from = at-first; to = at-last; never_back = never-back }

pub never-back-law : NeverBack
never-back-law xs stations fit numbers ok same listed =
    let n = length stations in
    let counted = counted_is (length xs) (and-fst (track_counted (length xs)) (all_inside xs) ok) in
    let there = placed xs fit (and-snd (track_counted (length xs)) (all_inside xs) ok) in
    kept (nth_station stations) n (let t = counted.1 in omega arith) numbers listed (point_at xs) (λ i h. there i (omega arith)) (let t = counted.2 in omega arith)
