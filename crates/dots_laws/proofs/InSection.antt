-- What row 4 says of a section's station list and of its dots: the stations lie from 0 to 10,000, and a dot that a span covers lies before the section's end. Its distance from the section's start is below the span's end, and so below the extent; a station at the section's end or past it has the extent for its distance, or more, since rounding keeps the order.
use Prim.Native.Nat.{ℕ, zero, suc, ◌+◌, ◌-◌, ◌<◌}
use native.Mathlib.Nat.{le_of_suc-le-suc, eq-or-lt_of_le}
use native.Mathlib.Omega.{arith}
use mathlib.Core.Path.{◌≡◌}
use mathlib.Core.Bool.{Bool, true, false, cond}
use mathlib.Core.List.{List, [], ◌∷◌}
use mathlib.Core.Logic.{⊎_elim}
use lib.ListN.{length}
use lib.Dec.{T, leb, ltb, ltb→lt, not_T}
use lib.Ieee.{Float, binary64, le, lt}
use lib.Ieee.Fits.{sub-fits}
use borrow.Author.Tests.{leb-true}
use Rattle.std.proofs.lemmas.Float.{le_trans as float_trans, le_of_lt as float-le_of_lt, lt_of_lt_of_le as float-lt_of_lt_of_le, lt_of_not-le as float-lt_of_not-le, lt_irrefl as float-lt_irrefl, le_right, T_from_true}
use Rattle.float_laws.specs.Binary64.{◌⊖◌, zero64}
use Rattle.float_laws.proofs.Value.{Real, le_refl}
use Rattle.float_laws.proofs.Order.{sub-mono}
use Rattle.float_laws.proofs.Interval.{in-of_le}
use Rattle.float_laws.proofs.Size.{Within, le_of-within}
use Rattle.records.specs.declared.points.Mark.{Mark}
use Rattle.records.specs.Roads.{Road, section_of, mark_at}
use Rattle.records_lent.proofs.TestLaws.{and-fst, and-snd, chain-at, all-at}
use Rattle.records_marks.specs.Covers.{Covering}
use Rattle.admission.specs.Limits.{least_kind, greatest_kind, greatest_length, section_end, section_extent, mark_limited, marks_limited, limited}
use Rattle.admission_laws.proofs.Constants.{const-real}
use Rattle.admission_laws.proofs.Fitting.{RoadFits}
use Rattle.admission_laws.proofs.LimitParts.{limited-parts}
use Rattle.admission_laws.proofs.RoadBounds.{length-within, section_start-in, section_start-within, extent-within}
use Rattle.dots.specs.Along.{nth_station}
use Rattle.dots_calls.specs.DotsCall.{least_stations, most_stations, rising, stations_listed}
use Rattle.dots_laws.specs.DotsAnswered.{StationsListed}

rising-at : (c : ℕ → Float) (n : ℕ) → rising c n ≡ true → (i : ℕ) → i < n → T (lt (c i) (c (suc i)))
unfolding rising
rising-at c zero e i h = absurd (omega arith)
rising-at c (suc n) e i h =
    ⊎_elim
    (λ q. rw q (T_from_true (lt (c n) (c (suc n))) (and-snd (rising c n) (lt (c n) (c (suc n))) e)))
    (λ m. rising-at c n (and-fst (rising c n) (lt (c n) (c (suc n))) e) i m)
    (eq-or-lt_of_le (le_of_suc-le-suc h))

module _ (road : Road) (fit : RoadFits road) (ok : limited road ≡ true) (i : ℕ) (h : i < length road.sections) where
  abbrev start : Float
  start = (section_of road i).start

  abbrev end : Float
  end = section_end road i

  abbrev extent : Float
  extent = section_extent road i

  end-within : Within binary64 end greatest_length
  end-within = go (ltb (i + 1) (length road.sections)) (ltb→lt (i + 1) (length road.sections))
    where
      go : (b : Bool) → (T b → i + 1 < length road.sections) → Within binary64 (cond b (section_of road (i + 1)).start road.length) greatest_length
      go true l = section_start-within road fit ok (i + 1) (l tt)
      go false l = length-within road fit ok

  -- ---- the station list

  pub stations-listed : (stations : List Float) → stations_listed road i stations ≡ true → StationsListed road i stations
  unfolding stations_listed
  stations-listed stations e =
      let c : ℕ → Float = nth_station stations in
      let n : ℕ = length stations in
      let t = chain-at (leb least_stations n) (leb n most_stations ∷ rising c (n - 1) ∷ le start (c 0) ∷ le (c (n - 1)) end ∷ []) e in
      let from = T_from_true (le start (c 0)) (t 3) in
      let to = T_from_true (le (c (n - 1)) end) (t 4) in
      record {
        least = leb-true least_stations n (t 0);
        most = leb-true n most_stations (t 1);
        rise =
            record {
              from = float_trans zero64 start (c 0) (section_start-in road fit ok i h).above from;
              rise = λ j l. rising-at c (n - 1) (t 2) j (omega arith);
              to = float_trans (c (n - 1)) end greatest_length to (le_of-within binary64 end greatest_length end-within).1;
            };
        from = from;
        to = to;
      }

  -- ---- a dot

  -- a span lies in the section's extent
  mark-in : (j : ℕ) → j < length (section_of road i).marks → T (le zero64 (mark_at road i j).start) × T (le (mark_at road i j).end extent)
  unfolding marks_limited mark_limited
  mark-in j l =
      let m : Mark = mark_at road i j in
      let e = all-at (λ j. mark_limited extent (mark_at road i j)) (length (section_of road i).marks) ((limited-parts road ok).marks i h) j l in
      let t = chain-at (leb least_kind m.kind) (leb m.kind greatest_kind ∷ le zero64 m.start ∷ le m.start m.end ∷ le m.end extent ∷ []) e in
      (T_from_true (le zero64 m.start) (t 2), T_from_true (le m.end extent) (t 4))

  module _ (lane kind : ℕ) (s : Float) (r : Real binary64 s) (c : Covering road i lane kind s) where
    abbrev distance : Float
    distance = s ⊖ start

    abbrev m : Mark
    m = mark_at road i c.j

    distance-below : T (lt distance extent)
    distance-below = float-lt_of_lt_of_le distance m.end extent c.below (mark-in c.j c.there).1

    distance-real : Real binary64 distance
    distance-real =
        (in-of_le binary64 zero64 extent distance (const-real _ tt) (extent-within road fit ok i h).value (sub-fits binary64 s start) (float_trans zero64 m.start distance (mark-in c.j c.there).0 c.from) (float-le_of_lt distance extent distance-below)).value

    not-past : T (le end s) → ⊥
    unfolding section_extent
    not-past l =
        let a = (section_start-within road fit ok i h).value in
        let b = end-within.value in
        float-lt_irrefl distance
        (float-lt_of_lt_of_le distance extent distance distance-below
        (sub-mono binary64 end s start start b r a a l (le_refl binary64 start a) (extent-within road fit ok i h).value.finite distance-real.finite))

    pub before-end : T (lt s end)
    before-end = float-lt_of_not-le end s (le_right end end (le_refl binary64 end end-within.value)) (le_right s s (le_refl binary64 s r)) (not_T (le end s) not-past)
