-- The dots of a line, put together: each is the station at a multiple that is kept, multiples never fall, and of arc lengths in order the later station is no more than a nanometre below.
use Prim.Native.Nat.{ℕ, suc, ◌≤◌, ◌<◌}
use native.Mathlib.Nat.{le_trans, le_of_eq}
use native.Mathlib.Omega.{arith}
use mathlib.Core.Path.{refl, ◌≡◌, sym, ◌∙◌, subst}
use mathlib.Core.Bool.{Bool, true}
use mathlib.Core.List.{List}
use lib.ListN.{length, get_or}
use lib.Dec.{T}
use borrow.Author.Tests.{lt-ltb}
use lib.Ieee.{Float, nan, binary32, binary64, of_bits, fits, le, lt}
use lib.Ieee.Fits.{add-fits}
use lib.Ieee.Scale.{finite}
use Rattle.std.proofs.lemmas.Float.{le_of_lt as float-le_of_lt, T_from_true}
use Rattle.float_laws.specs.Binary32.{zero32}
use Rattle.float_laws.specs.Binary64.{◌⊖◌, ◌⊗◌}
use Rattle.float_laws.proofs.Value.{pl, mi, Real, lt→units}
use Rattle.float_laws.proofs.Interval.{nil, nil-real, nil-pl, nil-mi, from_zero}
use Rattle.records.specs.declared.points.Point.{Point}
use Rattle.records.specs.Roads.{Road}
use Rattle.coordinates.specs.Points.{point_at}
use Rattle.tracks_laws.specs.TrackLaws.{IsF32}
use Rattle.tracks.specs.Lengths.{distance_of, length_to}
use Rattle.dots.specs.Along.{nth_station, segment_of_arc, fraction_into, station_at}
use Rattle.dots.specs.Dots.{multiple, most_multiples, multiples, line_length, is_dotted, dots_to, dots_on}
use Rattle.dots_laws.specs.NeverBack.{NotBack, StationsKept}
use Rattle.dots_laws.specs.DotsKept.{DotsKept, DotsLaws}
use Rattle.dots_laws.proofs.NeverBack.{never-back-law}
use Rattle.dots_laws.proofs.Multiples.{multiple-fits, multiple-plus, multiple_rise, multiples-first, multiples-are}
use Rattle.dots_laws.proofs.KeptLists.{in_order, list-kept}

module _ (road : Road) (section rank : ℕ) (p : ℕ → Point) (c : ℕ → Float) (n : ℕ) (kept : StationsKept p c n) (spacing : Float) (f : IsF32 spacing) (t : T (finite spacing)) (up : T (lt zero32 spacing)) where
  real : Real binary32 spacing
  real = record { finite = t; fits = f }

  above : 0 < pl binary32 spacing
  unfolding of_bits
  above = let e = lt→units binary32 nil spacing (nil-real binary32) real up in let a = nil-pl binary32 in let b = nil-mi binary32 in omega arith

  plus : mi binary32 spacing ≡ 0
  unfolding of_bits
  plus = from_zero binary32 spacing real (float-le_of_lt nil spacing up)

  abbrev at : ℕ → Float
  at k = station_at p c n (multiple spacing k)

  abbrev keep : Float → Bool
  keep = is_dotted road section rank

  abbrev dots : ℕ → List Float
  dots m = dots_to road section rank p c n spacing m

  abbrev whole : Float
  whole = line_length p c n spacing

  stations : (k l : ℕ) → k ≤ l → NotBack (at k) (at l)
  unfolding of_bits
  stations k l h = kept.never_back (multiple spacing k) (multiple spacing l) (multiple-fits spacing real above plus k) (multiple-fits spacing real above plus l) (multiple-plus spacing real above plus k) (multiple_rise spacing real above plus k l h)

  dotted : (m i : ℕ) → i < length (dots m) → keep (get_or (dots m) i nan) ≡ true
  dotted m i h = let a = (list-kept at keep m).only i h in subst (λ (s : Float). keep s ≡ true) (sym a.is) a.kept

  number : (m i : ℕ) → i < length (dots m) → T (finite (get_or (dots m) i nan))
  unfolding of_bits
  number m i h = let a = (list-kept at keep m).only i h in subst (λ (s : Float). T (finite s)) (sym a.is) (kept.number (multiple spacing a.k) (multiple-fits spacing real above plus a.k) (multiple-plus spacing real above plus a.k))

  pub dot-real : (m i : ℕ) → i < length (dots m) → Real binary64 (get_or (dots m) i nan)
  unfolding station_at
  dot-real m i h =
      let a = (list-kept at keep m).only i h in
      let arc = multiple spacing a.k in
      let j = segment_of_arc p n arc in
      record { finite = number m i h; fits = subst (λ (s : Float). T (fits binary64 s)) (sym a.is) (add-fits binary64 (c j) ((c (suc j) ⊖ c j) ⊗ fraction_into (length_to p j) (distance_of (p j) (p (suc j))) arc)) }

  -- no dot lies before the first station
  pub on_from : (m i : ℕ) → i < length (dots m) → T (le (c 0) (get_or (dots m) i nan))
  unfolding of_bits
  on_from m i h = let a = (list-kept at keep m).only i h in subst (λ (s : Float). T (le (c 0) s)) (sym a.is) (kept.from (multiple spacing a.k) (multiple-fits spacing real above plus a.k) (multiple-plus spacing real above plus a.k))

  whole-list : dots_on road section rank p c n spacing ≡ dots (multiples spacing whole)
  unfolding dots_on
  whole-list = refl

  never-back : (m i j : ℕ) → i ≤ j → j < length (dots m) → NotBack (get_or (dots m) i nan) (get_or (dots m) j nan)
  never-back m i j h l =
      let a = (list-kept at keep m).only i (let o : i < length (dots m) = omega arith in o) in
      let b = (list-kept at keep m).only j l in
      subst (λ (s : Float). NotBack s (get_or (dots m) j nan)) (sym a.is)
      (subst (λ (s : Float). NotBack (at a.k) s) (sym b.is) (stations a.k b.k (in_order at keep a.k b.k b.kept (le_trans (le_of_eq a.before) (le_trans h (le_of_eq (sym b.before)))))))

  too-many : suc most_multiples ≤ multiples spacing whole → (k : ℕ) → k ≤ most_multiples → T (le (multiple spacing k) whole)
  too-many many k h = T_from_true (le (multiple spacing k) whole) (multiples-first spacing real above plus whole k h ∙ lt-ltb k (multiples spacing whole) (let o : k < multiples spacing whole = omega arith in o))

  pub dots-kept : DotsKept road section rank p c n spacing
  dots-kept = record { whole_list = whole-list; multiples = multiples-are spacing real above plus whole; too_many = too-many; listed = list-kept at keep; dotted = dotted; number = number; never_back = never-back }

pub dots-laws : DotsLaws
dots-laws xs stations fit numbers ok same listed spacing f t up road section rank =
    dots-kept road section rank (point_at xs) (nth_station stations) (length stations) (never-back-law xs stations fit numbers ok same listed) spacing f t up
