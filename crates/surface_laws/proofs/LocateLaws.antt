-- `LocateAnswers` and `LocateKept` hold: a value where all rows pass (`located-answered`) and nowhere else (`answered-admitted`, `rows_pass`), after at most 24 moves (`located-moves`); demand 3 on locate (`located-met`). The guess and the target are finite, since rows 7 and 9 passed.
use Prim.Native.Nat.{ℕ, ◌+◌, ◌*◌, ◌/◌, ◌^◌, ◌≤◌}
use native.Mathlib.Nat.{le_trans, le_of_eq}
use native.Mathlib.Omega.{arith}
use mathlib.Core.Path.{◌≡◌, refl, sym, ◌∙◌, ap, subst}
use mathlib.Core.Bool.{Bool, true, ◌&&◌}
use mathlib.Core.List.{List}
use lib.Dec.{T, leb}
use lib.Ieee.{Float, binary64, low, fits, le, neg, of_bits}
use lib.ListN.{length}
use borrow.Author.Tests.{leb-true}
use Rattle.std.proofs.lemmas.Float.{T_from_true}
use Rattle.float_laws.specs.Binary64.{zero64}
use Rattle.float_laws.proofs.Value.{mag, pl, mi, Real, le→units}
use Rattle.float_laws.proofs.Interval.{in-of_le, from_zero}
use Rattle.float_laws.proofs.Size.{reach-within}
use Rattle.refusals.specs.Answer.{value, checked}
use Rattle.records.specs.Roads.{Road, road_of}
use Rattle.arithmetic_ranges.specs.Ranges.{sized, finite64}
use Rattle.admission_arguments.specs.Arguments.{half_width, across_road}
use Rattle.line_samples.specs.Samples.{samples_needed}
use Rattle.admission_laws.specs.Fractions.{IsF64, AllF64}
use Rattle.admission_laws.proofs.FractionLaws.{at_most-of, not-over, below_none}
use Rattle.records_lent.proofs.TestLaws.{and-fst, and-snd}
use Rattle.admission_laws.proofs.RoadBounds.{length-in, sized-within}
use Rattle.admission.specs.Admission.{admitted, pass}
use Rattle.admission.proofs.RowLaws.{pass-checked, checked-pass}
use Rattle.admission.proofs.AdmissionLaws.{road-answered, road-admitted}
use Rattle.admission_laws.proofs.Places.{on_road_lem}
use Rattle.lanes_laws.proofs.AdmittedRoad.{Admits, admits}
use Rattle.surface_points.specs.Surfaces.{surface_at}
use Rattle.surface_locate.specs.declared.points.Position.{Position}
use Rattle.surface_locate.specs.Locating.{most_moves, place, start_of, met_at, locate_of}
use Rattle.surface_calls.specs.LocateCall.{greatest_target, on_map, target, locate_rows, locate_here, locate_call}
use Rattle.surface_laws.specs.Positions.{MetKept, LocateAnswers, LocateKept}
use Rattle.surface_laws.proofs.DistanceLaws.{distance-under}
use Rattle.surface_laws.proofs.WalkFits.{PlaceFits, walk-fits, start_fits}
use Rattle.surface_laws.proofs.MoveCounts.{located-count}
use Rattle.surface_laws.proofs.MetLaws.{met-on, met-across, met-near}

-- ---- the places of an answer

-- the pair of an answer is an f64's
pair_fits : (road : Road) (samples : List Float) (x y guess : Float) → IsF64 road.length → IsF64 guess → PlaceFits (place (locate_of road samples (target x y) guess).s (locate_of road samples (target x y) guess).t)
unfolding locate_of
pair_fits road samples x y guess f g = walk-fits road samples (target x y) f most_moves (start_of road samples (target x y) guess) 0 (start_fits road samples (target x y) f guess g)

-- its mark is that of its pair
mark-is : (road : Road) (samples : List Float) (x y guess : Float) → (locate_of road samples (target x y) guess).converged ≡ met_at road samples (target x y) (place (locate_of road samples (target x y) guess).s (locate_of road samples (target x y) guess).t)
unfolding locate_of
mark-is road samples x y guess = refl

-- ---- constants

half_width-real : Real binary64 half_width
unfolding of_bits fits
half_width-real = record { finite = tt; fits = tt }

half_width-is : pl binary64 half_width ≡ 80 * 2 ^ low binary64
unfolding of_bits pl
half_width-is = refl

greatest-real : Real binary64 greatest_target
unfolding of_bits fits
greatest-real = record { finite = tt; fits = tt }

zero-real : Real binary64 zero64
unfolding of_bits fits
zero-real = record { finite = tt; fits = tt }

-- ---- the two ranges, in units

offset-kept : (t : Float) → IsF64 t → across_road t ≡ true → Real binary64 t × (mag binary64 t ≤ 80 * 2 ^ low binary64)
offset-kept t f h =
    let below = T_from_true (le (neg half_width) t) (and-fst (le (neg half_width) t) (le t half_width) h) in
    let above = T_from_true (le t half_width) (and-snd (le (neg half_width) t) (le t half_width) h) in
    let w = reach-within binary64 t half_width f half_width-real.fits below above half_width-real.finite in
    (w.value, le_trans w.le (le_of_eq half_width-is))

station-kept : (len s : Float) → Real binary64 len → IsF64 s → T (le zero64 s) → T (le s len) → (Real binary64 s × (mi binary64 s ≡ 0)) × (Real binary64 len × (pl binary64 s + mi binary64 len ≤ pl binary64 len + mi binary64 s))
unfolding of_bits
station-kept len s r f above below =
    let i = in-of_le binary64 zero64 len s zero-real r f above below in
    ((i.value, from_zero binary64 s i.value above), (r, le→units binary64 s len i.value r below))

-- ---- the call

module _ (words : List ℕ) (numbers : List Float) (samples : List Float) (x y guess : Float) where
  abbrev road : Road
  road = road_of words numbers

  -- an admitted road, whole fours enough, a finite guess, and a target in ±2,000,000: the call answers
  pub located-answered : admitted words numbers ≡ true → pass (locate_rows words numbers samples x y guess) ≡ true → locate_call words numbers samples x y guess ≡ value (locate_here words numbers samples x y guess)
  unfolding locate_call
  located-answered ok h =
      road-admitted words numbers (locate_rows words numbers samples x y guess) (value (locate_here words numbers samples x y guess)) ok
      ∙ pass-checked (locate_rows words numbers samples x y guess) (value (locate_here words numbers samples x y guess)) h

  module _ (p : Position) (e : locate_call words numbers samples x y guess ≡ value p) where
    -- an answer comes of an admitted road only
    pub answered-admitted : admitted words numbers ≡ true
    unfolding locate_call
    answered-admitted = road-answered words numbers (locate_rows words numbers samples x y guess) (value (locate_here words numbers samples x y guess)) p e

    own-rows : checked (locate_rows words numbers samples x y guess) (value (locate_here words numbers samples x y guess)) ≡ value p
    unfolding locate_call
    own-rows = sym (road-admitted words numbers (locate_rows words numbers samples x y guess) (value (locate_here words numbers samples x y guess)) answered-admitted) ∙ e

    abbrev room : Bool
    room = leb (samples_needed road) (length samples / 4)

    rows_pass : room && (finite64 guess && (on_map x y && true)) ≡ true
    rows_pass = checked-pass (locate_rows words numbers samples x y guess) (value (locate_here words numbers samples x y guess)) p own-rows

    -- of whole fours enough, a finite guess and a target in ±2,000,000
    pub answered-room : samples_needed road * 4 ≤ length samples
    answered-room =
        let l = leb-true (samples_needed road) (length samples / 4) (and-fst room (finite64 guess && (on_map x y && true)) rows_pass) in
        omega arith

    own-pass : finite64 guess && (on_map x y && true) ≡ true
    own-pass = and-snd room (finite64 guess && (on_map x y && true)) rows_pass

    pub answered-guess : finite64 guess ≡ true
    answered-guess = and-fst (finite64 guess) (on_map x y && true) own-pass

    pub answered-target : on_map x y ≡ true
    answered-target = and-fst (on_map x y) true (and-snd (finite64 guess) (on_map x y && true) own-pass)

    -- and it is the place of the definition
    pub answered-place : p ≡ locate_here words numbers samples x y guess
    answered-place = same (sym own-rows ∙ pass-checked (locate_rows words numbers samples x y guess) (value (locate_here words numbers samples x y guess)) rows_pass)
      where
        same : {i j : Position} → value i ≡ value j → i ≡ j
        same q = cc

    pub located-moves : p.moves ≤ 24
    located-moves = subst (λ (q : Position). q.moves ≤ 24) (sym answered-place) (located-count road samples (target x y) guess)

    module _ (fitting : AllF64 numbers) (fx : IsF64 x) (fy : IsF64 y) (fg : IsF64 guess) where
      abbrev admission : Admits road
      admission = admits words numbers fitting answered-admitted

      length-real : Real binary64 road.length
      length-real = (length-in road admission.fit admission.limits).value

      x_real : Real binary64 x
      x_real = (sized-within greatest_target x greatest-real fx (and-fst (sized greatest_target x) (sized greatest_target y) answered-target)).value

      y_real : Real binary64 y
      y_real = (sized-within greatest_target y greatest-real fy (and-snd (sized greatest_target x) (sized greatest_target y) answered-target)).value

      place-met : (q : Position) → PlaceFits (place q.s q.t) → met_at road samples (target x y) (place q.s q.t) ≡ true → MetKept road samples x y q
      place-met q f m =
          let on = on_road_lem road q.s f.0 (met-on road samples (target x y) (place q.s q.t) m) in
          let k = station-kept road.length q.s length-real f.0 on.above on.below in
          let rs = k.0.0 in
          let off = offset-kept q.t f.1 (met-across road samples (target x y) (place q.s q.t) m) in
          let near = met-near road samples (target x y) (place q.s q.t) m x_real y_real in
          let at = surface_at road samples q.s q.t in
          record {
            s_finite = rs.finite;
            s_from = below_none q.s rs k.0.1;
            s_to = not-over q.s road.length rs length-real k.1.1;
            t_size = at_most-of binary64 q.t off.0 80 off.1;
            x_finite = near.across.finite;
            y_finite = near.up.finite;
            distance = distance-under x at.x y at.y 1000000000000 x_real near.across y_real near.up near.squares;
          }

      -- demand 3 on locate; numbers, x, y and guess are f64
      pub located-met : p.converged ≡ true → MetKept road samples x y p
      located-met c =
          let q = locate_here words numbers samples x y guess in
          let mark = ap (λ (r : Position). r.converged) (sym answered-place) ∙ c in
          subst (λ (r : Position). MetKept road samples x y r) (sym answered-place)
          (place-met q (pair_fits road samples x y guess length-real.fits fg) (sym (mark-is road samples x y guess) ∙ mark))

-- ---- the statements

pub locate-answers : LocateAnswers
locate-answers = located-answered

pub locate-kept : LocateKept
locate-kept words numbers samples x y guess fitting fx fy fg p e =
    record {
      road_passes = answered-admitted words numbers samples x y guess p e;
      rows_pass = rows_pass words numbers samples x y guess p e;
      place = answered-place words numbers samples x y guess p e;
      moves = located-moves words numbers samples x y guess p e;
      met = located-met words numbers samples x y guess p e fitting fx fy fg;
    }
