-- Demand 3 as it is put, on calls: for every lent road whose samples the samples call makes, and whatever axes, surface and lane surface then answer with those samples, the axes' squares and the points' sizes are within their bounds; and on such a road they do answer.
-- The numbers lent, s and t are f64 (`Fitting`, `Fits64`), which every f64 of the machine is. A call that answers has passed its rows, so the road is admitted, s lies in 0..length and t in -80..80; the rest are the laws on the definitions.
use mathlib.Core.Path.{◌≡◌, refl, sym, ◌∙◌, ap, subst}
use mathlib.Core.Bool.{Bool, true, false, cond}
use mathlib.Core.List.{List, [], ◌∷◌, ◌++◌}
use Prim.Native.Nat.{ℕ, ◌+◌, ◌-◌, ◌*◌, ◌/◌, ◌≤◌, ◌<◌}
use native.Mathlib.Omega.{arith}
use lib.Dec.{leb, ltb}
use lib.IntN.{ℤ}
use lib.ListN.{length, drop, length-append, length-drop}
use lib.Ieee.{Float}
use borrow.Author.Tests.{le-leb, ltb-true}
use Rattle.std.specs.Prelude.{Option, Some, None}
use Rattle.refusals.specs.Answer.{Answer, value, Row, checked}
use Rattle.records.specs.declared.points.LanePlace.{LanePlace}
use Rattle.records.specs.Roads.{Road, road_of, section_index}
use Rattle.line_samples.specs.Samples.{samples_needed, samples_of}
use Rattle.line_samples.proofs.SpiralLaws.{length-samples_of}
use Rattle.admission.specs.Limits.{on_road}
use Rattle.admission_arguments.specs.Arguments.{station_row, across_row, across_road}
use Rattle.admission_laws.proofs.Fitting.{Fits64, Fitting}
use Rattle.records_lent.proofs.TestLaws.{and-fst, and-snd}
use Rattle.admission.specs.Admission.{pass, road_rows, admitted}
use Rattle.line_calls.specs.SampleCall.{sample_row, samples_call, samples_list}
use Rattle.admission.proofs.RowLaws.{checked-pass, pass-checked}
use Rattle.admission.proofs.AdmissionLaws.{road-admitted}
use Rattle.line_calls.proofs.SampleCalls.{samples_written_lem, made-admitted, made-needed}
use Rattle.lanes_borders.specs.Borders.{side_lanes, borders_of}
use Rattle.surface_station.specs.declared.axis.Axes.{Axes}
use Rattle.surface_station.specs.Axes.{axes_at}
use Rattle.surface_laws.specs.Squares.{UnitLong}
use Rattle.surface_points.specs.declared.points.SurfacePoint32.{SurfacePoint32}
use Rattle.surface_points.specs.Surfaces.{narrowed_point, surface_at, lane_surface_at}
use Rattle.admission_laws.specs.Fractions.{Between}
use Rattle.surface_laws.specs.Sizes.{SizedPoint}
use Rattle.surface_laws.proofs.AxesKept.{forward-squares, up-squares}
use Rattle.surface_laws.proofs.SurfaceKept.{surface-narrowed-kept, lane_surface-narrowed-kept}
use Rattle.surface_calls.specs.SurfaceCalls.{across_rows, place_of_id, lane_there, lane_held, lane_row, lane_rows, place_rows, station_rows, axes_call, surface_here, surface_call, lane_here, lane_surface_call}

-- ---- rows

-- where a value comes out all rows passed, and it is the value
answered : {A : Type 0} (rs : List Row) (v a : A) → checked rs (value v) ≡ value a → (pass rs ≡ true) × (v ≡ a)
answered rs v a e = let p = checked-pass rs (value v) a e in (p, same (sym (pass-checked rs (value v) p) ∙ e))
  where
    same : value v ≡ value a → v ≡ a
    same q = cc

pass-after : (rs ss : List Row) → pass (rs ++ ss) ≡ true → pass ss ≡ true
pass-after [] ss e = e
pass-after (r ∷ rs) ss e = pass-after rs ss (and-snd r.passes (pass (rs ++ ss)) e)

-- a lane that is found is one of its side's
lane_is-there : (road : Road) (o : Option LanePlace) (p : LanePlace) → lane_there road o ≡ Some p → p.k < length (side_lanes road p.section p.right)
unfolding lane_there
lane_is-there road None p e = cc
lane_is-there road (Some q) p e = go (ltb q.k (length (side_lanes road q.section q.right))) refl e
  where
    go : (b : Bool) → ltb q.k (length (side_lanes road q.section q.right)) ≡ b → cond b (Some q) None ≡ Some p → p.k < length (side_lanes road p.section p.right)
    go true t h = let same : q ≡ p = cc in subst (λ (x : LanePlace). x.k < length (side_lanes road x.section x.right)) same (ltb-true _ _ t)
    go false t h = cc

-- ---- the calls, with the samples that the samples call writes into xs

module _ (words : List ℕ) (numbers : List Float) (fitting : Fitting numbers) (xs : List Float) (n : ℕ) (made : samples_call words numbers (length xs) ≡ value n) where
  ok : admitted words numbers ≡ true
  ok = made-admitted words numbers (length xs) n made

  abbrev written : List Float
  written = samples_list words numbers xs

  abbrev rest : List Float
  rest = drop (4 * samples_needed (road_of words numbers)) xs

  written_is : samples_list words numbers xs ≡ samples_of (road_of words numbers) ++ rest
  written_is = let m = made-needed words numbers (length xs) n made in let e = m.0 in let l = m.1 in samples_written_lem words numbers ok xs (omega arith)

  -- s has passed row 7
  on_of : (ss : List Row) (s : Float) → pass (station_rows words numbers written s ++ ss) ≡ true → on_road (road_of words numbers) s ≡ true
  on_of ss s e =
      and-fst (on_road (road_of words numbers) s) (pass ss)
      (pass-after (road_rows words numbers ++ (sample_row words numbers (length written) ∷ [])) (station_row (road_of words numbers) s ∷ ss) e)

  -- t has passed row 8
  across_of_lem : (ss : List Row) (s t : Float) → pass (station_rows words numbers written s ++ (across_row t ∷ ss)) ≡ true → across_road t ≡ true
  across_of_lem ss s t e = and-fst (across_road t) (pass ss) (pass-after (station_rows words numbers written s) (across_row t ∷ ss) e)

  -- ---- axes: "the squares of the forward axis" and "of up"
  pub axes-kept : (s : Float) → Fits64 s → (a : Axes) → axes_call words numbers (samples_list words numbers xs) s ≡ value a → UnitLong a.along × UnitLong a.up
  unfolding axes_call
  axes-kept s fits-s a e =
      let w = answered (station_rows words numbers written s) (axes_at (road_of words numbers) written s) a e in
      let on = on_of [] s w.0 in
      let is : axes_at (road_of words numbers) (samples_of (road_of words numbers) ++ rest) s ≡ a = ap (λ (l : List Float). axes_at (road_of words numbers) l s) (sym written_is) ∙ w.1 in
      (subst (λ (x : Axes). UnitLong x.along) is (forward-squares words numbers fitting ok rest s fits-s on), subst (λ (x : Axes). UnitLong x.up) is (up-squares words numbers fitting ok rest s fits-s on))

  -- ---- "x, y and z are the f32 numbers that `surface` answers"
  pub surface-kept : (s t : Float) → Fits64 s → Fits64 t → (p : SurfacePoint32) → surface_call words numbers (samples_list words numbers xs) s t ≡ value p → SizedPoint p.point.x p.point.y p.point.z
  unfolding surface_call
  surface-kept s t fits-s fits-t p e =
      let w = answered (station_rows words numbers written s ++ across_rows t) (surface_here words numbers written s t) p e in
      let on = on_of (across_rows t) s w.0 in
      let in-t = across_of_lem [] s t w.0 in
      let is : narrowed_point (surface_at (road_of words numbers) (samples_of (road_of words numbers) ++ rest) s t) ≡ p = ap (λ (l : List Float). narrowed_point (surface_at (road_of words numbers) l s t)) (sym written_is) ∙ w.1 in
      subst (λ (x : SurfacePoint32). SizedPoint x.point.x x.point.y x.point.z) is (surface-narrowed-kept words numbers fitting ok rest s fits-s on t fits-t in-t)

  -- ---- "or `lane_surface` where t lies between that lane's inner and outer at s, both included": of the k-th lane of a side, which is the id's
  module _ (id : ℤ) (s t : Float) (right : Bool) (k : ℕ) where
    abbrev lane : LanePlace
    lane = record { section = section_index (road_of words numbers) s; right = right; k = k }

    abbrev pub lane_point : List Float → SurfacePoint32
    lane_point samples = narrowed_point (lane_surface_at (road_of words numbers) samples (section_index (road_of words numbers) s) right k s t)

    pub lane_surface-kept : lane_held words numbers id s ≡ Some lane → Fits64 s → Fits64 t → (p : SurfacePoint32) → lane_surface_call words numbers (samples_list words numbers xs) id s t ≡ value p
        → Between (borders_of (road_of words numbers) (section_index (road_of words numbers) s) s right k).inner (borders_of (road_of words numbers) (section_index (road_of words numbers) s) s right k).outer t
        → SizedPoint p.point.x p.point.y p.point.z
    unfolding lane_surface_call
    lane_surface-kept held fits-s fits-t p e between =
        let there = lane_is-there (road_of words numbers) (place_of_id (section_index (road_of words numbers) s) id) lane held in
        let rows = station_rows words numbers written s ++ lane_rows words numbers id s t in
        let w = answered rows (lane_point written) p (ap (λ (l : Option LanePlace). checked rows (lane_here (road_of words numbers) written l s t)) (sym held) ∙ e) in
        let on = on_of (lane_rows words numbers id s t) s w.0 in
        let in-t = across_of_lem (lane_row words numbers id s ∷ []) s t w.0 in
        let is : lane_point (samples_of (road_of words numbers) ++ rest) ≡ p = ap lane_point (sym written_is) ∙ w.1 in
        subst (λ (x : SurfacePoint32). SizedPoint x.point.x x.point.y x.point.z) is (lane_surface-narrowed-kept words numbers fitting ok rest s fits-s on t fits-t in-t right k there between)

  -- ---- and they answer: wherever s lies in 0..length and t in -80..80, and for a lane that the section at s has

  -- row 6 passes
  room : leb (samples_needed (road_of words numbers)) (length (samples_list words numbers xs) / 4) ≡ true
  room =
      let m = made-needed words numbers (length xs) n made in
      let e = m.0 in
      let l = m.1 in
      let a : length (samples_list words numbers xs) ≡ 4 * samples_needed (road_of words numbers) + (length xs - 4 * samples_needed (road_of words numbers)) =
      ap length written_is
      ∙ length-append (samples_of (road_of words numbers)) rest
      ∙ ap (λ (k : ℕ). k + length rest) (length-samples_of (road_of words numbers))
      ∙ ap (λ (k : ℕ). 4 * samples_needed (road_of words numbers) + k) (length-drop (4 * samples_needed (road_of words numbers)) xs) in
      let u : samples_needed (road_of words numbers) ≤ length (samples_list words numbers xs) / 4 = omega arith in
      le-leb (samples_needed (road_of words numbers)) (length (samples_list words numbers xs) / 4) u

  module _ (s : Float) (on : on_road (road_of words numbers) s ≡ true) where
    past : {A : Type 0} (ss : List Row) (a : Answer A) → checked (station_rows words numbers written s ++ ss) a ≡ checked ss a
    past ss a = road-admitted words numbers (place_rows words numbers written s ++ ss) a ok ∙ rw (room, on)

    pub axes-answered : axes_call words numbers (samples_list words numbers xs) s ≡ value (axes_at (road_of words numbers) (samples_list words numbers xs) s)
    unfolding axes_call
    axes-answered = past [] (value (axes_at (road_of words numbers) written s))

    module _ (t : Float) (in-t : across_road t ≡ true) where
      pub surface-answered : surface_call words numbers (samples_list words numbers xs) s t ≡ value (surface_here words numbers (samples_list words numbers xs) s t)
      unfolding surface_call
      surface-answered = past (across_rows t) (value (surface_here words numbers written s t)) ∙ rw in-t

      pub lane_surface-answered : (id : ℤ) (right : Bool) (k : ℕ) → lane_held words numbers id s ≡ Some (lane id s t right k)
          → lane_surface_call words numbers (samples_list words numbers xs) id s t ≡ value (lane_point id s t right k (samples_list words numbers xs))
      unfolding lane_surface_call
      lane_surface-answered id right k held = past (lane_rows words numbers id s t) (lane_here (road_of words numbers) written (lane_held words numbers id s) s t) ∙ rw (in-t, held)
