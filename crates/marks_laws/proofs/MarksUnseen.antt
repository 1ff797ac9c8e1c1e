-- Two admitted roads that differ in marks alone are answered alike: an admitted road leaves a call to its own rows and its value, and both are functions of the road that are the same without its marks.
use Prim.Native.Nat.{ℕ, ◌*◌, ◌/◌}
use mathlib.Core.Path.{◌≡◌, refl, ap, ap₂, sym, ◌∙◌}
use mathlib.Core.Bool.{cond}
use mathlib.Core.List.{List, [], ◌∷◌, ◌++◌}
use lib.Dec.{leb, ltb}
use lib.IntN.{ℤ}
use lib.Ieee.{Float}
use lib.ListN.{length, drop}
use Rattle.std.specs.Prelude.{Option, Some, None}
use Rattle.std.specs.Option.{is_some}
use Rattle.refusals.specs.Answer.{Answer, value, refused, Row, row, checked}
use Rattle.refusals.specs.declared.refusals.Refusal.TheVariants.{SampleSpace, BorderSpace, Lane}
use Rattle.records.specs.declared.points.LanePlace.{LanePlace}
use Rattle.records.specs.Roads.{Road, road_of, section_index}
use Rattle.line_samples.specs.Samples.{samples_needed, samples_of}
use Rattle.line_pose.specs.Poses.{pose_of}
use Rattle.admission.specs.Admission.{road_rows}
use Rattle.admission.proofs.AdmissionLaws.{road-admitted}
use Rattle.admission_arguments.specs.Arguments.{station_row, across_row}
use Rattle.line_calls.specs.SampleCall.{samples_call, samples_written, samples_list}
use Rattle.line_calls.specs.PoseCall.{geometry_row, pose_call}
use Rattle.lanes_borders.specs.Borders.{lanes_of, border_list}
use Rattle.lanes_naming.specs.Naming.{lane_named}
use Rattle.lanes_calls.specs.LaneCalls.{borders_call, borders_written, borders_list, lane_named_call}
use Rattle.surface_station.specs.Station.{station_of}
use Rattle.surface_station.specs.Axes.{axes_at}
use Rattle.surface_points.specs.Surfaces.{narrowed_point, surface_at}
use Rattle.surface_locate.specs.Locating.{locate_of}
use Rattle.surface_calls.specs.SurfaceCalls.{place_of_id, lane_there, lane_here, station_call, axes_call, surface_call, lane_surface_call}
use Rattle.surface_calls.specs.LocateCall.{guess_row, target, target_row, locate_call}
use Rattle.marks_laws.specs.Unmarked.{unmarked, Unmoved, MarksUnseen}
use Rattle.marks_laws.proofs.Sections.{index_is, side-is, lanes-are, border_list_lem, lane_named-is}
use Rattle.marks_laws.proofs.ReferenceLine.{needed-is, samples-are, pose-is, station-is, axes-are}
use Rattle.marks_laws.proofs.Points.{surface-is, lane_surface-is}
use Rattle.marks_laws.proofs.Locating.{locate-is}

-- a function of the road that is the same without its marks
abbrev SameUnmarked : {A : Type 0} → (Road → A) → Type 0
SameUnmarked f = (road : Road) → f (unmarked road) ≡ f road

-- it is the same for two roads that differ in marks alone
alike : {A : Type 0} (f : Road → A) → SameUnmarked f → {a b : Road} → unmarked a ≡ unmarked b → f a ≡ f b
alike f same {a} {b} e = sym (same a) ∙ ap f e ∙ same b

-- in the section at s
at-section : {A : Type 0} (f : Road → ℕ → A) → ((road : Road) (i : ℕ) → f (unmarked road) i ≡ f road i) → (s : Float) → SameUnmarked (λ road. f road (section_index road s))
at-section f same s road = same road (section_index (unmarked road) s) ∙ ap (f road) (index_is road s)

-- a call whose rows begin with the road's
answered_by : {A : Type 0} (rows : Road → List Row) (here : Road → Answer A) → SameUnmarked rows → SameUnmarked here
    → Unmoved (λ words numbers. checked (road_rows words numbers ++ rows (road_of words numbers)) (here (road_of words numbers)))
answered_by rows here same same' words numbers words' numbers' h h' e =
    road-admitted words numbers (rows (road_of words numbers)) (here (road_of words numbers)) h
    ∙ ap₂ checked (alike rows same e) (alike here same' e)
    ∙ sym (road-admitted words' numbers' (rows (road_of words' numbers')) (here (road_of words' numbers')) h')

answered : {A : Type 0} (rows : Road → List Row) (here : Road → A) → SameUnmarked rows → SameUnmarked here
    → Unmoved (λ words numbers. checked (road_rows words numbers ++ rows (road_of words numbers)) (value (here (road_of words numbers))))
answered rows here same same' = answered_by rows (λ road. value (here road)) same (λ road. ap value (same' road))

-- a list that is written by what a call answers
written : {A B : Type 0} (list : List ℕ → List Float → A → B) {call : List ℕ → List Float → A} → ((a : A) → Unmoved (λ words numbers. list words numbers a)) → Unmoved call
    → Unmoved (λ words numbers. list words numbers (call words numbers))
written list {call} same same' words numbers words' numbers' h h' e =
    ap (list words numbers) (same' words numbers words' numbers' h h' e) ∙ same (call words' numbers') words numbers words' numbers' h h' e

-- ---- samples and pose

-- row 6
abbrev enough : ℕ → Road → Row
enough n road = row SampleSpace (leb (samples_needed road) (n / 4))

samples-unseen : (n : ℕ) → Unmoved (λ words numbers. samples_call words numbers n)
unfolding samples_call
samples-unseen n = answered (λ road. enough n road ∷ []) samples_needed (λ road. rw (needed-is road)) needed-is

samples_written_lem : (xs : List Float) (a : Answer ℕ) → Unmoved (λ words numbers. samples_written words numbers a xs)
samples_written_lem xs (value n) words numbers words' numbers' h h' e = ap (λ ys. ys ++ drop (4 * n) xs) (alike samples_of samples-are e)
samples_written_lem xs (refused n) words numbers words' numbers' h h' e = refl

samples_list-unseen : (xs : List Float) → Unmoved (λ words numbers. samples_list words numbers xs)
unfolding samples_list
samples_list-unseen xs = written (λ words numbers a. samples_written words numbers a xs) (samples_written_lem xs) (samples-unseen (length xs))

pose-unseen : (samples : List Float) (geometry : ℕ) (s : Float) → Unmoved (λ words numbers. pose_call words numbers samples geometry s)
unfolding pose_call
pose-unseen samples geometry s =
    answered (λ road. enough (length samples) road ∷ geometry_row road geometry ∷ station_row road s ∷ []) (λ road. pose_of road samples geometry s)
    (λ road. rw (needed-is road)) (λ road. pose-is road samples geometry s)

-- ---- points of the surface

lane_there_lem : (at : Option LanePlace) (road : Road) → lane_there (unmarked road) at ≡ lane_there road at
unfolding lane_there
lane_there_lem (Some p) road = ap (λ lanes. cond (ltb p.k (length lanes)) (Some p) None) (side-is road p.section p.right)
lane_there_lem None road = refl

module _ (samples : List Float) (s : Float) where
  -- rows 6 and 7, and the rows of t
  abbrev placed : List Row → Road → List Row
  placed rows road = enough (length samples) road ∷ station_row road s ∷ rows

  placed_same : (rows : List Row) → SameUnmarked (placed rows)
  placed_same rows road = rw (needed-is road)

  station-unseen : Unmoved (λ words numbers. station_call words numbers samples s)
  unfolding station_call
  station-unseen = answered (placed []) (λ road. station_of road samples s) (placed_same []) (λ road. station-is road samples s)

  axes-unseen : Unmoved (λ words numbers. axes_call words numbers samples s)
  unfolding axes_call
  axes-unseen = answered (placed []) (λ road. axes_at road samples s) (placed_same []) (λ road. axes-are road samples s)

  surface-unseen : (t : Float) → Unmoved (λ words numbers. surface_call words numbers samples s t)
  unfolding surface_call
  surface-unseen t =
      let rows = across_row t ∷ [] in
      answered (placed rows) (λ road. narrowed_point (surface_at road samples s t)) (placed_same rows) (λ road. ap narrowed_point (surface-is road samples s t))

  module _ (id : ℤ) (t : Float) where
    -- the lane of that id, its row 10, and its point
    abbrev held : Road → Option LanePlace
    held road = lane_there road (place_of_id (section_index road s) id)

    held_same : SameUnmarked held
    held_same = at-section (λ road i. lane_there road (place_of_id i id)) (λ road i. lane_there_lem (place_of_id i id) road) s

    abbrev lane_rows_by : Option LanePlace → List Row
    lane_rows_by at = across_row t ∷ row Lane (is_some at) ∷ []

    held_rows : SameUnmarked (λ road. placed (lane_rows_by (held road)) road)
    held_rows road = placed_same (lane_rows_by (held (unmarked road))) road ∙ ap (λ at. placed (lane_rows_by at) road) (held_same road)

    lane_here_lem : (road : Road) (at : Option LanePlace) → lane_here (unmarked road) samples at s t ≡ lane_here road samples at s t
    lane_here_lem road None = refl
    lane_here_lem road (Some p) = ap (λ q. value (narrowed_point q)) (lane_surface-is road samples p.section p.right p.k s t)

    held-point : SameUnmarked (λ road. lane_here road samples (held road) s t)
    held-point road = lane_here_lem road (held (unmarked road)) ∙ ap (λ at. lane_here road samples at s t) (held_same road)

    lane_surface-unseen : Unmoved (λ words numbers. lane_surface_call words numbers samples id s t)
    unfolding lane_surface_call
    lane_surface-unseen = answered_by (λ road. placed (lane_rows_by (held road)) road) (λ road. lane_here road samples (held road) s t) held_rows held-point

locate-unseen : (samples : List Float) (x y guess : Float) → Unmoved (λ words numbers. locate_call words numbers samples x y guess)
unfolding locate_call
locate-unseen samples x y guess =
    answered (λ road. enough (length samples) road ∷ guess_row guess ∷ target_row x y ∷ []) (λ road. locate_of road samples (target x y) guess)
    (λ road. rw (needed-is road)) (λ road. locate-is road samples (target x y) guess)

-- ---- borders and names

module _ (s : Float) where
  lanes-same : SameUnmarked (λ road. lanes_of road (section_index road s))
  lanes-same = at-section lanes_of lanes-are s

  borders-unseen : (n : ℕ) → Unmoved (λ words numbers. borders_call words numbers s n)
  unfolding borders_call
  borders-unseen n =
      answered (λ road. station_row road s ∷ row BorderSpace (leb (lanes_of road (section_index road s)) (n / 3)) ∷ []) (λ road. lanes_of road (section_index road s))
      (λ road. ap (λ lanes. station_row road s ∷ row BorderSpace (leb lanes (n / 3)) ∷ []) (lanes-same road)) lanes-same

  list_same : SameUnmarked (λ road. border_list road (section_index road s) s)
  list_same = at-section (λ road i. border_list road i s) (λ road i. border_list_lem road i s) s

  borders_written_lem : (xs : List Float) (a : Answer ℕ) → Unmoved (λ words numbers. borders_written words numbers a s xs)
  borders_written_lem xs (value n) words numbers words' numbers' h h' e = ap (λ ys. ys ++ drop (length ys) xs) (alike (λ road. border_list road (section_index road s) s) list_same e)
  borders_written_lem xs (refused n) words numbers words' numbers' h h' e = refl

  borders_list-unseen : (xs : List Float) → Unmoved (λ words numbers. borders_list words numbers s xs)
  unfolding borders_list
  borders_list-unseen xs = written (λ words numbers a. borders_written words numbers a s xs) (borders_written_lem xs) (borders-unseen (length xs))

  lane_named-unseen : (t : Float) → Unmoved (λ words numbers. lane_named_call words numbers s t)
  unfolding lane_named_call
  lane_named-unseen t =
      answered (λ road. station_row road s ∷ across_row t ∷ []) (λ road. lane_named road (section_index road s) s t) (λ road. refl)
      (at-section (λ road i. lane_named road i s t) (λ road i. lane_named-is road i s t) s)

pub marks-unseen : MarksUnseen
marks-unseen =
    record {
      samples = samples-unseen;
      of_samples_list = samples_list-unseen;
      pose = pose-unseen;
      station = station-unseen;
      axes = axes-unseen;
      surface = surface-unseen;
      of_lane_surface = λ samples id s t. lane_surface-unseen samples s id t;
      locate = locate-unseen;
      borders = borders-unseen;
      of_borders_list = borders_list-unseen;
      of_lane_named = lane_named-unseen;
    }
