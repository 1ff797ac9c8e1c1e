-- Document 02, point 2: "Points, borders and their sizes are unaffected by spans." Two admitted roads that differ in marks alone are answered alike by every call that gives values, but for `dots`, which goes by them. Read `MarksUnseen` first, at the end. A call that is added later, takes a road and does not go by marks has its line there.
use Rattle.std.specs.Prelude.{ℕ, ◌≡◌, true, List, [], map, ℤ, Float}
use Rattle.records.specs.Roads.{Road, Section, road_of}
use Rattle.admission.specs.Admission.{admitted}
use Rattle.line_calls.specs.SampleCall.{samples_call, samples_list}
use Rattle.line_calls.specs.PoseCall.{pose_call}
use Rattle.lanes_calls.specs.LaneCalls.{borders_call, borders_list, lane_named_call}
use Rattle.surface_calls.specs.SurfaceCalls.{station_call, axes_call, surface_call, lane_surface_call}
use Rattle.surface_calls.specs.LocateCall.{locate_call}

-- a section, and a road, without its marks
abbrev pub unmarked_section : Section → Section
unmarked_section section = record { start = section.start; left = section.left; right = section.right; marks = [] }

abbrev pub unmarked : Road → Road
unmarked road =
    record {
      length = road.length;
      geoms = road.geoms;
      unused = road.unused;
      elevations = road.elevations;
      superelevations = road.superelevations;
      offsets = road.offsets;
      tshifts = road.tshifts;
      sections = map unmarked_section road.sections;
      profiles = road.profiles;
      strips = road.strips;
    }

-- a call answers two admitted roads alike where they differ in marks alone: with the same value, or the same refusal of its arguments
abbrev pub Unmoved : {A : Type 0} → (List ℕ → List Float → A) → Type 0
Unmoved call =
    (words : List ℕ) (numbers : List Float) (words' : List ℕ) (numbers' : List Float) → admitted words numbers ≡ true → admitted words' numbers' ≡ true
    → unmarked (road_of words numbers) ≡ unmarked (road_of words' numbers') → call words numbers ≡ call words' numbers'

-- the calls, and what they leave in the lists that they write
pub record MarksUnseen : Type 0 where
  pub samples : (n : ℕ) → Unmoved (λ words numbers. samples_call words numbers n)
  pub of_samples_list : (xs : List Float) → Unmoved (λ words numbers. samples_list words numbers xs)
  pub pose : (samples : List Float) (geometry : ℕ) (s : Float) → Unmoved (λ words numbers. pose_call words numbers samples geometry s)
  pub station : (samples : List Float) (s : Float) → Unmoved (λ words numbers. station_call words numbers samples s)
  pub axes : (samples : List Float) (s : Float) → Unmoved (λ words numbers. axes_call words numbers samples s)
  pub surface : (samples : List Float) (s t : Float) → Unmoved (λ words numbers. surface_call words numbers samples s t)
  pub of_lane_surface : (samples : List Float) (id : ℤ) (s t : Float) → Unmoved (λ words numbers. lane_surface_call words numbers samples id s t)
  pub locate : (samples : List Float) (x y guess : Float) → Unmoved (λ words numbers. locate_call words numbers samples x y guess)
  pub borders : (s : Float) (n : ℕ) → Unmoved (λ words numbers. borders_call words numbers s n)
  pub of_borders_list : (s : Float) (xs : List Float) → Unmoved (λ words numbers. borders_list words numbers s xs)
  pub of_lane_named : (s t : Float) → Unmoved (λ words numbers. lane_named_call words numbers s t)
