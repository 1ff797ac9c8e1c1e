-- Document 02, point 3: the loop over a side's lanes "is handed the tangent as a number, without the bank, and what it gives is proved for every f64 in that place. Heights keep every bit." That the code gives these heights is what `lane_across` promises for every f64 and those above it for every pair of a sine and a cosine. Here stands what the heights themselves see of the bank. Read `OneTangent`, at the end.
-- Words from below: `across_at`, a lane of a side across the road, and `level_up_to`, whether it or one inside it is level (lanes_heights, Heights); `surface_height_by`, `lane_height_by`, the heights of `surface` and `lane_surface` by a tangent, `surface_height`, `lane_height`, those at s, `bank_tangent`, the tangent there, and `stands_off`, whether anything of a section stands off the road's plane (surface_points, SurfaceHeights); `lateral_height`, the height of profiles and cross section (lanes, Lateral); `footing_of`, what is known of a station, with its tangent in `lean`, and `plan_on`, the point at any t there, seen from above (surface_points, Plan).
use Rattle.std.specs.Prelude.{ℕ, ◌≡◌, Bool, false, cond, List, [], Float, Some, None, option_map}
use Rattle.float_laws.specs.Binary64.{zero64}
use Rattle.arithmetic_sine.specs.Sine.{tan_of}
use Rattle.records.specs.Active.{value_in}
use Rattle.records.specs.Roads.{Road, section_index}
use Rattle.lanes.specs.Lateral.{lateral_height}
use Rattle.lanes_borders.specs.Borders.{side_lanes}
use Rattle.lanes_heights.specs.Heights.{level_up_to, across_at}
use Rattle.surface_points.specs.declared.plan.Lean.{Lean}
use Rattle.surface_points.specs.declared.plan.Footing.{Footing}
use Rattle.surface_points.specs.SurfaceHeights.{bank_tangent, stands_off, surface_height_by, lane_height_by, surface_height, lane_height}
use Rattle.surface_points.specs.Plan.{footing_of, plan_on}

-- the road without its bank
abbrev pub bankless : Road → Road
bankless road =
    record {
      length = road.length;
      geoms = road.geoms;
      unused = road.unused;
      elevations = road.elevations;
      superelevations = [];
      offsets = road.offsets;
      tshifts = road.tshifts;
      sections = road.sections;
      profiles = road.profiles;
      strips = road.strips;
    }

-- it is the same of two roads that differ in the bank alone
abbrev pub BankUnseen : {A : Type 0} → (Road → A) → Type 0
BankUnseen f = (road other : Road) → bankless road ≡ bankless other → f road ≡ f other

pub record OneTangent : Type 0 where
  -- ---- with whatever number in the tangent's place, NaN and the infinities too, the bank counts for nothing: for a lane of a side, for the height of `surface` and for that of `lane_surface`
  pub lane : (i : ℕ) (s tangent : Float) (right : Bool) (k : ℕ) → BankUnseen (λ road. across_at road i s tangent right k)
  pub surface : (i : ℕ) (s tangent t : Float) → BankUnseen (λ road. surface_height_by road i s tangent t)
  pub of_lane_surface : (i : ℕ) (right : Bool) (k : ℕ) (s tangent t : Float) → BankUnseen (λ road. lane_height_by road i right k s tangent t)
  -- ---- heights at s are those, by the tangent of the bank there: "tan: sin / cos"
  pub surface_at_s : (road : Road) (i : ℕ) (s t : Float) → surface_height road i s t ≡ surface_height_by road i s (tan_of (value_in road.superelevations s)) t
  pub lane_surface_at_s : (road : Road) (i : ℕ) (right : Bool) (k : ℕ) (s t : Float) → lane_height road i right k s t ≡ lane_height_by road i right k s (tan_of (value_in road.superelevations s)) t
  -- so two banks of one tangent there give one height
  pub surface_by_tangent : (road other : Road) (i : ℕ) (s t : Float) → bankless road ≡ bankless other → bank_tangent road s ≡ bank_tangent other s
      → surface_height road i s t ≡ surface_height other i s t
  pub lane_surface_by_tangent : (road other : Road) (i : ℕ) (right : Bool) (k : ℕ) (s t : Float) → bankless road ≡ bankless other → bank_tangent road s ≡ bank_tangent other s
      → lane_height road i right k s t ≡ lane_height other i right k s t
  -- ---- what is known of a station has that tangent, and none where nothing stands off; for no t there is the bank asked again
  pub footing : (road : Road) (samples : List Float) (s : Float)
      → option_map (λ (lean : Lean). lean.tangent) (footing_of road samples s).lean ≡ cond (stands_off road (section_index road s)) (Some (tan_of (value_in road.superelevations s))) None
  pub on_footing : (here : Footing) (t : Float) → BankUnseen (λ road. plan_on road here t)
  -- ---- none counts for a lane that isn't level, with none inside it that is, nor for a height where nothing stands off
  pub tilted_lane : (road : Road) (i : ℕ) (s : Float) (right : Bool) (k : ℕ) → level_up_to (side_lanes road i right) k ≡ false
      → (tangent other : Float) → across_at road i s tangent right k ≡ across_at road i s other right k
  pub bare_surface : (road : Road) (i : ℕ) (s tangent t : Float) → stands_off road i ≡ false → surface_height_by road i s tangent t ≡ lateral_height road s t
  pub bare_lane_surface : (road : Road) (i : ℕ) (right : Bool) (k : ℕ) (s tangent t : Float) → stands_off road i ≡ false → lane_height_by road i right k s tangent t ≡ zero64
