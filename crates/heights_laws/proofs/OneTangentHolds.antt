-- Heights see of the bank its tangent: two roads that differ in the bank alone are alike across, and the tangent alone stands in the bank's place.
use Prim.Native.Nat.{ℕ}
use mathlib.Core.Path.{◌≡◌, refl, ap, ◌∙◌}
use mathlib.Core.Bool.{Bool, true, false, cond}
use mathlib.Core.List.{List}
use lib.Ieee.{Float}
use Rattle.std.specs.Prelude.{Option, Some, None, option_map}
use Rattle.arithmetic_sine.specs.Sine.{tan_of}
use Rattle.float_laws.specs.Binary64.{zero64}
use Rattle.lanes.specs.Lateral.{lateral_height}
use Rattle.records.specs.Active.{value_in}
use Rattle.records.specs.Roads.{Road, section_of, section_index}
use Rattle.lanes_borders.specs.Borders.{side_lanes}
use Rattle.lanes_heights.specs.Heights.{level_up_to, heights_at, across_at}
use Rattle.surface_points.specs.declared.plan.Lean.{Lean}
use Rattle.surface_points.specs.SurfaceHeights.{bank_tangent, stands_off, surface_height_by, lane_height_by, surface_height, lane_height}
use Rattle.surface_points.specs.declared.plan.Footing.{Footing}
use Rattle.surface_points.specs.Plan.{footing_of, level_on, leaned_on, plan_by, plan_on}
use Rattle.heights_laws.specs.OneTangent.{bankless, OneTangent}
use Rattle.heights_laws.proofs.AcrossAlike.{AcrossAlike, across-is, standing-is, surface_height_by-is, lane_height_by-is}

alike : (road other : Road) → bankless road ≡ bankless other → AcrossAlike road other
alike road other e =
    record {
      profiles = ap (λ (r : Road). r.profiles) e;
      tshifts = ap (λ (r : Road). r.tshifts) e;
      strips = ap (λ (r : Road). r.strips) e;
      offsets = ap (λ (r : Road). r.offsets) e;
      starts = λ i. ap (λ (r : Road). (section_of r i).start) e;
      sides = λ i right. ap (λ (r : Road). side_lanes r i right) e;
    }

-- ---- at s

surface-by : (road : Road) (i : ℕ) (s t : Float) → surface_height road i s t ≡ surface_height_by road i s (tan_of (value_in road.superelevations s)) t
unfolding surface_height
surface-by road i s t = refl

lane_surface-by : (road : Road) (i : ℕ) (right : Bool) (k : ℕ) (s t : Float) → lane_height road i right k s t ≡ lane_height_by road i right k s (tan_of (value_in road.superelevations s)) t
unfolding lane_height
lane_surface-by road i right k s t = refl

surface-one : (road other : Road) (i : ℕ) (s t : Float) → bankless road ≡ bankless other → bank_tangent road s ≡ bank_tangent other s → surface_height road i s t ≡ surface_height other i s t
unfolding surface_height
surface-one road other i s t e f = surface_height_by-is (alike road other e) i s (bank_tangent road s) t ∙ ap (λ tangent. surface_height_by other i s tangent t) f

lane_surface-one : (road other : Road) (i : ℕ) (right : Bool) (k : ℕ) (s t : Float) → bankless road ≡ bankless other → bank_tangent road s ≡ bank_tangent other s
    → lane_height road i right k s t ≡ lane_height other i right k s t
unfolding lane_height
lane_surface-one road other i right k s t e f = lane_height_by-is (alike road other e) i right k s (bank_tangent road s) t ∙ ap (λ tangent. lane_height_by other i right k s tangent t) f

-- ---- of a station

tangent-of : (c : Bool) (known : Lean) → option_map (λ (lean : Lean). lean.tangent) (cond c (Some known) None) ≡ cond c (Some known.tangent) None
tangent-of true known = refl
tangent-of false known = refl

footing-has : (road : Road) (samples : List Float) (s : Float)
    → option_map (λ (lean : Lean). lean.tangent) (footing_of road samples s).lean ≡ cond (stands_off road (section_index road s)) (Some (tan_of (value_in road.superelevations s))) None
unfolding footing_of tan_of
footing-has road samples s = tangent-of (stands_off road (section_index road s)) _

module _ (road other : Road) (e : bankless road ≡ bankless other) (here : Footing) (t : Float) where
  plan_by_lem : (lean : Option Lean) → plan_by road here t lean ≡ plan_by other here t lean
  plan_by_lem (Some lean) = ap (leaned_on lean (level_on here t)) (standing-is (alike road other e) here.section here.s lean.tangent t)
  plan_by_lem None = refl

  plan_on-unseen : plan_on road here t ≡ plan_on other here t
  unfolding plan_on
  plan_on-unseen = plan_by_lem here.lean

-- ---- where none counts

tilted : (road : Road) (i : ℕ) (s : Float) (right : Bool) (k : ℕ) → level_up_to (side_lanes road i right) k ≡ false
    → (tangent other : Float) → across_at road i s tangent right k ≡ across_at road i s other right k
unfolding across_at heights_at
tilted road i s right k e tangent other = rw e

surface-bare : (road : Road) (i : ℕ) (s tangent t : Float) → stands_off road i ≡ false → surface_height_by road i s tangent t ≡ lateral_height road s t
surface-bare road i s tangent t e = rw e

lane_surface-bare : (road : Road) (i : ℕ) (right : Bool) (k : ℕ) (s tangent t : Float) → stands_off road i ≡ false → lane_height_by road i right k s tangent t ≡ zero64
lane_surface-bare road i right k s tangent t e = rw e

pub one-tangent : OneTangent
one-tangent =
    record {
      lane = λ i s tangent right k road other e. across-is (alike road other e) i s tangent right k;
      surface = λ i s tangent t road other e. surface_height_by-is (alike road other e) i s tangent t;
      of_lane_surface = λ i right k s tangent t road other e. lane_height_by-is (alike road other e) i right k s tangent t;
      surface_at_s = surface-by;
      lane_surface_at_s = lane_surface-by;
      surface_by_tangent = surface-one;
      lane_surface_by_tangent = lane_surface-one;
      footing = footing-has;
      on_footing = λ here t road other e. plan_on-unseen road other e here t;
      tilted_lane = tilted;
      bare_surface = surface-bare;
      bare_lane_surface = lane_surface-bare;
    }
