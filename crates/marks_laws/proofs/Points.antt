-- The points of a road's surface: each is a pose raised by a height, and both are those of the road without its marks.
use Prim.Native.Nat.{ℕ}
use mathlib.Core.Path.{◌≡◌, ap₂}
use mathlib.Core.Bool.{Bool, cond}
use mathlib.Core.List.{List}
use lib.Ieee.{Float, eq}
use Rattle.float_laws.specs.Binary64.{zero64}
use Rattle.records.specs.Roads.{Road, section_index}
use Rattle.surface_station.specs.declared.axis.Axes.{Axes}
use Rattle.surface_points.specs.declared.points.SurfacePoint.{SurfacePoint}
use Rattle.surface_points.specs.Raised.{plain_at, lifted, raised_at}
use Rattle.surface_points.specs.SurfaceHeights.{bank_tangent, surface_height, lane_height}
use Rattle.surface_points.specs.Surfaces.{surface_at, lane_surface_at}
use Rattle.marks_laws.specs.Unmarked.{unmarked}
use Rattle.heights_laws.proofs.AcrossAlike.{surface_height_by-is, lane_height_by-is}
use Rattle.marks_laws.proofs.Sections.{index_is, across-alike}
use Rattle.marks_laws.proofs.ReferenceLine.{pose_at_lem, axes-are}

module _ (road : Road) where
  surface_height_lem : (i : ℕ) (s t : Float) → surface_height (unmarked road) i s t ≡ surface_height road i s t
  unfolding surface_height
  surface_height_lem i s t = surface_height_by-is (across-alike road) i s (bank_tangent road s) t

  lane_height_lem : (i : ℕ) (right : Bool) (k : ℕ) (s t : Float) → lane_height (unmarked road) i right k s t ≡ lane_height road i right k s t
  unfolding lane_height
  lane_height_lem i right k s t = lane_height_by-is (across-alike road) i right k s (bank_tangent road s) t

  module _ (samples : List Float) where
    plain-is : (s t : Float) → plain_at (unmarked road) samples s t ≡ plain_at road samples s t
    unfolding plain_at
    plain-is s t = rw (pose_at_lem road samples s)

    raised_at_lem : (s t height : Float) → raised_at (unmarked road) samples s t height ≡ raised_at road samples s t height
    unfolding raised_at
    raised_at_lem s t height = ap₂ (λ (p : SurfacePoint) (a : Axes). cond (eq height zero64) p (lifted p a.up height)) (plain-is s t) (axes-are road samples s)

    pub surface-is : (s t : Float) → surface_at (unmarked road) samples s t ≡ surface_at road samples s t
    unfolding surface_at
    surface-is s t = rw (raised_at_lem s t, index_is road s, surface_height_lem (section_index road s) s t)

    pub lane_surface-is : (i : ℕ) (right : Bool) (k : ℕ) (s t : Float) → lane_surface_at (unmarked road) samples i right k s t ≡ lane_surface_at road samples i right k s t
    unfolding lane_surface_at
    lane_surface-is i right k s t = rw (raised_at_lem s t, lane_height_lem i right k s t)
