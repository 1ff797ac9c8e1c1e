-- The reference line is that of the geometries, elevations and superelevations, which a road without its marks has: samples, pose, station and axes.
use Prim.Native.Nat.{ℕ, zero, suc, ◌+◌}
use mathlib.Core.Path.{◌≡◌, refl, ap}
use mathlib.Core.List.{List, ◌++◌}
use lib.ListN.{length}
use lib.Ieee.{Float}
use Rattle.float_laws.specs.Binary64.{◌⊖◌}
use Rattle.records.specs.declared.points.GeomShape.{GeomShape}
use Rattle.records.specs.declared.points.GeomShape.TheVariants.{Line, Arc, Spiral}
use Rattle.records.specs.Roads.{Road, geom_at, geom_index}
use Rattle.line_samples.specs.Samples.{sample_count, samples_before, samples_needed, geom_samples, samples_up_to, flat, samples_of}
use Rattle.line_pose.specs.Poses.{spiral_pose, pose_by, pose_of}
use Rattle.surface_station.specs.Station.{pose_at, station_of}
use Rattle.surface_station.specs.Axes.{axes_at}
use Rattle.marks_laws.specs.Unmarked.{unmarked}

module _ (road : Road) where
  samples_before_lem : (i : ℕ) → samples_before (unmarked road) i ≡ samples_before road i
  unfolding samples_before
  samples_before_lem zero = refl
  samples_before_lem (suc i) = ap (λ n. n + sample_count (geom_at road i)) (samples_before_lem i)

  pub needed-is : samples_needed (unmarked road) ≡ samples_needed road
  unfolding samples_needed
  needed-is = samples_before_lem (length road.geoms)

  samples_up_to_lem : (i : ℕ) → samples_up_to (unmarked road) i ≡ samples_up_to road i
  unfolding samples_up_to
  samples_up_to_lem zero = refl
  samples_up_to_lem (suc i) = ap (λ ps. ps ++ geom_samples (geom_at road i)) (samples_up_to_lem i)

  pub samples-are : samples_of (unmarked road) ≡ samples_of road
  unfolding samples_of
  samples-are = ap flat (samples_up_to_lem (length road.geoms))

  module _ (samples : List Float) where
    pose_by_lem : (i : ℕ) (ds : Float) (shape : GeomShape) → pose_by (unmarked road) samples i ds shape ≡ pose_by road samples i ds shape
    pose_by_lem i ds Line = refl
    pose_by_lem i ds (Arc k) = refl
    pose_by_lem i ds (Spiral k0 k1) = ap (λ first. spiral_pose samples first (sample_count (geom_at road i)) ds) (samples_before_lem i)

    pub pose-is : (i : ℕ) (s : Float) → pose_of (unmarked road) samples i s ≡ pose_of road samples i s
    unfolding pose_of
    pose-is i s = pose_by_lem i (s ⊖ (geom_at road i).s) (geom_at road i).shape

    pub geom-pose : (s : Float) → pose_of (unmarked road) samples (geom_index (unmarked road) s) s ≡ pose_of road samples (geom_index road s) s
    unfolding geom_index
    geom-pose s = pose-is (geom_index road s) s

    pub pose_at_lem : (s : Float) → pose_at (unmarked road) samples s ≡ pose_at road samples s
    unfolding pose_at
    pose_at_lem s = geom-pose s

    pub station-is : (s : Float) → station_of (unmarked road) samples s ≡ station_of road samples s
    unfolding station_of
    station-is s = rw (pose_at_lem s)

    pub axes-are : (s : Float) → axes_at (unmarked road) samples s ≡ axes_at road samples s
    unfolding axes_at
    axes-are s = rw (pose_at_lem s)
