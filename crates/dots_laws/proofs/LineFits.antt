-- The numbers of a line are f32, whatever the samples: each is narrowed.
use Prim.Native.Nat.{ℕ, zero, suc, ◌*◌}
use mathlib.Core.List.{List, [], ◌∷◌, ◌++◌}
use lib.ListN.{length}
use lib.Ieee.{Float, nan, inf, fin, binary32, up, down}
use lib.Ieee.Fits.{nan-fits, inf-fits, round-fits}
use Rattle.arithmetic.specs.Narrow.{narrowed}
use Rattle.records.specs.declared.points.Point.{Point}
use Rattle.records.specs.declared.points.LanePlace.{LanePlace}
use Rattle.records.specs.Roads.{Road}
use Rattle.surface_points.specs.declared.points.SurfacePoint.{SurfacePoint}
use Rattle.surface_points.specs.Surfaces.{narrowed_point}
use Rattle.tracks_laws.specs.TrackLaws.{IsF32, AllF32, PointIsF32}
use Rattle.dots.specs.Along.{nth_station}
use Rattle.dots_calls.specs.DotsCall.{border_point, line_numbers, line_of}

narrowed-fits : (x : Float) → IsF32 (narrowed x)
unfolding narrowed
narrowed-fits nan = nan-fits binary32
narrowed-fits (inf s) = inf-fits binary32 s
narrowed-fits (fin s m e) = round-fits binary32 s (m * up e) (down e)

point-fits : (p : SurfacePoint) → PointIsF32 (narrowed_point p).point
unfolding narrowed_point
point-fits p = record { x = narrowed-fits p.x; y = narrowed-fits p.y; z = narrowed-fits p.z }

appended : (xs ys : List Float) → AllF32 xs → AllF32 ys → AllF32 (xs ++ ys)
appended [] ys f g k = g k
appended (x ∷ xs) ys f g zero = f zero
appended (x ∷ xs) ys f g (suc k) = appended xs ys (λ j. f (suc j)) g k

three-fit : (p : Point) → PointIsF32 p → AllF32 (p.x ∷ p.y ∷ p.z ∷ [])
three-fit p f zero = f.x
three-fit p f (suc zero) = f.y
three-fit p f (suc (suc zero)) = f.z
three-fit p f (suc (suc (suc k))) = nan-fits binary32

module _ (road : Road) (samples : List Float) (place : LanePlace) where
  numbers-fit : (c : ℕ → Float) (n : ℕ) → AllF32 (line_numbers road samples place c n)
  unfolding line_numbers
  numbers-fit c zero = λ k. nan-fits binary32
  numbers-fit c (suc n) = appended (line_numbers road samples place c n) _ (numbers-fit c n) (three-fit (border_point road samples place (c n)) (point-fits _))

  pub line-fits : (stations : List Float) → AllF32 (line_of road samples place stations)
  line-fits stations = numbers-fit (nth_station stations) (length stations)
