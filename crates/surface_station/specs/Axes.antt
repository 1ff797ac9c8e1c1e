-- Document 01, "Values": "Surface, lane surface, station, axes: .. `axes`", grouped as in src/road.rs: along the reference line, across it, and up. Read `axes_by`, then `axes_at`.
-- The Rust's sum of three squares starts at a zero, which is left out here: a square is never -0, so a zero of either sign plus the first square is that square.
use Rattle.std.specs.Prelude.{List, Float}
use Rattle.std.specs.Float.{binary64}
use Rattle.std.specs.Float.Ieee.{neg}
use Rattle.float_laws.specs.Binary64.{◌⊕◌, ◌⊖◌, ◌⊗◌, ◌⊘◌}
use Rattle.arithmetic.specs.Root.{root_of}
use Rattle.arithmetic_sine.specs.declared.sine.SinCos.{SinCos}
use Rattle.arithmetic_sine.specs.Sine.{sine_of, cosine_of, sin_cos_of}
use Rattle.records.specs.Active.{value_in, slope_in}
use Rattle.records.specs.Roads.{Road}
use Rattle.surface_station.specs.declared.axis.Axis.{Axis}
use Rattle.surface_station.specs.declared.axis.Axes.{Axes}
use Rattle.surface_station.specs.Station.{pose_at}

-- `cross`
unfoldable pub cross_of : Axis → Axis → Axis
cross_of v w =
    record {
      x = v.y ⊗ w.z ⊖ v.z ⊗ w.y;
      y = v.z ⊗ w.x ⊖ v.x ⊗ w.z;
      z = v.x ⊗ w.y ⊖ v.y ⊗ w.x;
    }

-- the root of (x×x + y×y) + z×z
abbrev pub length_of : Axis → Float
length_of v = root_of binary64 (v.x ⊗ v.x ⊕ v.y ⊗ v.y ⊕ v.z ⊗ v.z)

-- `unit`: each number over the length
unfoldable pub unit_of : Axis → Axis
unfolding root_of
unit_of v = record { x = v.x ⊘ length_of v; y = v.y ⊘ length_of v; z = v.z ⊘ length_of v }

-- ---- from the grade and two pairs of sine and cosine: turn, that of the heading, and bank

-- along the reference line
unfoldable pub along_by : SinCos → Float → Axis
unfolding unit_of
along_by turn grade = unit_of (record { x = turn.cos; y = turn.sin; z = grade })

-- across the road, tilted by the bank
abbrev pub tilted_by : SinCos → SinCos → Axis
tilted_by turn bank = record { x = neg turn.sin ⊗ bank.cos; y = turn.cos ⊗ bank.cos; z = bank.sin }

-- square to both
unfoldable pub up_by : SinCos → Float → SinCos → Axis
unfolding unit_of cross_of along_by
up_by turn grade bank = unit_of (cross_of (along_by turn grade) (tilted_by turn bank))

-- the second is `cross` of the third and the first, not normalised
unfoldable pub axes_by : SinCos → Float → SinCos → Axes
unfolding cross_of along_by up_by
axes_by turn grade bank =
    let along = along_by turn grade in
    let up = up_by turn grade bank in
    record { along = along; across = cross_of up along; up = up }

-- ---- of a road at s, with the lent samples
unfoldable pub axes_at : Road → List Float → Float → Axes
unfolding axes_by pose_at sine_of cosine_of value_in slope_in
axes_at road samples s = axes_by (sin_cos_of (pose_at road samples s).heading) (slope_in road.elevations s) (sin_cos_of (value_in road.superelevations s))
