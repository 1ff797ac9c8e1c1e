-- What the mark says of a place: it lies on the road, and the exact distance that is left is under 0.000001. Of any road and any samples, for a target of finite numbers.
use mathlib.Core.Path.{◌≡◌}
use mathlib.Core.Bool.{true, ◌&&◌}
use mathlib.Core.List.{List}
use lib.Ieee.{Float, binary64, lt}
use Rattle.std.proofs.lemmas.Float.{T_from_true}
use Rattle.float_laws.proofs.Value.{Real}
use Rattle.records.specs.Roads.{Road}
use Rattle.admission.specs.Limits.{on_road}
use Rattle.admission_arguments.specs.Arguments.{across_road}
use Rattle.records_lent.proofs.TestLaws.{and-fst, and-snd}
use Rattle.surface_locate.specs.Meeting.{meeting}
use Rattle.arithmetic_distance.proofs.MissLaws.{Under}
use Rattle.surface_laws.proofs.Micrometre.{micrometre}
use Rattle.surface_points.specs.Surfaces.{surface_at}
use Rattle.surface_points.proofs.PlanLaws.{surface-fits}
use Rattle.surface_points.specs.declared.points.PlanVector.{PlanVector}
use Rattle.surface_locate.specs.declared.points.Place.{Place}
use Rattle.surface_locate.specs.Locating.{miss_at, size_of, met_at}

-- "the sum of the squares of target x less x and target y less y, all exact, with x and y those of `surface` at locate's pair, before they narrow": in units, 2^1074 to 1, under (1 / 1,000,000)^2
abbrev pub Near : Road → List Float → PlanVector → Place → Type 0
Near road samples target at =
    let p = surface_at road samples at.s at.t in
    Under binary64 p.x target.x p.y target.y 1000000000000

module _ (road : Road) (samples : List Float) (target : PlanVector) (at : Place) where
  miss-near : Real binary64 target.x → Real binary64 target.y → lt (size_of (miss_at road samples target at)) meeting ≡ true → Near road samples target at
  unfolding miss_at
  miss-near rx ry h =
      let p = surface_at road samples at.s at.t in
      let f = surface-fits road samples at.s at.t in
      micrometre p.x target.x p.y target.y f.0 f.1 rx ry (T_from_true (lt (size_of (miss_at road samples target at)) meeting) h)

  module _ (e : met_at road samples target at ≡ true) where
    tests : on_road road at.s && across_road at.t && lt (size_of (miss_at road samples target at)) meeting ≡ true
    unfolding met_at
    tests = e

    both : on_road road at.s && across_road at.t ≡ true
    both = and-fst (on_road road at.s && across_road at.t) (lt (size_of (miss_at road samples target at)) meeting) tests

    pub met-on : on_road road at.s ≡ true
    met-on = and-fst (on_road road at.s) (across_road at.t) both

    pub met-across : across_road at.t ≡ true
    met-across = and-snd (on_road road at.s) (across_road at.t) both

    pub met-near : Real binary64 target.x → Real binary64 target.y → Near road samples target at
    met-near rx ry = miss-near rx ry (and-snd (on_road road at.s && across_road at.t) (lt (size_of (miss_at road samples target at)) meeting) tests)
