-- What the whole walk gives is what is left of it gives, from t of the station that the moves so far have come to.
use Prim.Native.Nat.{◌-◌}
use mathlib.Core.Path.{◌≡◌}
use Rattle.surface_points.specs.Plan.{footing_of}
use Rattle.surface_locate.specs.Locating.{most_moves, place, walk_from}
use Rattle.surface_locate.proofs.misses.Search.walk.Given as goal

abbrev pub invariant-loop-moves : goal.invariant-loop-moves
invariant-loop-moves l =
    let go = l.self in
    let lent = go.lent.now in
    (walk_from lent.road lent.samples.now go.target most_moves (place l.initial.here.s l.initial.t) 0 ≡ walk_from lent.road lent.samples.now go.target (most_moves - l.moves) (place l.here.s l.t) l.moves) × (l.here ≡ footing_of lent.road lent.samples.now l.here.s)
