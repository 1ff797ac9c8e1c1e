-- `write_side`: after k turns the list holds k lanes, and inner is where they end.
use mathlib.Core.Path.{◌≡◌}
use mathlib.Core.List.{◌++◌}
use Prim.Native.Nat.{◌*◌}
use lib.ListN.{drop}
use Rattle.lanes_borders.specs.Borders.{outer_after, borders_at, side_list}
use Rattle.lanes_border_list.proofs.border_list.write_side.Given as goal

abbrev pub invariant-loop-k : goal.invariant-loop-k
invariant-loop-k l =
    (l.inner ≡ outer_after l.side.lanes l.side.sign l.side.base l.side.into l.k)
    × (l.list ≡ side_list (borders_at l.side.lanes l.side.sign l.side.base l.side.into) l.k ++ drop (l.k * 3) l.initial.list)
