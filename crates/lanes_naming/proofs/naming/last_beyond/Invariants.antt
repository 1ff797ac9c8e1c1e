-- `last_beyond`: before turn k inner is the k-th lane's inner border, and last tells of the lanes below k.
use mathlib.Core.Path.{◌≡◌}
use mathlib.Core.Bool.{Bool}
use lib.Ieee.{Float}
use Prim.Native.Nat.{ℕ}
use Rattle.records_lent.specs.Lists.{last_that}
use Rattle.lanes_borders.specs.Borders.{outer_after}
use Rattle.lanes_borders.specs.declared.sides.SideAt.{SideAt}
use Rattle.lanes_naming.specs.Naming.{beyond_test}
use Rattle.lanes_naming.proofs.naming.last_beyond.Given as goal

abbrev pub passes : SideAt → Float → ℕ → Bool
passes side t k = beyond_test side.sign (outer_after side.lanes side.sign side.base side.into k) t

abbrev pub invariant-loop-k : goal.invariant-loop-k
invariant-loop-k l =
    (l.inner ≡ outer_after l.side.lanes l.side.sign l.side.base l.side.into l.k)
    × (l.last ≡ last_that (passes l.side l.t) l.k)
