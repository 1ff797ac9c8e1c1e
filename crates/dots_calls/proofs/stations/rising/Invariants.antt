-- Invariant: the first k + 1 stations are compared.
use mathlib.Core.Path.{◌≡◌}
use Rattle.dots.specs.Along.{nth_station}
use Rattle.dots_calls.specs.DotsCall.{rising}
use Rattle.dots_calls.proofs.stations.rising.Given as goal

abbrev pub invariant-loop-k : goal.invariant-loop-k
invariant-loop-k l = l.ok ≡ rising (nth_station l.stations) l.k
