-- Invariant: k stations are counted.
use Rattle.std.specs.Prelude.{length}
use Rattle.dots.specs.Along.{nth_station}
use Rattle.dots.proofs.LeadingSteps.{Counted}
use Rattle.dots.proofs.arc_lengths.leading.Given as goal

abbrev pub invariant-loop-k : goal.invariant-loop-k
invariant-loop-k l = Counted (nth_station l.stations) l.s (length l.stations) l.k
