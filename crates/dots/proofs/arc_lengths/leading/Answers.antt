use Rattle.std.specs.Prelude.{length}
use Rattle.dots.specs.Along.{nth_station}
use Rattle.dots.proofs.LeadingSteps.{counted_next, counted_stops}
use Rattle.dots.proofs.arc_lengths.leading.Goals as goal

pub returns-then-not-nth_station-s : goal.returns-then-not-nth_station-s
returns-then-not-nth_station-s c = let xs = c.args.stations.now in counted_stops (nth_station xs) c.args.s (length xs) c.loop-k.k c.loop-k.invariant c.nth_station.ensures c.if-not-nth_station-s.true

pub loop-k-preserved : goal.loop-k-preserved
loop-k-preserved c = let xs = c.args.stations.now in counted_next (nth_station xs) c.args.s (length xs) c.loop-k.k c.loop-k.invariant c.nth_station.ensures c.loop-k-test.true c.if-not-nth_station-s.false
