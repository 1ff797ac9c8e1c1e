-- Invariant: the slice holds the line at the first i stations, then what it held.
use mathlib.Core.Path.{◌≡◌}
use mathlib.Core.List.{◌++◌}
use Prim.Native.Nat.{◌*◌}
use lib.ListN.{drop}
use Rattle.dots.specs.Along.{nth_station}
use Rattle.dots_calls.specs.DotsCall.{line_numbers}
use Rattle.dots_calls.proofs.lines.write_line.Given as goal

abbrev pub invariant-loop-i : goal.invariant-loop-i
invariant-loop-i l = l.line ≡ line_numbers l.lent.road l.lent.samples.now l.place (nth_station l.stations) l.i ++ drop (l.i * 3) l.initial.line
