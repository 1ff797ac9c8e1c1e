-- The loop has counted n steps and stands at u: the steps from u on are still to come. It starts from quarters that lie below the end.
use Prim.Native.Nat.{◌+◌, ◌-◌}
use mathlib.Core.Path.{◌≡◌}
use Rattle.line_samples.specs.Samples.{goes_on, steps_from, most_steps, spiral_steps}
use Rattle.line_samples.proofs.samples.spiral_steps.Given as goal

abbrev pub invariant-loop-n : goal.invariant-loop-n
invariant-loop-n l = spiral_steps l.length ≡ l.n + steps_from (most_steps - l.n) (goes_on l.length l.u) l.length l.u
