-- The loop has summed the samples of the first i geometries, at most 2,000. The sum never falls, so one that passes 2,000 settles it.
use Prim.Native.Nat.{◌≤◌}
use mathlib.Core.Path.{◌≡◌}
use Rattle.line_samples.specs.Samples.{most_samples, samples_before}
use Rattle.line_samples.proofs.samples.samples_fit.Given as goal

abbrev pub invariant-loop-i : goal.invariant-loop-i
invariant-loop-i l = (l.needed ≤ most_samples) × (l.needed ≡ samples_before l.road l.i)
