use native.Mathlib.Nat.{zero-add}
use Rattle.std.proofs.Common.{rules}
use Rattle.line_pose.proofs.spirals.SpiralSamples.sample.Goals as goal

pub returns : goal.returns
returns c = rw zero-add (search rules)
