-- The sum of a number in the range is a number; what its low bits say is left open.
use lib.Dec.{T}
use lib.Ieee.{binary64, fits}
use Rattle.line_samples.proofs.SpiralQuarters.{sum_number}
use borrow.Author.Rules.{rules}
use Rattle.line_samples.proofs.samples.estimate.Goals as goal
use Rattle.line_samples.proofs.samples.estimate.Goals.{Start}

fit : (c : Start) → T (fits binary64 c.args.x)
fit c = search rules

pub float_to_bits-result : goal.float_to_bits-result
float_to_bits-result c = sum_number c.args.x (fit (goal.at.float_to_bits-result c).Start) c.requires.0 c.requires.1
