-- `nearest_size` meets its contract: the laws of CountLaws at its two ways out.
use lib.Dec.{T}
use lib.Ieee.{binary64, fits, of_bits}
use borrow.Author.Rules.{rules}
use Rattle.arithmetic_counts.proofs.CountLaws.{size_number, size-least, size_fits, size-half, size-keeps}
use Rattle.arithmetic_counts.proofs.axis_counts.nearest_size.Goals as goal
use Rattle.arithmetic_counts.proofs.axis_counts.nearest_size.Goals.{Start}

fit : (c : Start) → T (fits binary64 c.args.a)
fit c = search rules

pub float_to_bits-k : goal.float_to_bits-k
unfolding of_bits
float_to_bits-k c = size_number c.args.a (fit (goal.at.float_to_bits-k c).Start) c.requires.0 c.requires.1

pub overflow_sub-k : goal.overflow_sub-k
unfolding of_bits
overflow_sub-k c = size-least c.args.a (fit (goal.at.overflow_sub-k c).Start) c.requires.0 c.requires.1

pub overflow_add-result : goal.overflow_add-result
unfolding of_bits
overflow_add-result c = record { fits = size_fits c.args.a (fit (goal.at.overflow_add-result c).Start) c.requires.0 c.requires.1 }

pub returns-then-n-a : goal.returns-then-n-a
unfolding of_bits
returns-then-n-a c = size-half c.args.a (fit (goal.at.returns-then-n-a c).Start) c.requires.0 c.requires.1 c.if-n-a.true

pub returns : goal.returns
unfolding of_bits
returns c = size-keeps c.args.a (fit (goal.at.returns c).Start) c.requires.0 c.requires.1 c.if-n-a.false
