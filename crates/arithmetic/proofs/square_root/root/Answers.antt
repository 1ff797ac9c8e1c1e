-- The pattern is that of the argument, and what `root_bits` makes of it that of the root.
use lib.Dec.{T}
use lib.Ieee.{fits, binary64}
use borrow.Author.Rules.{rules}
use Rattle.arithmetic.proofs.RootBits.{root_read}
use Rattle.arithmetic.proofs.square_root.root.Goals as goal

pub returns : goal.returns
returns c =
    let fit : T (fits binary64 c.args.x) = search rules in
    root_read binary64 c.args.x c.f64_from_bits_with_nan.result c.f64_to_bits_with_nan.result c.root_bits.result fit c.f64_to_bits_with_nan.ensures c.root_bits.ensures.value c.f64_from_bits_with_nan.ensures
