-- For the letter x: what is left of the second word's bytes without the first 8 - k, as the bytes of both without 16 - k.
use Rattle.std.proofs.Common.{◌-◌, arith}
use Rattle.test_support.proofs.TextLaws.{low-bytes}
use Rattle.test_support.specs.Texts.{piece_of}
use Rattle.test_support.proofs.texts.piece_of.Goals as goal

pub returns-in-120-clause-value : goal.returns-in-120-clause-value
unfolding piece_of
returns-in-120-clause-value c = rw (c.in-120.is, c.requires) (low-bytes c.args.line.a c.args.line.b (16 - c.min.result) (omega (arith, c.min.ensures)))
