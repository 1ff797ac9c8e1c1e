use Rattle.std.proofs.Common.{w64}
use mir.ValLaws.{to_z-of_z}
use Rattle.test_vectors.proofs.Signs.{raised-is}
use Rattle.test_vectors.proofs.patterns.raised.Goals as goal

pub returns : goal.returns
returns c = rw (c.cast_unsigned.ensures, to_z-of_z w64 c.args.n c.ranges.n) (raised-is c.args.n c.ranges.n)
