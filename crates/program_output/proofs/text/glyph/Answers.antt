-- The two ways out are those of the definition's test.
use Rattle.std.proofs.Common.{arith}
use borrow.Author.Tests.{lt-ltb, le-ltb}
use Rattle.reader_hex.specs.Digits.{glyph_of}
use Rattle.program_output.proofs.text.glyph.Goals as goal

pub returns-then-d-lt10 : goal.returns-then-d-lt10
unfolding glyph_of
returns-then-d-lt10 c = rw (lt-ltb c.args.d 10 c.if-d-lt10.true)

pub returns-else-d-lt10 : goal.returns-else-d-lt10
unfolding glyph_of
returns-else-d-lt10 c = rw (le-ltb c.args.d 10 c.if-d-lt10.false) (omega arith)
