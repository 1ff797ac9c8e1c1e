-- By the byte before the digits.
use Rattle.test_dots.proofs.WordSteps.{no_space, spaced}
use Rattle.test_dots.proofs.words.word_at.Goals as goal

pub returns-then-line-at-ne32 : goal.returns-then-line-at-ne32
returns-then-line-at-ne32 c = no_space c.args.line.now c.args.i c.if-line-at-ne32.true

pub returns : goal.returns
returns c = spaced c.args.line.now c.args.i c.if-line-at-ne32.false c.sixteen_at.ensures
