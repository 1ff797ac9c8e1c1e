-- By the byte before the digits.
use Rattle.std.proofs.Common.{sym, ◌∙◌}
use Rattle.test_tracks.proofs.WordSteps.{no_space, spaced}
use Rattle.test_tracks.proofs.words.word_at.Goals as goal

pub returns-then-line-at-ne32 : goal.returns-then-line-at-ne32
returns-then-line-at-ne32 c = no_space c.args.line.now c.args.i c.if-line-at-ne32.true

pub returns-in_err-bits : goal.returns-in_err-bits
returns-in_err-bits c = c.from_residual.ensures ∙ spaced c.args.line.now c.args.i c.if-line-at-ne32.false (sym c.in_err-bits.was ∙ c.eight_at.ensures)

pub returns : goal.returns
returns c = spaced c.args.line.now c.args.i c.if-line-at-ne32.false (sym c.in_ok-bits.was ∙ c.eight_at.ensures)
