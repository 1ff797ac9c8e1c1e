use native.Mathlib.Omega.{arith}
use Rattle.program_output.specs.Lines.{refused_line}
use Rattle.program_output.proofs.answers.refused.Goals as goal

pub returns : goal.returns
unfolding refused_line
returns c =
    let word = c.append.ensures.fits (rw c.new-text.ensures (omega arith)) in
    rw (c.push_number.ensures, word, c.new-text.ensures)
