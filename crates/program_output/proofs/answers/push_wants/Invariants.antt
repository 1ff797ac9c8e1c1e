-- After k turns the lines of the first k wants stand there.
use Rattle.std.proofs.Common.{◌≡◌, ◌++◌}
use Rattle.program_output.specs.Output.{want_lines}
use Rattle.program_output.proofs.answers.push_wants.Given as goal

abbrev pub invariant-loop-k : goal.invariant-loop-k
invariant-loop-k l = l.text ≡ l.fn.text ++ want_lines l.words l.numbers l.samples l.wants l.k
