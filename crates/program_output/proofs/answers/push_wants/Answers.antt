use Rattle.std.proofs.Common.{sym, arith, add-one, append_assoc, append-nil, length-append}
use Rattle.program_output.specs.Output.{want_lines}
use Rattle.program_output.proofs.OutputLaws.{lines-few}
use Rattle.program_output.proofs.answers.push_wants.Goals as goal

pub loop-k-init : goal.loop-k-init
unfolding want_lines
loop-k-init c = sym (append-nil c.args.text.now)

pub push_want-requires : goal.push_want-requires
push_want-requires c =
    let a = c.args in
    rw c.loop-k.invariant (simp length-append (omega (arith, lines-few a.words.now a.numbers.now a.samples.now a.wants.now c.loop-k.k)))

pub loop-k-preserved : goal.loop-k-preserved
unfolding want_lines
loop-k-preserved c =
    rw (add-one, c.push_want.ensures, c.loop-k.invariant, c.surface-answer.ensures, c.of_bits.ensures, c.of_bits-in-loop-k.ensures) (simp append_assoc)
