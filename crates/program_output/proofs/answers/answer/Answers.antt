-- By the test of the room; the text is what was put at the front.
use borrow.Author.Tests.{le-leb}
use Rattle.std.proofs.Common.{length}
use Rattle.program_output.proofs.answers.answer.Goals as goal

pub returns-clause-value : goal.returns-clause-value
returns-clause-value c = rw (le-leb 986 (length c.args.out.now) c.if-out-lt-OUTPUT_NEEDED.false, c.as_slice-bytes.ensures, c.output_of-output.ensures)

pub returns-clause-out_after : goal.returns-clause-out_after
returns-clause-out_after c =
    rw (le-leb 986 (length c.args.out.now) c.if-out-lt-OUTPUT_NEEDED.false, c.copy_from_slice.ensures.after, c.as_slice-bytes.ensures, c.output_of-output.ensures)
