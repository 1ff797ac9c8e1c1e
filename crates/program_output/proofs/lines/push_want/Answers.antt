-- s and t, sixteen digits and a byte each, then the point or the refusal.
use Rattle.std.proofs.Common.{arith, append_assoc, length-append}
use Rattle.program_output.specs.Lines.{output_line}
use Rattle.reader_hex.proofs.HexWritten.{hex-length}
use Rattle.program_output.proofs.lines.push_want.Goals as goal

pub push_word-requires-2-clause-room : goal.push_word-requires-2-clause-room
push_word-requires-2-clause-room c = rw c.push_word.ensures (simp length-append (omega (arith, hex-length)))

pub push_point-requires : goal.push_point-requires
push_point-requires c = rw (c.push_word-2.ensures, c.push_word.ensures) (simp length-append (omega (arith, hex-length)))

pub push_number-requires : goal.push_number-requires
push_number-requires c =
    let dash = c.append.ensures.fits (rw (c.push_word-2.ensures, c.push_word.ensures) (simp length-append (omega (arith, hex-length)))) in
    rw (dash, c.push_word-2.ensures, c.push_word.ensures) (simp length-append (omega (arith, hex-length)))

pub returns-in-Ok : goal.returns-in-Ok
unfolding output_line
returns-in-Ok c = rw (c.push_point.ensures, c.push_word-2.ensures, c.push_word.ensures, c.in-Ok.is) (simp append_assoc)

pub returns-in-Err : goal.returns-in-Err
unfolding output_line
returns-in-Err c =
    let dash = c.append.ensures.fits (rw (c.push_word-2.ensures, c.push_word.ensures) (simp length-append (omega (arith, hex-length)))) in
    rw (c.push_number.ensures, dash, c.push_word-2.ensures, c.push_word.ensures, c.in-Err.is) (simp append_assoc)
