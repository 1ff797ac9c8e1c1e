-- Three words of eight digits, a byte after each.
use Rattle.std.proofs.Common.{arith, append_assoc, length-append}
use Rattle.program_output.specs.Lines.{point_line}
use Rattle.reader_hex.proofs.HexWritten.{hex-length}
use Rattle.program_output.proofs.lines.push_point.Goals as goal

pub push_word-requires-2-clause-room : goal.push_word-requires-2-clause-room
push_word-requires-2-clause-room c = rw c.push_word.ensures (simp length-append (omega (arith, hex-length)))

pub push_word-requires-3-clause-room : goal.push_word-requires-3-clause-room
push_word-requires-3-clause-room c = rw (c.push_word-2.ensures, c.push_word.ensures) (simp length-append (omega (arith, hex-length)))

pub returns : goal.returns
unfolding point_line
returns c =
    rw (c.push_word-3.ensures, c.push_word-2.ensures, c.push_word.ensures, c.bits_of_single.ensures, c.bits_of_single-2.ensures, c.bits_of_single-3.ensures) (simp append_assoc)
