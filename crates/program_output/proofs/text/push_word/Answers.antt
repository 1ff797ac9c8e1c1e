use Rattle.std.proofs.Common.{◌+◌, ◌≤◌, length, arith, append_assoc, length-append}
use Rattle.reader_hex.proofs.HexWritten.{hex-length}
use Rattle.program_output.proofs.text.push_word.Goals as goal

pub returns : goal.returns
returns c =
    let room : length c.push_hex.new.text + 1 ≤ 986 = rw c.push_hex.ensures (simp length-append (omega (arith, hex-length))) in
    rw (c.push.ensures.fits room, c.push_hex.ensures, append_assoc)
