use Rattle.std.proofs.Common.{◌≡◌, ◌-◌, ◌+◌, ◌≤◌, length, arith, append_assoc, append-nil, length-append}
use Rattle.reader_hex.specs.Digits.{hex_of}
use Rattle.reader_hex.proofs.HexWritten.{hex-length}
use Rattle.program_output.proofs.LineLaws.{hex-turn}
use Rattle.program_output.proofs.text.push_hex.Goals as goal

pub loop-place-init : goal.loop-place-init
unfolding hex_of
loop-place-init c = let none : c.args.digits - c.args.digits ≡ 0 = omega arith in rw (none, append-nil)

pub loop-place-preserved : goal.loop-place-preserved
loop-place-preserved c =
    let at = c.loop-place in
    let room : length at.text + 1 ≤ 986 = rw at.invariant (simp length-append (omega (arith, hex-length))) in
    rw (c.push.ensures.fits room, at.invariant, append_assoc, c.glyph.ensures, hex-turn c.args.digits at.place c.args.n (omega arith) (omega arith))
