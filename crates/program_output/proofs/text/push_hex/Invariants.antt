-- The digits before a place are those of the number without what stands from there on.
use Rattle.std.proofs.Common.{◌≡◌, ◌-◌, ◌*◌, ◌/◌, ◌^◌, ◌++◌}
use Rattle.reader_hex.specs.Digits.{hex_of}
use Rattle.program_output.proofs.text.push_hex.Given as goal

abbrev pub invariant-loop-place : goal.invariant-loop-place
invariant-loop-place l = l.text ≡ l.fn.text ++ hex_of (l.digits - l.place) (l.n / 2 ^ (4 * l.place))
