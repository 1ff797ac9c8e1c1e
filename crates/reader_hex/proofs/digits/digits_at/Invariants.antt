-- The invariant: the values so far are digits, as many as the index says, i, and `number` is theirs and so below 16^i.
use Prim.Native.Nat.{◌<◌, ◌^◌}
use mathlib.Core.Path.{◌≡◌}
use mathlib.Core.Bool.{true}
use Rattle.reader_hex.specs.Hex.{digits_ok, digits_value}
use Rattle.reader_hex.proofs.digits.digits_at.Given as goal

abbrev pub invariant-loop-value : goal.invariant-loop-value
invariant-loop-value g l = (l.number < 16 ^ l.value-index) × (digits_ok l.text l.at l.value-index ≡ true) × (l.number ≡ digits_value l.text l.at l.value-index)
