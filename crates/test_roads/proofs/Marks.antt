-- The number of a truth value.
use Rattle.std.proofs.Common.{◌≡◌, Bool, true, false, pos, refl}
use lib.Ieee.{binary64, of_bits, of_int}
use mir.Val.{bool_byte}
use Rattle.test_roads.specs.CallNumbers.{mark_of}

pub mark_is : (b : Bool) → of_int binary64 (pos (bool_byte b)) ≡ mark_of b
unfolding of_int of_bits
mark_is true = refl
mark_is false = refl
