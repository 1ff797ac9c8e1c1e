-- What `<=` says of floats, by the tests that `partial_cmp` makes one after the other.
use Rattle.std.proofs.Common.{◌≡◌, refl, Bool, true, false, Some, None, Less, Equal, Greater}
use mathlib.Core.Bool.{cond, ◌||◌}
use lib.Ieee.{Float, le, lt, eq}
use Rattle.std.specs.Ordering.{is_le, is_some_and, partial_le, float_partial_cmp}

tests : (a b c : Bool) → is_some_and is_le (cond a (Some Less) (cond b (Some Equal) (cond c (Some Greater) None))) ≡ (a || b)
tests true b c = refl
tests false true c = refl
tests false false true = refl
tests false false false = refl

pub le_is : (x y : Float) → partial_le float_partial_cmp x y ≡ le x y
unfolding le
le_is x y = tests (lt x y) (eq x y) (lt y x)
