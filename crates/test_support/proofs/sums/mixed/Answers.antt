-- Modulo 2^64 the product may be taken before the element is added.
use native.Mathlib.Nat.{mod-add-mod}
use Rattle.test_support.specs.Sums.{mix_of}
use Rattle.test_support.proofs.sums.mixed.Goals as goal

pub returns : goal.returns
unfolding mix_of
returns c = rw c.rotate_left.ensures (mod-add-mod _ _ _)
