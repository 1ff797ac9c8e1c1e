-- The bits of a signed number of 64 bits, with 2^63 added.
use Rattle.std.proofs.Common.{◌≡◌, ◌+◌, ◌%◌, ◌^◌, ◌<◌, ℤ, pos, negsuc, arith, w64, SFits, of_z}
use Rattle.test_vectors.specs.Raise.{raised_of}

pub raised-is : (n : ℤ) → SFits w64 n → (of_z w64 n + 2 ^ 63) % 2 ^ 64 ≡ raised_of n
unfolding raised_of
raised-is (pos k) f = let small : k < 2 ^ 63 = f.sfits in omega arith
raised-is (negsuc k) f = let small : k < 2 ^ 63 = f.sfits in omega arith
