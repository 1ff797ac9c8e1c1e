-- With k of n places left `RootOf` holds of the digits of m that came down: between the turns the fields of s are apart, and what its type says of them is said here. One turn is `root-next`.
use Prim.Native.Nat.{◌*◌, ◌/◌, ◌^◌}
use Rattle.arithmetic.proofs.RootRounded.{RootOf}
use Rattle.arithmetic.proofs.root_digits.Partial.upper.Given as goal

abbrev pub invariant-loop-k : goal.invariant-loop-k
invariant-loop-k l = RootOf (l.m / 2 ^ (2 * l.k)) l.s.0 l.s.1.0
