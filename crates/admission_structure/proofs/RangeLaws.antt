-- What the test of a range that passed tells.
use Prim.Native.Nat.{ℕ, ◌+◌, ◌≤◌}
use mathlib.Core.Path.{◌≡◌}
use mathlib.Core.Bool.{true}
use mathlib.Core.List.{[], ◌∷◌}
use lib.Dec.{leb}
use borrow.Author.Tests.{leb-true}
use Rattle.records_lent.proofs.TestLaws.{chain-at}
use Rattle.admission_structure.specs.Structure.{range_ok}

pub record InRange (least most limit first count : ℕ) : Type 0 where
  pub enough : least ≤ count
  pub few : count ≤ most
  pub inside : first + count ≤ limit

pub range-is : (least most limit first count : ℕ) → range_ok least most limit first count ≡ true → InRange least most limit first count
range-is least most limit first count e =
    let t = chain-at (leb least count) (leb count most ∷ leb (first + count) limit ∷ []) e in
    record { enough = leb-true least count (t 0); few = leb-true count most (t 1); inside = leb-true (first + count) limit (t 2) }
