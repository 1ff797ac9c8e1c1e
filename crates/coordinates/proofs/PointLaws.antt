-- NaN as its bits, and a point past the slice's end.
use Prim.Native.Nat.{ℕ, ◌+◌, ◌*◌, ◌≤◌}
use native.Mathlib.Omega.{arith}
use mathlib.Core.Path.{◌≡◌, refl, sym}
use mathlib.Core.List.{List}
use lib.ListN.{length, get_or, get_or-eq_default}
use lib.Ieee.{Float, nan, binary32, of_bits}
use Rattle.coordinates.specs.Vectors.{place}
use Rattle.coordinates.specs.Points.{point_at}

pub nan_is : of_bits binary32 0x7fc0_0000 ≡ nan
unfolding of_bits
nan_is = refl

past : (xs : List Float) (k : ℕ) → length xs ≤ k → of_bits binary32 0x7fc0_0000 ≡ get_or xs k nan
past xs k h = rw nan_is (sym (get_or-eq_default xs nan h))

pub point_past : (xs : List Float) (i : ℕ) → length xs ≤ i → (let x = of_bits binary32 0x7fc0_0000 in place x x x) ≡ point_at xs i
point_past xs i h = rw (← past xs (i * 3) (omega arith), ← past xs (i * 3 + 1) (omega arith), ← past xs (i * 3 + 2) (omega arith))
