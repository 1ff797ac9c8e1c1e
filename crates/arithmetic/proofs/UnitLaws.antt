-- A vector divided by the root of the sum of its squares, as computed: the squares of the quotients add up to 1 but for a thousandth. The law on unit vectors at the root of document 01.
use Prim.Native.Nat.{ℕ, ◌+◌, ◌-◌, ◌*◌, ◌^◌, ◌≤◌}
use mathlib.Core.Logic.{◌⊎◌}
use lib.Ieee.{Float, Format, emax, low, div}
use Rattle.float_laws.proofs.Value.{Real, mag}
use Rattle.float_laws.proofs.UnitVector.{squares3, squares3-norm, long3, normalised3}
use Rattle.arithmetic.specs.Root.{root_of}
use Rattle.arithmetic.proofs.RootLaws.{root-not-negative, root-square}

-- the exact sum of the squares of three values, in units
abbrev pub squares_of : Format → Float → Float → Float → ℕ
squares_of f x y z = mag f x * mag f x + mag f y * mag f y + mag f z * mag f z

module _ (f : Format) (e : ℕ) (he : e * 2 + 2 ≤ emax f) (x y z : Float) (rx : Real f x) (ry : Real f y) (rz : Real f z) where
  abbrev pub norm : Float
  norm = root_of f (squares3 f x y z)

  -- a component at least 2^-e in size and all at most 2^e
  pub unit-squares : mag f x ≤ 2 ^ (low f + e) → mag f y ≤ 2 ^ (low f + e) → mag f z ≤ 2 ^ (low f + e)
      → (2 ^ (low f - e) ≤ mag f x) ⊎ (2 ^ (low f - e) ≤ mag f y) ⊎ (2 ^ (low f - e) ≤ mag f z)
      → Real f (div f x norm) × Real f (div f y norm) × Real f (div f z norm)
      × (999 * (2 ^ low f * 2 ^ low f) ≤ 1000 * squares_of f (div f x norm) (div f y norm) (div f z norm))
      × (1000 * squares_of f (div f x norm) (div f y norm) (div f z norm) ≤ 1001 * (2 ^ low f * 2 ^ low f))
  unit-squares hx hy hz big =
      let s = (squares3-norm f e he x y z rx ry rz hx hy hz (long3 f e (mag f x) (mag f y) (mag f z) he big)).0 in
      let n = root-not-negative f (squares3 f x y z) s.value s.plus in
      let q = root-square f (squares3 f x y z) s.value s.plus in
      normalised3 f e he x y norm rx ry n.0 hx hy z rz hz big q.0 q.1
