-- Sizes up to a whole number, over the format: sums and differences add up with no slack for rounding, since a whole number is a value of the format and rounding does not go past one.
use mathlib.Core.Path.{◌≡◌, sym, subst}
use Prim.Native.Nat.{ℕ, ◌+◌, ◌-◌, ◌*◌, ◌^◌, ◌≤◌, ◌<◌}
use native.Mathlib.Nat.{le_trans, le_of_eq, le_refl, mul-le-mul_right}
use native.Mathlib.Omega.{arith}
use lib.Pow.{pow_pos}
use lib.Ieee.{Float, Format, prec, low, add, sub}
use lib.Ieee.Scale.{overflow}
use Rattle.float_laws.proofs.Units.{rnd}
use Rattle.float_laws.proofs.Value.{mag, pl, mi, Real, mag_is}
use Rattle.float_laws.proofs.Operation.{Is, add-Is, sub-Is}
use Rattle.float_laws.proofs.Size.{Within, is-bounded}
use Rattle.float_laws.proofs.Whole.{Whole, steps-rnd, steps-under}

-- finite, and at most n in size
abbrev pub AtMost : Format → ℕ → Float → Type 0
AtMost f n x = Real f x × (mag f x ≤ n * 2 ^ low f)

module _ (f : Format) where
  pub at_most-of : (x A : Float) (n : ℕ) → Within f x A → pl f A ≤ n * 2 ^ low f → AtMost f n x
  at_most-of x A n w h = (w.value, le_trans w.le h)

  pub at_most-more : (x : Float) (n m : ℕ) → AtMost f n x → n ≤ m → AtMost f m x
  at_most-more x n m w h = (w.0, le_trans w.1 (mul-le-mul_right (2 ^ low f) h))

  pub at_most-within : (x A : Float) (n m : ℕ) → AtMost f n x → n ≤ m → Whole f A m 0 → Within f x A
  at_most-within x A n m w h a =
      let z = a.minus in
      record { value = w.0; bound = a.value; plus = omega arith; le = le_trans (at_most-more x n m w h).1 (le_of_eq (sym a.plus)) }

  bounded : (z : Float) (P N n : ℕ) → Is f z P N 1 → P - N ≤ n * 2 ^ low f → N - P ≤ n * 2 ^ low f → n ≤ 2 ^ prec f → AtMost f n z
  bounded z P N n i h k l =
      let e : rnd f (n * 2 ^ low f) 1 ≡ n * 2 ^ low f = steps-rnd f (low f) n l in
      let b = is-bounded f z P N 1 (n * 2 ^ low f) (pow_pos 0) i h k (subst (λ (v : ℕ). v < overflow f) (sym e) (steps-under f (low f) n (le_refl (low f)) l)) in
      (b.0, le_trans b.1 (le_of_eq e))

  -- of x's parts and y's, in either order
  together : (p q x r t y n m U : ℕ) → x ≡ p + q → y ≡ r + t → x ≤ n * U → y ≤ m * U → p + r - (q + t) ≤ (n + m) * U
  together p q x r t y n m U a b h k = omega arith

  turned : (p q x : ℕ) → x ≡ p + q → x ≡ q + p
  turned p q x e = omega arith

  pub at_most-sum : (x y : Float) (n m : ℕ) → AtMost f n x → AtMost f m y → n + m ≤ 2 ^ prec f → AtMost f (n + m) (add f x y)
  at_most-sum x y n m v w l =
      let a = mag_is f x in
      let b = mag_is f y in
      bounded (add f x y) (pl f x + pl f y) (mi f x + mi f y) (n + m) (add-Is f x y v.0 w.0)
      (together (pl f x) (mi f x) (mag f x) (pl f y) (mi f y) (mag f y) n m (2 ^ low f) a b v.1 w.1)
      (together (mi f x) (pl f x) (mag f x) (mi f y) (pl f y) (mag f y) n m (2 ^ low f) (turned (pl f x) (mi f x) (mag f x) a) (turned (pl f y) (mi f y) (mag f y) b) v.1 w.1) l

  pub at_most-difference : (x y : Float) (n m : ℕ) → AtMost f n x → AtMost f m y → n + m ≤ 2 ^ prec f → AtMost f (n + m) (sub f x y)
  at_most-difference x y n m v w l =
      let a = mag_is f x in
      let b = mag_is f y in
      bounded (sub f x y) (pl f x + mi f y) (mi f x + pl f y) (n + m) (sub-Is f x y v.0 w.0)
      (together (pl f x) (mi f x) (mag f x) (mi f y) (pl f y) (mag f y) n m (2 ^ low f) a (turned (pl f y) (mi f y) (mag f y) b) v.1 w.1)
      (together (mi f x) (pl f x) (mag f x) (pl f y) (mi f y) (mag f y) n m (2 ^ low f) (turned (pl f x) (mi f x) (mag f x) a) b v.1 w.1) l
