-- The lower digits of a root at once, as one digit of the base 2 * h. With a the root so far, what is left q0 of the number under it, and q0 * h parted into p * a + v, the square of a * (2 * h) + p falls short of the number by v * (4 * h) - p * p (`fits_in`).
-- p is the quotient, or one less where the quotient's square is too large (`lowered`).
use Prim.Native.Nat.{ℕ, zero, suc, ◌+◌, ◌-◌, ◌*◌, ◌/◌, ◌%◌, ◌^◌, ◌≤◌, ◌<◌}
use native.Mathlib.Nat.{le_trans, le_of_suc-le-suc, mul-le-mul, mul-le-mul_left, mul-le-mul_right, div-add-mod', mod-lt, div-lt_iff_lt-mul}
use native.Mathlib.Omega.{arith}
use mathlib.Core.Path.{◌≡◌, ap}
use mathlib.Core.Logic.{inl, inr}
use Rattle.arithmetic.proofs.RootRounded.{RootOf}
use Rattle.arithmetic.proofs.RootDigits.{Digit}

module _ (a q0 h : ℕ) (pre : (0 < h) × (h ≤ a) × (a < 2 ^ 27)) (little : q0 ≤ 2 * a) where
  positive : 0 < a
  positive = omega arith

  quotient_le : q0 * h / a ≤ 2 * h
  quotient_le =
      let s : q0 * h ≤ 2 * a * h = mul-le-mul_right h little in
      let p = positive in
      le_of_suc-le-suc ((div-lt_iff_lt-mul positive).1 (let l : q0 * h < suc (2 * h) * a = omega arith in l))

  left_lt : q0 * h % a < a
  left_lt = mod-lt (q0 * h) positive

  fits_in : (p v : ℕ) → p * a + v ≡ q0 * h → p * p ≤ v * (4 * h) → v * (4 * h) ≤ p * p + 2 * (a * (2 * h) + p) → RootOf ((a * a + q0) * (2 * h * (2 * h))) (a * (2 * h) + p) (v * (4 * h) - p * p)
  fits_in p v e l u = let s : (p * a + v) * (4 * h) ≡ q0 * h * (4 * h) = ap (λ (z : ℕ). z * (4 * h)) e in record { square = omega arith; below = omega arith }

  -- the digit q - d, with u + a * d left
  pub record Lowered (q u d : ℕ) : Type 0 where
    pub fewer : d ≤ q
    pub small : d ≤ 1
    pub within : (q - d) * (q - d) ≤ (u + a * d) * (4 * h)
    pub root : RootOf ((a * a + q0) * (2 * h * (2 * h))) (a * (2 * h) + (q - d)) ((u + a * d) * (4 * h) - (q - d) * (q - d))

  kept : (q u : ℕ) → q * a + u ≡ q0 * h → u < a → q * q < u * (4 * h) + 1 → Lowered q u 0
  kept q u e l t =
      let x : q - 0 ≡ q = omega arith in
      let y : u + a * 0 ≡ u = omega arith in
      let z : q * q ≤ u * (4 * h) = omega arith in
      let s : suc u * (4 * h) ≤ a * (4 * h) = mul-le-mul_right (4 * h) l in
      record { fewer = omega arith; small = omega arith; within = rw (x, y) z; root = rw (x, y) (fits_in q u e z (omega arith)) }

  less : (q u : ℕ) → q * a + u ≡ q0 * h → q ≤ 2 * h → u * (4 * h) + 1 ≤ q * q → Lowered q u 1
  less zero u e l t = absurd (omega arith)
  less (suc p) u e l t =
      let x : suc p - 1 ≡ p = omega arith in
      let y : u + a * 1 ≡ u + a = omega arith in
      let k : p ≤ 2 * h = omega arith in
      let s : p * p ≤ 2 * h * (2 * h) = mul-le-mul k k in
      let g : h * (4 * h) ≤ a * (4 * h) = mul-le-mul_right (4 * h) pre.1 in
      let z : p * p ≤ (u + a) * (4 * h) = omega arith in
      record { fewer = omega arith; small = omega arith; within = rw (x, y) z; root = rw (x, y) (fits_in p (u + a) (omega arith) z (omega arith)) }

  by-digit : (q u d : ℕ) → q * a + u ≡ q0 * h → u < a → q ≤ 2 * h → Digit (u * (4 * h) + 1) (q * q) d → Lowered q u d
  by-digit q u d e l k (inl t) = rw t.0 (less q u e k t.1)
  by-digit q u d e l k (inr t) = rw t.0 (kept q u e l t.1)

  pub lowered : (d : ℕ) → Digit (q0 * h % a * (4 * h) + 1) (q0 * h / a * (q0 * h / a)) d → Lowered (q0 * h / a) (q0 * h % a) d
  lowered d t = by-digit (q0 * h / a) (q0 * h % a) d (div-add-mod' (q0 * h) a) left_lt quotient_le t

  -- ---- no number on the way is large

  -- before the digit is known
  pub record Early (q u : ℕ) : Type 0 where
    pub part : q0 * h ≤ 2 ^ 55
    pub trial : u * (4 * h) ≤ 2 ^ 56
    pub square : q * q ≤ 2 ^ 56

  pub early : Early (q0 * h / a) (q0 * h % a)
  early =
      let i : q0 ≤ 2 ^ 28 = omega arith in
      let j : h ≤ 2 ^ 27 = omega arith in
      let f : 4 * h ≤ 2 ^ 29 = omega arith in
      let k : q0 * h / a ≤ 2 ^ 28 = le_trans quotient_le (let t : 2 * h ≤ 2 ^ 28 = omega arith in t) in
      let l = left_lt in
      let m : q0 * h % a ≤ 2 ^ 27 = omega arith in
      record { part = mul-le-mul i j; trial = mul-le-mul m f; square = mul-le-mul k k }

  -- and after
  pub record Late (q u d : ℕ) : Type 0 where
    pub taken : a * d ≤ 2 ^ 27
    pub rest : u + a * d ≤ 2 ^ 28
    pub scaled : (u + a * d) * (4 * h) ≤ 2 ^ 57
    pub square : (q - d) * (q - d) ≤ 2 ^ 56
    pub root : a * (2 * h) + (q - d) ≤ 2 ^ 55

  pub late : (d : ℕ) → Digit (q0 * h % a * (4 * h) + 1) (q0 * h / a * (q0 * h / a)) d → Late (q0 * h / a) (q0 * h % a) d
  late d digit =
      let t = lowered d digit in
      let q = q0 * h / a in
      let u = q0 * h % a in
      let l = left_lt in
      let k = quotient_le in
      let i : a * d ≤ a * 1 = mul-le-mul_left a t.small in
      let f : 4 * h ≤ 2 ^ 29 = omega arith in
      let g : 2 * h ≤ 2 ^ 28 = omega arith in
      let m : u + a * d ≤ 2 ^ 28 = omega arith in
      let n : q - d ≤ 2 ^ 28 = omega arith in
      let o : a ≤ 2 ^ 27 - 1 = omega arith in
      let v : a * (2 * h) ≤ (2 ^ 27 - 1) * 2 ^ 28 = mul-le-mul o g in
      record { taken = omega arith; rest = m; scaled = mul-le-mul m f; square = mul-le-mul n n; root = omega arith }
