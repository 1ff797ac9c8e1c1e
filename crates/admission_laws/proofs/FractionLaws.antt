-- From units of the least value to the words of specs/Fractions: num / den is the size over 2^low, above / den the plus part, below / den the minus part; so sizes and orders in units are those of the fractions.
use Prim.Native.Nat.{ℕ, ◌+◌, ◌*◌, ◌^◌, ◌≤◌, ◌<◌}
use native.Mathlib.Nat.{zero-mul, mul-pos, le_trans, le_of_eq, mul-le-mul_right, mul-lt-mul_of_pos_right, le_of_mul-le-mul_right, lt_of_mul-lt-mul_right}
use native.Mathlib.Omega.{arith}
use mathlib.Core.Path.{◌≡◌, sym, ap, ◌∙◌}
use mathlib.Core.Bool.{true, false}
use lib.Dec.{T}
use lib.Pow.{pow_pos}
use lib.Ieee.{Float, Format, nan, inf, fin, binary64, low, le, lt}
use lib.Ieee.Positive.{num, den, den_pos}
use Rattle.float_laws.proofs.Value.{mag, pl, mi, Real, units_of, le→units, lt→units}
use Rattle.float_laws.proofs.Size.{Within}
use Rattle.admission_laws.specs.Fractions.{IsF64, AtMost, AtMostPart, positive_part, negative_part, NotOver, Under}

-- ---- sizes

module _ (f : Format) (x : Float) (r : Real f x) where
  pub at_most-part : (n d : ℕ) → mag f x * d ≤ n * 2 ^ low f → AtMostPart n d x
  at_most-part n d h = record { number = r.finite; size = le_of_mul-le-mul_right (cleared (num x) (den x) (mag f x) n d (2 ^ low f) (units_of f x r) h) (pow_pos (low f)) }
    where
      cleared : (a e m n d L : ℕ) → a * L ≡ m * e → m * d ≤ n * L → a * d * L ≤ n * e * L
      cleared a e m n d L p h =
          let g : m * d * e ≤ n * L * e = mul-le-mul_right e h in
          let q : a * L * d ≡ m * e * d = ap (λ (k : ℕ). k * d) p in
          omega arith

  pub at_most-of : (k : ℕ) → mag f x ≤ k * 2 ^ low f → AtMost k x
  at_most-of k h = record { number = r.finite; size = le_of_mul-le-mul_right (cleared (num x) (den x) (mag f x) k (2 ^ low f) (units_of f x r) h) (pow_pos (low f)) }
    where
      cleared : (n d m k L : ℕ) → n * L ≡ m * d → m ≤ k * L → n * L ≤ k * d * L
      cleared n d m k L e h = let g : m * d ≤ k * L * d = mul-le-mul_right d h in omega arith

  -- and back
  pub at_most-units : (k : ℕ) → AtMost k x → mag f x ≤ k * 2 ^ low f
  at_most-units k a = le_of_mul-le-mul_right (cleared (num x) (den x) (mag f x) k (2 ^ low f) (units_of f x r) a.size) (den_pos x)
    where
      cleared : (n d m k L : ℕ) → n * L ≡ m * d → n ≤ k * d → m * d ≤ k * L * d
      cleared n d m k L e h = let g : n * L ≤ k * d * L = mul-le-mul_right L h in omega arith

-- from a bound that is an f64
module _ (x bound : Float) (w : Within binary64 x bound) where
  pub within-at_most : (n : ℕ) → pl binary64 bound ≤ n * 2 ^ low binary64 → AtMost n x
  within-at_most n h = at_most-of binary64 x w.value n (le_trans w.le h)

  pub within-at_most-part : (n d : ℕ) → pl binary64 bound * d ≤ n * 2 ^ low binary64 → AtMostPart n d x
  within-at_most-part n d h = at_most-part binary64 x w.value n d (le_trans (mul-le-mul_right d w.le) h)

-- and back, to an f64 that is k
pub at_most-within : (x bound : Float) → IsF64 x → (k : ℕ) → Real binary64 bound × (pl binary64 bound ≡ k * 2 ^ low binary64) × (mi binary64 bound ≡ 0) → AtMost k x → Within binary64 x bound
at_most-within x bound f k b a =
    let r : Real binary64 x = record { finite = a.number; fits = f } in
    record { value = r; bound = b.0; plus = b.2; le = le_trans (at_most-units binary64 x r k a) (le_of_eq (sym b.1)) }

-- ---- plus and minus parts

abbrev one : ℕ
one = 2 ^ low binary64

none : (L d : ℕ) → 0 * L ≡ 0 * d
none L d = zero-mul L ∙ sym (zero-mul d)

above-units : (x : Float) → Real binary64 x → positive_part x * one ≡ pl binary64 x * den x
unfolding pl
above-units nan r = absurd r.finite
above-units (inf s) r = absurd r.finite
above-units (fin false m e) r = units_of binary64 (fin false m e) r
above-units (fin true m e) r = none one (den (fin true m e))

below-units : (x : Float) → Real binary64 x → negative_part x * one ≡ mi binary64 x * den x
unfolding mi
below-units nan r = absurd r.finite
below-units (inf s) r = absurd r.finite
below-units (fin false m e) r = none one (den (fin false m e))
below-units (fin true m e) r = units_of binary64 (fin true m e) r

-- ---- orders

scaled : (a b m : ℕ) → a ≡ b → a * m ≡ b * m
scaled a b m e = ap (λ (k : ℕ). k * m) e

-- a / d and b / e, which are p / L and q / L, over one denominator
pub joined : (a d p b e q L : ℕ) → a * L ≡ p * d → b * L ≡ q * e → (a * e + b * d) * L ≡ (p + q) * (d * e)
joined a d p b e q L x y =
    let u : a * L * e ≡ p * d * e = scaled (a * L) (p * d) e x in
    let v : b * L * d ≡ q * e * d = scaled (b * L) (q * e) d y in
    omega arith

less : (p q u v d L : ℕ) → 0 < L → p * L ≡ u * d → q * L ≡ v * d → u ≤ v → p ≤ q
less p q u v d L pos e f h = let g : u * d ≤ v * d = mul-le-mul_right d h in le_of_mul-le-mul_right (let c : p * L ≤ q * L = omega arith in c) pos

strictly : (p q u v d L : ℕ) → 0 < d → p * L ≡ u * d → q * L ≡ v * d → u < v → p < q
strictly p q u v d L pos e f h = let g : u * d < v * d = mul-lt-mul_of_pos_right h pos in lt_of_mul-lt-mul_right L (let c : p * L < q * L = omega arith in c)

module _ (x y : Float) (rx : Real binary64 x) (ry : Real binary64 y) where
  -- the two sides of an order
  pub left-side : (positive_part x * den y + negative_part y * den x) * one ≡ (pl binary64 x + mi binary64 y) * (den x * den y)
  left-side = joined (positive_part x) (den x) (pl binary64 x) (negative_part y) (den y) (mi binary64 y) one (above-units x rx) (below-units y ry)

  pub right_side : (positive_part y * den x + negative_part x * den y) * one ≡ (pl binary64 y + mi binary64 x) * (den x * den y)
  right_side =
      joined (positive_part y) (den y) (pl binary64 y) (negative_part x) (den x) (mi binary64 x) one (above-units y ry) (below-units x rx)
      ∙ turned (pl binary64 y + mi binary64 x) (den y) (den x)
    where
      turned : (n a b : ℕ) → n * (a * b) ≡ n * (b * a)
      turned n a b = omega arith

  pub not-over : pl binary64 x + mi binary64 y ≤ pl binary64 y + mi binary64 x → NotOver x y
  not-over h =
      less (positive_part x * den y + negative_part y * den x) (positive_part y * den x + negative_part x * den y) (pl binary64 x + mi binary64 y) (pl binary64 y + mi binary64 x) (den x * den y) one (pow_pos (low binary64)) left-side right_side h

  pub le_not-over : T (le x y) → NotOver x y
  le_not-over h = not-over (le→units binary64 x y rx ry h)

  pub lt_under : T (lt x y) → Under x y
  lt_under h =
      strictly (positive_part x * den y + negative_part y * den x) (positive_part y * den x + negative_part x * den y) (pl binary64 x + mi binary64 y) (pl binary64 y + mi binary64 x) (den x * den y) one (mul-pos (den_pos x) (den_pos y)) left-side right_side
      (lt→units binary64 x y rx ry h)

pub below_none : (x : Float) → Real binary64 x → mi binary64 x ≡ 0 → negative_part x ≡ 0
below_none x r z = gone (negative_part x) (mi binary64 x) (den x) one (pow_pos (low binary64)) (below-units x r) z
  where
    gone : (b m d L : ℕ) → 0 < L → b * L ≡ m * d → m ≡ 0 → b ≡ 0
    gone b m d L pos e z =
        let a : m * d ≡ 0 * d = ap (λ (n : ℕ). n * d) z in
        let l : b ≤ 0 = le_of_mul-le-mul_right (let c : b * L ≤ 0 * L = omega arith in c) pos in
        omega arith
