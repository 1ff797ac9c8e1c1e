-- From units of 2^-1074 to the fractions of specs/Distances: a distance in units is that of the fractions.
use Prim.Native.Nat.{ℕ, ◌+◌, ◌-◌, ◌*◌, ◌^◌, ◌≤◌, ◌<◌}
use native.Mathlib.Nat.{mul-pos, mul-le-mul_right, le_of_mul-le-mul_right, lt_of_mul-lt-mul_right, mul-lt-mul_of_pos_right}
use native.Mathlib.Omega.{arith}
use mathlib.Core.Path.{◌≡◌, sym, ap, ◌∙◌}
use mathlib.Core.Bool.{Bool, true, false, not}
use lib.Dec.{T, leb, leb→le, nleb→lt}
use lib.Ieee.{Float, binary64, low}
use lib.Ieee.Positive.{den, den_pos}
use Rattle.float_laws.proofs.Value.{pl, mi, Real}
use Rattle.arithmetic_distance.proofs.MissLaws.{gap}
use Rattle.admission_laws.specs.Fractions.{positive_part, negative_part}
use Rattle.admission_laws.proofs.FractionLaws.{joined, left-side, right_side}
use Rattle.surface_laws.proofs.SquareSums.{squared}
use Rattle.surface_laws.specs.Distances.{difference, distance_squared, UnderOneIn}

abbrev one : ℕ
one = 2 ^ low binary64

-- ---- over plain numbers

-- two differences of whole numbers, one of them 0, scaled
spread : (p q u v d L : ℕ) → 0 < d → p * L ≡ u * d → q * L ≡ v * d → (p - q + (q - p)) * L ≡ (u - v + (v - u)) * d
spread p q u v d L pos e f = go (leb p q) (leb→le p q) (nleb→lt p q)
  where
    -- where p ≤ q
    rising : (p q u v d L j k : ℕ) → p * L ≡ u * d → q * L ≡ v * d → q ≡ p + j → v ≡ u + k → j * L ≡ k * d
    rising p q u v d L j k e f g h =
        let a : q * L ≡ (p + j) * L = ap (λ (n : ℕ). n * L) g in
        let b : v * d ≡ (u + k) * d = ap (λ (n : ℕ). n * d) h in
        omega arith

    up : p ≤ q → (p - q + (q - p)) * L ≡ (u - v + (v - u)) * d
    up h =
        let l : u ≤ v = le_of_mul-le-mul_right (let m : p * L ≤ q * L = mul-le-mul_right L h in let c : u * d ≤ v * d = omega arith in c) pos in
        let a : p - q + (q - p) ≡ q - p = omega arith in
        let b : u - v + (v - u) ≡ v - u = omega arith in
        ap (λ (n : ℕ). n * L) a ∙ rising p q u v d L (q - p) (v - u) e f (omega arith) (omega arith) ∙ sym (ap (λ (n : ℕ). n * d) b)

    down : q ≤ p → (p - q + (q - p)) * L ≡ (u - v + (v - u)) * d
    down h =
        let l : v ≤ u = le_of_mul-le-mul_right (let m : q * L ≤ p * L = mul-le-mul_right L h in let c : v * d ≤ u * d = omega arith in c) pos in
        let a : p - q + (q - p) ≡ p - q = omega arith in
        let b : u - v + (v - u) ≡ u - v = omega arith in
        ap (λ (n : ℕ). n * L) a ∙ rising q p v u d L (p - q) (u - v) f e (omega arith) (omega arith) ∙ sym (ap (λ (n : ℕ). n * d) b)

    go : (b : Bool) → (T b → p ≤ q) → (T (not b) → q < p) → (p - q + (q - p)) * L ≡ (u - v + (v - u)) * d
    go true f g = up (f tt)
    go false f g = let h = g tt in down (omega arith)

-- N × P is S × D, and S × M under P: N × M under D
under_of : (N D S P M : ℕ) → 0 < D → N * P ≡ S * D → S * M < P → N * M < D
under_of N D S P M pos e h =
    let a : S * M * D < P * D = mul-lt-mul_of_pos_right h pos in
    let b : N * P * M ≡ S * D * M = ap (λ (k : ℕ). k * M) e in
    lt_of_mul-lt-mul_right P (let c : N * M * P < D * P = omega arith in c)

-- ---- distances

module _ (x y : Float) (rx : Real binary64 x) (ry : Real binary64 y) where
  apart-units : (difference x y).over * one ≡ gap binary64 y x * (difference x y).under
  apart-units =
      spread (positive_part x * den y + negative_part y * den x) (positive_part y * den x + negative_part x * den y) (pl binary64 x + mi binary64 y) (pl binary64 y + mi binary64 x) (den x * den y) one (mul-pos (den_pos x) (den_pos y)) (left-side x y rx ry) (right_side x y rx ry)
      ∙ ap (λ (n : ℕ). n * (den x * den y)) (turned (pl binary64 x) (mi binary64 y) (pl binary64 y) (mi binary64 x))
    where
      turned : (a b c d : ℕ) → a + b - (c + d) + (c + d - (a + b)) ≡ c + d - (b + a) + (b + a - (c + d))
      turned a b c d = omega arith

-- target tx, ty and a point x, y
pub distance-under : (tx x ty y : Float) (M : ℕ) → Real binary64 tx → Real binary64 x → Real binary64 ty → Real binary64 y
    → (gap binary64 x tx * gap binary64 x tx + gap binary64 y ty * gap binary64 y ty) * M < one * one → UnderOneIn M (distance_squared tx x ty y)
distance-under tx x ty y M rtx rx rty ry h =
    let a = difference tx x in
    let b = difference ty y in
    let g = gap binary64 x tx in
    let k = gap binary64 y ty in
    let pa = mul-pos (den_pos tx) (den_pos x) in
    let pb = mul-pos (den_pos ty) (den_pos y) in
    under_of (distance_squared tx x ty y).over (distance_squared tx x ty y).under (g * g + k * k) (one * one) M (mul-pos (mul-pos pa pa) (mul-pos pb pb))
    (joined (a.over * a.over) (a.under * a.under) (g * g) (b.over * b.over) (b.under * b.under) (k * k) (one * one)
    (squared a.over a.under g one (apart-units tx x rtx rx)) (squared b.over b.under k one (apart-units ty y rty ry)))
    h
