-- The exact sum of three squares as a fraction, from the same sum in units of 2^-1074: num / den is mag / 2^1074, so over / under is the sum of the mags' squares over 2^1074 squared.
use mathlib.Core.Path.{◌≡◌, ap}
use Prim.Native.Nat.{ℕ, ◌+◌, ◌*◌, ◌^◌, ◌≤◌, ◌<◌}
use native.Mathlib.Nat.{mul-le-mul_right, le_of_mul-le-mul_right, mul-pos}
use native.Mathlib.Omega.{arith}
use lib.Pow.{pow_pos}
use lib.Ieee.{Format, low}
use lib.Ieee.Positive.{num, den}
use Rattle.float_laws.proofs.Value.{mag, Real, units_of}
use Rattle.arithmetic.proofs.UnitLaws.{squares_of as unit_squares_of}
use Rattle.surface_station.specs.declared.axis.Axis.{Axis}
use Rattle.surface_laws.specs.Squares.{squares_of, UnitLong}

-- n / d is X / L, so its square is X×X / (L×L)
pub squared : (n d X L : ℕ) → n * L ≡ X * d → n * n * (L * L) ≡ X * X * (d * d)
squared n d X L e =
    let a : n * L * (n * L) ≡ X * d * (n * L) = ap (λ (k : ℕ). k * (n * L)) e in
    let b : X * d * (n * L) ≡ X * d * (X * d) = ap (λ (k : ℕ). X * d * k) e in
    omega arith

scaled : (a b m : ℕ) → a ≡ b → a * m ≡ b * m
scaled a b m e = ap (λ (k : ℕ). k * m) e

-- three fractions a / b that are u / P each, summed by their denominators: (the sum) × P is the sum of the u times all denominators
summed : (a b u c d v e f w P : ℕ) → a * P ≡ u * b → c * P ≡ v * d → e * P ≡ w * f → ((a * d + c * b) * f + e * (b * d)) * P ≡ (u + v + w) * (b * d * f)
summed a b u c d v e f w P x y z =
    let p : a * P * (d * f) ≡ u * b * (d * f) = scaled (a * P) (u * b) (d * f) x in
    let q : c * P * (b * f) ≡ v * d * (b * f) = scaled (c * P) (v * d) (b * f) y in
    let r : e * P * (b * d) ≡ w * f * (b * d) = scaled (e * P) (w * f) (b * d) z in
    omega arith

-- k / l at most N / D, where N × P is S × D
at_least : (k l N D S P : ℕ) → 0 < P → N * P ≡ S * D → k * P ≤ l * S → k * D ≤ l * N
at_least k l N D S P pos e h =
    let a : k * P * D ≤ l * S * D = mul-le-mul_right D h in
    let b : l * (N * P) ≡ l * (S * D) = ap (λ (n : ℕ). l * n) e in
    le_of_mul-le-mul_right (let c : k * D * P ≤ l * N * P = omega arith in c) pos

at_most : (k l N D S P : ℕ) → 0 < P → N * P ≡ S * D → l * S ≤ k * P → l * N ≤ k * D
at_most k l N D S P pos e h =
    let a : l * S * D ≤ k * P * D = mul-le-mul_right D h in
    let b : l * (N * P) ≡ l * (S * D) = ap (λ (n : ℕ). l * n) e in
    le_of_mul-le-mul_right (let c : l * N * P ≤ k * D * P = omega arith in c) pos

-- in units, and so as a fraction
pub unit-long : (f : Format) (v : Axis) → Real f v.x → Real f v.y → Real f v.z
    → 999 * (2 ^ low f * 2 ^ low f) ≤ 1000 * unit_squares_of f v.x v.y v.z → 1000 * unit_squares_of f v.x v.y v.z ≤ 1001 * (2 ^ low f * 2 ^ low f) → UnitLong v
unit-long f v rx ry rz above below =
    let x = v.x in
    let y = v.y in
    let z = v.z in
    let L = 2 ^ low f in
    let e =
    summed (num x * num x) (den x * den x) (mag f x * mag f x) (num y * num y) (den y * den y) (mag f y * mag f y) (num z * num z) (den z * den z) (mag f z * mag f z) (L * L)
    (squared (num x) (den x) (mag f x) L (units_of f x rx)) (squared (num y) (den y) (mag f y) L (units_of f y ry)) (squared (num z) (den z) (mag f z) L (units_of f z rz)) in
    let pos = mul-pos (pow_pos (low f)) (pow_pos (low f)) in
    record {
      finite_x = rx.finite;
      finite_y = ry.finite;
      finite_z = rz.finite;
      squares = record {
        above = at_least 999 1000 (squares_of v).over (squares_of v).under (unit_squares_of f x y z) (L * L) pos e above;
        below = at_most 1001 1000 (squares_of v).over (squares_of v).under (unit_squares_of f x y z) (L * L) pos e below;
      };
    }
