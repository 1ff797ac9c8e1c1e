-- Arc lengths are finite, not below 0, and never fall from one point to the next: a distance is a root of at most 2^46 (`squares-in`), so at most 2^23 m, and sums of 511 such stay far below the largest f32.
use Prim.Native.Nat.{ℕ, zero, suc, ◌+◌, ◌*◌, ◌^◌, ◌≤◌, ◌<◌}
use native.Mathlib.Nat.{le_trans, le_of_eq, lt_of_le_of_lt, le_of_suc-le-suc, eq-or-lt_of_le, mul-le-mul_right}
use native.Mathlib.Omega.{arith}
use mathlib.Core.Path.{◌≡◌, refl, sym, subst}
use mathlib.Core.Logic.{⊎_elim}
use mathlib.Core.List.{[], ◌∷◌}
use lib.Dec.{T}
use lib.Pow.{pow-add, pow-lt}
use lib.Ieee.{Float, binary32, size, round, units, odd, of_bits, fits, neg, le, lt, eq, add, sub, mul}
use lib.Ieee.Scale.{overflow}
use Rattle.std.proofs.lemmas.Float.{le_trans as float_trans}
use Rattle.float_laws.specs.Binary32.{f32}
use Rattle.float_laws.proofs.Value.{mag, pl, mi, Real, mag_is, le_refl as float-refl}
use Rattle.float_laws.proofs.Interval.{In, nil, nil-real, from_zero, le→parts, least, most, sq-low}
use Rattle.float_laws.proofs.Exact.{add-grow-l}
use Rattle.float_laws.proofs.Order.{sum-none, sum_step}
use Rattle.float_laws.proofs.Checker.{Ex, var, plus, minus, square, eval, Iv, iv, ival, covers, check, checked, good-real, add_i, sub_i, sq_i}
use Rattle.arithmetic.specs.Root.{root_of, root_units, whole_root}
use Rattle.arithmetic.proofs.RootLaws.{root-between}
use Rattle.records.specs.declared.points.Point.{Point}
use Rattle.coordinates.specs.Vectors.{from_to, dot_of, length_of}
use Rattle.tracks.specs.Lengths.{distance_of, length_to}
use Rattle.tracks_calls.specs.TrackCalls.{greatest_coordinate}
use Rattle.tracks_laws.proofs.Admitted.{Placed}

-- ---- a distance

-- the squares' sum of the difference, of a's coordinates and b's
squares : Ex
squares = plus (plus (square (minus (var 3) (var 0))) (square (minus (var 4) (var 1)))) (square (minus (var 5) (var 2)))

side : Iv
side = iv (neg greatest_coordinate) greatest_coordinate

-- 2^46, and its root 2^23
abbrev pub most-square : Float
most-square = f32 0x5680_0000

abbrev pub reach : Float
reach = f32 0x4b00_0000

square-real : Real binary32 most-square
unfolding of_bits fits
square-real = good-real binary32 most-square tt

passes : T (check binary32 (side ∷ side ∷ side ∷ side ∷ side ∷ side ∷ []) squares nil most-square)
unfolding side squares check covers ival add_i sub_i sq_i sq-low least most add sub mul neg le lt eq fits of_bits
passes = tt

squares-in : (a b : Point) → Placed a → Placed b → In binary32 nil most-square (dot_of (from_to a b) (from_to a b))
unfolding eval squares dot_of side
squares-in a b p q =
    checked binary32 (side ∷ side ∷ side ∷ side ∷ side ∷ side ∷ []) (a.x ∷ a.y ∷ a.z ∷ b.x ∷ b.y ∷ b.z ∷ []) squares nil most-square (nil-real binary32) square-real passes
    (p.x, (p.y, (p.z, (q.x, (q.y, (q.z, tt))))))

root-nil : root_of binary32 nil ≡ nil
unfolding root_of
root-nil = refl

root-most : root_of binary32 most-square ≡ reach
unfolding root_of root_units whole_root size round units odd of_bits
root-most = refl

pub nil-mi : mi binary32 nil ≡ 0
nil-mi = from_zero binary32 nil (nil-real binary32) (float-refl binary32 nil (nil-real binary32))

-- finite, not below 0, at most 2^23 m
pub distance-in : (a b : Point) → Placed a → Placed b → In binary32 nil reach (distance_of a b)
unfolding length_of
distance-in a b p q =
    let s = squares-in a b p q in
    let r = root-between binary32 nil (dot_of (from_to a b) (from_to a b)) most-square (nil-real binary32) s.value square-real nil-mi s.above s.below in
    subst (λ (h : Float). In binary32 nil h (length_of (from_to a b))) root-most (subst (λ (l : Float). In binary32 l (root_of binary32 most-square) (length_of (from_to a b))) root-nil r)

-- ---- the sums

-- in units of 2^-149
reach-is : pl binary32 reach ≡ 2 ^ 172
unfolding of_bits pl
reach-is = refl

few : (i : ℕ) → i ≤ 512 → i * 2 ^ 172 < overflow binary32
few i h = lt_of_le_of_lt (mul-le-mul_right (2 ^ 172) h) (lt_of_le_of_lt (le_of_eq (sym (pow-add 2 9 172))) (pow-lt (let o : 181 < 277 = omega arith in o)))

few-digits : (i : ℕ) → i ≤ 512 → i < 2 ^ 24
few-digits i h = omega arith

no_more : (m p n r : ℕ) → m ≡ p + n → p ≤ r → n ≡ 0 → m ≤ r
no_more m p n r e h z = omega arith

module _ (p : ℕ → Point) (n : ℕ) (placed : (i : ℕ) → i < n → Placed (p i)) (small : n ≤ 512) where
  pub record Length (i : ℕ) : Type 0 where
    pub real : Real binary32 (length_to p i)
    pub size : mag binary32 (length_to p i) ≤ i * 2 ^ 172
    pub above : T (le nil (length_to p i))

  none : Length 0
  unfolding length_to of_bits
  none = let s = sum-none binary32 172 in record { real = s.0; size = s.1; above = float-refl binary32 nil (nil-real binary32) }

  step : (i : ℕ) → suc i < n → In binary32 nil reach (distance_of (p i) (p (suc i)))
  step i h = distance-in (p i) (p (suc i)) (placed i (omega arith)) (placed (suc i) h)

  grown : (i : ℕ) → suc i < n → Length i → Real binary32 (length_to p (suc i)) × (mag binary32 (length_to p (suc i)) ≤ suc i * 2 ^ 172) × T (le (length_to p i) (length_to p (suc i)))
  unfolding length_to
  grown i h l =
      let d = step i h in
      let x = distance_of (p i) (p (suc i)) in
      let e = (le→parts binary32 x reach d.value d.high d.below).0 in
      let z = from_zero binary32 x d.value d.above in
      let m = no_more (mag binary32 x) (pl binary32 x) (mi binary32 x) (2 ^ 172) (mag_is binary32 x) (le_trans e (le_of_eq reach-is)) z in
      let s = sum_step binary32 (length_to p i) x i 172 l.real d.value (few-digits (suc i) (omega arith)) (few (suc i) (omega arith)) l.size m in
      (s.0, s.1, add-grow-l binary32 (length_to p i) x l.real d.value z s.0.finite)

  -- finite and not below 0
  pub lengths : (i : ℕ) → i < n → Length i
  lengths zero h = none
  lengths (suc i) h =
      let l = lengths i (omega arith) in
      let g = grown i h l in
      record { real = g.0; size = g.1; above = float_trans nil (length_to p i) (length_to p (suc i)) l.above g.2 }

  -- never falling
  pub lengths_rise : (i j : ℕ) → i ≤ j → j < n → T (le (length_to p i) (length_to p j))
  lengths_rise i zero h l = let e : i ≡ 0 = omega arith in subst (λ (k : ℕ). T (le (length_to p k) (length_to p 0))) (sym e) (float-refl binary32 (length_to p 0) (lengths 0 l).real)
  lengths_rise i (suc j) h l =
      ⊎_elim
      (λ (e : i ≡ suc j). subst (λ (k : ℕ). T (le (length_to p k) (length_to p (suc j)))) (sym e) (float-refl binary32 (length_to p (suc j)) (lengths (suc j) l).real))
      (λ (g : i < suc j).
      let a = lengths j (omega arith) in
      float_trans (length_to p i) (length_to p j) (length_to p (suc j)) (lengths_rise i j (le_of_suc-le-suc g) (omega arith)) (grown j l a).2)
      (eq-or-lt_of_le h)
