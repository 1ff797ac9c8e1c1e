-- Whether hypot is under a bound, without its root: the root never falls as its argument grows, so on either side of the two brackets the answer is that of the bracket.
use mathlib.Core.Path.{◌≡◌, refl}
use mathlib.Core.Bool.{Bool, true, false, not, ◌&&◌}
use Prim.Native.Nat.{ℕ, ◌+◌, ◌≤◌, ◌<◌}
use native.Mathlib.Omega.{arith}
use lib.Dec.{T, not_T}
use lib.Ieee.{Float, nan, inf, fin, binary64, of_bits, mul, le, lt, fits}
use lib.Ieee.Fits.{and_l, and_r}
use lib.Ieee.Bits.{is_true, is_false}
use lib.Ieee.Scale.{finite}
use Rattle.std.specs.Bool.{passes}
use Rattle.float_laws.specs.Binary64.{zero64}
use Rattle.float_laws.proofs.Value.{pl, mi, Real, le→units, lt→units, units→lt}
use Rattle.float_laws.proofs.Interval.{from_zero, le→parts}
use Rattle.float_laws.proofs.Size.{nn, add-nn, mul-nn, fin-of_le}
use Rattle.float_laws.proofs.UnitVector.{squares2}
use Rattle.arithmetic.specs.Root.{root_of}
use Rattle.arithmetic.proofs.RootLaws.{root-real, root-mono}
use Rattle.arithmetic_distance.specs.Brackets.{real64, brackets}
use Rattle.arithmetic_distance.proofs.MissLaws.{squares-finite, squares-real, squares-minus}

-- ---- a sum of squares is not below zero
square-nn : (x : Float) → T (nn (mul binary64 x x))
unfolding mul
square-nn nan = tt
square-nn (inf true) = tt
square-nn (inf false) = tt
square-nn (fin true m e) = mul-nn binary64 (fin false m e) (fin false m e) tt tt
square-nn (fin false m e) = mul-nn binary64 (fin false m e) (fin false m e) tt tt

-- ---- the tests of the brackets
real_of : (x : Float) → T (real64 x) → Real binary64 x
real_of x t = record { finite = and_l (finite x) (fits binary64 x) t; fits = and_r (finite x) (fits binary64 x) t }

record Bracketing (low high bound : Float) : Type 0 where
  low_real : Real binary64 low
  high_real : Real binary64 high
  bound_real : Real binary64 bound
  high_above : T (le zero64 high)
  root_low : T (lt (root_of binary64 low) bound)
  root_high : T (le bound (root_of binary64 high))

bracketing : (low high bound : Float) → brackets low high bound ≡ true → Bracketing low high bound
unfolding brackets
bracketing low high bound e =
    let t5 = le bound (root_of binary64 high) in
    let t4 = lt (root_of binary64 low) bound && t5 in
    let t3 = le zero64 high && t4 in
    let t2 = real64 bound && t3 in
    let t1 = real64 high && t2 in
    let a = passes (real64 low && t1) e in
    let b = and_r (real64 low) t1 a in
    let c = and_r (real64 high) t2 b in
    let d = and_r (real64 bound) t3 c in
    let g = and_r (le zero64 high) t4 d in
    record {
      low_real = real_of low (and_l (real64 low) t1 a);
      high_real = real_of high (and_l (real64 high) t2 b);
      bound_real = real_of bound (and_l (real64 bound) t3 c);
      high_above = and_l (le zero64 high) t4 d;
      root_low = and_l (lt (root_of binary64 low) bound) t5 g;
      root_high = and_r (lt (root_of binary64 low) bound) t5 g;
    }

not-below : (x : Float) → Real binary64 x → T (le zero64 x) → mi binary64 x ≡ 0
unfolding of_bits
not-below x r h = from_zero binary64 x r h

-- ---- what is not finite: at or above a finite number it is the infinity, whose root is itself
endless : (sum high bound : Float) → T (not (finite sum)) → T (finite high) → T (finite bound) → T (le high sum) → lt (root_of binary64 sum) bound ≡ false
unfolding root_of lt le
endless nan high bound n h b g = refl
endless (inf true) high bound n h b g = refl
endless (inf false) high nan n h b g = refl
endless (inf false) high (inf t) n h b g = absurd b
endless (inf false) high (fin t m e) n h b g = refl
endless (fin s m e) high bound n h b g = absurd n

module _ (x y low high bound : Float) (fx : T (fits binary64 x)) (fy : T (fits binary64 y)) (e : brackets low high bound ≡ true) where
  abbrev sum : Float
  sum = squares2 binary64 x y

  abbrev root : Float
  root = root_of binary64 sum

  w : Bracketing low high bound
  w = bracketing low high bound e

  module _ (t : T (finite sum)) where
    x_real : Real binary64 x
    x_real = record { finite = (squares-finite binary64 x y t).0; fits = fx }

    y_real : Real binary64 y
    y_real = record { finite = (squares-finite binary64 x y t).1; fits = fy }

    sum-real : Real binary64 sum
    sum-real = squares-real binary64 x y x_real y_real t

    sum-minus : mi binary64 sum ≡ 0
    sum-minus = squares-minus binary64 x y x_real y_real t

    root_is-real : Real binary64 root
    root_is-real = root-real binary64 sum sum-real sum-minus

    above : T (le high sum) → lt root bound ≡ false
    above h =
        let m = not-below high w.high_real w.high_above in
        let k = root-mono binary64 high sum w.high_real sum-real m h in
        let r = root-real binary64 high w.high_real m in
        let a = le→units binary64 (root_of binary64 high) root r root_is-real k in
        let b = le→units binary64 bound (root_of binary64 high) w.bound_real r w.root_high in
        is_false (lt root bound) (not_T (lt root bound) (λ (l : T (lt root bound)). clash (pl binary64 root) (mi binary64 root) (pl binary64 bound) (mi binary64 bound) (pl binary64 (root_of binary64 high)) (mi binary64 (root_of binary64 high)) a b (lt→units binary64 root bound root_is-real w.bound_real l)))
      where
        clash : (p n q m a b : ℕ) → a + n ≤ p + b → q + b ≤ a + m → p + m < q + n → ⊥
        clash p n q m a b h g l = omega arith

    below : T (le sum low) → lt root bound ≡ true
    below h =
        let k = root-mono binary64 sum low sum-real w.low_real sum-minus h in
        let r = root-real binary64 low w.low_real (low-minus h) in
        let a = le→units binary64 root (root_of binary64 low) root_is-real r k in
        let b = lt→units binary64 (root_of binary64 low) bound r w.bound_real w.root_low in
        is_true (lt root bound) (units→lt binary64 root bound root_is-real w.bound_real (joined (pl binary64 root) (mi binary64 root) (pl binary64 bound) (mi binary64 bound) (pl binary64 (root_of binary64 low)) (mi binary64 (root_of binary64 low)) a b))
      where
        low-minus : T (le sum low) → mi binary64 low ≡ 0
        low-minus h = let p = (le→parts binary64 sum low sum-real w.low_real h).1 in let z = sum-minus in omega arith

        joined : (p n q m a b : ℕ) → p + b ≤ a + n → a + m < q + b → p + m < q + n
        joined p n q m a b h l = omega arith

  -- at least `high`: not under the bound
  pub root-above : T (le high sum) → lt root bound ≡ false
  root-above h = go (finite sum) (λ t. above t h) (λ n. endless sum high bound n w.high_real.finite w.bound_real.finite h)
    where
      go : (b : Bool) → (T b → lt root bound ≡ false) → (T (not b) → lt root bound ≡ false) → lt root bound ≡ false
      go true f g = f tt
      go false f g = g tt

  -- at most `low`: under it
  pub root_below : T (le sum low) → lt root bound ≡ true
  root_below h = below (fin-of_le sum low (add-nn binary64 (mul binary64 x x) (mul binary64 y y) (square-nn x) (square-nn y)) w.low_real.finite h) h
