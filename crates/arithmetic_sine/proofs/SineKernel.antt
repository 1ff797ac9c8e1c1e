-- The two kernels as terms of the checker over the table: what the code computes, what the definition says, and the bounds on |r| ≤ 0.8 and |r| ≤ 0.76 that the checker computes.
use mathlib.Core.Path.{◌≡◌, subst}
use mathlib.Core.List.{List, [], ◌∷◌}
use Prim.Native.Nat.{ℕ}
use lib.Dec.{T, lit<}
use lib.ListN.{get_or}
use lib.Ieee.{Float, nan, binary64, le, neg, add, sub, mul, div, fits, of_bits}
use Rattle.float_laws.proofs.Value.{Real, neg-real}
use Rattle.float_laws.proofs.Interval.{In, least, most, sq-low}
use Rattle.float_laws.proofs.Size.{Within, in-of-within, within-of_le}
use Rattle.float_laws.proofs.Checker.{Ex, var, con, plus, times, square, bind, eval, good-real, bisect, bisected}
use Rattle.arithmetic_sine.specs.Sine.{horner, sine_kernel, cosine_kernel, one}
use Rattle.arithmetic_sine.proofs.QuotientTable.{table, entry}
use Rattle.arithmetic_sine.proofs.Reduction.{point-8}

abbrev coefficient : ℕ → Ex
coefficient i = con (get_or table i nan)

abbrev horner_term : Ex → List ℕ → Ex
horner_term c [] = c
horner_term c (i ∷ is) = horner_term (plus (times c (var 0)) (coefficient i)) is

-- z = r * r is variable 0, and r variable 1
unfoldable pub sine_term : Ex
sine_term = bind (square (var 0)) (plus (var 1) (times (var 1) (times (var 0) (horner_term (coefficient 13) (11 ∷ 9 ∷ 7 ∷ 5 ∷ 3 ∷ 1 ∷ [])))))

unfoldable pub cosine_term : Ex
cosine_term = bind (square (var 0)) (plus (con one) (times (var 0) (horner_term (coefficient 14) (12 ∷ 10 ∷ 8 ∷ 6 ∷ 4 ∷ 2 ∷ 0 ∷ []))))

pub sine_by-table : (r : Float) → eval binary64 (r ∷ []) sine_term ≡ sine_kernel r
unfolding eval sine_term sine_kernel horner
sine_by-table r = rw (entry 13 (lit< tt), entry 11 (lit< tt), entry 9 (lit< tt), entry 7 (lit< tt), entry 5 (lit< tt), entry 3 (lit< tt), entry 1 (lit< tt))

pub cosine_by-table : (r : Float) → eval binary64 (r ∷ []) cosine_term ≡ cosine_kernel r
unfolding eval cosine_term cosine_kernel horner
cosine_by-table r = rw (entry 14 (lit< tt), entry 12 (lit< tt), entry 10 (lit< tt), entry 8 (lit< tt), entry 6 (lit< tt), entry 4 (lit< tt), entry 2 (lit< tt), entry 0 (lit< tt))

-- ---- the bounds, computed
abbrev pub point-75 : Float
point-75 = of_bits binary64 0x3fe8_0000_0000_0000

abbrev pub point-68 : Float
point-68 = of_bits binary64 0x3fe5_c28f_5c28_f5c3

abbrev pub point-76 : Float
point-76 = of_bits binary64 0x3fe8_51eb_851e_b852

abbrev pub point-7 : Float
point-7 = of_bits binary64 0x3fe6_6666_6666_6666

sine-passes : T (bisect binary64 8 (neg point-8) point-8 [] sine_term (neg point-75) point-75)
unfolding bisect sine_term of_bits add sub mul div le neg fits least most sq-low
sine-passes = tt

cosine-passes : T (bisect binary64 8 (neg point-8) point-8 [] cosine_term point-68 one)
unfolding bisect cosine_term of_bits add sub mul div le neg fits least most sq-low
cosine-passes = tt

sine-near : T (bisect binary64 8 (neg point-76) point-76 [] sine_term (neg point-7) point-7)
unfolding bisect sine_term of_bits add sub mul div le neg fits least most sq-low
sine-near = tt

cosine-near : T (bisect binary64 8 (neg point-76) point-76 [] cosine_term point-7 one)
unfolding bisect cosine_term of_bits add sub mul div le neg fits least most sq-low
cosine-near = tt

-- ---- as laws of the definitions
module _ (A : Float) (r : Float) (w : Within binary64 r A) where
  sine_by_lem : (B : Float) → Real binary64 B → T (bisect binary64 8 (neg A) A [] sine_term (neg B) B) → Within binary64 (sine_kernel r) B
  sine_by_lem B b t =
      let i = bisected binary64 8 (neg A) A [] sine_term (neg B) B r [] (neg-real binary64 B b) b t (in-of-within binary64 r A w) tt in
      subst (λ (x : Float). Within binary64 x B) (sine_by-table r) (within-of_le binary64 (eval binary64 (r ∷ []) sine_term) B i.value b i.above i.below)

  cosine_by_lem : (lo : Float) → Real binary64 lo → Real binary64 one → T (bisect binary64 8 (neg A) A [] cosine_term lo one) → In binary64 lo one (cosine_kernel r)
  cosine_by_lem lo l o t =
      subst (λ (x : Float). In binary64 lo one x) (cosine_by-table r) (bisected binary64 8 (neg A) A [] cosine_term lo one r [] l o t (in-of-within binary64 r A w) tt)

one-real : Real binary64 one
unfolding of_bits fits
one-real = good-real binary64 one tt

-- |r| ≤ 0.8: |S| ≤ 0.75 and 0.68 ≤ C ≤ 1
pub sine-size : (r : Float) → Within binary64 r point-8 → Within binary64 (sine_kernel r) point-75
unfolding of_bits fits
sine-size r w = sine_by_lem point-8 r w point-75 (good-real binary64 point-75 tt) sine-passes

pub cosine-size : (r : Float) → Within binary64 r point-8 → In binary64 point-68 one (cosine_kernel r)
unfolding of_bits fits
cosine-size r w = cosine_by_lem point-8 r w point-68 (good-real binary64 point-68 tt) one-real cosine-passes

-- |r| ≤ 0.76: |S| ≤ 0.7 and 0.7 ≤ C ≤ 1
pub sine-size-near : (r : Float) → Within binary64 r point-76 → Within binary64 (sine_kernel r) point-7
unfolding of_bits fits
sine-size-near r w = sine_by_lem point-76 r w point-7 (good-real binary64 point-7 tt) sine-near

pub cosine-size-near : (r : Float) → Within binary64 r point-76 → In binary64 point-7 one (cosine_kernel r)
unfolding of_bits fits
cosine-size-near r w = cosine_by_lem point-76 r w point-7 (good-real binary64 point-7 tt) one-real cosine-near
