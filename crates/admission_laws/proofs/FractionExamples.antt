-- The words of specs/Fractions on numbers whose values everyone knows, by computation: with the numbers below 0 read as 0, say, most statements would still hold.
use Prim.Native.Nat.{◌*◌}
use native.Mathlib.Omega.{arith}
use mathlib.Core.Path.{◌≡◌, refl}
use mathlib.Core.Logic.{inl, inr, ⊎_elim}
use lib.Ieee.{Float, of_bits, le}
use lib.Ieee.Positive.{den}
use Rattle.float_laws.specs.Binary64.{f64}
use Rattle.admission_laws.specs.Fractions.{AtMost, AtMostPart, positive_part, negative_part, NotOver, Under, Between}

abbrev minus_one : Float
minus_one = f64 0xbff0_0000_0000_0000

abbrev two : Float
two = f64 0x4000_0000_0000_0000

-- -3/4
abbrev minus_three_quarters : Float
minus_three_quarters = f64 0xbfe8_0000_0000_0000

parts : (positive_part minus_three_quarters ≡ 0) × (negative_part minus_three_quarters * 4 ≡ 3 * den minus_three_quarters)
unfolding of_bits
parts = (refl, refl)

-- its size is 3/4, and not 2/3
three_quarters : AtMostPart 3 4 minus_three_quarters × (AtMostPart 2 3 minus_three_quarters → ⊥)
unfolding of_bits
three_quarters = (record { number = tt; size = omega arith }, λ h. let k = h.size in omega (arith, k))

-- 2 is at most 2, and not at most 1
two_at-most : AtMost 2 two × (AtMost 1 two → ⊥)
unfolding of_bits
two_at-most = (record { number = tt; size = omega arith }, λ h. let k = h.size in omega (arith, k))

-- 2 is over -1, -1 is under 2 and not under itself
over : NotOver two minus_one → ⊥
unfolding of_bits
over h = omega (arith, h)

under : Under minus_one two × (Under minus_one minus_one → ⊥)
unfolding of_bits
under = (omega arith, λ h. omega (arith, h))

-- -3/4 is between -1 and 2, and between 2 and -1; -1 is not between -3/4 and 2, nor 2 between -1 and -3/4
between : Between minus_one two minus_three_quarters × Between two minus_one minus_three_quarters × Between minus_one two minus_one × Between minus_one two two
unfolding of_bits le
between = (inl (tt, tt), inr (tt, tt), inl (tt, tt), inl (tt, tt))

beside : (Between minus_three_quarters two minus_one → ⊥) × (Between minus_one minus_three_quarters two → ⊥) × (Between two minus_three_quarters minus_one → ⊥) × (Between minus_three_quarters minus_one two → ⊥)
unfolding of_bits le
beside = (λ h. ⊎_elim (λ p. p.0) (λ p. p.0) h, λ h. ⊎_elim (λ p. p.1) (λ p. p.1) h, λ h. ⊎_elim (λ p. p.0) (λ p. p.0) h, λ h. ⊎_elim (λ p. p.1) (λ p. p.1) h)
