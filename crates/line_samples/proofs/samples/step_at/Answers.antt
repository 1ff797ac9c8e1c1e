-- The library's `min` may answer either of two that compare equal, as 0 and -0. What compares equal to 0.25 is 0.25.
use Prim.Native.Nat.{ℕ, ◌<◌}
use native.Mathlib.Omega.{arith}
use mathlib.Core.Path.{◌≡◌, refl, sym, ap, ◌∙◌, subst}
use mathlib.Core.Logic.{inl, inr}
use mathlib.Core.Bool.{Bool, true, false, cond, ◌||◌}
use lib.Dec.{T}
use lib.Ieee.{Float, nan, inf, fin, eq, lt, le, is_nan, fits, binary64, of_bits}
use Rattle.std.proofs.Common.{rules}
use Rattle.std.proofs.lemmas.Float.{le_of_eq, eq_flip}
use Rattle.std.specs.Float.{float_min, IsFloatMin}
use Rattle.float_laws.proofs.Value.{mag, pl, Real, mag_is, sign-plus}
use Rattle.float_laws.proofs.Order.{le_antisym}
use Rattle.float_laws.proofs.Same.{same-value}
use Rattle.line_samples.specs.Samples.{whole_step}
use Rattle.line_samples.proofs.samples.step_at.Goals as goal

step-real : Real binary64 whole_step
unfolding of_bits fits
step-real = record { finite = tt; fits = tt }

-- what compares equal to a step is finite
equal-real : (x : Float) → T (fits binary64 x) → T (eq x whole_step) → Real binary64 x
unfolding eq of_bits
equal-real nan t e = absurd e
equal-real (inf s) t e = absurd e
equal-real (fin s m k) t e = record { finite = tt; fits = t }

step-plus : 0 < pl binary64 whole_step
unfolding pl mag of_bits
step-plus = omega arith

step-same : (x : Float) → T (fits binary64 x) → T (eq x whole_step) → x ≡ whole_step
step-same x t e =
    let r = equal-real x t e in
    let p = le_antisym binary64 x whole_step r step-real (le_of_eq x whole_step e) (le_of_eq whole_step x (eq_flip x whole_step e)) in
    let a = sign-plus binary64 x (subst (λ (n : ℕ). 0 < n) (sym p.0) step-plus) in
    same-value binary64 x whole_step r step-real (a ∙ sym (sign-plus binary64 whole_step step-plus)) (let m = mag_is binary64 x in let n = mag_is binary64 whole_step in omega arith)

-- either of two that are one
pick : (b : Bool) (x : Float) → cond b x x ≡ x
pick true x = refl
pick false x = refl

same-least : (y r : Float) → IsFloatMin y y r → r ≡ cond (lt y y) y y
same-least y r (inl h) = h ∙ pick _ y ∙ sym (pick _ y)
same-least y r (inr h) = h ∙ pick _ y ∙ sym (pick _ y)

or-none : (a b : Bool) → b ≡ false → (a || b) || false ≡ a
or-none true b e = refl
or-none false b e = rw e refl

least : (x r : Float) → T (fits binary64 x) → IsFloatMin x whole_step r → (eq x whole_step ≡ false → r ≡ float_min x whole_step) → r ≡ cond (lt x whole_step) x whole_step
unfolding le is_nan of_bits
least x r t either unequal = go (eq x whole_step) refl
  where
    go : (b : Bool) → eq x whole_step ≡ b → r ≡ cond (lt x whole_step) x whole_step
    go true e = subst (λ (y : Float). IsFloatMin y whole_step r → r ≡ cond (lt y whole_step) y whole_step) (sym (step-same x t (subst T (sym e) tt))) (same-least whole_step r) either
    go false e = unequal e ∙ ap (λ (b : Bool). cond b x whole_step) (or-none (lt x whole_step) (eq x whole_step) e)

pub returns : goal.returns
returns c = least _ _ (search rules) c.min.ensures.value c.min.ensures.unequal
