-- An ordered list of rows: what its first rows decide, and when all pass. By induction on the list, a row at a time.
use Prim.Native.Nat.{ℕ}
use native.Mathlib.Omega.{arith}
use mathlib.Core.Path.{◌≡◌, refl}
use mathlib.Core.Bool.{Bool, true, false, cond, ◌&&◌}
use mathlib.Core.List.{List, [], ◌∷◌, ◌++◌}
use Rattle.refusals.specs.Answer.{Answer, value, refused, Row, checked}
use Rattle.refusals.specs.Refusal.{number_of}
use Rattle.admission.specs.Admission.{pass}

module _ {A : Type 0} where
  no_value : (n : ℕ) (x : A) → ◌≡◌ {A = Answer A} (refused n) (value x) → ⊥
  no_value n x e = let z : ◌≡◌ {A = ℕ} 0 1 = cc in omega arith

  one-pass : (p : Bool) (m : ℕ) (a : Answer A) (x : A) (rest : Bool) → (a ≡ value x → rest ≡ true) → cond p a (refused m) ≡ value x → p && rest ≡ true
  one-pass true m a x rest f e = f e
  one-pass false m a x rest f e = absurd (no_value m x e)

  pass-one : (p : Bool) (m : ℕ) (a b : Answer A) (rest : Bool) → (rest ≡ true → a ≡ b) → p && rest ≡ true → cond p a (refused m) ≡ b
  pass-one true m a b rest f e = f e
  pass-one false m a b rest f e = let z : ◌≡◌ {A = ℕ} 0 1 = cc in absurd (omega arith)

  -- rows that all pass leave the answer as it is
  pub pass-checked : (rs : List Row) (a : Answer A) → pass rs ≡ true → checked rs a ≡ a
  pass-checked [] a e = refl
  pass-checked (r ∷ rs) a e = pass-one r.passes (number_of r.refusal) (checked rs a) a (pass rs) (pass-checked rs a) e

  -- and where a value comes out, all passed
  pub checked-pass : (rs : List Row) (a : Answer A) (x : A) → checked rs a ≡ value x → pass rs ≡ true
  checked-pass [] a x e = refl
  checked-pass (r ∷ rs) a x e = one-pass r.passes (number_of r.refusal) (checked rs a) x (pass rs) (checked-pass rs a x) e

  -- the first rows of those that let a value through
  pub checked-first : (rs ss : List Row) (a : Answer A) (x : A) → checked (rs ++ ss) a ≡ value x → pass rs ≡ true
  checked-first [] ss a x e = refl
  checked-first (r ∷ rs) ss a x e = one-pass r.passes (number_of r.refusal) (checked (rs ++ ss) a) x (pass rs) (checked-first rs ss a x) e

-- rows that pass leave it to the others
pub pass-more : {B : Type 0} (rs ss : List Row) (b : Answer B) → pass rs ≡ true → checked (rs ++ ss) b ≡ checked ss b
pass-more [] ss b e = refl
pass-more (r ∷ rs) ss b e = pass-one r.passes (number_of r.refusal) (checked (rs ++ ss) b) (checked ss b) (pass rs) (pass-more rs ss b) e
