-- A call whose first rows another call has checked: where that refused, so does this, and where it answered, the rows after them decide. By induction on the list, a row at a time.
use Prim.Native.Nat.{ℕ}
use native.Mathlib.Omega.{arith}
use mathlib.Core.Path.{◌≡◌, refl}
use mathlib.Core.Bool.{Bool, true, false, cond}
use mathlib.Core.List.{List, [], ◌∷◌, ◌++◌}
use Rattle.refusals.specs.Answer.{Answer, value, refused, Row, checked}
use Rattle.refusals.specs.Refusal.{number_of}

module _ {A B : Type 0} where
  refused-one : (p : Bool) (m n : ℕ) (a : Answer A) (b : Answer B)
      → (◌≡◌ {A = Answer A} (refused n) a → ◌≡◌ {A = Answer B} (refused n) b)
      → ◌≡◌ {A = Answer A} (refused n) (cond p a (refused m))
      → ◌≡◌ {A = Answer B} (refused n) (cond p b (refused m))
  refused-one true m n a b f e = f e
  refused-one false m n a b f e = cc

  -- a refusal by the first rows is that of all of them
  pub first-refused : (rs ss : List Row) (x : A) (b : Answer B) {n : ℕ} → ◌≡◌ {A = Answer A} (refused n) (checked rs (value x)) → ◌≡◌ {A = Answer B} (refused n) (checked (rs ++ ss) b)
  first-refused [] ss x b {n} e = let z : ◌≡◌ {A = ℕ} 0 1 = cc in absurd (omega arith)
  first-refused (r ∷ rs) ss x b {n} e = refused-one r.passes (number_of r.refusal) n (checked rs (value x)) (checked (rs ++ ss) b) (first-refused rs ss x b) e

  -- where no rows come after them, too
  pub rows-refused : (rs : List Row) (x : A) (b : Answer B) {n : ℕ} → ◌≡◌ {A = Answer A} (refused n) (checked rs (value x)) → ◌≡◌ {A = Answer B} (refused n) (checked rs b)
  rows-refused [] x b {n} e = let z : ◌≡◌ {A = ℕ} 0 1 = cc in absurd (omega arith)
  rows-refused (r ∷ rs) x b {n} e = refused-one r.passes (number_of r.refusal) n (checked rs (value x)) (checked rs b) (rows-refused rs x b) e

module _ {A : Type 0} where
  passed-one : (p : Bool) (m : ℕ) (y : A) (a : Answer A) {P : Type 0} → (value y ≡ a → P) → value y ≡ cond p a (refused m) → (p ≡ true) × P
  passed-one true m y a f e = (refl, f e)
  passed-one false m y a f e = let z : ◌≡◌ {A = ℕ} 0 1 = cc in absurd (omega arith)

-- where the first rows let the value through, it is the answer, and the other rows are left
pub first-passed : {A B : Type 0} (rs ss : List Row) (x : A) (b : Answer B) {y : A} → value y ≡ checked rs (value x) → (y ≡ x) × (checked (rs ++ ss) b ≡ checked ss b)
first-passed [] ss x b {y} e = (cc, refl)
first-passed (r ∷ rs) ss x b {y} e =
    let p = passed-one r.passes (number_of r.refusal) y (checked rs (value x)) (first-passed rs ss x b) e in
    (p.1.0, rw p.0 p.1.1)

-- where no rows come after them, the answer is what is left
pub rows-passed : {A B : Type 0} (rs : List Row) (x : A) (b : Answer B) {y : A} → value y ≡ checked rs (value x) → (y ≡ x) × (checked rs b ≡ b)
rows-passed [] x b {y} e = (cc, refl)
rows-passed (r ∷ rs) x b {y} e =
    let p = passed-one r.passes (number_of r.refusal) y (checked rs (value x)) (rows-passed rs x b) e in
    (p.1.0, rw p.0 p.1.1)
