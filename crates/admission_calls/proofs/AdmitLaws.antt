-- What `admit` answered, in the words of `admit_call`: its refusal, or that the road is admitted.
use Prim.Native.Nat.{ℕ}
use mathlib.Core.Path.{◌≡◌, ◌∙◌, ap, sym}
use mathlib.Core.List.{List, []}
use lib.Ieee.{Float}
use Rattle.refusals.specs.Answer.{Answer, value, refused, checked}
use Rattle.admission.specs.Admission.{road_rows, admit_call}
use Rattle.admission_calls.proofs.RowLaws.{first-refused, first-passed}

module _ (words : List ℕ) (numbers : List Float) {A : Type 0} (road : A) where
  pub admit-refused : {n : ℕ} → ◌≡◌ {A = Answer A} (refused n) (checked (road_rows words numbers) (value road)) → refused n ≡ admit_call words numbers
  unfolding admit_call
  admit-refused e = first-refused (road_rows words numbers) [] road (value tt) e

  pub admit-admitted : {x : A} → value x ≡ checked (road_rows words numbers) (value road) → value tt ≡ admit_call words numbers
  unfolding admit_call
  admit-admitted e = sym (first-passed (road_rows words numbers) [] road (value tt) e).1

  -- so what is read of an answer but for its value is the same of both, as the number that a caller is given
  pub admit-alike : {X : Type 0} (f : Answer A → X) (g : Answer (Unit {0}) → X) → ((x : A) → f (value x) ≡ g (value tt)) → ((n : ℕ) → f (refused n) ≡ g (refused n)) → (a : Answer A) → a ≡ checked (road_rows words numbers) (value road) → f a ≡ g (admit_call words numbers)
  admit-alike f g values refusals (value x) e = values x ∙ ap g (admit-admitted e)
  admit-alike f g values refusals (refused n) e = refusals n ∙ ap g (admit-refused e)
