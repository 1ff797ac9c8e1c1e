-- An array made of what a call gives at each index, where the calls leave the closure as it was.
use Prim.Native.Nat.{ℕ, zero, suc, ◌+◌, ◌<◌}
use native.Mathlib.Omega.{arith}
use mathlib.Core.Path.{◌≡◌, subst, ◌∙◌}
use mathlib.Core.List.{List}
use lib.ListN.{get_or}
use denote.Param.Members.{Mut, Called}
use Rattle.std.specs.Array.{IsFromFnResultFrom}

module _ {F B : Type 0} {g : Mut F (ℕ × Unit {0}) B} (h : ℕ → B) (f : F) (step : (i : ℕ) (y : B) (q : F) → Called g f (i, tt) y q → (q ≡ f) × (y ≡ h i)) where
  pub made_by : (ys : List B) (d : B) (i n : ℕ) → IsFromFnResultFrom g f ys i n → (k j : ℕ) → i + k ≡ j → k < n → get_or ys j d ≡ h j
  made_by ys d i zero m k j e l = absurd (omega arith)
  made_by ys d i (suc n) m zero j e l =
      let q : i ≡ j = omega (arith, e) in
      subst (λ (x : ℕ). get_or ys x d ≡ h x) q (m.2.1 d ∙ (step i m.1 m.0 m.3).1)
  made_by ys d i (suc n) m (suc k) j e l =
      made_by ys d (i + 1) n (subst (λ (x : F). IsFromFnResultFrom g x ys (i + 1) n) (step i m.1 m.0 m.3).0 m.4) k j (omega (arith, e)) (omega arith)
