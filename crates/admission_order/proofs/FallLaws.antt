-- What `is_sorted` asks of two numbers: `<=`, by `partial_cmp`, so a NaN fails it.
use mathlib.Core.Path.{◌≡◌, refl}
use mathlib.Core.Bool.{Bool, true, false, cond}
use Rattle.std.specs.Prelude.{T}
use mathlib.Core.Logic.{◌⊎◌, ⊎_elim}
use lib.Ieee.{Float, lt, eq, le}
use Rattle.std.specs.declared.cmp.Ordering.TheVariants.{Less, Equal, Greater}
use Rattle.std.specs.declared.option.Option.TheVariants.{None, Some}
use Rattle.std.specs.Ordering.{partial_le, float_partial_cmp, is_some_and, is_le}
use Rattle.std.proofs.lemmas.Float.{lt-or-eq, le_of_lt, le_of_eq}

by : (a b c d : Bool) → (T a → T d) → (T b → T d) → (T d → T a ⊎ T b) → is_some_and is_le (cond a (Some Less) (cond b (Some Equal) (cond c (Some Greater) None))) ≡ d
by true b c true f g h = refl
by true b c false f g h = absurd (f tt)
by false true c true f g h = refl
by false true c false f g h = absurd (g tt)
by false false true true f g h = absurd (⊎_elim (λ x. x) (λ x. x) (h tt))
by false false false true f g h = absurd (⊎_elim (λ x. x) (λ x. x) (h tt))
by false false true false f g h = refl
by false false false false f g h = refl

pub falls_not : (x y : Float) → partial_le float_partial_cmp x y ≡ le x y
falls_not x y = by (lt x y) (eq x y) (lt y x) (le x y) (le_of_lt x y) (le_of_eq x y) (lt-or-eq x y)
