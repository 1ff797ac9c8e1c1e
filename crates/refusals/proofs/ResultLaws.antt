-- A refusal handed on by a `?`.
use mathlib.Core.Path.{◌≡◌, ap}
use Rattle.std.specs.Result.{IsErrAnd}
use Rattle.std.specs.declared.result.Result.{Result}
use Rattle.std.specs.declared.result.Result.TheVariants.{Ok, Err}
use Rattle.refusals.specs.Answer.{refused, answered}
use Rattle.refusals.specs.Refusal.{number_of}
use Rattle.refusals.specs.declared.refusals.Refusal.{Refusal}

-- what a `?` hands on of a refusal
pub told : {A : Type 0} (r : Result A Refusal) (e : Refusal) → IsErrAnd r (λ x. x ≡ e) → answered r ≡ refused (number_of e)
told (Ok a) e h = absurd h
told (Err x) e h = ap (λ (y : Refusal). refused (number_of y)) h
