-- The table's entries are the definition's cases, quarter by quarter.
use Prim.Native.Nat.{ℕ, zero, suc, ◌+◌, ◌%◌, ◌<◌}
use native.Mathlib.Omega.{arith}
use mathlib.Core.Path.{◌≡◌, refl}
use mathlib.Core.List.{[], ◌∷◌}
use lib.ListN.{get_or}
use lib.Ieee.{Float, nan, neg}
use Rattle.arithmetic_sine.specs.Sine.{sine_by, cosine_by, sin_cos_by}
use Rattle.arithmetic_sine.proofs.sine.by_quarter.Goals as goal

entry : ℕ → Float → Float → Float
entry k s c = get_or (s ∷ c ∷ neg s ∷ neg c ∷ []) k nan

turned : (k : ℕ) (s c : Float) → k < 4 → record { sin = entry k s c; cos = entry ((k + 1) % 4) s c } ≡ sin_cos_by k s c
unfolding sine_by cosine_by entry
turned zero s c h = refl
turned (suc zero) s c h = refl
turned (suc (suc zero)) s c h = refl
turned (suc (suc (suc zero))) s c h = refl
turned (suc (suc (suc (suc k)))) s c h = absurd (omega arith)

pub returns : goal.returns
unfolding entry
returns c = turned c.args.quarter c.args.s c.args.c c.requires
