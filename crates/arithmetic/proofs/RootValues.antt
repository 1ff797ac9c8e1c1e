-- The root of a value above 0, at any format, is that of its smallest values; and a root is a value of the format.
use mathlib.Core.Path.{◌≡◌, ap, ◌∙◌}
use mathlib.Core.Bool.{true, false}
use Prim.Native.Nat.{ℕ, zero, suc, ◌*◌, ◌/◌, ◌^◌}
use native.Mathlib.Nat.{mul-div_cancel}
use lib.Dec.{T}
use lib.Ieee.{Float, nan, inf, fin, Format, low, down, fits}
use lib.Ieee.Fits.{down_pos, round-fits, nan-fits, inf-fits}
use lib.Ieee.Exact.{HasValue}
use lib.Ieee.Positive.{positive}
use Rattle.arithmetic.specs.Root.{root_units, root_of}

pub root_of-value : (f : Format) (x : Float) (a : ℕ) → T (positive x) → HasValue x false a (2 ^ low f) → root_of f x ≡ root_units f a
unfolding root_of
root_of-value f nan a p h = absurd p
root_of-value f (inf s) a p h = absurd p
root_of-value f (fin true m e) a p h = absurd p
root_of-value f (fin false zero e) a p h = absurd p
root_of-value f (fin false (suc m) e) a p h = ap (root_units f) (ap (λ (z : ℕ). z / down e) h.1 ∙ mul-div_cancel a (down_pos e))

-- ---- a root is a value of the format

pub root-fits : (f : Format) (x : Float) → T (fits f x) → T (fits f (root_of f x))
unfolding root_of root_units
root-fits f nan t = nan-fits f
root-fits f (inf true) t = nan-fits f
root-fits f (inf false) t = inf-fits f false
root-fits f (fin s zero e) t = t
root-fits f (fin true (suc m) e) t = nan-fits f
root-fits f (fin false (suc m) e) t = round-fits f false _ (2 * 2 ^ low f)
