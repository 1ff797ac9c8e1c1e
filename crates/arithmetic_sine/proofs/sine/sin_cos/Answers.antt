-- Outside the range both definitions are NaN.
use mathlib.Core.Path.{◌≡◌, sym, ◌∙◌}
use mathlib.Core.Bool.{false}
use lib.Ieee.{Float, nan, of_bits}
use Rattle.arithmetic_sine.specs.Sine.{in_sine_range, sine_of, cosine_of, sin_cos_of}
use Rattle.arithmetic_sine.proofs.sine.sin_cos.Goals as goal

outside : (h : Float) → in_sine_range h ≡ false → record { sin = nan; cos = nan } ≡ sin_cos_of h
unfolding sine_of cosine_of
outside h e = rw e

pub returns : goal.returns
unfolding of_bits in_sine_range
returns c = outside c.args.h (sym c.in_range.ensures ∙ c.if-in_range.false)
