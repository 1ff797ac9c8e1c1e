-- The turn of an angle in the range is small enough for the floor; the rest is what the calls ensure, put together.
use Prim.Native.Nat.{ℕ}
use mathlib.Core.Path.{◌≡◌}
use mathlib.Core.Bool.{true}
use lib.Dec.{T}
use lib.Ieee.{Float, fits, binary64}
use Rattle.arithmetic_sine.specs.Floor.{quarter_of}
use Rattle.arithmetic_sine.specs.Sine.{turn, turns, rest, in_sine_range, sine_kernel, cosine_kernel, sine_of, cosine_of, sin_cos_by, sin_cos_of}
use Rattle.arithmetic_sine.specs.declared.sine.SinCos.{SinCos}
use Rattle.arithmetic_sine.proofs.Reduction.{in_reach, range-within, turn-whole}
use borrow.Author.Rules.{rules}
use Rattle.arithmetic_sine.proofs.sine.reduced.Goals as goal

pair_is : (h n s c : Float) (r : SinCos) (k : ℕ) → in_sine_range h ≡ true → n ≡ turns h → k ≡ quarter_of (turns h) → s ≡ sine_kernel (rest h n) → c ≡ cosine_kernel (rest h n)
    → r ≡ sin_cos_by k s c → r ≡ sin_cos_of h
unfolding sine_of cosine_of
pair_is h n s c r k e en ek es ec p = rw (p, es, ec, ek, en, e)

pub below-turns-requires : goal.below-turns-requires
unfolding turn
below-turns-requires c = let h = c.args.h in let fit : T (fits binary64 h) = search rules in turn-whole h (in_reach h (range-within h fit c.requires))

pub returns : goal.returns
unfolding turn turns rest
returns c =
    let n = c.below-turns in
    pair_is c.args.h n.result.n c.sine_kernel.result c.cosine_kernel.result c.by_quarter.result n.result.quarter
    c.requires n.ensures.n_value.0 n.ensures.n_value.1 c.sine_kernel.ensures c.cosine_kernel.ensures c.by_quarter.ensures
