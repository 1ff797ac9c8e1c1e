-- `below` meets its contract: one law of FloorCases for zero, and one for all else.
use Prim.Native.Nat.{◌%◌}
use mathlib.Core.Path.{◌∙◌, ap, sym, subst}
use mathlib.Core.Bool.{not}
use lib.Dec.{T}
use lib.Ieee.{Float, binary64, fits, is_nan, of_bits, to_bits, add, sub}
use Rattle.float_laws.proofs.Whole.{magic}
use Rattle.arithmetic_sine.proofs.FloorLaws.{nearby}
use Rattle.arithmetic_sine.proofs.FloorCases.{below-zero, over_is, less-no_nan, below_other}
use borrow.Author.Rules.{rules}
use Rattle.arithmetic_sine.proofs.floors.below.Goals as goal

pub returns-then-x-clause-n_value : goal.returns-then-x-clause-n_value
unfolding of_bits
returns-then-x-clause-n_value c = let fit : T (fits binary64 c.args.x) = search rules in below-zero c.args.x fit c.requires.0 c.requires.1 c.if-x.true

pub float_to_bits-result : goal.float_to_bits-result
unfolding of_bits
float_to_bits-result c =
    let fit : T (fits binary64 c.args.x) = search rules in
    subst (λ (e : Float). T (not (is_nan (sub binary64 (add binary64 c.args.x magic) e)))) (sym (c.from-over.ensures ∙ over_is _)) (less-no_nan c.args.x fit c.requires.0 c.requires.1)

pub returns-clause-n_value : goal.returns-clause-n_value
unfolding of_bits
returns-clause-n_value c =
    let fit : T (fits binary64 c.args.x) = search rules in
    let p = below_other c.args.x fit c.requires.0 c.requires.1 c.if-x.false in
    let e = c.from-over.ensures ∙ over_is _ in
    (ap (λ (o : Float). sub binary64 (nearby binary64 c.args.x magic) o) e ∙ p.0, ap (λ (o : Float). to_bits binary64 (sub binary64 (add binary64 c.args.x magic) o) % 4) e ∙ p.1)
