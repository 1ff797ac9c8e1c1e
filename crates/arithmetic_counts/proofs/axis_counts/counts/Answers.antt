-- `counts` meets its contract: the test is that of the definition, and in the range the product stays within 800,000.
use mathlib.Core.Path.{sym, ap, ◌∙◌}
use lib.Dec.{T}
use lib.Ieee.{binary64, fits}
use mir.Syntax.{w64}
use mir.ValLaws.{to_z-of_z}
use borrow.Author.Rules.{rules}
use Rattle.refusals.specs.Answer.{value}
use Rattle.arithmetic_counts.proofs.CountLaws.{product-in, count-in, count-out}
use Rattle.arithmetic_counts.proofs.axis_counts.counts.Goals as goal

pub nearest_whole-requires : goal.nearest_whole-requires
nearest_whole-requires c =
    let fit : T (fits binary64 c.args.v) = search rules in
    product-in c.args.v fit (sym c.in_range.ensures ∙ c.if-in_range.true)

pub returns-then-in_range : goal.returns-then-in_range
returns-then-in_range c =
    let n = c.nearest_whole in
    ap value (to_z-of_z w64 n.result (record { sfits = n.type_inv }) ∙ n.ensures) ∙ sym (count-in c.args.v (sym c.in_range.ensures ∙ c.if-in_range.true))

pub returns : goal.returns
returns c = sym (count-out c.args.v (sym c.in_range.ensures ∙ c.if-in_range.false))
