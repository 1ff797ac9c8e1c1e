-- By the digits, and by the byte after them. The digits stand in the text, so the place after them fits.
use mathlib.Core.Path.{sym, ◌∙◌}
use native.Mathlib.Omega.{arith}
use borrow.Author.Rules.{rules}
use Rattle.reader_hex.proofs.HexDigits.{digits-inside, word-none, word-outside, word-closed}
use Rattle.reader_hex.proofs.digits.sixteen_before.Goals as goal

pub returns-in_err-number : goal.returns-in_err-number
returns-in_err-number c =
    let a = c.args in
    c.from_residual.ensures ∙ word-none a.text.now a.at a.stop (sym c.sixteen_at.ensures ∙ c.in_err-number.was)

pub overflow_add-at : goal.overflow_add-at
overflow_add-at c =
    let a = c.args in
    let h = digits-inside a.text.now a.at 16 (omega arith) (sym c.sixteen_at.ensures ∙ c.in_ok-number.was) in
    search (rules, h)

pub returns-in_err-after : goal.returns-in_err-after
returns-in_err-after c =
    let a = c.args in
    let h = c.in_err-after.ensures in
    c.from_residual-in_err-after.ensures ∙ word-outside a.text.now a.at a.stop (search rules)

pub returns : goal.returns
returns c =
    let a = c.args in
    let r = c.in_ok-after.ensures.lookup.3 in
    word-closed a.text.now a.at a.stop (sym c.sixteen_at.ensures ∙ c.in_ok-number.was) r.0 (r.1 0) c.then_some.ensures
