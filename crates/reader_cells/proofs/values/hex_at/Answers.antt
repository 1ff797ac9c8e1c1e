-- By the number of the digits, which stand in the text, so that the place after them fits.
use mathlib.Core.Path.{sym, ◌∙◌}
use native.Mathlib.Omega.{arith}
use borrow.Author.Rules.{rules}
use Rattle.reader_hex.proofs.HexDigits.{digits-inside}
use Rattle.reader_cells.proofs.Digits.{hex-broken, hex-read}
use Rattle.reader_cells.proofs.values.hex_at.Goals as goal

pub returns-in_err-value : goal.returns-in_err-value
returns-in_err-value c = c.from_residual.ensures ∙ hex-broken c.args.text.now c.args.at (sym c.sixteen_at.ensures ∙ c.in_err-value.was)

pub overflow_add-result : goal.overflow_add-result
overflow_add-result c =
    let h = digits-inside c.args.text.now c.args.at 16 (omega arith) (sym c.sixteen_at.ensures ∙ c.in_ok-value.was) in
    search (rules, h)

pub returns : goal.returns
returns c = hex-read c.args.text.now c.args.at (sym c.sixteen_at.ensures ∙ c.in_ok-value.was)
