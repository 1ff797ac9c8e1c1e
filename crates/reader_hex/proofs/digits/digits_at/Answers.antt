use native.Mathlib.Nat.{le_antisymm}
use native.Mathlib.Omega.{arith}
use borrow.Author.Rules.{rules}
use mathlib.Core.Path.{◌∙◌}
use Rattle.reader_hex.proofs.HexDigits.{part-digit, more-fits, more-below, digits-none, value_none, digits_more, value-more, digits-broken, digits-short, digits-all}
use Rattle.reader_hex.proofs.digits.digits_at.Goals as goal

pub returns-in_err-get : goal.returns-in_err-get
returns-in_err-get g c = c.from_residual.ensures ∙ digits-short c.args.text.now c.args.at g.row.N c.requires.0 (omega (arith, c.in_err-get.ensures.lookup, c.requires.0))

pub returns-in_err-first_chunk : goal.returns-in_err-first_chunk
returns-in_err-first_chunk g c = c.from_residual-in_err-first_chunk.ensures ∙ digits-short c.args.text.now c.args.at g.row.N c.requires.0 (omega (arith, c.in_ok-get.ensures.lookup, c.in_err-first_chunk.ensures.cases))

pub loop-value-init : goal.loop-value-init
loop-value-init g c = (search rules, digits-none _ _, value_none _ _)

pub returns-then-value-ge-NO_DIGIT : goal.returns-then-value-ge-NO_DIGIT
returns-then-value-ge-NO_DIGIT g c =
    let here = c.loop-value in
    let f = part-digit c.args.text.now c.args.at g.row.N here.value-index (c.in_ok-get.ensures.lookup.0.2, c.in_ok-get.ensures.lookup.0.3) c.in_ok-first_chunk.ensures.cases c.loop-value-test.true (c.values_of-values.ensures here.value-index c.loop-value-test.true) in
    digits-broken c.args.text.now c.args.at here.value-index g.row.N f c.loop-value-test.true c.if-value-ge-NO_DIGIT.true

pub overflow_mul-number : goal.overflow_mul-number
overflow_mul-number g c =
    let here = c.loop-value in
    record { fits = omega (arith, more-fits here.value-index here.number 0 (omega arith) here.invariant.0 (omega arith)) }

pub overflow_add-number : goal.overflow_add-number
overflow_add-number g c =
    let here = c.loop-value in
    record { fits = more-fits here.value-index here.number _ (omega arith) here.invariant.0 c.if-value-ge-NO_DIGIT.false }

pub loop-value-preserved : goal.loop-value-preserved
loop-value-preserved g c =
    let here = c.loop-value in
    let f = part-digit c.args.text.now c.args.at g.row.N here.value-index (c.in_ok-get.ensures.lookup.0.2, c.in_ok-get.ensures.lookup.0.3) c.in_ok-first_chunk.ensures.cases c.loop-value-test.true (c.values_of-values.ensures here.value-index c.loop-value-test.true) in (
      more-below here.value-index here.number _ here.invariant.0 c.if-value-ge-NO_DIGIT.false,
      digits_more c.args.text.now c.args.at here.value-index f here.invariant.1 c.if-value-ge-NO_DIGIT.false,
      value-more c.args.text.now c.args.at here.value-index f here.invariant.2,
    )

pub returns : goal.returns
returns g c =
    let here = c.loop-value in
    let e = le_antisymm here.auto.value-index-end c.loop-value-test.false in
    digits-all c.args.text.now c.args.at g.row.N (rw e at here.invariant.1) (rw e at here.invariant.2)
