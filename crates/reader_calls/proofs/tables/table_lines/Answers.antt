use mathlib.Core.Path.{◌≡◌, ◌∙◌}
use native.Mathlib.Omega.{arith}
use Prim.Native.Nat.{◌<◌}
use Rattle.std.proofs.Common.{rules, Some, None, Err}
use Rattle.refusals.specs.declared.refusals.Refusal.TheVariants.{Form, Capacity}
use Rattle.reader_calls.proofs.TakingCases.{agree-done, agree-stop, agree_err, lines_end, lines_cut, lines-over, lines_next}
use Rattle.reader_calls.proofs.tables.table_lines.Goals as goal

pub returns-then-byte_at-eq10 : goal.returns-then-byte_at-eq10
returns-then-byte_at-eq10 c =
    let a = c.args in
    let at = c.loop-k in
    let e = c.end_table.ensures in
    agree-done (at.invariant.4 ∙ lines_end a.table a.order a.text.now at.at at.k at.progress at.words at.numbers at.wants c.byte_at.ensures _ c.if-byte_at-eq10.true e.value e.words_after)

pub returns-in_err-row : goal.returns-in_err-row
returns-in_err-row c =
    let a = c.args in
    let at = c.loop-k in
    let none : c.values_at.result ≡ None = grind arith in
    let told : c.from_residual.result ≡ Err Form = grind arith in
    agree_err _ Form _ _ _ told
    (agree-stop Form _ _ _ (at.invariant.4 ∙ lines_cut a.table a.order a.text.now at.at at.k at.progress at.words at.numbers at.wants c.byte_at.ensures c.if-byte_at-eq10.false c.values_at.ensures _ none))

pub returns-then-k-limit : goal.returns-then-k-limit
returns-then-k-limit c =
    let a = c.args in
    let at = c.loop-k in
    let past = c.if-k-limit.true in
    let there : c.values_at.result ≡ Some c.in_ok-row.row = grind arith in
    agree-stop Capacity _ _ _
    (at.invariant.4 ∙ lines-over a.table a.order a.text.now at.at at.k at.progress at.words at.numbers at.wants c.byte_at.ensures c.if-byte_at-eq10.false c.values_at.ensures _ (omega (arith, past)) there)

pub loop-k-preserved : goal.loop-k-preserved
loop-k-preserved c =
    let a = c.args in
    let at = c.loop-k in
    let kept = c.keep_line-progress in
    let q = kept.ensures in
    let below : at.k < c.limit_of-limit.result = search rules in
    let there : c.values_at.result ≡ Some c.in_ok-row.row = grind arith in (
      omega (arith, below),
      kept.auto.words ∙ at.invariant.1,
      kept.auto.numbers ∙ at.invariant.2,
      kept.auto.wants ∙ at.invariant.3,
      at.invariant.4 ∙ lines_next a.table a.order a.text.now at.at at.k at.progress at.words at.numbers at.wants c.byte_at.ensures c.if-byte_at-eq10.false c.values_at.ensures _ below there q.value q.words_after q.numbers_after q.wants_after,
    )
