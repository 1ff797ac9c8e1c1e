use mathlib.Core.Path.{sym, ◌∙◌}
use Prim.Native.Nat.{◌+◌}
use native.Mathlib.Omega.{arith}
use Rattle.reader_cells.proofs.Inside.{inside}
use Rattle.reader_cells.proofs.Digits.{name-stop, name-next, name-whole, name-is, fits, more-below}
use borrow.Author.Rules.{rules}
use Rattle.reader_cells.proofs.names.name_at.Goals as goal

pub loop-n-init : goal.loop-n-init
loop-n-init c = (search rules, search rules, name-is _ _)

pub returns-then-b-le32 : goal.returns-then-b-le32
returns-then-b-le32 c =
    let a = c.args in let at = c.loop-n in
    sym (at.invariant.2 ∙ name-stop a.text.now a.at at.n at.value c.byte_at-b.ensures c.loop-n-test.true c.if-b-le32.true)

pub overflow_mul-value : goal.overflow_mul-value
overflow_mul-value c = let at = c.loop-n in record { fits = omega (arith, fits 256 at.n 8 at.value 0 (omega arith) (omega arith) (omega arith) at.invariant.0 (omega arith)) }

pub overflow_add-value : goal.overflow_add-value
overflow_add-value c = let at = c.loop-n in record { fits = fits 256 at.n 8 at.value c.byte_at-b.result (omega arith) (omega arith) (omega arith) at.invariant.0 (omega arith) }

pub loop-n-preserved : goal.loop-n-preserved
loop-n-preserved c =
    let a = c.args in let at = c.loop-n in
    let h = inside a.text.now (a.at + at.n) c.byte_at-b.ensures (omega arith) in (
      more-below 256 at.n at.value _ at.invariant.0 (omega arith),
      omega (arith, h),
      at.invariant.2 ∙ name-next a.text.now a.at at.n at.value c.byte_at-b.ensures c.loop-n-test.true c.if-b-le32.false,
    )

pub returns : goal.returns
returns c =
    let a = c.args in let at = c.loop-n in
    sym (at.invariant.2 ∙ name-whole a.text.now a.at at.n at.value at.auto.n-end c.loop-n-test.false)
