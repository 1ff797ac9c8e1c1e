use mathlib.Core.Path.{refl, sym, ap, ◌∙◌}
use Prim.Native.Nat.{ℕ, ◌+◌}
use native.Mathlib.Omega.{arith}
use Rattle.std.specs.Prelude.{Some}
use Rattle.reader_cells.specs.declared.names.Span.{Span}
use Rattle.reader_cells.proofs.Inside.{inside}
use Rattle.reader_cells.proofs.Digits.{decimal-stop, decimal-next, decimal-whole, natural-zero, natural-none, natural-is, more-below, decimal_digit, no_decimal}
use borrow.Author.Rules.{rules}
use Rattle.reader_cells.proofs.values.natural_at.Goals as goal

pub returns-then-first-eq48-clause-value : goal.returns-then-first-eq48-clause-value
returns-then-first-eq48-clause-value c = let a = c.args in sym (natural-zero a.text.now a.at c.byte_at-first.ensures c.if-first-eq48.true)

pub returns-then-not-is_ascii_digit-clause-value : goal.returns-then-not-is_ascii_digit-clause-value
returns-then-not-is_ascii_digit-clause-value c =
    let a = c.args in sym (natural-none a.text.now a.at c.byte_at-first.ensures refl c.if-first-eq48.false (no_decimal _ c.if-not-is_ascii_digit.ensures.cases))

pub loop-n-init : goal.loop-n-init
loop-n-init c =
    let a = c.args in
    let d = decimal_digit _ c.if-not-is_ascii_digit.ensures.cases in
    (search rules, search rules, natural-is a.text.now a.at c.byte_at-first.ensures d.0 c.if-first-eq48.false d.1)

pub returns-then-not-is_ascii_digit-2-clause-value : goal.returns-then-not-is_ascii_digit-2-clause-value
returns-then-not-is_ascii_digit-2-clause-value c =
    let a = c.args in let at = c.loop-n in
    sym (at.invariant.2 ∙ ap (λ (s : Span ℕ). Some s) (decimal-stop a.text.now a.at at.n at.value c.byte_at-b.ensures refl c.loop-n-test.true (no_decimal _ c.if-not-is_ascii_digit-2.ensures.cases)))

pub loop-n-preserved : goal.loop-n-preserved
loop-n-preserved c =
    let a = c.args in let at = c.loop-n in
    let r = c.if-not-is_ascii_digit-2.ensures.cases in
    let d = decimal_digit _ r in
    let h = inside a.text.now (a.at + at.n) c.byte_at-b.ensures (omega (arith, r.0)) in (
      more-below 10 at.n at.value _ at.invariant.0 d.1,
      omega (arith, h),
      at.invariant.2 ∙ ap (λ (s : Span ℕ). Some s) (decimal-next a.text.now a.at at.n at.value c.byte_at-b.ensures d.0 c.loop-n-test.true d.1),
    )

pub returns-clause-value : goal.returns-clause-value
returns-clause-value c =
    let a = c.args in let at = c.loop-n in
    sym (at.invariant.2 ∙ ap (λ (s : Span ℕ). Some s) (decimal-whole a.text.now a.at at.n at.value at.auto.n-end c.loop-n-test.false))
