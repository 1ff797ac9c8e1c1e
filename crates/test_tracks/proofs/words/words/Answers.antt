-- One word more a turn, or a broken one; the line has the form, or not.
use Rattle.std.proofs.Common.{◌≡◌, ℕ, ◌/◌, length, take, sym, refl, ap, ◌∙◌, add-one, arith}
use Rattle.std.proofs.Math.Seq.{take-suc-set}
use Rattle.std.specs.declared.option.Option.TheVariants.{Some}
use Rattle.test_tracks.specs.Words.{first_words}
use Rattle.test_tracks.proofs.WordSteps.{first_start, first_next, none_of, all_words, few_words, no_line}
use Rattle.test_tracks.proofs.words.words.Goals as goal

pub returns-then-not-line-n-clause-value : goal.returns-then-not-line-n-clause-value
returns-then-not-line-n-clause-value c = no_line c.args.line.now c.if-not-line-n.true

pub loop-i-init : goal.loop-i-init
loop-i-init c = first_start c.args.line.now refl

pub returns-in_err-row-clause-value : goal.returns-in_err-row-clause-value
returns-in_err-row-clause-value c =
    rw c.from_residual.ensures (none_of c.args.line.now c.loop-i.i c.loop-i-test.true (sym c.word_at.ensures ∙ c.in_err-row.was))

pub loop-i-preserved : goal.loop-i-preserved
loop-i-preserved c =
    let i = c.loop-i.i in
    let few = few_words c.args.line.now c.if-not-line-n.false in
    rw (add-one i) (first_next c.args.line.now i c.loop-i.invariant (sym c.word_at.ensures ∙ c.in_ok-row.was) (take-suc-set c.loop-i.row i c.in_ok-row.field-0 (omega arith)))

pub returns-clause-value : goal.returns-clause-value
returns-clause-value c =
    let line = c.args.line.now in
    let e : c.loop-i.i ≡ length line / 9 = omega arith in
    all_words line c.if-not-line-n.false (ap (λ (k : ℕ). Some (take k c.loop-i.row)) (sym e) ∙ c.loop-i.invariant ∙ ap (first_words line) e)
