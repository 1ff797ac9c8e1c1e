-- One word more a turn, or a broken one; the line has the form, or not.
use Rattle.std.proofs.Common.{◌≡◌, ◌/◌, length, sym, ap, ◌∙◌, add-one, arith}
use Rattle.test_dots.specs.Words.{first_words}
use Rattle.test_dots.proofs.WordSteps.{first_start, first_next, none_of, all_words, no_line}
use Rattle.test_dots.proofs.words.words.Goals as goal

pub returns-then-not-line-n : goal.returns-then-not-line-n
returns-then-not-line-n c = no_line c.args.line.now c.if-not-line-n.true

pub loop-i-init : goal.loop-i-init
loop-i-init c = first_start c.args.line.now c.new-words.ensures.items

pub returns-in_default : goal.returns-in_default
returns-in_default c = none_of c.args.line.now c.loop-i.i c.loop-i-test.true (sym c.word_at.ensures ∙ c.in_default.is)

pub loop-i-preserved : goal.loop-i-preserved
loop-i-preserved c =
    let i = c.loop-i.i in
    rw (add-one i) (first_next c.args.line.now i c.loop-i.invariant (sym c.word_at.ensures ∙ c.in-Some.is) c.in_ok-push.ensures.items)

pub returns : goal.returns
returns c =
    let line = c.args.line.now in
    let e : c.loop-i.i ≡ length line / 17 = omega arith in
    all_words line c.if-not-line-n.false (c.loop-i.invariant ∙ ap (first_words line) e)
