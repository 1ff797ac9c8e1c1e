-- `strip`: by its presence code, none past the last.
use Rattle.records_shapes.proofs.StripLaws.{strip-by_code, strip-none}
use Rattle.records_shapes.proofs.strips.strip.Goals as goal

pub returns-then-i-ge-STRIPS : goal.returns-then-i-ge-STRIPS
returns-then-i-ge-STRIPS c =
    let r = c.road.inside in
    rw (← c.road.view_is) (strip-none r.words.now r.numbers.now c.args.i c.if-i-ge-STRIPS.true)

pub returns : goal.returns
returns c =
    let r = c.road.inside in
    rw (← c.road.view_is, c.then_some.ensures) (strip-by_code r.words.now r.numbers.now c.args.i c.if-i-ge-STRIPS.false c.word-code.ensures.value)
