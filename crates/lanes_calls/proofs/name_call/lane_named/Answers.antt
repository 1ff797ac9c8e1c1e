-- `lane_named`: a road that is refused, else what rows 7 and 8 say.
use mathlib.Core.Path.{◌∙◌}
use Rattle.refusals.proofs.ResultLaws.{told}
use Rattle.lanes_calls.proofs.CallLaws.{name-off, name-beyond, name-found, named-refused, named-admitted}
use Rattle.lanes_calls.proofs.name_call.lane_named.Goals as goal

pub returns-in_err-road : goal.returns-in_err-road
returns-in_err-road c =
    let a = c.args in
    told c.from_residual.result _ c.from_residual.ensures.1 ∙ named-refused a.words.now a.numbers.now a.s a.t c.in_err-road.ensures

pub returns-then-not-on_road : goal.returns-then-not-on_road
returns-then-not-on_road c =
    let a = c.args in
    let w = a.words.now in
    let d = a.numbers.now in
    named-admitted w d a.s a.t c.in_ok-road.ensures (λ r. name-off w d a.s a.t r c.on_road.ensures c.if-not-on_road.true)

pub returns-then-not-across_road : goal.returns-then-not-across_road
returns-then-not-across_road c =
    let a = c.args in
    let w = a.words.now in
    let d = a.numbers.now in
    named-admitted w d a.s a.t c.in_ok-road.ensures (λ r. name-beyond w d a.s a.t r c.on_road.ensures c.if-not-on_road.false c.across_road.ensures c.if-not-across_road.true)

pub returns : goal.returns
returns c =
    let a = c.args in
    let w = a.words.now in
    let d = a.numbers.now in
    named-admitted w d a.s a.t c.in_ok-road.ensures
    (λ r. name-found w d a.s a.t r c.on_road.ensures c.if-not-on_road.false c.across_road.ensures c.if-not-across_road.false c.section_index.ensures c.lane_named_in.ensures)
