-- `borders`: a road that is refused, else what rows 7 and 11 say; `list_borders` has kept or written the list.
use mathlib.Core.Path.{refl, ◌∙◌}
use lib.ListN.{length}
use Rattle.refusals.proofs.ResultLaws.{told}
use Rattle.lanes_calls.proofs.CallLaws.{admitted-road, list-off, list-asked, list-left, list-by, borders-refused, borders-admitted}
use Rattle.lanes_calls.proofs.border_call.borders.Goals as goal

pub returns-in_err-road : goal.returns-in_err-road
returns-in_err-road c =
    let w = c.args.words.now in
    let d = c.args.numbers.now in
    let s = c.args.s in
    let xs = c.args.list.now in
    let e = borders-refused w d s (length xs) c.in_err-road.ensures in
    record { result_value = told c.from_residual.result _ c.from_residual.ensures.1 ∙ e; list_after = list-by w d s xs e refl }

pub returns-then-not-on_road : goal.returns-then-not-on_road
returns-then-not-on_road c =
    let w = c.args.words.now in
    let d = c.args.numbers.now in
    let s = c.args.s in
    let xs = c.args.list.now in
    let e = borders-admitted w d s (length xs) c.in_ok-road.ensures (λ r. list-off w d s (length xs) r c.on_road.ensures c.if-not-on_road.true) in
    record { result_value = e; list_after = list-by w d s xs e refl }

pub returns : goal.returns
returns c =
    let w = c.args.words.now in
    let d = c.args.numbers.now in
    let s = c.args.s in
    let xs = c.args.list.now in
    let listed = c.list_borders.ensures in
    let told = c.ok_or.ensures.value in
    let section = c.section_index-section.ensures in
    let road = c.in_ok-road.ensures in
    let e = borders-admitted w d s (length xs) road (λ r. list-asked w d s (length xs) r c.on_road.ensures c.if-not-on_road.false section listed.value told) in
    record { result_value = e; list_after = list-by w d s xs e (list-left w d s xs (admitted-road w d road) section listed.list_after listed.value told) }
