-- `lane_count`: the word that counts the side's lanes, 0 where there is no section.
use native.Mathlib.Omega.{arith}
use mathlib.Core.Path.{◌∙◌, sym}
use Rattle.records.proofs.RoadLaws.{section_count_read, lane_count_lem, lanes_none}
use Rattle.records_sections.proofs.sections.lane_count.Goals as goal
use Rattle.records_sections.proofs.sections.lane_count.Goals.{then-right, else-right}

pub returns-after-right-clause-value : goal.returns-after-right-clause-value
returns-after-right-clause-value c =
    let r = c.road.inside in
    let n = section_count_read r.words.now r.numbers.now c.section_count.ensures.value c.road.view_is in
    rw (← c.road.view_is)
    (c.word.ensures.value ∙ sym (lane_count_lem r.words.now r.numbers.now c.args.section c.args.right (omega arith) (elim c.if-right.branch [ then-right w ↦ cc | else-right w ↦ cc ])))

pub returns-else-section-section_count-clause-value : goal.returns-else-section-section_count-clause-value
returns-else-section-section_count-clause-value c =
    let r = c.road.inside in
    let n = section_count_read r.words.now r.numbers.now c.section_count.ensures.value c.road.view_is in
    rw (← c.road.view_is) (sym (lanes_none r.words.now r.numbers.now c.args.section c.args.right (omega arith)))
