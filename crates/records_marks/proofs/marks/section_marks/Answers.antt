-- `section_marks`: the section's lines are its marks, or it has none.
use native.Mathlib.Omega.{arith}
use mathlib.Core.Path.{◌∙◌}
use Rattle.records_lent.specs.Lists.{tabulate}
use Rattle.records.proofs.RoadLaws.{section_count_read, marks_in, marks-past}
use Rattle.records_marks.proofs.marks.section_marks.Goals as goal

pub returns-then-section-section_count : goal.returns-then-section-section_count
returns-then-section-section_count c =
    let r = c.road.inside in
    let n = section_count_read r.words.now r.numbers.now c.section_count.ensures.value c.road.view_is in
    rw (← c.road.view_is) (c.new.ensures.whole (omega (arith, c.from.ensures, c.raw_word-first.type_inv, c.raw_word-count.type_inv)) ∙ marks_in r.words.now r.numbers.now c.args.section (omega arith) (c.from.ensures ∙ c.raw_word-first.ensures) c.raw_word-count.ensures)

pub returns-else-section-section_count : goal.returns-else-section-section_count
unfolding tabulate
returns-else-section-section_count c =
    let r = c.road.inside in
    let n = section_count_read r.words.now r.numbers.now c.section_count.ensures.value c.road.view_is in
    rw (← c.road.view_is) (c.new-else-section-section_count.ensures.whole (omega arith) ∙ marks-past r.words.now r.numbers.now c.args.section (omega arith))
