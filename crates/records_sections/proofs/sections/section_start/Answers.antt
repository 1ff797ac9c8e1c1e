-- `section_start`: the i-th of the starts, or NaN.
use mathlib.Core.Path.{◌∙◌}
use Rattle.records.proofs.RoadLaws.{section_count_read, section-starts}
use Rattle.records_sections.proofs.sections.section_start.Goals as goal

pub returns : goal.returns
returns c =
    let r = c.road.inside in
    let n = section_count_read r.words.now r.numbers.now c.section_count.ensures.value c.road.view_is in
    rw (← c.road.view_is) (c.number_in.ensures ∙ section-starts r.words.now r.numbers.now c.args.i n)
