-- `covered`: whether a mark paints, asked of each.
use Rattle.std.proofs.Common.{rules}
use Rattle.float_laws.specs.Binary64.{◌⊖◌}
use Rattle.records_lent.proofs.RangeLaws.{any_listed}
use Rattle.records.specs.Roads.{no_mark}
use Rattle.records_marks.specs.Covers.{paints, covered}
use Rattle.records_marks.proofs.marks.covered.Goals as goal

pub returns : goal.returns
unfolding covered
returns c =
    let a = c.args in
    rw (← c.section_start.ensures) (any_listed (λ m. paints m a.lane a.kind (a.s ⊖ c.section_start.result)) no_mark c.any.ensures.ran c.section_marks.ensures (λ x b q k. search rules))
