use Rattle.std.proofs.Common.{rules}
use Rattle.records_lent.proofs.RangeLaws.{all_listed}
use Rattle.records.specs.Roads.{no_mark}
use Rattle.admission.specs.Limits.{mark_limited, marks_limited}
use Rattle.admission_marks.proofs.marks.section_marks_limited.Goals as goal

pub returns : goal.returns
unfolding marks_limited
returns c =
    rw (← c.section_extent-extent.ensures) (all_listed (λ m. mark_limited c.section_extent-extent.result m) no_mark c.all.ensures.ran c.section_marks.ensures (λ x b q k. search rules))
