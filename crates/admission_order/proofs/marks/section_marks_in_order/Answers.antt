use Rattle.std.proofs.Common.{rules}
use Rattle.records_lent.proofs.RangeLaws.{all_range}
use Rattle.admission_order.specs.Order.{marks_in_order}
use Rattle.admission_order.proofs.marks.section_marks_in_order.Goals as goal

pub returns : goal.returns
unfolding marks_in_order
returns c = rw (← c.section_marks-marks.ensures, ← c.len.ensures.value) (all_range _ _ c.all.ensures.ran (λ x b q k. search rules))
