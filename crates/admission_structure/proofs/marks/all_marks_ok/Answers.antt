use mathlib.Core.Path.{◌∙◌, ap}
use Rattle.std.proofs.Common.{rules}
use Rattle.records_lent.specs.Lists.{all_below}
use Rattle.records_lent.proofs.RangeLaws.{all_range}
use Rattle.admission_structure.proofs.marks.all_marks_ok.Goals as goal

pub returns : goal.returns
returns c = all_range _ _ c.all.ensures.ran (λ x b q k. search rules) ∙ ap (all_below _) c.raw_word-n.ensures
