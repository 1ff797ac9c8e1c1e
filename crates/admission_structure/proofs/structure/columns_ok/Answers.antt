use Rattle.std.proofs.Common.{rules}
use Rattle.records_lent.proofs.RangeLaws.{all_range}
use Rattle.admission_structure.proofs.structure.columns_ok.Goals as goal

pub returns : goal.returns
returns c = all_range _ _ c.all.ensures.ran (λ x b q k. search rules)
