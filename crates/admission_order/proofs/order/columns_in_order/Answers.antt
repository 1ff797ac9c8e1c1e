use Rattle.std.proofs.Common.{rules}
use Rattle.records_lent.proofs.RangeLaws.{all_range}
use Rattle.records.specs.Roads.{column_by}
use Rattle.admission_order.specs.Order.{cubics_in_order, strip_in_order}
use Rattle.admission_order.proofs.order.columns_in_order.Goals as goal

pub returns : goal.returns
unfolding strip_in_order
returns c = all_range (λ column. cubics_in_order (column_by c.args.strip.now column)) _ c.all.ensures.ran (λ x b q k. search rules)
