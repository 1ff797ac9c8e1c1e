-- `last_started`: the last start at most the limit, asked of each from the end.
use Rattle.std.proofs.Common.{rules}
use Rattle.records_lent.proofs.RangeLaws.{last_range}
use Rattle.records.specs.Active.{last_start}
use Rattle.records_active.proofs.scan.last_started.Goals as goal

pub returns : goal.returns
unfolding last_start
returns g c = λ starts says. last_range _ _ (λ x b q k. search (rules, says)) _ _ c.rfind.ensures.ran
