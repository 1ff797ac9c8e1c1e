-- `active`: the last record that has started.
use Rattle.std.proofs.Common.{rules}
use Rattle.records_active.proofs.scan.active.Goals as goal

pub returns : goal.returns
returns g c = rw (← c.len.ensures) (c.last_started.ensures _ (λ i x k. search rules))
