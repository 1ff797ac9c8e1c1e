-- `active_in`: the last cubic that has started, asked of each from the end.
use Rattle.std.proofs.Common.{rules}
use lib.Ieee.{le}
use Rattle.records_cubic.specs.declared.cubics.Cubic.{Cubic}
use Rattle.records_cubic.specs.Cubics.{no_cubic}
use Rattle.records.specs.Active.{last_start, active_in, active_up_to}
use Rattle.records_active_slice.proofs.EndLaws.{last_position}
use Rattle.records_active_slice.proofs.active_cubics.active_in.Goals as goal

pub returns : goal.returns
unfolding active_in last_start
returns c =
    rw (← c.iter.ensures.rest) (last_position (λ (x : Cubic). le x.start (active_up_to c.args.s)) _ no_cubic (λ x b q k. search rules) c.rposition.ensures.ran)
