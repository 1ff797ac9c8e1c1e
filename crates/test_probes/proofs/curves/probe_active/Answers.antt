-- `probe_active`: the place is below the part's length, so that one more fits.
use native.Mathlib.Omega.{arith}
use Rattle.records_cubic.specs.Cubics.{cubics_of}
use Rattle.records.specs.Active.{active_in, last_start}
use Rattle.test_probes.proofs.ProbeLaws.{lent-active, active-below, active-some, active-none}
use Rattle.test_probes.proofs.curves.probe_active.Goals as goal

pub overflow_add-result : goal.overflow_add-result
unfolding cubics_of active_in last_start
overflow_add-result c =
    let a = c.args in
    let l = active-below a.part.now a.s (lent-active a.part.now a.s c.new.ensures c.active.ensures) c.in-Some.is in
    omega arith

pub returns-in-Some : goal.returns-in-Some
unfolding cubics_of active_in last_start
returns-in-Some c =
    let a = c.args in
    active-some a.part.now a.s (lent-active a.part.now a.s c.new.ensures c.active.ensures) c.in-Some.is

pub returns-in-None : goal.returns-in-None
unfolding cubics_of active_in last_start
returns-in-None c =
    let a = c.args in
    active-none a.part.now a.s (lent-active a.part.now a.s c.new.ensures c.active.ensures) c.in-None.is
