use mathlib.Core.Path.{refl}
use Rattle.dots_calls.proofs.CallSteps.{line-taken, no_track, on_track}
use Rattle.dots_calls.proofs.lists.dot_line.Goals as goal

pub returns-in_default : goal.returns-in_default
returns-in_default c =
    let a = c.args in
    let e = no_track a.lent.now.road a.lent.now.samples.now a.spacing a.stations.now a.place a.list.now (line-taken a.lent.now.road a.lent.now.samples.now a.spacing a.stations.now a.place a.list.now _ c.write_line.ensures refl) c.checked_track.ensures c.in_default.is in
    record { result_value = e.0; list_after = e.1 }

pub returns : goal.returns
returns c =
    let a = c.args in
    let e = on_track a.lent.now.road a.lent.now.samples.now a.spacing a.stations.now a.place a.list.now (line-taken a.lent.now.road a.lent.now.samples.now a.spacing a.stations.now a.place a.list.now _ c.write_line.ensures refl) c.checked_track.ensures c.in-Ok.is c.lane_rank.ensures c.list_dots.ensures.value c.list_dots.ensures.list_after c.ok_or.ensures.value in
    record { result_value = e.0; list_after = e.1 }
