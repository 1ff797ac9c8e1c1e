-- The track is refused, the place is outside, or there is a projection.
use mathlib.Core.Path.{◌∙◌}
use Rattle.refusals.proofs.ResultLaws.{told}
use Rattle.tracks_calls.proofs.CallSteps.{project_refused, project_outside, project_passed}
use Rattle.tracks_calls.proofs.calls.project.Goals as goal

pub returns-in_err-track : goal.returns-in_err-track
returns-in_err-track c = told c.from_residual.result _ c.from_residual.ensures.1 ∙ project_refused c.args.points.now c.checked_track.ensures c.args.at c.in_err-track.was

pub returns-then-not-point_inside : goal.returns-then-not-point_inside
returns-then-not-point_inside c = project_outside c.args.points.now c.checked_track.ensures c.args.at c.in_ok-track.was (rw (← c.point_inside.ensures) c.if-not-point_inside.true)

pub returns : goal.returns
returns c = project_passed c.args.points.now c.checked_track.ensures c.args.at c.in_ok-track.was (rw (← c.point_inside.ensures) c.if-not-point_inside.false) c.project_on.ensures
