-- The track is refused, or has the pose.
use mathlib.Core.Path.{◌∙◌}
use Rattle.refusals.proofs.ResultLaws.{told}
use Rattle.tracks_calls.proofs.CallSteps.{pose_refused, pose_passed}
use Rattle.tracks_calls.proofs.calls.pose_at.Goals as goal

pub returns-in_err-checked_track : goal.returns-in_err-checked_track
returns-in_err-checked_track c = told c.from_residual.result _ c.from_residual.ensures.1 ∙ pose_refused c.args.points.now c.checked_track.ensures c.args.s c.in_err-checked_track.was

pub returns : goal.returns
returns c = pose_passed c.args.points.now c.checked_track.ensures c.args.s c.in_ok-checked_track.was c.pose_on.ensures
