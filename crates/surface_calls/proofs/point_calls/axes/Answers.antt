-- A refusal by rows 3 to 7 is the call's.
use mathlib.Core.Path.{◌∙◌}
use Rattle.admission_calls.proofs.RowLaws.{rows-refused}
use Rattle.refusals.proofs.ResultLaws.{told}
use Rattle.surface_calls.specs.SurfaceCalls.{station_rows, axes_call}
use Rattle.surface_calls.proofs.point_calls.axes.Goals as goal

pub returns-in_err-lent : goal.returns-in_err-lent
unfolding axes_call
returns-in_err-lent c = let a = c.args in told _ _ c.from_residual.ensures.1 ∙ rows-refused (station_rows a.words.now a.numbers.now a.samples.now a.s) _ _ c.in_err-lent.ensures
