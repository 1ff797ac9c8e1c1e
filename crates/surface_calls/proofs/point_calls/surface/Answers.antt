-- A refusal by rows 3 to 7 is that of all of them.
use mathlib.Core.Path.{◌∙◌}
use Rattle.admission_calls.proofs.RowLaws.{first-refused}
use Rattle.refusals.proofs.ResultLaws.{told}
use Rattle.surface_calls.specs.SurfaceCalls.{station_rows, across_rows, surface_call}
use Rattle.surface_calls.proofs.point_calls.surface.Goals as goal

pub returns-in_err-lent : goal.returns-in_err-lent
unfolding surface_call
returns-in_err-lent c = let a = c.args in told _ _ c.from_residual.ensures.1 ∙ first-refused (station_rows a.words.now a.numbers.now a.samples.now a.s) (across_rows a.t) _ _ c.in_err-lent.ensures
