-- `profile_height`: by whether a shape is active.
use mathlib.Core.Path.{sym, ◌∙◌}
use Rattle.records.specs.Active.{active_in}
use Rattle.records_active.proofs.ActiveLaws.{place-of_some, place-of_none}
use Rattle.lanes.specs.Lateral.{profile_height}
use Rattle.lanes_shape.proofs.profiles.profile_height.Goals as goal

pub returns-in-Some : goal.returns-in-Some
unfolding profile_height
returns-in-Some c =
    let found = place-of_some _ (active_in _ _) _ (sym c.active_cubic.ensures ∙ c.in-Some.is) in
    rw (← c.shapes-shapes.ensures, found.1, found.2, c.eval.ensures)

pub returns-in-None : goal.returns-in-None
unfolding profile_height
returns-in-None c =
    rw (← c.shapes-shapes.ensures, place-of_none _ (active_in _ _) (sym c.active_cubic.ensures ∙ c.in-None.is), c.get.ensures)
