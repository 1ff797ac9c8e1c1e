-- `border_width`: by whether a border record is active.
use mathlib.Core.Path.{sym, ◌∙◌}
use Rattle.records.specs.Active.{active_in, last_start}
use Rattle.records_active.proofs.ActiveLaws.{place-of_some, place-of_none}
use Rattle.lanes_borders.proofs.sides.SideAt.border_width.Goals as goal

pub returns-in-Some : goal.returns-in-Some
unfolding active_in last_start
returns-in-Some c =
    let found = place-of_some _ (active_in _ _) _ (sym c.active_cubic.ensures ∙ c.in-Some.is) in
    rw (← c.lane.view_is, found.1, found.2, c.eval.ensures)

pub returns-in-None : goal.returns-in-None
unfolding active_in last_start
returns-in-None c = rw (← c.lane.view_is, place-of_none _ (active_in _ _) (sym c.active_cubic.ensures ∙ c.in-None.is))
