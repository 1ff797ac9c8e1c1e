-- `active_cubic`: the cubic at the place that was found, or none.
use mathlib.Core.Path.{◌∙◌, ap, sym}
use Rattle.std.specs.declared.option.Option.TheVariants.{Some}
use Rattle.std.specs.Option.{option_map}
use Rattle.records_cubic.specs.Cubics.{cubic_at}
use Rattle.records.specs.Active.{last_start, active_in}
use Rattle.records_active.proofs.scan.active_cubic.Goals as goal

pub returns-in_err-i : goal.returns-in_err-i
unfolding active_in last_start
returns-in_err-i c = c.from_residual.ensures ∙ ap (option_map (cubic_at c.args.cubics.now)) (sym c.in_err-i.was ∙ c.active.ensures)

pub returns : goal.returns
unfolding active_in last_start
returns c = ap Some c.get.ensures ∙ ap (option_map (cubic_at c.args.cubics.now)) (sym c.in_ok-i.was ∙ c.active.ensures)
