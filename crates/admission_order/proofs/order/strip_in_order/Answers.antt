-- `strip_in_order`: by its columns, none where it is not there.
use mathlib.Core.Path.{refl}
use Rattle.records_lent.specs.Lists.{all_below}
use Rattle.admission_order.specs.Order.{strip_in_order, cubics_in_order, never_fall}
use Rattle.admission_order.proofs.order.strip_in_order.Goals as goal

pub returns-in-Some : goal.returns-in-Some
returns-in-Some c = rw (← c.strip.ensures, c.in-Some.is) c.columns_in_order.ensures

pub returns-in-None : goal.returns-in-None
unfolding strip_in_order cubics_in_order never_fall all_below
returns-in-None c = rw (← c.strip.ensures, c.in-None.is) refl
