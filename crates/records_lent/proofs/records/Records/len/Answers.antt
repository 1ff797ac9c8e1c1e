-- `Records::len`: one each stride.
use mathlib.Core.Path.{sym}
use Rattle.records_lent.proofs.TableLaws.{length-table}
use Rattle.records_lent.proofs.records.Records.len.Goals as goal

pub returns : goal.returns
returns g c = rw (← c.self.view_is, c.STRIDE.ensures) (sym (length-table _ _))
