-- `Lines::len`: as many lines as numbers.
use mathlib.Core.Path.{sym}
use Rattle.records_lent.proofs.TableLaws.{length-table}
use Rattle.records_lent.proofs.lines.Lines.len.Goals as goal

pub returns-clause-value : goal.returns-clause-value
returns-clause-value g c = rw (← c.self.view_is) (sym (length-table _ _))
