-- One law for the last cell, one for any other.
use Rattle.reader_lines.proofs.Lines.{stop-more, stop-last}
use Rattle.reader_lines.proofs.values_line.stop_of.Goals as goal

pub returns-then-i-n-clause-value : goal.returns-then-i-n-clause-value
returns-then-i-n-clause-value c = stop-more _ _ c.if-i-n.true

pub returns-else-i-n-clause-value : goal.returns-else-i-n-clause-value
returns-else-i-n-clause-value c = stop-last _ _ c.if-i-n.false
