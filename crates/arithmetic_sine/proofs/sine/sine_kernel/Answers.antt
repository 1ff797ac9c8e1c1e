-- What `horner` gives is the checker's term over the table, which the table's rule ties to the definition.
use Rattle.float_laws.proofs.Checker.{eval}
use Rattle.arithmetic_sine.specs.Sine.{horner}
use Rattle.arithmetic_sine.proofs.SineKernel.{sine_term, sine_by-table}
use Rattle.arithmetic_sine.proofs.sine.sine_kernel.Goals as goal

pub returns : goal.returns
unfolding eval sine_term horner
returns c = rw c.horner-p.ensures (sine_by-table c.args.r)
