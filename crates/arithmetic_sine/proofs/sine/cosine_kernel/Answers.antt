-- What `horner` gives is the checker's term over the table, which the table's rule ties to the definition.
use Rattle.float_laws.proofs.Checker.{eval}
use Rattle.arithmetic_sine.specs.Sine.{horner}
use Rattle.arithmetic_sine.proofs.SineKernel.{cosine_term, cosine_by-table}
use Rattle.arithmetic_sine.proofs.sine.cosine_kernel.Goals as goal

pub returns : goal.returns
unfolding eval cosine_term horner
returns c = rw c.horner-q.ensures (cosine_by-table c.args.r)
