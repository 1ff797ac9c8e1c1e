-- Invariant: k multiples are counted.
use Rattle.dots.specs.Dots.{multiple}
use Rattle.dots.proofs.LeadingSteps.{Counted}
use Rattle.dots.proofs.multiples.multiples.Given as goal

abbrev pub invariant-loop-k : goal.invariant-loop-k
invariant-loop-k l = Counted (multiple l.spacing) l.len 65537 l.k
