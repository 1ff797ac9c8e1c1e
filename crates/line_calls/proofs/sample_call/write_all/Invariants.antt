-- `write_all`: after i turns the samples of the first i geometries are stored from 0 on, and at is the place after them.
use mathlib.Core.Path.{◌≡◌}
use Prim.Native.Nat.{◌*◌}
use lib.Seq.{sets}
use Rattle.line_samples.specs.Samples.{samples_before, samples_up_to, flat}
use Rattle.line_calls.proofs.sample_call.write_all.Given as goal

abbrev pub invariant-loop-i : goal.invariant-loop-i
invariant-loop-i l = (l.at ≡ samples_before l.road l.i * 4) × (l.samples ≡ sets l.initial.samples 0 (flat (samples_up_to l.road l.i)))
