-- `write_steps`: what the loop has yet to store, stored, gives what all steps store. A turn takes the first of them.
use mathlib.Core.Path.{◌≡◌}
use Prim.Native.Nat.{◌-◌, ◌*◌}
use lib.Seq.{sets}
use Rattle.line_samples.specs.Samples.{later_samples, flat}
use Rattle.line_calls.proofs.sample_call.write_steps.Given as goal

abbrev pub invariant-loop-i : goal.invariant-loop-i
invariant-loop-i l =
    let of = l.spiral in
    sets l.part (l.i * 4) (flat (later_samples of.geom of.k0 of.k1 (l.i-end - l.i) l.last)) ≡ sets l.initial.part 0 (flat (later_samples of.geom of.k0 of.k1 l.i-end l.initial.last))
