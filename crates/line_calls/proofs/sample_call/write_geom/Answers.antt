-- `write_geom`: one law for each shape. A spiral has its first sample, so the steps are one less than its samples.
use native.Mathlib.Omega.{arith}
use Prim.Native.Nat.{◌/◌}
use lib.ListN.{length}
use Rattle.line_calls.proofs.SampleWriting.{geom-some, geom-spiral, geom-other}
use Rattle.line_calls.proofs.sample_call.write_geom.Goals as goal

pub split_at_mut-first-requires : goal.split_at_mut-first-requires
split_at_mut-first-requires c = omega (arith, geom-some c.args.g c.in-Spiral.is, c.requires)

pub returns-in-Spiral : goal.returns-in-Spiral
returns-in-Spiral c =
    let a = c.args in
    let room = c.requires in
    let back = c.split_at_mut-first.ensures.back_len in
    let some = geom-some a.g c.in-Spiral.is in
    geom-spiral a.g (length c.split_at_mut-first.result.1.now / 4) c.in-Spiral.is (omega arith) c.first_sample-start.ensures c.put.ensures c.write_steps.ensures

pub returns-in_default : goal.returns-in_default
returns-in_default c = geom-other c.args.g c.args.part.now c.in_default.not-Spiral c.requires
