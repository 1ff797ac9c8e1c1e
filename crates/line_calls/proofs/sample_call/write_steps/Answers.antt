use native.Mathlib.Omega.{arith}
use mathlib.Core.Path.{◌∙◌}
use Prim.Native.Nat.{◌*◌, ◌/◌}
use lib.ListN.{length}
use Rattle.line_calls.proofs.SampleWriting.{put-part, steps-turn, steps-end}
use Rattle.line_calls.proofs.sample_call.write_steps.Goals as goal

pub loop-i-preserved : goal.loop-i-preserved
loop-i-preserved c =
    let at = c.loop-i in
    let of = c.args.spiral.now in
    let n = length c.args.part.now / 4 in
    let more = c.loop-i-test.true in
    let l = at.auto.part in
    let r = c.requires in
    steps-turn of.geom of.k0 of.k1 n at.i at.last at.part more c.next_sample-last.ensures (put-part c.next_sample-last.result at.part (at.i * 4) c.put.ensures (omega arith))
    ∙ at.invariant

pub returns : goal.returns
returns c =
    let at = c.loop-i in
    let a = c.args in
    let of = a.spiral.now in
    steps-end of.geom of.k0 of.k1 (length a.part.now / 4) at.i a.p at.last a.part.now at.part c.loop-i-test.false c.requires at.invariant
