use native.Mathlib.Nat.{div-le_self}
use native.Mathlib.Omega.{arith}
use mathlib.Core.Path.{◌≡◌}
use Prim.Native.Nat.{suc, ◌+◌, ◌-◌, ◌*◌, ◌/◌, ◌^◌}
use Rattle.arithmetic.proofs.RootDigits.{root-next, root-small, two-small}
use Rattle.arithmetic.proofs.root_digits.Partial.upper.Goals as goal

pub digit-s-requires : goal.digit-s-requires
digit-s-requires c =
    let at = c.loop-k in
    let m = c.args.m in
    (root-small m c.args.n (m / 2 ^ (2 * at.k)) at.s.0 at.s.1.0 c.requires.0 c.requires.1 (div-le_self m (2 ^ (2 * at.k))) at.invariant, rw c.two_at.ensures (two-small (m / 2 ^ (2 * (at.k - 1)))))

pub loop-k-preserved : goal.loop-k-preserved
loop-k-preserved c =
    let at = c.loop-k in
    let m = c.args.m in
    let t = c.loop-k-test.true in
    let e : at.k ≡ suc (at.k - 1) = omega arith in
    let h : at.s.0 * at.s.0 + at.s.1.0 ≡ m / 2 ^ (2 * suc (at.k - 1)) = rw e at at.invariant.square in
    record { square = root-next m (at.k - 1) h c.two_at.ensures c.digit-s.ensures; below = c.digit-s.result.little }
