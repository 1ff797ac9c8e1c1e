-- 64 - 1 - j zeros stand before m's leading digit 2 ^ j in a word of 64, and the first 64 - p of them before that of a number of p digits too: what is left moves the digit there (`placed`).
use lib.Count.{count_leading_zeros, leading_top}
use Rattle.arithmetic.proofs.RootCases.{enough, placed}
use Rattle.arithmetic.proofs.bits.places.Goals as goal

pub overflow_sub-result-2 : goal.overflow_sub-result-2
overflow_sub-result-2 c =
    let m = c.args.m in
    let t = leading_top 64 m c.requires.0 c.ranges.m.fits in
    enough c.args.p 64 m t.0 (count_leading_zeros 64 m) c.requires.2 t.1 t.2 t.3 c.requires.1

pub returns : goal.returns
returns c =
    let m = c.args.m in
    let t = leading_top 64 m c.requires.0 c.ranges.m.fits in
    placed c.args.p 64 m t.0 (count_leading_zeros 64 m) c.requires.2 t.1 t.2 t.3 c.requires.1
