-- On either side of the brackets the test is theirs.
use mathlib.Core.Path.{sym, subst}
use lib.Dec.{T}
use lib.Ieee.{binary64, fits}
use Rattle.std.proofs.Common.{rules}
use Rattle.arithmetic.specs.Root.{hypot_of}
use Rattle.arithmetic_distance.proofs.BracketLaws.{root-above, root_below}
use Rattle.surface_locate.proofs.misses.under.Goals as goal

pub returns-then-most-sum : goal.returns-then-most-sum
unfolding hypot_of
returns-then-most-sum c =
    let a = c.args in
    let fx : T (fits binary64 a.r.x) = search rules in
    let fy : T (fits binary64 a.r.y) = search rules in
    sym (root-above a.r.x a.r.y a.most.low a.most.high a.most.bound fx fy a.most.between (subst T (sym c.if-most-sum.true) tt))

pub returns-then-sum-most : goal.returns-then-sum-most
unfolding hypot_of
returns-then-sum-most c =
    let a = c.args in
    let fx : T (fits binary64 a.r.x) = search rules in
    let fy : T (fits binary64 a.r.y) = search rules in
    sym (root_below a.r.x a.r.y a.most.low a.most.high a.most.bound fx fy a.most.between (subst T (sym c.if-sum-most.true) tt))
