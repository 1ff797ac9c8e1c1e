-- `height_at`: each way out is one case of the definition.
use native.Mathlib.Omega.{arith}
use borrow.Author.Tests.{lt-ltb, le-ltb, eq-eqb, ne_eqb}
use Rattle.lanes.specs.Lateral.{height_of}
use Rattle.lanes.proofs.LateralLaws.{height-below}
use Rattle.lanes_heights.proofs.own_heights.height_at.Goals as goal

pub overflow_add-i : goal.overflow_add-i
overflow_add-i c =
    let h = height-below c.args.heights.now c.args.into c.len-count.ensures c.active.ensures _ c.in-Some.is in
    omega arith

pub returns-in-Some : goal.returns-in-Some
unfolding height_of
returns-in-Some c = rw (← c.active.ensures, c.in-Some.is, ← c.len-count.ensures, lt-ltb _ _ c.if-i-count.true, c.between.ensures, c.get.ensures, c.get-in-Some.ensures)

pub returns-in-Some-2 : goal.returns-in-Some-2
unfolding height_of
returns-in-Some-2 c = rw (← c.active.ensures, c.in-Some.is, ← c.len-count.ensures, le-ltb _ _ c.if-i-count.false, c.from.ensures, c.get-in-Some-2.ensures)

pub returns-in-None : goal.returns-in-None
unfolding height_of
returns-in-None c = rw (← c.active.ensures, c.in-None.is, ← c.len-count.ensures, eq-eqb _ _ c.if-count-eq0.true)

pub returns-in-None-2 : goal.returns-in-None-2
unfolding height_of
returns-in-None-2 c = rw (← c.active.ensures, c.in-None.is, ← c.len-count.ensures, ne_eqb _ _ c.if-count-eq0.false, c.from-in-None-2.ensures, c.get-in-None-2.ensures)
