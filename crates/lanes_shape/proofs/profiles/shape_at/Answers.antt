-- `shape_at`: each way out is one case of the definition.
use native.Mathlib.Omega.{arith}
use borrow.Author.Tests.{lt-ltb, le-ltb, eq-eqb, ne_eqb}
use Rattle.lanes.specs.Lateral.{shape_of}
use Rattle.lanes.proofs.LateralLaws.{profile-below}
use Rattle.lanes_shape.proofs.profiles.shape_at.Goals as goal

pub overflow_add-i : goal.overflow_add-i
overflow_add-i c =
    let h = profile-below c.args.road.now c.args.s c.profile_count-count.ensures.value c.profile_index.ensures _ c.in-Some.is in
    omega arith

pub returns-in-Some : goal.returns-in-Some
unfolding shape_of
returns-in-Some c = rw (← c.profile_index.ensures, c.in-Some.is, ← c.profile_count-count.ensures.value, lt-ltb _ _ c.if-i-count.true, c.shape_between.ensures)

pub returns-in-Some-2 : goal.returns-in-Some-2
unfolding shape_of
returns-in-Some-2 c = rw (← c.profile_index.ensures, c.in-Some.is, ← c.profile_count-count.ensures.value, le-ltb _ _ c.if-i-count.false, c.profile_height.ensures)

pub returns-in-None : goal.returns-in-None
unfolding shape_of
returns-in-None c = rw (← c.profile_index.ensures, c.in-None.is, ← c.profile_count-count.ensures.value, eq-eqb _ _ c.if-count-eq0.true)

pub returns-in-None-2 : goal.returns-in-None-2
unfolding shape_of
returns-in-None-2 c = rw (← c.profile_index.ensures, c.in-None.is, ← c.profile_count-count.ensures.value, ne_eqb _ _ c.if-count-eq0.false, c.profile_height-in-None-2.ensures)
