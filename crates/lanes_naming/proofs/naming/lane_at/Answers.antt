-- `lane_at`: the right side, then the left one.
use Rattle.lanes_borders.specs.Borders.{borders_at}
use Rattle.lanes_naming.specs.Naming.{beyond_on, lane_at}
use Rattle.lanes_naming.proofs.naming.lane_at.Goals as goal

pub returns-in-Some-clause-value : goal.returns-in-Some-clause-value
unfolding lane_at beyond_on borders_at
returns-in-Some-clause-value c =
    let right = rw c.both-lefts.ensures.right at c.last_beyond.ensures.value in
    rw (← right, c.in-Some.is)

pub returns-in_err-last_beyond-in-None-clause-value : goal.returns-in_err-last_beyond-in-None-clause-value
unfolding lane_at beyond_on borders_at
returns-in_err-last_beyond-in-None-clause-value c =
    let right = rw c.both-lefts.ensures.right at c.last_beyond.ensures.value in
    let left = rw c.both-lefts.ensures.left at c.last_beyond-in-None.ensures.value in
    rw (c.from_residual.ensures, ← right, c.in-None.is, ← left, c.in_err-last_beyond-in-None.was)

pub returns-in_ok-last_beyond-in-None-clause-value : goal.returns-in_ok-last_beyond-in-None-clause-value
unfolding lane_at beyond_on borders_at
returns-in_ok-last_beyond-in-None-clause-value c =
    let right = rw c.both-lefts.ensures.right at c.last_beyond.ensures.value in
    let left = rw c.both-lefts.ensures.left at c.last_beyond-in-None.ensures.value in
    rw (← right, c.in-None.is, ← left, c.in_ok-last_beyond-in-None.was)
