use Rattle.tracks_calls.specs.TrackCalls.{track_call}
use Rattle.tracks_calls.proofs.rows.checked_track.Goals as goal

pub returns-then-not-counted : goal.returns-then-not-counted
unfolding track_call
returns-then-not-counted c = rw (← c.counted.ensures, c.if-not-counted.true)

pub returns-then-not-all_inside : goal.returns-then-not-all_inside
unfolding track_call
returns-then-not-all_inside c = rw (← c.counted.ensures, ← c.all_inside.ensures, c.if-not-counted.false, c.if-not-all_inside.true)

pub returns : goal.returns
unfolding track_call
returns c = rw (← c.counted.ensures, ← c.all_inside.ensures, c.if-not-counted.false, c.if-not-all_inside.false, c.new.ensures)
