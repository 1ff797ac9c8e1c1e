-- There is no room, the track is refused, or the tangents are written.
use mathlib.Core.Path.{refl, ◌∙◌}
use Prim.Native.Nat.{◌/◌}
use native.Mathlib.Omega.{arith}
use lib.ListN.{length}
use Rattle.refusals.proofs.ResultLaws.{told}
use Rattle.tracks_calls.proofs.CallSteps.{counted_new, answered_by, no_room, room, passed, tangents_refused, tangents_passed, list_by, listed, list_written}
use Rattle.tracks_calls.proofs.calls.tangents.Goals as goal

pub returns-then-list-len-clause-result_value : goal.returns-then-list-len-clause-result_value
returns-then-list-len-clause-result_value c =
    let a = c.args in
    let n = counted_new a.points.now c.new.ensures c.len.ensures.value in
    no_room a.points.now (length a.list.now) (omega arith)

pub returns-then-list-len-clause-list_after : goal.returns-then-list-len-clause-list_after
returns-then-list-len-clause-list_after c =
    let a = c.args in
    let n = counted_new a.points.now c.new.ensures c.len.ensures.value in
    list_by a.points.now a.list.now (no_room a.points.now (length a.list.now) (omega arith)) refl

pub returns-in_err-checked_track-clause-result_value : goal.returns-in_err-checked_track-clause-result_value
returns-in_err-checked_track-clause-result_value c =
    let a = c.args in
    let n = counted_new a.points.now c.new.ensures c.len.ensures.value in
    told c.from_residual.result _ c.from_residual.ensures.1 ∙ tangents_refused a.points.now c.checked_track.ensures (length a.list.now) (room (length a.points.now / 3) (length a.list.now) (omega arith)) c.in_err-checked_track.was

pub returns-in_err-checked_track-clause-list_after : goal.returns-in_err-checked_track-clause-list_after
returns-in_err-checked_track-clause-list_after c =
    let a = c.args in
    let n = counted_new a.points.now c.new.ensures c.len.ensures.value in
    list_by a.points.now a.list.now (tangents_refused a.points.now c.checked_track.ensures (length a.list.now) (room (length a.points.now / 3) (length a.list.now) (omega arith)) c.in_err-checked_track.was) refl

pub returns-clause-result_value : goal.returns-clause-result_value
returns-clause-result_value c =
    let a = c.args in
    let n = counted_new a.points.now c.new.ensures c.len.ensures.value in
    let there = room (length a.points.now / 3) (length a.list.now) (omega arith) in
    let ok = passed a.points.now c.checked_track.ensures c.in_ok-checked_track.was in
    answered_by _ c.ok_or.ensures.value (listed a.points.now a.list.now ok.0 there c.list_tangents.ensures.value) ∙ tangents_passed a.points.now c.checked_track.ensures (length a.list.now) there c.in_ok-checked_track.was

pub returns-clause-list_after : goal.returns-clause-list_after
returns-clause-list_after c =
    let a = c.args in
    let n = counted_new a.points.now c.new.ensures c.len.ensures.value in
    let there = room (length a.points.now / 3) (length a.list.now) (omega arith) in
    let ok = passed a.points.now c.checked_track.ensures c.in_ok-checked_track.was in
    let told = listed a.points.now a.list.now ok.0 there c.list_tangents.ensures.value in
    list_by a.points.now a.list.now (tangents_passed a.points.now c.checked_track.ensures (length a.list.now) there c.in_ok-checked_track.was) (list_written a.points.now a.list.now ok.0 told c.list_tangents.ensures.list_after)
