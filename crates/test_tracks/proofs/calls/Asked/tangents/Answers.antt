-- What each step ensures, put together.
use Rattle.test_tracks.proofs.Agreement.{tangents-by}
use Rattle.test_tracks.proofs.calls.Asked.tangents.Goals as goal

pub returns : goal.returns
returns g c =
    let a = c.args in
    let call = c.tangents.ensures in
    record { value = tangents-by a.self.now.track.now a.self.now.row.now a.list.now call.result_value c.tangents_number-number.ensures call.list_after c.held_against.ensures; list_after = call.list_after }
