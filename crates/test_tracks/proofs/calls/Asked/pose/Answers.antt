-- What each step ensures, put together.
use Rattle.test_tracks.proofs.Agreement.{pose_by_lem}
use Rattle.test_tracks.proofs.calls.Asked.pose.Goals as goal

pub returns : goal.returns
returns g c =
    let a = c.args in
    pose_by_lem a.self.now.track.now a.self.now.row.now c.f32_from_bits_with_nan.ensures c.pose_at-pose.ensures c.answer_number.ensures c.pose_numbers.ensures c.held_against.ensures
