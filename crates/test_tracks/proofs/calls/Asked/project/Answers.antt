-- What each step ensures, put together.
use Rattle.test_tracks.proofs.Agreement.{project-by}
use Rattle.test_tracks.proofs.calls.Asked.project.Goals as goal

pub returns : goal.returns
returns g c =
    let a = c.args in
    project-by a.self.now.track.now a.self.now.row.now
    (rw (c.f32_from_bits_with_nan.ensures, c.f32_from_bits_with_nan-2.ensures, c.f32_from_bits_with_nan-3.ensures))
    c.project-place.ensures c.answer_number.ensures c.project_numbers.ensures c.held_against.ensures
