-- What each step ensures, put together.
use Rattle.std.proofs.Common.{rules}
use Rattle.test_dots.proofs.Agreement.{dots_by}
use Rattle.test_dots.proofs.calls.Asked.dots.Goals as goal

pub returns-clause-value : goal.returns-clause-value
returns-clause-value g c =
    let s = c.args.self.now in
    dots_by s.words.now s.numbers.now c.args.samples.now s.stations.now c.args.list.now s.row.now (search rules) (search rules) c.held_against.ensures
