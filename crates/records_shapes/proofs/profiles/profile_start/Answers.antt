-- `profile_start`: the i-th of the starts, or NaN.
use mathlib.Core.Path.{◌∙◌}
use Rattle.records.proofs.RoadLaws.{profile_count_read, profile-starts}
use Rattle.records_shapes.proofs.profiles.profile_start.Goals as goal

pub returns : goal.returns
returns c =
    let r = c.road.inside in
    let n = profile_count_read r.words.now r.numbers.now c.profile_count.ensures.value c.road.view_is in
    rw (← c.road.view_is) (c.number_in.ensures ∙ profile-starts r.words.now r.numbers.now c.args.i n)
