-- `shapes`: the cubics that the profile's words say, or none.
use native.Mathlib.Omega.{arith}
use mathlib.Core.Path.{◌∙◌, ap, sym}
use Rattle.records_cubic.specs.Cubics.{cubics_of}
use Rattle.records.specs.Roads.{Profile, profile_in}
use Rattle.records.proofs.RoadLaws.{profile_count_read, profile_in_lem, profile-past}
use Rattle.records_shapes.proofs.profiles.shapes.Goals as goal

pub returns-then-i-profile_count : goal.returns-then-i-profile_count
unfolding profile_in cubics_of
returns-then-i-profile_count c =
    let r = c.road.inside in
    let n = profile_count_read r.words.now r.numbers.now c.profile_count.ensures.value c.road.view_is in
    rw (← c.road.view_is) (c.of_range.ensures ∙ sym (ap (λ (x : Profile). x.shapes) (profile_in_lem r.words.now r.numbers.now c.args.i (omega arith))))

pub returns-else-i-profile_count : goal.returns-else-i-profile_count
returns-else-i-profile_count c =
    let r = c.road.inside in
    let n = profile_count_read r.words.now r.numbers.now c.profile_count.ensures.value c.road.view_is in
    rw (← c.road.view_is) (c.no_cubics.ensures ∙ sym (ap (λ (x : Profile). x.shapes) (profile-past r.words.now r.numbers.now c.args.i (omega arith))))
