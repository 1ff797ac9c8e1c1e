-- `profile_count`: the word that counts the lines.
use mathlib.Core.Path.{◌∙◌, sym}
use Rattle.records.proofs.RoadLaws.{profile_count_lem}
use Rattle.records_shapes.proofs.profiles.profile_count.Goals as goal

pub returns : goal.returns
returns c = record { value = rw (← c.road.view_is) (c.word.ensures.value ∙ sym (profile_count_lem _ _)); small = c.word.ensures.small }
