-- `LentRoad::geom_count`: the word that counts the lines.
use mathlib.Core.Path.{◌∙◌, sym}
use Rattle.records.proofs.RoadLaws.{geom_count_lem}
use Rattle.records.proofs.road.LentRoad.geom_count.Goals as goal

pub returns : goal.returns
returns c = record { value = rw (← c.self.view_is) (c.word.ensures.value ∙ sym (geom_count_lem _ _)); small = c.word.ensures.small }
