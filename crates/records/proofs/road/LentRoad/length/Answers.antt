-- `LentRoad::length`: the first number.
use Rattle.records.specs.Roads.{road_of}
use Rattle.records.proofs.road.LentRoad.length.Goals as goal

pub returns : goal.returns
unfolding road_of
returns c = rw (← c.self.view_is) c.number.ensures
