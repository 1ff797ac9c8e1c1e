-- `LentRoad::tshifts`: a flat table of cubics.
use Rattle.records.specs.Roads.{road_of}
use Rattle.records.proofs.road.LentRoad.tshifts.Goals as goal

pub returns : goal.returns
unfolding road_of
returns c = rw (← c.self.view_is) c.flat.ensures
