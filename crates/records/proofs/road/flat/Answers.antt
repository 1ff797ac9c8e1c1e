-- `flat`: the part that the count says.
use Rattle.records_cubic.specs.Cubics.{cubics_of}
use Rattle.records.proofs.road.flat.Goals as goal

pub returns : goal.returns
unfolding cubics_of
returns c = rw (← c.word.ensures.value) c.of_table.ensures
