use Rattle.dots_calls.proofs.CallSteps.{listed_few}
use Rattle.dots_calls.proofs.lists.place_dots.Goals as goal

pub dot_line-requires : goal.dot_line-requires
dot_line-requires c = (listed_few c.args.lent.now.road c.args.place.section c.args.stations.now c.stations_listed.ensures c.if-not-stations_listed.false, c.requires)
