-- `lane_named_in`: the id of the lane at s and t; the naming test is the one of the scan.
use borrow.Author.Rules.{rules}
use Rattle.lanes_naming.proofs.NamingSteps.{named-at}
use Rattle.lanes_naming.proofs.naming.lane_named_in.Goals as goal

pub returns : goal.returns
returns c = named-at c.args.section (λ place id p. search rules) c.args.road.now c.args.s c.args.t c.lane_at.ensures.value c.map.ensures.cases
