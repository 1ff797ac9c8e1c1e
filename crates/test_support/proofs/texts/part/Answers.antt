use Rattle.test_support.proofs.TextLaws.{part-is}
use Rattle.test_support.proofs.texts.part.Goals as goal

pub returns : goal.returns
returns c = part-is c.args.bytes.now c.args.first c.args.last c.min-end.result c.min.result c.min-end.ensures c.min.ensures
