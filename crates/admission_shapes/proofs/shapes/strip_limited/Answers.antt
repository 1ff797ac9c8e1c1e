-- `strip_limited`: by its columns, none where it is not there.
use Rattle.admission_shapes.proofs.StripLaws.{absent_limited}
use Rattle.admission_shapes.proofs.shapes.strip_limited.Goals as goal

pub returns-in-Some : goal.returns-in-Some
returns-in-Some c = rw (← c.strip.ensures, c.in-Some.is) c.columns_limited.ensures

pub returns-in-None : goal.returns-in-None
returns-in-None c = rw (← c.strip.ensures, c.in-None.is) (absent_limited c.args.road.now)
