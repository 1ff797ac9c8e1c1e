-- Each way out is a law of NarrowCases, by the range that the exponent's field lies in.
use Rattle.arithmetic.proofs.NarrowCases.{case-none, case-low, case-high, case-top}
use Rattle.arithmetic.proofs.narrowing.magnitude.Goals as goal

pub returns-then-field-lt873 : goal.returns-then-field-lt873
returns-then-field-lt873 c = case-none c.args.field c.args.frac c.if-field-lt873.true c.requires.0

pub returns-then-field-lt-NORMAL : goal.returns-then-field-lt-NORMAL
returns-then-field-lt-NORMAL c = case-low c.args.field c.args.frac c.nearest_of.result c.if-field-lt873.false c.if-field-lt-NORMAL.true c.requires.0 c.nearest_of.ensures

pub returns-then-field-gt1150 : goal.returns-then-field-gt1150
returns-then-field-gt1150 c = case-top c.args.field c.args.frac c.if-field-gt1150.true c.requires.1 c.requires.0 c.requires.2

pub returns : goal.returns
returns c = case-high c.args.field c.args.frac c.nearest_of-2.result c.if-field-lt-NORMAL.false c.if-field-gt1150.false c.requires.0 c.nearest_of-2.ensures
