-- The root's pattern by `pattern-by`, from the leading digit in its place (`places`) and the digits of the root (`Partial::of`).
use Rattle.arithmetic.specs.RootSteps.{format_of}
use Rattle.arithmetic.proofs.RootCases.{pattern-by}
use Rattle.arithmetic.proofs.square_root.pattern.Goals as goal

pub returns : goal.returns
returns g c =
    let p = c.places-z in
    pattern-by (format_of g.row.P) g.row.P g.row.ONES c.power-3.result c.args.m c.args.j p.result c.power.result c.power-2.result c.of-r.result.root c.of-r.result.rem
    c.requires.width.0 c.requires.width.1 c.power-3.ensures c.power-2.ensures c.requires.exponent p.ensures.0 c.power.ensures p.ensures.1 p.ensures.2 (record { square = c.of-r.ensures.number; below = c.of-r.result.little })
