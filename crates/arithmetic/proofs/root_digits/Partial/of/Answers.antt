-- The root of m is at least half (`root-least`) and has at most 27 digits (`root-small`), and those below follow.
use native.Mathlib.Nat.{le_refl}
use Rattle.arithmetic.proofs.RootRounded.{RootOf}
use Rattle.arithmetic.proofs.RootDigits.{root-least, root-small}
use Rattle.arithmetic.proofs.root_digits.Partial.of.Goals as goal

pub lower-requires : goal.lower-requires
lower-requires c =
    let a = c.args in
    let p = c.requires in
    let u = c.upper.result in
    let whole : RootOf a.m u.root u.rem = record { square = c.upper.ensures; below = u.little } in
    (p.2, root-least a.half a.m u.root u.rem p.3 whole, root-small a.m a.n a.m u.root u.rem p.0 p.1 (le_refl a.m) whole)
