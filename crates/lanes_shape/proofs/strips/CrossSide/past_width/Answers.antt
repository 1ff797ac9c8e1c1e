-- `past_width`: past the inner strip's width, by what the outer one stands on.
use mathlib.Core.Path.{◌≡◌, ap}
use mathlib.Core.Bool.{Bool, true, cond}
use lib.Ieee.{Float, binary64, of_bits, add, sub, mul, lt}
use Rattle.records.specs.Roads.{StripDef, present}
use Rattle.lanes.specs.Lateral.{strip_height, past_width}
use Rattle.lanes_shape.proofs.strips.CrossSide.past_width.Goals as goal
use Rattle.lanes_shape.proofs.strips.CrossSide.past_width.Goals.{then-outer, else-outer}

past :
    (inner outer : StripDef) (s t sign w : Float) (relative : Bool) {base x : Float} → lt w (mul binary64 sign t) ≡ true → relative ≡ outer.relative
    → base ≡ cond relative (strip_height inner s (mul binary64 sign w)) (of_bits binary64 0) → x ≡ strip_height outer s (sub binary64 t (mul binary64 sign w))
    → add binary64 base x ≡ past_width inner (present outer) s t sign w
past inner outer s t sign w relative h e eb ex = rw (eb, ex, e, h)

pub returns-after-outer : goal.returns-after-outer
returns-after-outer c =
    let a = c.args in
    let side = a.self.now in
    let relative = ap (λ (d : StripDef). d.relative) c.outer.view_is in
    rw (c.in-Some.is)
    (past side.inner c.in-Some.outer side.s a.t side.sign a.w c.outer.inside.relative c.if-w-self.true relative
    (elim c.if-outer.branch [
      | then-outer w ↦ rw (w.if-outer.true, w.base-is, w.strip_height-base.ensures)
      | else-outer w ↦ rw (w.if-outer.false, w.base-is)
    ])
    c.strip_height.ensures)
