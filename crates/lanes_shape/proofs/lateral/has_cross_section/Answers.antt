-- `has_cross_section`: by the shifts and the strips.
use Prim.Native.Nat.{ℕ}
use mathlib.Core.Path.{◌≡◌, refl, ap, ◌∙◌}
use mathlib.Core.Bool.{Bool, true, false, ◌||◌}
use lib.Dec.{ltb}
use borrow.Author.Rules.{rules}
use lib.ListN.{length}
use Rattle.records_lent.specs.Lists.{any_below}
use Rattle.records_lent.proofs.RangeLaws.{any_range}
use Rattle.records_lent.proofs.TestLaws.{not_empty}
use Rattle.records.specs.Roads.{strip_at}
use Rattle.lanes.specs.Lateral.{is_present, has_cross_section}
use Rattle.lanes_shape.proofs.lateral.has_cross_section.Goals as goal

four-more : (x a b c d : Bool) → x || (((a || b) || c) || d) ≡ (((x || a) || b) || c) || d
four-more true a b c d = refl
four-more false a b c d = refl

pub returns : goal.returns
unfolding any_below has_cross_section
returns c =
    let road = c.args.road.now in
    let p = λ (i : ℕ). is_present (strip_at road i) in
    let x = ltb 0 (length road.tshifts) in
    rw (c.is_empty.ensures, c.tshifts.ensures, not_empty (length road.tshifts)) (ap (λ (b : Bool). x || b) (any_range p 4 c.any.ensures.ran (λ x b q k. search rules)) ∙ four-more x (p 0) (p 1) (p 2) (p 3))
