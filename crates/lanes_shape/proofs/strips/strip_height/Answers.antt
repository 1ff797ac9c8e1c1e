-- `strip_height`: by the four terms.
use Rattle.lanes.specs.Lateral.{strip_height}
use Rattle.lanes_shape.proofs.strips.strip_height.Goals as goal

pub returns : goal.returns
unfolding strip_height
returns c =
    rw (c.value-c3.ensures, c.value-c2.ensures, c.value-c1.ensures, c.value-c0.ensures, c.term.ensures, c.term-2.ensures, c.term-3.ensures, c.term-4.ensures)
