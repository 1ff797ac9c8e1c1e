-- `lane_borders`: the borders from where the lanes inside it end.
use Rattle.lanes_borders.specs.Borders.{borders_at}
use Rattle.lanes_borders.proofs.borders.lane_borders.Goals as goal

pub returns : goal.returns
unfolding borders_at
returns c = rw (c.border.ensures, c.outer_after.ensures, c.new-side.ensures)
