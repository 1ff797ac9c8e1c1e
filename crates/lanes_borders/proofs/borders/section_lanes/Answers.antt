-- `section_lanes`: the left lanes, then the right ones; each count is a word, so the sum fits.
use native.Mathlib.Omega.{arith}
use Rattle.lanes_borders.proofs.borders.section_lanes.Goals as goal

pub returns : goal.returns
returns c = omega (arith, c.lane_count.ensures.value, c.lane_count-2.ensures.value)
