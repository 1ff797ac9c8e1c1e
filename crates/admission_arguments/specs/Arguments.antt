-- Document 01, "What a call gives back": the rows of a place on a road.
use Rattle.std.specs.Prelude.{Bool, Float}
use Rattle.std.specs.Float.Ieee.{neg}
use Rattle.float_laws.specs.Binary64.{f64}
use Rattle.refusals.specs.Answer.{Row, row}
use Rattle.refusals.specs.declared.refusals.Refusal.TheVariants.{Station, Offset}
use Rattle.records.specs.Roads.{Road}
use Rattle.arithmetic_ranges.specs.Ranges.{in_range}
use Rattle.admission.specs.Limits.{on_road}

-- row 7: "s outside 0..length"
abbrev pub station_row : Road → Float → Row
station_row road s = row Station (on_road road s)

-- "t outside -80..80": half of the road's width
abbrev pub half_width : Float
half_width = f64 0x4054_0000_0000_0000

-- row 8: "t outside -80..80"
abbrev pub across_road : Float → Bool
across_road t = in_range (neg half_width) half_width t

abbrev pub across_row : Float → Row
across_row t = row Offset (across_road t)
