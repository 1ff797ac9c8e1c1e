-- A side of a section at a station, as `Borders` takes it.
use Rattle.std.specs.Prelude.{ℕ, Bool, Float}
use Rattle.float_laws.specs.Binary64.{◌⊖◌}
use Rattle.records.specs.Roads.{Road, section_of}
use Rattle.lanes.specs.Sides.{sign_of}
use Rattle.lanes_borders.specs.declared.sides.SideAt.{SideAt}
use Rattle.lanes_borders.specs.Borders.{base_at, side_lanes}

-- the side of section i at s: `borders_of` is `borders_at` of its parts
abbrev pub side_at : Road → ℕ → Bool → Float → SideAt
side_at road i right s = record { lanes = side_lanes road i right; into = s ⊖ (section_of road i).start; sign = sign_of right; base = base_at road s }
