-- Document 02, Point 4: the dots on a line. "place a dot at each multiple of the spacing along them, .. from 0 to the line's f32 length, which is `along` at the last station"; "dots that no span of kind 1 on that lane covers are left out". Read `dots_on`.
use Rattle.std.specs.Prelude.{ℕ, zero, suc, ◌+◌, ◌-◌, Bool, ◌&&◌, cond, List, [], ◌∷◌, ◌++◌, length, leb, pos, Option, Some, None, Float}
use Rattle.std.specs.Float.{binary32}
use Rattle.std.specs.Float.Ieee.{of_int}
use Rattle.float_laws.specs.Binary32.{◌⊗◌}
use Rattle.records.specs.declared.points.Point.{Point}
use Rattle.records.specs.Roads.{Road}
use Rattle.records_marks.specs.Covers.{covered}
use Rattle.tracks.specs.Poses.{leading_from}
use Rattle.dots.specs.Along.{along, station_at}

-- ---- the multiples

-- "Each multiple is k × spacing as one f32 product", k from 0 on
abbrev pub multiple : Float → ℕ → Float
multiple spacing k = of_int binary32 (pos k) ⊗ spacing

-- "65,536 multiples"
abbrev pub most_multiples : ℕ
most_multiples = 65536

-- how many of them are at most the length, up to the first that is not; counting ends at 65,537
unfoldable pub multiples : Float → Float → ℕ
multiples spacing len = leading_from (multiple spacing) len 0 (most_multiples + 1)

-- ---- the dots

-- of the first m stations those that are kept, in order
unfoldable pub kept_of : (ℕ → Float) → (Float → Bool) → ℕ → List Float
kept_of at keep zero = []
kept_of at keep (suc k) = kept_of at keep k ++ cond (keep (at k)) (at k ∷ []) []

-- the kind of a span that is dotted
abbrev pub dotted_kind : ℕ
dotted_kind = 1

-- some span of kind 1 covers a lane of section i at s; the lane by its rank in the section, left ones outward, then right ones, as a mark names it
abbrev pub is_dotted : Road → ℕ → ℕ → Float → Bool
is_dotted road i rank s = covered road i rank dotted_kind s

module _ (p : ℕ → Point) (c : ℕ → Float) (n : ℕ) (spacing : Float) where
  -- the line's length
  abbrev pub line_length : Float
  line_length = along p c n (c (n - 1))

  -- how many multiples it has
  abbrev pub multiples_on : ℕ
  multiples_on = multiples spacing line_length

  -- the station of the k-th
  abbrev pub station_of_multiple : ℕ → Float
  station_of_multiple k = station_at p c n (multiple spacing k)

module _ (road : Road) (i rank : ℕ) (p : ℕ → Point) (c : ℕ → Float) (n : ℕ) (spacing : Float) where
  -- of the first m stations those that a span covers
  abbrev pub dots_to : ℕ → List Float
  dots_to m = kept_of (station_of_multiple p c n spacing) (is_dotted road i rank) m

  -- of all
  unfoldable pub dots_on : List Float
  dots_on = dots_to (multiples_on p c n spacing)

  -- at most 65,536 multiples, and room for the dots that are kept in a list of len
  abbrev pub dots_fit : ℕ → Bool
  dots_fit len = leb (multiples_on p c n spacing) most_multiples && leb (length dots_on) len

-- what private functions promise of the k-th multiple: its station where it is kept
abbrev pub dot_by : (Float → Bool) → Float → Option Float
dot_by keep s = cond (keep s) (Some s) None
