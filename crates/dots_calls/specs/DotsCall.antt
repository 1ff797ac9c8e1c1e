-- Document 02, Point 4: the call that dots a lane, rows 3 4 5 6 10 15 16 17. "Given a section, a lane of it, an f32 spacing .. and the section's station list": read `dots_call` and `dots_list`.
use Rattle.std.specs.Prelude.{ℕ, zero, suc, ◌+◌, ◌-◌, Bool, true, ◌&&◌, cond, List, [], ◌∷◌, ◌++◌, length, leb, ℤ, Option, Some, None, Float}
use Rattle.std.specs.Float.Ieee.{lt, le}
use Rattle.float_laws.specs.Binary32.{f32}
use Rattle.refusals.specs.Answer.{Answer, value, refused, Row, row, checked}
use Rattle.refusals.specs.LentLists.{list_left}
use Rattle.refusals.specs.Refusal.{number_of}
use Rattle.refusals.specs.declared.refusals.Refusal.TheVariants.{Lane, Spacing, StationList, DotSpace}
use Rattle.arithmetic_ranges.specs.Ranges.{in_range}
use Rattle.records.specs.declared.points.Point.{Point}
use Rattle.records.specs.declared.points.LanePlace.{LanePlace}
use Rattle.records.specs.Roads.{Road, road_of, section_of}
use Rattle.admission.specs.Admission.{road_rows, pass}
use Rattle.admission.specs.Limits.{section_end}
use Rattle.line_calls.specs.SampleCall.{sample_row}
use Rattle.lanes_borders.specs.Borders.{borders_of}
use Rattle.surface_points.specs.Surfaces.{narrowed_point, lane_surface_at}
use Rattle.surface_calls.specs.SurfaceCalls.{place_of_id, lane_there}
use Rattle.coordinates.specs.Points.{point_at}
use Rattle.tracks_calls.specs.TrackCalls.{track_rows}
use Rattle.dots.specs.Along.{nth_station}
use Rattle.dots.specs.Dots.{dots_on, dots_fit}

-- ---- the section's station list

-- "2 to 512 .. f64 values"
abbrev pub least_stations : ℕ
least_stations = 2

abbrev pub most_stations : ℕ
most_stations = 512

-- "strictly rising": each of the first k after the first is above the one before it
unfoldable pub rising : (ℕ → Float) → ℕ → Bool
rising c zero = true
rising c (suc k) = rising c k && lt (c k) (c (suc k))

-- "from the section's start to the next one's .., both allowed"; NaN fails
unfoldable pub stations_listed : Road → ℕ → List Float → Bool
unfolding rising
stations_listed road i stations =
    leb least_stations (length stations) && leb (length stations) most_stations
    && rising (nth_station stations) (length stations - 1)
    && le (section_of road i).start (nth_station stations 0)
    && le (nth_station stations (length stations - 1)) (section_end road i)

-- ---- the line: "the lane surface points of that section at the lane's outer border"

module _ (road : Road) (samples : List Float) (p : LanePlace) where
  -- the listed outer border at s, in the section that is given and not in that at s
  abbrev pub border_t : Float → Float
  border_t s = (borders_of road p.section s p.right p.k).outer

  -- the lane's surface there, narrowed
  abbrev pub border_point : Float → Point
  border_point s = (narrowed_point (lane_surface_at road samples p.section p.right p.k s (border_t s))).point

  -- three f32 a station, the first n of them
  unfoldable pub line_numbers : (ℕ → Float) → ℕ → List Float
  unfolding lane_surface_at
  line_numbers c zero = []
  line_numbers c (suc k) = line_numbers c k ++ ((border_point (c k)).x ∷ (border_point (c k)).y ∷ (border_point (c k)).z ∷ [])

  -- of all stations
  abbrev pub line_of : List Float → List Float
  line_of stations = line_numbers (nth_station stations) (length stations)

-- a lane's rank in its section, left ones outward, then right ones, as a mark names it
abbrev pub lane_rank : Road → LanePlace → ℕ
lane_rank road p = cond p.right (length (section_of road p.section).left + p.k) p.k

-- ---- the rows after the lane's

-- "an f32 spacing from 0.1 to 100 m": the nearest f32
abbrev pub least_spacing : Float
least_spacing = f32 0x3dcc_cccd

abbrev pub greatest_spacing : Float
greatest_spacing = f32 0x42c8_0000

abbrev pub spaced : Float → Bool
spaced spacing = in_range least_spacing greatest_spacing spacing

-- row 15: "spacing outside or NaN"
abbrev pub spacing_row : Float → Row
spacing_row spacing = row Spacing (spaced spacing)

module _ (road : Road) (samples : List Float) (spacing : Float) (stations : List Float) where
  -- the line is a track
  abbrev pub line_ok : LanePlace → Bool
  line_ok p = pass (track_rows (line_of road samples p stations))

  -- row 16: "station list wrong or a line that is no track under Point 1"
  abbrev pub stations_row : LanePlace → Row
  stations_row p = row StationList (stations_listed road p.section stations && line_ok p)

  -- the dots of a lane
  abbrev pub dots_of : LanePlace → List Float
  dots_of p = dots_on road p.section (lane_rank road p) (point_at (line_of road samples p stations)) (nth_station stations) (length stations) spacing

  -- row 17: "the lent dot list shorter than the dots kept or more than 65,536 multiples"
  abbrev pub fit_row : LanePlace → ℕ → Row
  fit_row p len = row DotSpace (dots_fit road p.section (lane_rank road p) (point_at (line_of road samples p stations)) (nth_station stations) (length stations) spacing len)

  -- rows 15, 16 and 17
  abbrev pub dot_rows : LanePlace → ℕ → List Row
  dot_rows p len = spacing_row spacing ∷ stations_row p ∷ fit_row p len ∷ []

  -- how many dots are kept, or the refusal; row 10 where there is no such lane
  abbrev pub dots_by : Option LanePlace → ℕ → Answer ℕ
  dots_by None len = refused (number_of Lane)
  dots_by (Some p) len = checked (dot_rows p len) (value (length (dots_of p)))

  -- and the list afterwards
  abbrev pub dots_left : Option LanePlace → List Float → List Float
  dots_left None list = list
  dots_left (Some p) list = list_left true (dots_of p) list

-- ---- the call

module _ (words : List ℕ) (numbers samples : List Float) (i : ℕ) (lane : ℤ) (spacing : Float) (stations : List Float) where
  abbrev pub lane_asked : Option LanePlace
  lane_asked = lane_there (road_of words numbers) (place_of_id i lane)

  -- rows 3, 4, 5 and 6
  abbrev pub first_rows : List Row
  first_rows = road_rows words numbers ++ (sample_row words numbers (length samples) ∷ [])

  -- how many dots are written, or the refusal
  unfoldable pub dots_call : ℕ → Answer ℕ
  unfolding place_of_id lane_there line_numbers stations_listed dots_on
  dots_call len = checked first_rows (dots_by (road_of words numbers) samples spacing stations lane_asked len)

  -- the list afterwards: a refusal changes nothing
  abbrev pub dots_written : Answer ℕ → List Float → List Float
  dots_written (value n) list = dots_left (road_of words numbers) samples spacing stations lane_asked list
  dots_written (refused n) list = list

  unfoldable pub dots_list : List Float → List Float
  unfolding dots_call
  dots_list list = dots_written (dots_call (length list)) list

-- ---- what a private function promises, once the spacing and the station list have passed

abbrev pub line_rows : Road → List Float → Float → List Float → LanePlace → ℕ → List Row
line_rows road samples spacing stations p len = row StationList (line_ok road samples spacing stations p) ∷ fit_row road samples spacing stations p len ∷ []
