-- Document 02, Point 4, of the call, for every road and whatever samples, its own or others. Three statements, at the end: `DotsAnswers`, where all rows pass the call answers; `DotsAnswered`, what holds of every answer; `DotsRefused`, a refusal changes nothing. The clauses of the second are the fields of `AnswerKept`.
-- Words from below: `dots_call`, the call, `dots_list`, the list afterwards, `lane_asked`, the lane of the id, `lane_rank`, its rank in the section, `dots_of`, the dots by the rule, `line_of`, the line, three f32 a station, `dot_rows`, rows 15 to 17, `spaced`, from 0.1 to 100 m (dots_calls, DotsCall); `Covering`, one of the section's marks has the station (records_marks, Covers); `NotBack`, at most a nanometre above, `StationsRise`, rising from 0 or more up to 10,000 or less (NeverBack).
use Rattle.std.specs.Prelude.{ℕ, ◌-◌, ◌/◌, ◌≤◌, ◌<◌, ◌≡◌, true, List, T, length, take, drop, get_or, ℤ, Some, Float}
use Rattle.std.specs.Float.{nan}
use Rattle.std.specs.Float.Ieee.{le, lt}
use Rattle.std.specs.Float.Ieee.Scale.{finite}
use Rattle.refusals.specs.Answer.{value, refused}
use Rattle.records.specs.declared.points.LanePlace.{LanePlace}
use Rattle.records.specs.Roads.{Road, road_of, section_of}
use Rattle.records_marks.specs.Covers.{Covering}
use Rattle.line_samples.specs.Samples.{samples_needed}
use Rattle.admission.specs.Limits.{section_end}
use Rattle.admission.specs.Admission.{admitted, pass}
use Rattle.admission_laws.specs.Fractions.{AllF64}
use Rattle.lanes_borders.specs.Borders.{side_lanes}
use Rattle.coordinates.specs.Points.{point_at}
use Rattle.tracks_laws.specs.TrackLaws.{IsF32, is_track}
use Rattle.dots.specs.Along.{nth_station}
use Rattle.dots.specs.Dots.{most_multiples, multiples_on, dotted_kind}
use Rattle.dots_calls.specs.DotsCall.{line_of, lane_rank, spaced, dots_of, dot_rows, lane_asked, dots_call, dots_list}
use Rattle.dots_laws.specs.NeverBack.{NotBack, StationsRise, StationsKept}
use Rattle.dots_laws.specs.DotsKept.{DotsKept}

-- ---- words

-- "2 to 512 strictly rising .. from the section's start to the next one's (the last's: to the road length), both allowed"
pub record StationsListed (road : Road) (i : ℕ) (stations : List Float) : Type 0 where
  pub least : 2 ≤ length stations
  pub most : length stations ≤ 512
  pub rise : StationsRise (nth_station stations) (length stations)
  pub from : T (le (section_of road i).start (nth_station stations 0))
  pub to : T (le (nth_station stations (length stations - 1)) (section_end road i))

-- a dot on a lane of section i, by the lane's rank: in the section, its end left out, and on a span of kind 1 of that lane
pub record DotPlaced (road : Road) (i rank : ℕ) (s : Float) : Type 0 where
  pub number : T (finite s)
  pub from : T (le (section_of road i).start s)
  pub below : T (lt s (section_end road i))
  pub span : Covering road i rank dotted_kind s

-- ---- an answer, n

module _ (words : List ℕ) (numbers samples : List Float) (i : ℕ) (lane : ℤ) (spacing : Float) (stations list : List Float) (n : ℕ) where
  abbrev road : Road
  road = road_of words numbers

  -- the list afterwards
  abbrev left : List Float
  left = dots_list words numbers samples i lane spacing stations list

  pub record AnswerKept : Type 0 where
    -- its rows passed: the road is admitted, there are whole fours enough, and the lane is one of section i
    pub road_passes : admitted words numbers ≡ true
    pub samples_pass : samples_needed road ≤ length samples / 4
    pub place : LanePlace
    pub lane_is : lane_asked words numbers samples i lane spacing stations ≡ Some place
    pub of_section : place.section ≡ i
    pub lane_there : place.k < length (side_lanes road i place.right)
    pub rows_pass : pass (dot_rows road samples spacing stations place (length list)) ≡ true
    -- which says of the spacing, the stations, the line and the number of multiples
    pub spacing_passes : spaced spacing ≡ true
    pub stations_pass : StationsListed road place.section stations
    pub line_passes : is_track (line_of road samples place stations) ≡ true
    pub few : multiples_on (point_at (line_of road samples place stations)) (nth_station stations) (length stations) spacing ≤ most_multiples
    -- so what holds of a track with a station list holds of the line, and of its dots: each multiple that is kept and no other
    pub line : StationsKept (point_at (line_of road samples place stations)) (nth_station stations) (length stations)
    pub rule : DotsKept road place.section (lane_rank road place) (point_at (line_of road samples place stations)) (nth_station stations) (length stations) spacing
    -- those are the first n elements of the list afterwards, and the others are as they were
    pub room : n ≤ length list
    pub same_length : length left ≡ length list
    pub dots : take n left ≡ dots_of road samples spacing stations place
    pub rest : drop n left ≡ drop n list
    -- each of them is placed, and of any two the later is at most a nanometre below
    pub placed : (k : ℕ) → k < n → DotPlaced road place.section (lane_rank road place) (get_or left k nan)
    pub never_back : (k j : ℕ) → k ≤ j → j < n → NotBack (get_or left k nan) (get_or left j nan)

-- ---- the statements

-- where all rows pass the call answers
abbrev pub DotsAnswers : Type 0
DotsAnswers =
    (words : List ℕ) (numbers samples : List Float) (i : ℕ) (lane : ℤ) (spacing : Float) (stations : List Float) (len : ℕ) (place : LanePlace)
    → admitted words numbers ≡ true → samples_needed (road_of words numbers) ≤ length samples / 4 → lane_asked words numbers samples i lane spacing stations ≡ Some place
    → pass (dot_rows (road_of words numbers) samples spacing stations place len) ≡ true
    → dots_call words numbers samples i lane spacing stations len ≡ value (length (dots_of (road_of words numbers) samples spacing stations place))

-- and of every answer so much holds
abbrev pub DotsAnswered : Type 0
DotsAnswered =
    (words : List ℕ) (numbers samples : List Float) (i : ℕ) (lane : ℤ) (spacing : Float) (stations list : List Float) → AllF64 numbers → IsF32 spacing → AllF64 stations
    → (n : ℕ) → dots_call words numbers samples i lane spacing stations (length list) ≡ value n → AnswerKept words numbers samples i lane spacing stations list n

-- and a refusal changes nothing
abbrev pub DotsRefused : Type 0
DotsRefused =
    (words : List ℕ) (numbers samples : List Float) (i : ℕ) (lane : ℤ) (spacing : Float) (stations list : List Float) (m : ℕ)
    → dots_call words numbers samples i lane spacing stations (length list) ≡ refused m → dots_list words numbers samples i lane spacing stations list ≡ list
