-- Document 01, row 3: order. "First geom and first section start at 0; sections rise strictly, other starts never fall; profiles, and heights of a lane, are at least 0.001 apart; .. a NaN compared failing it".
-- Every test is a comparison that passes, so a NaN in it fails; where a list has one line nothing is compared. "At least 0.001 apart" is the f64 difference that `shape_at` and `height_at` make.
use Rattle.std.specs.Prelude.{ℕ, ◌+◌, ◌-◌, Bool, true, false, not, ◌&&◌, ◌||◌, List, length, eqb, Float}
use Rattle.std.specs.Float.Ieee.{le, lt, eq}
use Rattle.float_laws.specs.Binary64.{◌⊖◌, f64, zero64}
use Rattle.records_cubic.specs.declared.cubics.Cubic.{Cubic}
use Rattle.records.specs.declared.points.Mark.{Mark}
use Rattle.records_lent.specs.Lists.{all_below}
use Rattle.records_cubic.specs.Cubics.{cubic_at}
use Rattle.records.specs.Roads.{Road, Lane, Strip, geom_at, section_of, lane_of, profile_at, strip_at, column_of, height_def_at, mark_at}

-- "at least 0.001 apart"
abbrev pub least_gap : Float
least_gap = f64 0x3f50_624d_d2f1_a9fc

-- "other starts never fall": of n starts, each and the next
unfoldable pub never_fall : (ℕ → Float) → ℕ → Bool
unfolding all_below
never_fall start n = all_below (λ i. le (start i) (start (i + 1))) (n - 1)

-- "sections rise strictly"
unfoldable pub rise_strictly : (ℕ → Float) → ℕ → Bool
unfolding all_below
rise_strictly start n = all_below (λ i. lt (start i) (start (i + 1))) (n - 1)

-- "at least 0.001 apart"
unfoldable pub apart : (ℕ → Float) → ℕ → Bool
unfolding all_below
apart start n = all_below (λ i. le least_gap (start (i + 1) ⊖ start i)) (n - 1)

-- of cubics: "other starts never fall"
unfoldable pub cubics_in_order : List Cubic → Bool
unfolding never_fall
cubics_in_order cs = never_fall (λ i. (cubic_at cs i).start) (length cs)

-- "heights of a lane, are at least 0.001 apart"; its extents never fall
unfoldable pub lane_in_order : Lane → Bool
unfolding cubics_in_order apart
lane_in_order lane = cubics_in_order lane.extents && apart (λ i. (height_def_at lane.heights i).s_offset) (length lane.heights)

-- a section's lanes, left and right
unfoldable pub section_in_order : Road → ℕ → Bool
unfolding all_below lane_in_order
section_in_order road i =
    all_below (λ k. lane_in_order (lane_of road i false k)) (length (section_of road i).left)
    && all_below (λ k. lane_in_order (lane_of road i true k)) (length (section_of road i).right)

-- "profiles, .. are at least 0.001 apart"; the shapes of each never fall
unfoldable pub profiles_in_order : Road → Bool
unfolding all_below apart cubics_in_order
profiles_in_order road =
    apart (λ i. (profile_at road i).s) (length road.profiles)
    && all_below (λ i. cubics_in_order (profile_at road i).shapes) (length road.profiles)

-- a strip's width and its four terms, each for itself
unfoldable pub strip_in_order : Strip → Bool
unfolding all_below cubics_in_order
strip_in_order strip = all_below (λ c. cubics_in_order (column_of strip c)) 5

-- document 02, point 2: "starts never falling per id": of two marks on one lane the later starts no earlier, whatever stands between them
abbrev pub starts_in_order : Mark → Mark → Bool
starts_in_order a b = not (eqb a.lane b.lane) || le a.start b.start

unfoldable pub marks_in_order : Road → ℕ → Bool
unfolding all_below
marks_in_order road i = all_below (λ j. all_below (λ h. starts_in_order (mark_at road i h) (mark_at road i j)) j) (length (section_of road i).marks)

-- "First geom and first section start at 0", and the order of every list
unfoldable pub ordered : Road → Bool
unfolding all_below never_fall rise_strictly cubics_in_order section_in_order profiles_in_order strip_in_order marks_in_order
ordered road =
    eq (geom_at road 0).s zero64
    && eq (section_of road 0).start zero64
    && never_fall (λ i. (geom_at road i).s) (length road.geoms)
    && rise_strictly (λ i. (section_of road i).start) (length road.sections)
    && cubics_in_order road.elevations
    && cubics_in_order road.superelevations
    && cubics_in_order road.offsets
    && cubics_in_order road.tshifts
    && all_below (section_in_order road) (length road.sections)
    && profiles_in_order road
    && all_below (λ i. strip_in_order (strip_at road i)) 4
    && all_below (marks_in_order road) (length road.sections)
