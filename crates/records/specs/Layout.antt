-- Where a lent road's tables stand: `numbers` has the f64 columns, `words` the counts, codes and ranges. Document 01 leaves the layout free; docs/MEMORY.md is the same table for whoever lends a road.
-- A table has a first place, a stride (places a line) and a limit (lines). Limits are those of document 01, "The job text", and of document 02 for marks.
use Rattle.std.specs.Prelude.{ℕ}
pub use Rattle.records_cubic.specs.Cubics.{cubic_stride}

-- ---- numbers: the road's length, then the tables

abbrev pub length_place : ℕ
length_place = 0

abbrev pub geom_base : ℕ
geom_base = 1

abbrev pub geom_stride : ℕ
geom_stride = 7

abbrev pub elev_base : ℕ
elev_base = 449

abbrev pub bank_base : ℕ
bank_base = 769

abbrev pub offset_base : ℕ
offset_base = 1089

abbrev pub tshift_base : ℕ
tshift_base = 1409

abbrev pub section_base : ℕ
section_base = 1729

abbrev pub extent_base : ℕ
extent_base = 1745

abbrev pub height_base : ℕ
height_base = 4305

abbrev pub profile_base : ℕ
profile_base = 5841

abbrev pub shape_base : ℕ
shape_base = 5857

abbrev pub cubic_base : ℕ
cubic_base = 7137

abbrev pub span_base : ℕ
span_base = 7937

-- "a lent road slice is shorter than the limits need": the numbers that they need
abbrev pub numbers_needed : ℕ
numbers_needed = 8449

-- a height is three numbers, the span of a mark two; a cubic's are beside its definition
abbrev pub height_stride : ℕ
height_stride = 3

abbrev pub span_stride : ℕ
span_stride = 2

-- ---- words: how many lines seven of the tables have, then the tables

abbrev pub geom_count_at : ℕ
geom_count_at = 0

abbrev pub elev_count_at : ℕ
elev_count_at = 1

abbrev pub bank_count_at : ℕ
bank_count_at = 2

abbrev pub offset_count_at : ℕ
offset_count_at = 3

abbrev pub tshift_count_at : ℕ
tshift_count_at = 4

abbrev pub section_count_at : ℕ
section_count_at = 5

abbrev pub profile_count_at : ℕ
profile_count_at = 6

-- the kind of each geometry
abbrev pub kind_words : ℕ
kind_words = 7

-- a section: first lane, left lanes, right lanes
abbrev pub section_words : ℕ
section_words = 71

abbrev pub section_stride : ℕ
section_stride = 3

-- a lane: extent code, level code, first extent, extents, first height, heights
abbrev pub lane_words : ℕ
lane_words = 119

abbrev pub lane_stride : ℕ
lane_stride = 6

-- a profile: first shape, shapes
abbrev pub profile_words : ℕ
profile_words = 1271

abbrev pub profile_stride : ℕ
profile_stride = 2

-- a strip (left inner, left outer, right inner, right outer): presence code, then first and count of its width's cubics and of its four terms'
abbrev pub strip_words : ℕ
strip_words = 1303

abbrev pub strip_stride : ℕ
strip_stride = 11

-- a section's marks: first mark, marks. They stand apart from its lanes, so that the places before them are those of roads without marks
abbrev pub section_mark_words : ℕ
section_mark_words = 1347

abbrev pub section_mark_stride : ℕ
section_mark_stride = 2

-- a mark: the place of its lane among those of its section, its kind
abbrev pub mark_words : ℕ
mark_words = 1379

abbrev pub mark_stride : ℕ
mark_stride = 2

-- likewise the words
abbrev pub words_needed : ℕ
words_needed = 1891

-- ---- wants: s and t of each, as bit patterns; reading a text fills them beside the road

abbrev pub want_stride : ℕ
want_stride = 2

abbrev pub wants_needed : ℕ
wants_needed = 32

-- ---- how many lines each table has at most, and a parent under it: "in all: lane 192, extent 512, height 512, shape 256, strip 4, cubic 160"

-- "geom: .. (1..64)"
abbrev pub most_geoms : ℕ
most_geoms = 64

-- "elev, bank, offset, tshift: .. (0..64 each)"
abbrev pub most_elevs : ℕ
most_elevs = 64

abbrev pub most_banks : ℕ
most_banks = 64

abbrev pub most_offsets : ℕ
most_offsets = 64

abbrev pub most_shifts : ℕ
most_shifts = 64

-- "section: start (1..16)"; lanes "at most 6 a side"
abbrev pub most_sections : ℕ
most_sections = 16

abbrev pub most_lanes_a_side : ℕ
most_lanes_a_side = 6

abbrev pub most_lanes : ℕ
most_lanes = 192

-- "extent: .. (0..16 a lane). height: .. (0..8 a lane)"
abbrev pub most_extents_a_lane : ℕ
most_extents_a_lane = 16

abbrev pub most_extents : ℕ
most_extents = 512

abbrev pub most_heights_a_lane : ℕ
most_heights_a_lane = 8

abbrev pub most_heights : ℕ
most_heights = 512

-- "profile: s (0..16). shape: .. (1..16 a profile; ..)"
abbrev pub most_profiles : ℕ
most_profiles = 16

abbrev pub most_shapes_a_profile : ℕ
most_shapes_a_profile = 16

abbrev pub most_shapes : ℕ
most_shapes = 256

-- "cubic: .. 0..8 a term"
abbrev pub most_cubics_a_term : ℕ
most_cubics_a_term = 8

abbrev pub most_cubics : ℕ
most_cubics = 160

-- document 02, point 2: "mark: .. at most 16 a section and 256 in all"
abbrev pub most_marks_a_section : ℕ
most_marks_a_section = 16

abbrev pub most_marks : ℕ
most_marks = 256

-- "want: s t (0..16)"
abbrev pub most_wants : ℕ
most_wants = 16
