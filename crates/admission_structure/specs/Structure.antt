-- Document 01, row 3, "counts, references or order wrong": counts and references. They are tested on the lent words themselves, before anything is decoded:
-- "In a lent road a code that stands for no listed word, or a range past its slice's end, is 3", and so is a count over its limit or a slice shorter than the layout.
-- A range of no lines has to start inside its table or at its end. Ranges may overlap. The ranges of a strip that is not there are not read.
use Rattle.std.specs.Prelude.{ℕ, ◌+◌, ◌*◌, Bool, ◌&&◌, ◌||◌, List, length, get_or, eqb, Float}
use Rattle.std.proofs.Math.Dec.{leb, ltb}
use Rattle.records_lent.specs.Lists.{all_below}
use Rattle.records.specs.Layout.{geom_count_at, elev_count_at, bank_count_at, offset_count_at, tshift_count_at, section_count_at, profile_count_at, kind_words, section_words, section_stride, lane_words, lane_stride, profile_words, profile_stride, strip_words, strip_stride, words_needed, numbers_needed, most_geoms, most_elevs, most_banks, most_offsets, most_shifts, most_sections, most_lanes_a_side, most_lanes, most_extents_a_lane, most_extents, most_heights_a_lane, most_heights, most_profiles, most_shapes_a_profile, most_shapes, most_cubics_a_term, most_cubics, section_mark_words, section_mark_stride, mark_words, mark_stride, most_marks_a_section, most_marks}

-- "a range past its slice's end, is 3": least to most lines, inside a table of limit lines
abbrev pub range_ok : ℕ → ℕ → ℕ → ℕ → ℕ → Bool
range_ok least most limit first count = leb least count && leb count most && leb (first + count) limit

module _ (words : List ℕ) where
  -- a lent word, 0 past the end
  abbrev pub w : ℕ → ℕ
  w k = get_or words k 0

  -- "geom: .. (1..64)", "elev, bank, offset, tshift: .. (0..64 each)", "section: start (1..16)", "profile: s (0..16)"
  unfoldable pub counts_ok : Bool
  counts_ok = leb 1 (w geom_count_at) && leb (w geom_count_at) most_geoms && leb (w elev_count_at) most_elevs && leb (w bank_count_at) most_banks && leb (w offset_count_at) most_offsets && leb (w tshift_count_at) most_shifts && leb 1 (w section_count_at) && leb (w section_count_at) most_sections && leb (w profile_count_at) most_profiles

  -- "kind line, arc or spiral"
  unfoldable pub kinds_ok : Bool
  unfolding all_below
  kinds_ok = all_below (λ i. ltb (w (kind_words + i)) 3) (w geom_count_at)

  -- "extent width or border, level 0 or 1"; "extent: .. (0..16 a lane)", "height: .. (0..8 a lane)", 512 in all of each
  unfoldable pub lane_ok : ℕ → Bool
  lane_ok j =
      let k = lane_words + j * lane_stride in
      ltb (w k) 2 && ltb (w (k + 1)) 2 && range_ok 0 most_extents_a_lane most_extents (w (k + 2)) (w (k + 3)) && range_ok 0 most_heights_a_lane most_heights (w (k + 4)) (w (k + 5))

  -- "at most 6 a side", 192 lanes in all
  unfoldable pub section_ok : ℕ → Bool
  unfolding all_below lane_ok
  section_ok i =
      let k = section_words + i * section_stride in
      leb (w (k + 1)) most_lanes_a_side && leb (w (k + 2)) most_lanes_a_side && leb (w k + (w (k + 1) + w (k + 2))) most_lanes && all_below (λ j. lane_ok (w k + j)) (w (k + 1) + w (k + 2))

  -- "shape: .. (1..16 a profile; ..)", 256 in all
  unfoldable pub profile_ok : ℕ → Bool
  profile_ok i = let k = profile_words + i * profile_stride in range_ok 1 most_shapes_a_profile most_shapes (w k) (w (k + 1))

  -- "cubic: .. (term width or 0..3, .. 0..8 a term)", 160 in all: column 0 is the width, column c the term c - 1
  unfoldable pub column_ok : ℕ → ℕ → Bool
  column_ok i c = let k = strip_words + i * strip_stride + 1 + c * 2 in range_ok 0 most_cubics_a_term most_cubics (w k) (w (k + 1))

  -- presence 0, 1 or 2; the ranges of a strip that is absent are not read
  unfoldable pub strip_ok : ℕ → Bool
  unfolding all_below column_ok
  strip_ok i = let code = w (strip_words + i * strip_stride) in ltb code 3 && (eqb code 0 || all_below (column_ok i) 5)

  -- document 02, point 2: "at most 16 a section and 256 in all"; "any other wrong count, order, section or lane id is 3": each is on a lane of its section
  unfoldable pub marks_ok : ℕ → Bool
  unfolding all_below
  marks_ok i =
      let k = section_mark_words + i * section_mark_stride in
      let lanes = w (section_words + i * section_stride + 1) + w (section_words + i * section_stride + 2) in
      range_ok 0 most_marks_a_section most_marks (w k) (w (k + 1)) && all_below (λ j. ltb (w (mark_words + (w k + j) * mark_stride)) lanes) (w (k + 1))

  module _ (numbers : List Float) where
    -- both slices as long as the layout
    abbrev pub slices_ok : Bool
    slices_ok = leb words_needed (length words) && leb numbers_needed (length numbers)

    -- "counts, references or order wrong", but for the order
    unfoldable pub structured : Bool
    unfolding all_below counts_ok kinds_ok section_ok profile_ok strip_ok marks_ok
    structured =
        slices_ok && counts_ok && kinds_ok && all_below section_ok (w section_count_at) && all_below profile_ok (w profile_count_at) && all_below strip_ok 4 && all_below marks_ok (w section_count_at)
