-- Document 01, "The job text": the parent of a line. "Lines of a child table follow their parents' order; a parent that does not exist is 3."
-- A whole number n is held as whole_bias + n, a word of a list as its place there. Read `lane_turn` and, at the end, `parent_of` first.
use Rattle.std.specs.Prelude.{ℕ, ◌+◌, ◌-◌, ◌*◌, ◌%◌, Bool, ◌&&◌, cond, List, Option, Some, None, is_some, unwrap_or, option_map, option_and_then, get_or, eqb, ltb, leb}
use Rattle.records.specs.Layout.{section_count_at, profile_count_at, section_words, section_stride, strip_stride}
use Rattle.reader_cells.specs.Cells.{whole_bias}
use Rattle.reader_lines.specs.Columns.{cell_of}
use Rattle.reader_lines.specs.declared.columns.Cells.{Cells}
use Rattle.reader_store.specs.Layout.{line_of, ranges_of}
use Rattle.reader_store.specs.Progress.{strip_of, strip_line}
use Rattle.reader_store.specs.declared.layout.Lines.{Lines}
use Rattle.reader_store.specs.declared.layout.Family.{Family}
use Rattle.reader_store.specs.declared.layout.Family.TheVariants.{Shape, Cubic, Mark}
use Rattle.reader_store.specs.declared.parents.Ranked.{Ranked}
use Rattle.reader_store.specs.declared.parents.Counted.{Counted}
use Rattle.reader_store.specs.declared.parents.SectionRecord.{SectionRecord}

-- A parent that is there is `Ranked`: its rank in the order that children follow, and its index in memory. Where a line is counted is `Counted`: its parent's
-- rank, the word for the parent's first line where the parent has none yet, and the word for the count.

-- the i-th of parents that are ranked by their indices
abbrev pub index_at : ℕ → Ranked
index_at i = record { rank = i; index = i }

-- a place, if a test holds: the word for the first line of a parent that has none yet
abbrev pub first_if : Bool → ℕ → Option ℕ
first_if fresh place = cond fresh (Some place) None

-- "section counts from 0", and so do profiles: one of n parents
unfoldable pub ranked_among : ℕ → ℕ → Option Ranked
ranked_among number n = cond (ltb number whole_bias) None (cond (leb n (number - whole_bias)) None (Some (index_at (number - whole_bias))))

-- the section that a line names
abbrev pub section_at : List ℕ → ℕ → Option Ranked
section_at ws section = ranked_among section (get_or ws section_count_at 0)

-- the ids 1 and -1, the first of each side, as they are held
abbrev pub first_left : ℕ
first_left = whole_bias + 1

abbrev pub first_right : ℕ
first_right = whole_bias - 1

-- which words of a section's record count its left lanes and its right ones
abbrev pub left_word : ℕ
left_word = 1

abbrev pub right_word : ℕ
right_word = 2

-- the record of a section: its first lane, how many left, how many right
abbrev pub section_with : ℕ → ℕ → ℕ → SectionRecord
section_with first left right = record { first = first; left = left; right = right }

-- "Per section ids 1,2.. left then -1,-2.. right": the word that counts the side which a lane of a section adds to; none where it is not this id's turn
unfoldable pub side_word : SectionRecord → ℕ → Option ℕ
side_word section id =
    cond (eqb id (section.left + first_left) && eqb section.right 0) (Some left_word) (cond (eqb (id + section.right + 1) whole_bias) (Some right_word) None)

-- where the record of section s begins
abbrev pub section_word : ℕ → ℕ
section_word s = section_words + section_stride * s

-- the record of section s
abbrev pub section_record : List ℕ → ℕ → SectionRecord
section_record ws s = section_with (get_or ws (section_word s) 0) (get_or ws (section_word s + left_word) 0) (get_or ws (section_word s + right_word) 0)

-- a lane of a side under its section
abbrev pub lane_beside : List ℕ → Ranked → ℕ → Counted
lane_beside ws s side =
    record {
      rank = s.rank;
      first = first_if (eqb (section_record ws s.index).left 0 && eqb (section_record ws s.index).right 0) (section_word s.index);
      count = section_word s.index + side;
    }

-- a lane under its section, if it is this id's turn
abbrev pub lane_under : List ℕ → ℕ → Ranked → Option Counted
lane_under ws id s = option_map (lane_beside ws s) (side_word (section_record ws s.index) id)

-- a lane under the section that the line names, if it is this id's turn
unfoldable pub lane_turn : List ℕ → ℕ → ℕ → Option Counted
lane_turn ws section id = option_and_then (lane_under ws id) (section_at ws section)

-- The lane with an id, of a section by its record: left ones come first. No lane has the id 0.
unfoldable pub lane_among : SectionRecord → ℕ → Option Ranked
lane_among section id =
    cond (eqb id whole_bias) None
    (cond (ltb whole_bias id)
    (cond (ltb (section.left + whole_bias) id) None (Some (index_at (section.first + (id - first_left)))))
    (cond (ltb (id + section.right) whole_bias) None (Some (index_at (section.first + section.left + (first_right - id))))))

-- the lane with an id, of a section
abbrev pub lane_within : List ℕ → ℕ → Ranked → Option Ranked
lane_within ws id s = lane_among (section_record ws s.index) id

-- the lane with an id, of the section that the line names
unfoldable pub lane_index : List ℕ → ℕ → ℕ → Option Ranked
lane_index ws section id = option_and_then (lane_within ws id) (section_at ws section)

-- The place of a mark's lane in its section, counted from 0: `lane_among` with 0 as the first lane.
abbrev pub mark_lane_in : List ℕ → ℕ → Ranked → Option Ranked
mark_lane_in ws id s = lane_among (section_with 0 (section_record ws s.index).left (section_record ws s.index).right) id

-- The place of a mark's lane in the section that the line names. Where that is not there section 0 stands in for it: a mark's words are kept all the same, and its
-- lane's means nothing.
unfoldable pub mark_lane : List ℕ → ℕ → ℕ → Option Ranked
mark_lane ws section id = mark_lane_in ws id (unwrap_or (section_at ws section) (index_at 0))

-- a mark under its section: the section exists, and it has the lane. Document 02, point 2: "any other wrong .. section or lane id is 3"
abbrev pub mark_within : List ℕ → ℕ → Ranked → Option Ranked
mark_within ws id s = cond (is_some (mark_lane_in ws id s)) (Some s) None

unfoldable pub mark_index : List ℕ → ℕ → ℕ → Option Ranked
mark_index ws section id = option_and_then (mark_within ws id) (section_at ws section)

-- a strip's width and its terms 0 to 3; a cell that names one is its place among them, so the remainder changes no such cell
abbrev pub term_count : ℕ
term_count = 5

abbrev pub term_in : ℕ → ℕ
term_in cell = cell % term_count

-- a term of a strip that has a line
abbrev pub term_at : ℕ → ℕ → ℕ → Ranked
term_at strip term line = record { rank = line * term_count + term; index = strip * strip_stride + term * 2 }

-- A term of a strip: "term width or 0..3, a strip's in that order". The rank goes by the strip's line in its table, so that cubics follow the order
-- that the text gives the strips; the index goes by the strip's fixed place. A strip without a line has no cubics.
unfoldable pub term_of : List (Option ℕ) → ℕ → ℕ → ℕ → Option Ranked
term_of strips side place term = option_map (term_at (strip_of side place) (term_in term)) (strip_line strips (strip_of side place))

-- the parent that a line's first columns name: of a cubic side, place and term, of a shape the profile, of a mark the section, of extents and heights section and id
unfoldable pub index_of : List ℕ → Family → Cells → List (Option ℕ) → Option Ranked
index_of ws Cubic cells strips = term_of strips (cell_of cells 0) (cell_of cells 1) (cell_of cells 2)
index_of ws Shape cells strips = ranked_among (cell_of cells 0) (get_or ws profile_count_at 0)
index_of ws Mark cells strips = mark_index ws (cell_of cells 0) (cell_of cells 1)
index_of ws family cells strips = lane_index ws (cell_of cells 0) (cell_of cells 1)

-- a parent's range (first, count) of lines: a line is the first where the count is 0
unfoldable pub range_of : List ℕ → Lines → Ranked → Counted
range_of ws ranges at =
    record {
      rank = at.rank;
      first = first_if (eqb (get_or ws (line_of ranges at.index + 1) 0) 0) (line_of ranges at.index);
      count = line_of ranges at.index + 1;
    }

-- the parent of a line that its parent has a range of, by the family of its table
unfoldable pub parent_of : List ℕ → Family → Cells → List (Option ℕ) → Option Counted
parent_of ws family cells strips = option_map (range_of ws (ranges_of family)) (index_of ws family cells strips)
