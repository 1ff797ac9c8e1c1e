-- The layout of a road in lent memory by table, and the cells of one line put into it. Document 01: "`Vec` fields become ranges in lent slices".
-- Where each table stands is said once, in crate records (specs/Layout).
-- numbers: length; geom; elev; bank; offset; tshift; section starts; extents; heights; profiles; shapes; cubics; spans of marks, each at its table's limit.
-- words: seven counts; a kind for each geometry; (first lane, left, right) of each section; (extent, level, extents' range, heights' range) of each lane;
-- the shapes' range of each profile; (presence, and the ranges of width and of the terms 0 to 3) of each of four strips; the marks' range of each section;
-- (lane, kind) of each mark. wants: the patterns of s and t.
-- Line k of a table is at most the 512th here (the tables' limits are tested before a line is kept), so every index and count is small.
use Rattle.std.specs.Prelude.{ℕ, ◌+◌, ◌*◌, cond, List, [], ◌∷◌, Option, Some, None, set, eqb, ltb, Float}
use Rattle.std.specs.Float.{binary64}
use Rattle.std.specs.Float.Ieee.{of_bits}
use Rattle.records.specs.Layout.{length_place, geom_base, geom_stride, elev_base, bank_base, offset_base, tshift_base, section_base, extent_base, height_base, profile_base, shape_base, cubic_base, cubic_stride, height_stride, geom_count_at, elev_count_at, bank_count_at, offset_count_at, tshift_count_at, section_count_at, profile_count_at, kind_words, lane_words, lane_stride, profile_words, profile_stride, strip_words, span_base, span_stride, section_mark_words, section_mark_stride, want_stride}
use Rattle.reader_schema.specs.Tables.{road_table, geom_table, elev_table, bank_table, offset_table, tshift_table, section_table, lane_table, extent_table, height_table, profile_table, shape_table, strip_table, cubic_table, mark_table, want_table}
use Rattle.reader_store.specs.declared.layout.Lines.{Lines}
use Rattle.reader_store.specs.declared.layout.Family.{Family}
use Rattle.reader_store.specs.declared.layout.Family.TheVariants.{Extent, Height, Shape, Cubic, Mark}
use Rattle.reader_store.specs.declared.layout.Rule.{Rule}
use Rattle.reader_store.specs.declared.layout.Rule.TheVariants.{Strip, Lane, Child}
use Rattle.reader_lines.specs.Columns.{cell_of}
use Rattle.reader_lines.specs.declared.columns.Cells.{Cells}

-- where lines stand in a slice: the first, and how far each is from the one before
abbrev pub spaced : ℕ → ℕ → Lines
spaced first stride = record { first = first; stride = stride }

-- where line k begins
abbrev pub line_of : Lines → ℕ → ℕ
line_of lines k = lines.first + k * lines.stride

-- the numbers of each table; a lane, a strip and a want have none
unfoldable pub number_lines : ℕ → Lines
number_lines table =
    cond (eqb table road_table) (spaced length_place 1)
    (cond (eqb table geom_table) (spaced geom_base geom_stride)
    (cond (eqb table elev_table) (spaced elev_base cubic_stride)
    (cond (eqb table bank_table) (spaced bank_base cubic_stride)
    (cond (eqb table offset_table) (spaced offset_base cubic_stride)
    (cond (eqb table tshift_table) (spaced tshift_base cubic_stride)
    (cond (eqb table section_table) (spaced section_base 1)
    (cond (eqb table extent_table) (spaced extent_base cubic_stride)
    (cond (eqb table height_table) (spaced height_base height_stride)
    (cond (eqb table profile_table) (spaced profile_base 1)
    (cond (eqb table shape_table) (spaced shape_base cubic_stride)
    (cond (eqb table cubic_table) (spaced cubic_base cubic_stride)
    (cond (eqb table mark_table) (spaced span_base span_stride) (spaced 0 0)))))))))))))

-- the words of each table: a geometry's kind, a lane's record; those of the other tables have rules of their own
unfoldable pub word_lines : ℕ → Lines
word_lines table =
    cond (eqb table geom_table) (spaced kind_words 1)
    (cond (eqb table lane_table) (spaced lane_words lane_stride) (spaced 0 0))

-- the columns that hold a line's numbers, in the order of its places; the others hold a parent's number, a code, a want
unfoldable pub number_columns : ℕ → List ℕ
number_columns table =
    cond (eqb table road_table) (0 ∷ [])
    (cond (eqb table geom_table) (0 ∷ 1 ∷ 2 ∷ 3 ∷ 4 ∷ 6 ∷ 7 ∷ [])
    (cond (eqb table elev_table) (0 ∷ 1 ∷ 2 ∷ 3 ∷ 4 ∷ [])
    (cond (eqb table bank_table) (0 ∷ 1 ∷ 2 ∷ 3 ∷ 4 ∷ [])
    (cond (eqb table offset_table) (0 ∷ 1 ∷ 2 ∷ 3 ∷ 4 ∷ [])
    (cond (eqb table tshift_table) (0 ∷ 1 ∷ 2 ∷ 3 ∷ 4 ∷ [])
    (cond (eqb table section_table) (0 ∷ [])
    (cond (eqb table extent_table) (2 ∷ 3 ∷ 4 ∷ 5 ∷ 6 ∷ [])
    (cond (eqb table height_table) (2 ∷ 3 ∷ 4 ∷ [])
    (cond (eqb table profile_table) (0 ∷ [])
    (cond (eqb table shape_table) (1 ∷ 2 ∷ 3 ∷ 4 ∷ 5 ∷ [])
    (cond (eqb table cubic_table) (3 ∷ 4 ∷ 5 ∷ 6 ∷ 7 ∷ [])
    (cond (eqb table mark_table) (2 ∷ 3 ∷ []) []))))))))))))

-- the columns that hold a line's words: a geometry's kind, a lane's extent and level. A strip's relative, and a mark's lane and kind, have rules of their own
unfoldable pub word_columns : ℕ → List ℕ
word_columns table = cond (eqb table geom_table) (5 ∷ []) (cond (eqb table lane_table) (2 ∷ 3 ∷ []) [])

-- the word that holds a table's count of lines; the counts of the others are those of their ranges
unfoldable pub count_place : ℕ → Option ℕ
count_place table =
    cond (eqb table geom_table) (Some geom_count_at)
    (cond (eqb table elev_table) (Some elev_count_at)
    (cond (eqb table bank_table) (Some bank_count_at)
    (cond (eqb table offset_table) (Some offset_count_at)
    (cond (eqb table tshift_table) (Some tshift_count_at)
    (cond (eqb table section_table) (Some section_count_at)
    (cond (eqb table profile_table) (Some profile_count_at) None))))))

-- what a table's lines are beside their cells: strips, a section's lanes, by its record of them, or children of a family, by their parent's range
unfoldable pub rule_of : ℕ → Option Rule
rule_of table =
    cond (eqb table lane_table) (Some Lane)
    (cond (eqb table extent_table) (Some (Child Extent))
    (cond (eqb table height_table) (Some (Child Height))
    (cond (eqb table shape_table) (Some (Child Shape))
    (cond (eqb table strip_table) (Some Strip)
    (cond (eqb table cubic_table) (Some (Child Cubic))
    (cond (eqb table mark_table) (Some (Child Mark)) None))))))

-- by family: where the ranges (first, count) of the parents stand among the words
unfoldable pub ranges_of : Family → Lines
ranges_of Extent = spaced (lane_words + 2) lane_stride
ranges_of Height = spaced (lane_words + 4) lane_stride
ranges_of Shape = spaced profile_words profile_stride
ranges_of Cubic = spaced (strip_words + 1) 1
ranges_of Mark = spaced section_mark_words section_mark_stride

abbrev pub greatest_word : ℕ
greatest_word = 65535

-- a code as a word; what no word holds is the greatest one, which is no code
unfoldable pub code_of : ℕ → ℕ
code_of v = cond (ltb v (greatest_word + 1)) v greatest_word

-- One line more. A count stops at the greatest word, which admission refuses, and never comes round to 0.
unfoldable pub one_more : ℕ → ℕ
one_more n = cond (ltb n greatest_word) (n + 1) n

-- a list with the cells of columns kept one after the other from a place on, each as f makes of it
unfoldable pub cells_kept : {A : Type 0} → (ℕ → A) → Cells → List ℕ → ℕ → List A → List A
cells_kept f cells [] place xs = xs
cells_kept f cells (column ∷ columns) place xs = cells_kept f cells columns (place + 1) (set xs place (f (cell_of cells column)))

-- the numbers with the cells of line k kept, an f64 as the float of its pattern; the words with them kept, a word of a list as its place there
unfoldable pub numbers_kept : ℕ → ℕ → Cells → List Float → List Float
numbers_kept table k cells ns = cells_kept (of_bits binary64) cells (number_columns table) (line_of (number_lines table) k) ns

unfoldable pub codes_kept : ℕ → ℕ → Cells → List ℕ → List ℕ
codes_kept table k cells ws = cells_kept code_of cells (word_columns table) (line_of (word_lines table) k) ws

-- the wants with line k of the table want kept, as patterns: the digits of a NaN are not lost
unfoldable pub wants_kept : ℕ → ℕ → Cells → List ℕ → List ℕ
wants_kept table k cells vs = cond (eqb table want_table) (set (set vs (k * want_stride) (cell_of cells 0)) (k * want_stride + 1) (cell_of cells 1)) vs

-- the words with one put at a place, if there is one
abbrev pub put_at : Option ℕ → ℕ → List ℕ → List ℕ
put_at (Some place) v ws = set ws place v
put_at None v ws = ws

-- the words with a table's count of lines kept, where the layout has a word for it
unfoldable pub count_kept : ℕ → ℕ → List ℕ → List ℕ
count_kept table k ws = put_at (count_place table) k ws
