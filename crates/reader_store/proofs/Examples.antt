-- Worked lines, by computation: the strip table has right outer first, then left inner (relative). Cubics follow that order, and no other.
-- Then marks on the lanes of two sections.
use Prim.Native.Nat.{ℕ}
use mathlib.Core.Path.{◌≡◌, refl}
use mathlib.Core.Bool.{Bool, true, false}
use mathlib.Core.List.{List, [], ◌∷◌}
use lib.ListN.{get_or, set, replicate}
use Rattle.reader_lines.specs.declared.columns.Cells.{Cells}
use Rattle.reader_store.specs.Layout.{word_lines, word_columns, code_of, one_more, cells_kept, codes_kept, rule_of, ranges_of}
use Rattle.reader_store.specs.Progress.{start_progress, ended_progress}
use Rattle.reader_store.specs.Parents.{ranked_among, side_word, lane_turn, lane_among, lane_index, mark_lane, mark_index, term_of, index_of, range_of, parent_of}
use Rattle.reader_store.specs.Keep.{added, in_order, under_words, under_progress, strips_kept, strip_progress, mark_put, own_words, ruled_words, ruled_progress, kept_words, kept_progress}
use Rattle.reader_store.specs.declared.progress.Progress.{Progress}

-- what the examples compute with
keeping : Unit {0}
unfolding word_lines word_columns code_of one_more cells_kept codes_kept rule_of ranges_of ranked_among side_word lane_turn lane_among lane_index mark_lane mark_index term_of index_of range_of parent_of added in_order under_words under_progress strips_kept strip_progress mark_put own_words ruled_words ruled_progress kept_words kept_progress
keeping = tt

-- a line's first three cells: side, place, and relative or term
abbrev line : ℕ → ℕ → ℕ → Cells
line a b c = record { of = a ∷ b ∷ c ∷ 0 ∷ 0 ∷ 0 ∷ 0 ∷ 0 ∷ [] }

abbrev empty : List ℕ
empty = replicate 1891 0

-- the words and the progress after the two strips
abbrev words1 : List ℕ
words1 = kept_words 12 0 (line 1 1 0) start_progress empty

abbrev track1 : Progress
track1 = kept_progress 12 0 (line 1 1 0) start_progress empty

abbrev words2 : List ℕ
words2 = kept_words 12 1 (line 0 0 1) track1 words1

abbrev track2 : Progress
track2 = ended_progress (kept_progress 12 1 (line 0 0 1) track1 words1)

-- whether a cubic (side, place, term) may follow another
abbrev follows : Cells → Cells → Bool
follows x y = (kept_progress 13 1 y (kept_progress 13 0 x track2 words2) (kept_words 13 0 x track2 words2)).sound

-- 1 there, 2 there and relative; left inner stands at 1303, right outer at 1336
pub presence : (get_or words2 1303 0 ∷ get_or words2 1336 0 ∷ []) ≡ (2 ∷ 1 ∷ [])
unfolding keeping
presence = refl

-- right outer before left inner; width before term 0 of one strip; not the other way round; no cubic of a strip that has no line
pub order :
    (follows (line 1 1 0) (line 0 0 0) ∷ follows (line 1 1 0) (line 1 1 1) ∷ follows (line 0 0 0) (line 1 1 0) ∷ follows (line 1 1 1) (line 1 1 0) ∷ follows (line 1 1 0) (line 0 1 0) ∷ [])
    ≡ (true ∷ true ∷ false ∷ false ∷ false ∷ [])
unfolding keeping
order = refl

-- a pair of side and place comes once
pub twice : (kept_progress 12 1 (line 1 1 1) track1 words1).sound ≡ false
unfolding keeping
twice = refl

-- a line of the table mark: section, id and kind, as whole numbers are held
abbrev mark : ℕ → ℕ → ℕ → Cells
mark section id kind = record { of = section ∷ id ∷ 0 ∷ 0 ∷ kind ∷ 0 ∷ 0 ∷ 0 ∷ [] }

-- two sections, of two left lanes and a right one, and of one right lane, the fourth of its table
abbrev lanes : List ℕ
lanes = set (set (set (set (set empty 5 2) 72 2) 73 1) 74 3) 76 1

abbrev words3 : List ℕ
words3 = kept_words 14 0 (mark 10000 9999 10007) start_progress lanes

abbrev track3 : Progress
track3 = kept_progress 14 0 (mark 10000 9999 10007) start_progress lanes

abbrev words4 : List ℕ
words4 = kept_words 14 1 (mark 10001 9999 9998) track3 words3

-- the marks' ranges of the two sections; then lane and kind: the id -1 is the third lane of the first section, the first of the second; the kind -2 is none
pub marks :
    (get_or words4 1347 0 ∷ get_or words4 1348 0 ∷ get_or words4 1349 0 ∷ get_or words4 1350 0 ∷ get_or words4 1379 0 ∷ get_or words4 1380 0 ∷ get_or words4 1381 0 ∷ get_or words4 1382 0 ∷ [])
    ≡ (0 ∷ 1 ∷ 1 ∷ 1 ∷ 2 ∷ 7 ∷ 0 ∷ 0 ∷ [])
unfolding keeping
marks = refl

-- a later mark may be in the same section or the next, on a lane of it; not in the one before, on the id 0, or on a lane or in a section that is not there
pub mark-order :
    ((kept_progress 14 1 (mark 10000 10002 10007) track3 words3).sound
    ∷ (kept_progress 14 1 (mark 10001 9999 10007) track3 words3).sound
    ∷ (kept_progress 14 2 (mark 10000 10001 10007) (kept_progress 14 1 (mark 10001 9999 9998) track3 words3) words4).sound
    ∷ (kept_progress 14 1 (mark 10000 10000 10007) track3 words3).sound
    ∷ (kept_progress 14 1 (mark 10000 10003 10007) track3 words3).sound
    ∷ (kept_progress 14 1 (mark 10001 10001 10007) track3 words3).sound
    ∷ (kept_progress 14 1 (mark 10002 10001 10007) track3 words3).sound
    ∷ [])
    ≡ (true ∷ true ∷ false ∷ false ∷ false ∷ false ∷ false ∷ [])
unfolding keeping
mark-order = refl
