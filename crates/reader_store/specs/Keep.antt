-- Document 01, "The job text": a line kept, with its cells at their places and the line under its parent. Read `kept_words` and `kept_progress` first, at the end.
-- "At most 6 a side", "0..16 a lane" and the like are not tested here: admission tests them on the road that is kept.
use Rattle.std.specs.Prelude.{ℕ, ◌+◌, ◌-◌, ◌*◌, Bool, cond, List, Option, Some, None, is_some, unwrap_or, get_or, set, leb}
use Rattle.records.specs.Layout.{strip_words as strip_base, strip_stride, mark_words, mark_stride}
use Rattle.reader_cells.specs.Cells.{whole_bias}
use Rattle.reader_lines.specs.Columns.{cell_of}
use Rattle.reader_lines.specs.declared.columns.Cells.{Cells}
use Rattle.reader_store.specs.Layout.{code_of, one_more, put_at, codes_kept, rule_of}
use Rattle.reader_store.specs.Progress.{bit_in, strip_of, strip_line, listed_as, unsound_progress}
use Rattle.reader_store.specs.Parents.{index_at, lane_turn, parent_of, mark_lane}
use Rattle.reader_store.specs.declared.layout.Family.{Family}
use Rattle.reader_store.specs.declared.layout.Family.TheVariants.{Mark}
use Rattle.reader_store.specs.declared.layout.Rule.{Rule}
use Rattle.reader_store.specs.declared.layout.Rule.TheVariants.{Strip, Lane, Child}
use Rattle.reader_store.specs.declared.parents.Counted.{Counted}
use Rattle.reader_store.specs.declared.progress.Progress.{Progress}

-- the words with line k counted under its parent: it is the parent's first line where that has none yet
unfoldable pub added : List ℕ → ℕ → Counted → List ℕ
added ws k parent = set (put_at parent.first k ws) parent.count (one_more (get_or ws parent.count 0))

-- "Lines of a child table follow their parents' order"
unfoldable pub in_order : Counted → Progress → Bool
in_order parent progress = leb progress.last parent.rank

-- "a parent that does not exist is 3": a wrong line is not counted, and the reading is not sound
unfoldable pub under_words : List ℕ → ℕ → Option Counted → Progress → List ℕ
under_words ws k (Some parent) progress = cond (in_order parent progress) (added ws k parent) ws
under_words ws k None progress = ws

unfoldable pub under_progress : Option Counted → Progress → Progress
under_progress (Some parent) progress =
    cond (in_order parent progress) (record { sound = progress.sound; last = parent.rank; strips = progress.strips }) (unsound_progress progress)
under_progress None progress = unsound_progress progress

-- the strip of a line of the table strip
abbrev pub strip_named : Cells → ℕ
strip_named cells = strip_of (cell_of cells 0) (cell_of cells 1)

-- a strip at its fixed place: 1 there, 2 there and relative. "each pair once": a pair that has a line already is wrong.
unfoldable pub strips_kept : List ℕ → Cells → Progress → List ℕ
strips_kept ws cells progress =
    cond (is_some (strip_line progress.strips (strip_named cells))) ws (set ws (strip_base + strip_named cells * strip_stride) (bit_in (cell_of cells 2) + 1))

unfoldable pub strip_progress : ℕ → Cells → Progress → Progress
strip_progress k cells progress =
    cond (is_some (strip_line progress.strips (strip_named cells))) (unsound_progress progress)
    (record { sound = progress.sound; last = progress.last; strips = listed_as progress.strips (strip_named cells) k })

-- document 02, point 2: "kind a whole number 1..255": as a word. One below 0 becomes 0, which is no kind either.
abbrev pub mark_kind : ℕ → ℕ
mark_kind cell = code_of (cell - whole_bias)

-- the place of a mark's lane in its section, as a word; 0 where it is not there
abbrev pub mark_place : List ℕ → Cells → ℕ
mark_place ws cells = code_of (unwrap_or (mark_lane ws (cell_of cells 0) (cell_of cells 1)) (index_at 0)).index

-- line k of the table mark: its lane by its place in its section, its kind
unfoldable pub mark_put : List ℕ → ℕ → Cells → List ℕ
mark_put ws k cells = set (set ws (mark_words + k * mark_stride) (mark_place ws cells)) (mark_words + k * mark_stride + 1) (mark_kind (cell_of cells 4))

-- a mark's own words; other lines under a parent have none
unfoldable pub own_words : List ℕ → Family → ℕ → Cells → List ℕ
own_words ws Mark k cells = mark_put ws k cells
own_words ws family k cells = ws

-- by the rule of the table: nothing more, a strip, a lane under its section, or a line under its parent
unfoldable pub ruled_words : List ℕ → Option Rule → ℕ → Cells → Progress → List ℕ
ruled_words ws None k cells progress = ws
ruled_words ws (Some Strip) k cells progress = strips_kept ws cells progress
ruled_words ws (Some Lane) k cells progress = under_words ws k (lane_turn ws (cell_of cells 0) (cell_of cells 1)) progress
ruled_words ws (Some (Child family)) k cells progress = under_words (own_words ws family k cells) k (parent_of ws family cells progress.strips) progress

unfoldable pub ruled_progress : List ℕ → Option Rule → ℕ → Cells → Progress → Progress
ruled_progress ws None k cells progress = progress
ruled_progress ws (Some Strip) k cells progress = strip_progress k cells progress
ruled_progress ws (Some Lane) k cells progress = under_progress (lane_turn ws (cell_of cells 0) (cell_of cells 1)) progress
ruled_progress ws (Some (Child family)) k cells progress = under_progress (parent_of ws family cells progress.strips) progress

-- line k of a table, counted from 0, kept in the words, and what is remembered then
unfoldable pub kept_words : ℕ → ℕ → Cells → Progress → List ℕ → List ℕ
kept_words table k cells progress ws = ruled_words (codes_kept table k cells ws) (rule_of table) k cells progress

unfoldable pub kept_progress : ℕ → ℕ → Cells → Progress → List ℕ → Progress
kept_progress table k cells progress ws = ruled_progress (codes_kept table k cells ws) (rule_of table) k cells progress
