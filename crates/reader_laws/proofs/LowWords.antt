-- What a kept line leaves of the words: those below a bound of 71 at most stay, where the table's own words lie past it (`kept_low`).
use Prim.Native.Nat.{ℕ, ◌+◌, ◌*◌, ◌%◌, ◌<◌, ◌≤◌}
use native.Mathlib.Omega.{arith}
use mathlib.Core.Path.{◌≡◌, refl, ◌∙◌}
use mathlib.Core.Bool.{Bool, true, false, ◌||◌, ◌&&◌, cond}
use mathlib.Core.List.{List}
use lib.ListN.{length, get_or, set, length-set}
use lib.Seq.{get_or-set_other}
use lib.Dec.{eqb}
use Rattle.std.specs.Prelude.{Option, Some, None, is_some, option_map, option_and_then, IfSome}
use Rattle.reader_lines.specs.Columns.{cell_of}
use Rattle.reader_lines.specs.declared.columns.Cells.{Cells}
use Rattle.reader_store.specs.Layout.{spaced, word_lines, word_columns, code_of, one_more, put_at, codes_kept, rule_of, ranges_of}
use Rattle.reader_store.proofs.Puts.{cells-keep}
use Rattle.reader_store.specs.Progress.{strip_line}
use Rattle.reader_store.specs.Parents.{first_if, section_at, section_word, section_record, side_word, lane_beside, lane_under, lane_turn, index_of, range_of, parent_of}
use Rattle.reader_store.specs.Keep.{added, in_order, under_words, strip_named, strips_kept, mark_kind, mark_place, mark_put, own_words, ruled_words, kept_words}
use Rattle.reader_store.specs.declared.layout.Family.{Family}
use Rattle.reader_store.specs.declared.layout.Family.TheVariants.{Extent, Height, Shape, Cubic, Mark}
use Rattle.reader_store.specs.declared.layout.Rule.{Rule}
use Rattle.reader_store.specs.declared.layout.Rule.TheVariants.{Strip, Lane, Child}
use Rattle.reader_store.specs.declared.parents.Ranked.{Ranked}
use Rattle.reader_store.specs.declared.parents.Counted.{Counted}
use Rattle.reader_store.specs.declared.progress.Progress.{Progress}

pub or_else : (a b : Bool) → a || b ≡ true → a ≡ false → b ≡ true
or_else a b e f = rw f at e

-- ---- a line

-- the words below a bound are the same
abbrev pub Low : ℕ → List ℕ → List ℕ → Type 0
Low b us ws = (length us ≡ length ws) × ((i : ℕ) → i < b → get_or us i 0 ≡ get_or ws i 0)

pub low_same : (b : ℕ) (ws : List ℕ) → Low b ws ws
low_same b ws = (refl, λ i h. refl)

pub low-then : (b : ℕ) (xs us ws : List ℕ) → Low b xs us → Low b us ws → Low b xs ws
low-then b xs us ws e f = (e.0 ∙ f.0, λ i h. e.1 i h ∙ f.1 i h)

pub low-set : (b : ℕ) (ws : List ℕ) (p v : ℕ) → b ≤ p → Low b (set ws p v) ws
low-set b ws p v h = (length-set ws p v, λ i l. get_or-set_other ws p i v 0 (λ e. omega arith))

-- words of lines, of ranges, of strips and of sections past the bound: no line of the table touches the words below it
module _ (b : ℕ) (most : b ≤ 71) (t : ℕ) (word-past : 0 < length (word_columns t) → b ≤ (word_lines t).first) where
  line_low : (k : ℕ) (cells : Cells) (ws : List ℕ) → Low b (codes_kept t k cells ws) ws
  unfolding codes_kept
  line_low k cells ws =
      let first : ℕ = (word_lines t).first + k * (word_lines t).stride in
      let kept : ℕ → ℕ = λ i. code_of (cell_of cells (get_or (word_columns t) i 0)) in
      cells-keep code_of cells (λ us. Low b us ws) (word_columns t) first
      (λ i h us e. let past = word-past (omega arith) in low-then b (set us (first + i) (kept i)) us ws (low-set b us (first + i) (kept i) (omega arith)) e) ws (low_same b ws)

  -- a parent whose words stand past the bound, if it is there
  abbrev Past : Option Counted → Type 0
  Past parent = IfSome parent (λ p. IfSome p.first (λ q. b ≤ q) × (b ≤ p.count))

  -- a line counted under a parent whose words stand past the counts
  put_at-low : (o : Option ℕ) (v : ℕ) (ws : List ℕ) → IfSome o (λ p. b ≤ p) → Low b (put_at o v ws) ws
  put_at-low (Some p) v ws h = low-set b ws p v h
  put_at-low None v ws h = low_same b ws

  under_low : (ws : List ℕ) (k : ℕ) (parent : Option Counted) (progress : Progress) → Past parent → Low b (under_words ws k parent progress) ws
  unfolding under_words added
  under_low ws k None progress past = low_same b ws
  under_low ws k (Some parent) progress past = go (in_order parent progress)
    where
      go : (x : Bool) → Low b (cond x (set (put_at parent.first k ws) parent.count (one_more (get_or ws parent.count 0))) ws) ws
      go true =
          low-then b (set (put_at parent.first k ws) parent.count (one_more (get_or ws parent.count 0))) (put_at parent.first k ws) ws
          (low-set b (put_at parent.first k ws) parent.count (one_more (get_or ws parent.count 0)) past.1)
          (put_at-low parent.first k ws past.0)
      go false = low_same b ws

  strip-low : (ws : List ℕ) (cells : Cells) (progress : Progress) → Low b (strips_kept ws cells progress) ws
  unfolding strips_kept
  strip-low ws cells progress = go (is_some (strip_line progress.strips (strip_named cells)))
    where
      past : (x : ℕ) → b ≤ 1303 + x
      past x = let m = most in omega arith

      go : (x : Bool) → Low b (cond x ws (set ws (1303 + strip_named cells * 11) (cell_of cells 2 % 2 + 1))) ws
      go true = low_same b ws
      go false = low-set b ws (1303 + strip_named cells * 11) (cell_of cells 2 % 2 + 1) (past (strip_named cells * 11))

  -- a mark's own words stand past all ranges
  own-low : (ws : List ℕ) (family : Family) (k : ℕ) (cells : Cells) → Low b (own_words ws family k cells) ws
  unfolding own_words mark_put
  own-low ws Mark k cells =
      let m = most in
      let lane = mark_place ws cells in
      low-then b (set (set ws (1379 + k * 2) lane) (1379 + k * 2 + 1) (mark_kind (cell_of cells 4))) (set ws (1379 + k * 2) lane) ws
      (low-set b (set ws (1379 + k * 2) lane) (1379 + k * 2 + 1) (mark_kind (cell_of cells 4)) (omega arith))
      (low-set b ws (1379 + k * 2) lane (omega arith))
  own-low ws family k cells = low_same b ws

  first-past : (fresh : Bool) (p : ℕ) → b ≤ p → IfSome (first_if fresh p) (λ q. b ≤ q)
  first-past true p h = h
  first-past false p h = tt

  -- the ranges of all families stand past the sections' words
  range-past : (ws : List ℕ) (base stride : ℕ) → 71 ≤ base → (at : Option Ranked) → Past (option_map (range_of ws (spaced base stride)) at)
  unfolding range_of
  range-past ws base stride h None = tt
  range-past ws base stride h (Some at) = let m = most in (first-past (eqb (get_or ws (base + at.index * stride + 1) 0) 0) (base + at.index * stride) (omega arith), omega arith)

  lane-past : (ws : List ℕ) (id : ℕ) (section : Option Ranked) → Past (option_and_then (lane_under ws id) section)
  lane-past ws id None = tt
  lane-past ws id (Some s) = go (side_word (section_record ws s.index) id)
    where
      go : (side : Option ℕ) → Past (option_map (lane_beside ws s) side)
      go None = tt
      go (Some side) =
          let m = most in
          (first-past (eqb (get_or ws (section_word s.index + 1) 0) 0 && eqb (get_or ws (section_word s.index + 2) 0) 0) (section_word s.index) (omega arith), omega arith)

  parent-past : (ws : List ℕ) (family : Family) (cells : Cells) (strips : List (Option ℕ)) → Past (parent_of ws family cells strips)
  unfolding parent_of ranges_of
  parent-past ws Extent cells strips = range-past ws (ranges_of Extent).first (ranges_of Extent).stride (omega arith) (index_of ws Extent cells strips)
  parent-past ws Height cells strips = range-past ws (ranges_of Height).first (ranges_of Height).stride (omega arith) (index_of ws Height cells strips)
  parent-past ws Shape cells strips = range-past ws (ranges_of Shape).first (ranges_of Shape).stride (omega arith) (index_of ws Shape cells strips)
  parent-past ws Cubic cells strips = range-past ws (ranges_of Cubic).first (ranges_of Cubic).stride (omega arith) (index_of ws Cubic cells strips)
  parent-past ws Mark cells strips = range-past ws (ranges_of Mark).first (ranges_of Mark).stride (omega arith) (index_of ws Mark cells strips)

  ruled_low : (rule : Option Rule) (k : ℕ) (cells : Cells) (progress : Progress) (ws : List ℕ) → Low b (ruled_words ws rule k cells progress) ws
  unfolding ruled_words lane_turn
  ruled_low None k cells progress ws = low_same b ws
  ruled_low (Some Strip) k cells progress ws = strip-low ws cells progress
  ruled_low (Some Lane) k cells progress ws =
      under_low ws k (lane_turn ws (cell_of cells 0) (cell_of cells 1)) progress (lane-past ws (cell_of cells 1) (section_at ws (cell_of cells 0)))
  ruled_low (Some (Child family)) k cells progress ws =
      let parent = parent_of ws family cells progress.strips in
      low-then b (under_words (own_words ws family k cells) k parent progress) (own_words ws family k cells) ws
      (under_low (own_words ws family k cells) k parent progress (parent-past ws family cells progress.strips))
      (own-low ws family k cells)

  pub kept_low : (k : ℕ) (cells : Cells) (progress : Progress) (ws : List ℕ) → Low b (kept_words t k cells progress ws) ws
  unfolding kept_words
  kept_low k cells progress ws =
      low-then b (kept_words t k cells progress ws) (codes_kept t k cells ws) ws (ruled_low (rule_of t) k cells progress (codes_kept t k cells ws)) (line_low k cells ws)
