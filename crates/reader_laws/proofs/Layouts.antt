-- A reader keeps lines (crate reader_store) where a road is decoded from (crate records): places and strides are the same names, every table ends where the next begins, and a decoded field is the cell of its column.
-- By computation, and by the laws on parts of a list.
use Prim.Native.Nat.{ℕ, ◌+◌, ◌-◌, ◌*◌, ◌/◌, ◌<◌, ◌≤◌}
use native.Mathlib.Omega.{arith}
use native.Mathlib.Nat.{add-zero}
use mathlib.Core.Path.{◌≡◌, refl, sym, ◌∙◌, ap}
use mathlib.Core.List.{List, [], ◌∷◌}
use lib.ListN.{length, get_or, drop, length-take}
use lib.Dec.{eqb}
use lib.Ieee.{Float, nan}
use Rattle.std.specs.Prelude.{Option, Some, None}
use Rattle.records_lent.specs.Lists.{tabulate, span}
use Rattle.records_lent.proofs.TableLaws.{span-at}
use Rattle.records_cubic.specs.declared.cubics.Cubic.{Cubic}
use Rattle.records_cubic.specs.Cubics.{cubic_at}
use Rattle.records_cubic.proofs.CubicTables.{cubic-count, cubic_in_lem}
use Rattle.records.specs.declared.points.HeightDef.{HeightDef}
use Rattle.records.specs.declared.points.Mark.{Mark}
use Rattle.records.specs.Layout.{length_place, profile_count_at, geom_base, geom_stride, elev_base, bank_base, offset_base, tshift_base, section_base, extent_base, height_base, profile_base, shape_base, cubic_base, span_base, numbers_needed, cubic_stride, height_stride, span_stride, kind_words, section_words, section_stride, lane_words, lane_stride, profile_words, profile_stride, strip_words, strip_stride, section_mark_words, section_mark_stride, mark_words, mark_stride, words_needed, want_stride, wants_needed}
use Rattle.records.specs.Roads.{Lane, road_of, geom_shape_of, geom_in, unused_in, unused_of, lane_in, mark_in, section_in, profile_in, cubics_in, heights_in, height_def_at, column_in}
use Rattle.records.proofs.CubicLaws.{height-count, height_in_lem}
use Rattle.reader_schema.specs.Tables.{geom_table, elev_table, bank_table, offset_table, tshift_table, section_table, lane_table, extent_table, height_table, profile_table, shape_table, strip_table, cubic_table, mark_table, want_table}
use Rattle.reader_schema.specs.Schema.{limits, limit_of}
use Rattle.reader_store.specs.Layout.{line_of, number_lines, word_lines, number_columns, word_columns, count_place, ranges_of}
use Rattle.reader_laws.proofs.ColumnPlaces.{number_place, word_place}
use Rattle.reader_store.specs.declared.layout.Family.{Family}
use Rattle.reader_store.specs.declared.layout.Family.TheVariants.{Extent, Height, Shape, Cubic as CubicFamily, Mark as MarkFamily}
use Rattle.reader_store.specs.Parents.{section_word}

-- ---- places

-- a section's words
pub section-join : (s : ℕ) → section_word s ≡ section_words + s * section_stride
section-join s = omega arith

-- every table ends where the next begins, at its limit of lines: numbers, then words
pub limits-join :
    ((length_place + 1) ∷ (geom_base + limit_of geom_table * geom_stride) ∷ (elev_base + limit_of elev_table * cubic_stride) ∷ (bank_base + limit_of bank_table * cubic_stride) ∷ (offset_base + limit_of offset_table * cubic_stride) ∷ (tshift_base + limit_of tshift_table * cubic_stride) ∷ (section_base + limit_of section_table) ∷ (extent_base + limit_of extent_table * cubic_stride) ∷ (height_base + limit_of height_table * height_stride) ∷ (profile_base + limit_of profile_table) ∷ (shape_base + limit_of shape_table * cubic_stride) ∷ (cubic_base + limit_of cubic_table * cubic_stride) ∷ (span_base + limit_of mark_table * span_stride) ∷ [])
    ≡ geom_base ∷ elev_base ∷ bank_base ∷ offset_base ∷ tshift_base ∷ section_base ∷ extent_base ∷ height_base ∷ profile_base ∷ shape_base ∷ cubic_base ∷ span_base ∷ numbers_needed ∷ []
unfolding limits limit_of
limits-join = refl

pub word-limits-join :
    ((profile_count_at + 1) ∷ (kind_words + limit_of geom_table) ∷ (section_words + limit_of section_table * section_stride) ∷ (lane_words + limit_of lane_table * lane_stride) ∷ (profile_words + limit_of profile_table * profile_stride) ∷ (strip_words + limit_of strip_table * strip_stride) ∷ (section_mark_words + limit_of section_table * section_mark_stride) ∷ (mark_words + limit_of mark_table * mark_stride) ∷ [])
    ≡ kind_words ∷ section_words ∷ lane_words ∷ profile_words ∷ strip_words ∷ section_mark_words ∷ mark_words ∷ words_needed ∷ []
unfolding limits limit_of
word-limits-join = refl

-- and the wants' slice has two places for each of them
pub want-limits-join : limit_of want_table * want_stride ≡ wants_needed
unfolding limits limit_of
want-limits-join = refl

-- ---- columns

-- a table whose columns from one on are start a b c d
pub record Five (t column base : ℕ) : Type 0 where
  pub first : (number_lines t).first ≡ base
  pub stride : (number_lines t).stride ≡ 5
  pub start : number_place t column ≡ 1
  pub a : number_place t (column + 1) ≡ 2
  pub b : number_place t (column + 2) ≡ 3
  pub c : number_place t (column + 3) ≡ 4
  pub d : number_place t (column + 4) ≡ 5

-- elev, bank, offset, tshift; extent, shape, cubic
pub elev-five : Five 2 0 elev_base
unfolding number_lines word_lines number_place number_columns
elev-five = record { first = refl; stride = refl; start = refl; a = refl; b = refl; c = refl; d = refl }

pub bank-five : Five 3 0 bank_base
unfolding number_lines word_lines number_place number_columns
bank-five = record { first = refl; stride = refl; start = refl; a = refl; b = refl; c = refl; d = refl }

pub offset-five : Five 4 0 offset_base
unfolding number_lines word_lines number_place number_columns
offset-five = record { first = refl; stride = refl; start = refl; a = refl; b = refl; c = refl; d = refl }

pub tshift-five : Five 5 0 tshift_base
unfolding number_lines word_lines number_place number_columns
tshift-five = record { first = refl; stride = refl; start = refl; a = refl; b = refl; c = refl; d = refl }

pub extent-five : Five 8 2 extent_base
unfolding number_lines word_lines number_place number_columns
extent-five = record { first = refl; stride = refl; start = refl; a = refl; b = refl; c = refl; d = refl }

pub shape-five : Five 11 1 shape_base
unfolding number_lines word_lines number_place number_columns
shape-five = record { first = refl; stride = refl; start = refl; a = refl; b = refl; c = refl; d = refl }

pub cubic-five : Five 13 3 cubic_base
unfolding number_lines word_lines number_place number_columns
cubic-five = record { first = refl; stride = refl; start = refl; a = refl; b = refl; c = refl; d = refl }

pub cubic-same : {a b c d e a' b' c' d' e' : Float} → a ≡ a' → b ≡ b' → c ≡ c' → d ≡ d' → e ≡ e'
    → ◌≡◌ {A = Cubic} (record { start = a; a = b; b = c; c = d; d = e }) (record { start = a'; a = b'; b = c'; c = d'; d = e' })
cubic-same p q r t u = cc

pub height-same : {a b c a' b' c' : Float} → a ≡ a' → b ≡ b' → c ≡ c' → ◌≡◌ {A = HeightDef} (record { s_offset = a; inner = b; outer = c }) (record { s_offset = a'; inner = b'; outer = c' })
height-same p q r = cc

pub mark-same : {a b a' b' : ℕ} {c d c' d' : Float} → a ≡ a' → b ≡ b' → c ≡ c' → d ≡ d'
    → ◌≡◌ {A = Mark} (record { lane = a; kind = b; start = c; end = d }) (record { lane = a'; kind = b'; start = c'; end = d' })
mark-same p q r t = cc

length-span : (xs : List Float) (start n : ℕ) → length (span xs start n) ≤ n
length-span xs start n = let l = length-take n (drop start xs) in omega arith

kind-place : (i : ℕ) → 7 + i ≡ 7 + i * 1 + 0
kind-place i = omega arith

one_more_lem : (base i : ℕ) → base + i ≡ base + i * 1 + 0
one_more_lem base i = omega arith

added : (base i : ℕ) → base + i ≡ base + i + 0
added base i = omega arith

moved : (d base i : ℕ) → base + i + d ≡ base + d + i
moved d base i = omega arith

moved2 : (d e base i : ℕ) → base + i + (d + e) ≡ base + d + i + e
moved2 d e base i = omega arith

column-place : (i column : ℕ) → 1303 + i * 11 + 1 + column * 2 ≡ 1304 + (i * 11 + column * 2) * 1
column-place i column = omega arith

module _ (ws : List ℕ) (ns : List Float) where
  -- the number and the word that a reader keeps for a column of line k, and how many lines it keeps count of
  abbrev pub number_of : ℕ → ℕ → ℕ → Float
  number_of table k column = get_or ns ((number_lines table).first + k * (number_lines table).stride + (number_place table column - 1)) nan

  abbrev pub code_of : ℕ → ℕ → ℕ → ℕ
  code_of table k column = get_or ws ((word_lines table).first + k * (word_lines table).stride + (word_place table column - 1)) 0

  abbrev pub counted_at : Option ℕ → ℕ
  counted_at (Some place) = get_or ws place 0
  counted_at None = 0

  abbrev pub lines_of : ℕ → ℕ
  lines_of table = counted_at (count_place table)

  -- five columns from a column on: start a b c d
  abbrev pub cubic_of : ℕ → ℕ → ℕ → Cubic
  cubic_of table column k =
      record { start = number_of table k column; a = number_of table k (column + 1); b = number_of table k (column + 2); c = number_of table k (column + 3); d = number_of table k (column + 4) }

  -- geom: s x y hdg length kind k0 k1
  pub geom-join : (i : ℕ)
      → geom_in ws ns i
      ≡ record {
        s = number_of 1 i 0;
        x = number_of 1 i 1;
        y = number_of 1 i 2;
        hdg = number_of 1 i 3;
        length = number_of 1 i 4;
        shape = geom_shape_of (code_of 1 i 5) (number_of 1 i 6) (number_of 1 i 7);
      }
  unfolding geom_in number_lines word_lines number_place number_columns word_place word_columns
  geom-join i =
      rw (span-at ns (1 + i * 7) 7 0 nan (omega arith), span-at ns (1 + i * 7) 7 1 nan (omega arith), span-at ns (1 + i * 7) 7 2 nan (omega arith), span-at ns (1 + i * 7) 7 3 nan (omega arith), span-at ns (1 + i * 7) 7 4 nan (omega arith), span-at ns (1 + i * 7) 7 5 nan (omega arith), span-at ns (1 + i * 7) 7 6 nan (omega arith), kind-place i)

  -- the columns that the kind does not use
  pub unused-join : (i : ℕ) → unused_in ws ns i ≡ unused_of (code_of 1 i 5) (number_of 1 i 6) (number_of 1 i 7)
  unfolding unused_in number_lines word_lines number_place number_columns word_place word_columns
  unused-join i = rw (kind-place i)

  -- the road's lists: which table, and the word of its count
  pub length-join : (road_of ws ns).length ≡ number_of 0 0 0
  unfolding road_of number_lines word_lines number_place number_columns
  length-join = refl

  pub geoms-join : (road_of ws ns).geoms ≡ tabulate (geom_in ws ns) (lines_of 1)
  unfolding road_of count_place
  geoms-join = refl

  pub unused-list-join : (road_of ws ns).unused ≡ tabulate (unused_in ws ns) (lines_of 1)
  unfolding road_of count_place
  unused-list-join = refl

  pub elevations-join : (road_of ws ns).elevations ≡ cubics_in ws ns (number_lines 2).first 0 (lines_of 2)
  unfolding road_of number_lines count_place
  elevations-join = refl

  pub superelevations-join : (road_of ws ns).superelevations ≡ cubics_in ws ns (number_lines 3).first 0 (lines_of 3)
  unfolding road_of number_lines count_place
  superelevations-join = refl

  pub offsets-join : (road_of ws ns).offsets ≡ cubics_in ws ns (number_lines 4).first 0 (lines_of 4)
  unfolding road_of number_lines count_place
  offsets-join = refl

  pub tshifts-join : (road_of ws ns).tshifts ≡ cubics_in ws ns (number_lines 5).first 0 (lines_of 5)
  unfolding road_of number_lines count_place
  tshifts-join = refl

  pub sections-join : (road_of ws ns).sections ≡ tabulate (section_in ws ns) (lines_of 6)
  unfolding road_of count_place
  sections-join = refl

  pub profiles-join : (road_of ws ns).profiles ≡ tabulate (profile_in ws ns) (lines_of 10)
  unfolding road_of count_place
  profiles-join = refl

  -- a section: its start, its first lane and how many left and right ones; a lane counts under section_word + 1 or + 2
  pub section_start-join : (i : ℕ) → (section_in ws ns i).start ≡ number_of 6 i 0
  unfolding section_in number_lines word_lines number_place number_columns
  section_start-join i = ap (λ (p : ℕ). get_or ns p nan) (one_more_lem 1729 i)

  pub left_join : (i : ℕ) → (section_in ws ns i).left ≡ tabulate (λ j. lane_in ws ns (get_or ws (section_word i) 0 + j)) (get_or ws (section_word i + 1) 0)
  unfolding section_in
  left_join i = ap (λ (p : ℕ). tabulate (λ j. lane_in ws ns (get_or ws p 0 + j)) (get_or ws (p + 1) 0)) (sym (section-join i))

  pub right-join : (i : ℕ)
      → (section_in ws ns i).right ≡ tabulate (λ j. lane_in ws ns (get_or ws (section_word i) 0 + get_or ws (section_word i + 1) 0 + j)) (get_or ws (section_word i + 2) 0)
  unfolding section_in
  right-join i = ap (λ (p : ℕ). tabulate (λ j. lane_in ws ns (get_or ws p 0 + get_or ws (p + 1) 0 + j)) (get_or ws (p + 2) 0)) (sym (section-join i))

  -- the range that a reader counts up for a parent, by family
  abbrev pub first_of : Family → ℕ → ℕ
  first_of family i = get_or ws (line_of (ranges_of family) i) 0

  abbrev pub count_of : Family → ℕ → ℕ
  count_of family i = get_or ws (line_of (ranges_of family) i + 1) 0

  -- a lane by the places of its words
  abbrev lane_from : ℕ → ℕ → ℕ → ℕ → ℕ → ℕ → Lane
  lane_from a b c d e f =
      record { border = eqb (get_or ws a 0) 1; level = eqb (get_or ws b 0) 1; extents = cubics_in ws ns 1745 (get_or ws c 0) (get_or ws d 0); heights = heights_in ws ns (get_or ws e 0) (get_or ws f 0) }

  lane-same : (b : ℕ) {a c d e f a' c' d' e' f' : ℕ} → a ≡ a' → c ≡ c' → d ≡ d' → e ≡ e' → f ≡ f' → lane_from a b c d e f ≡ lane_from a' b c' d' e' f'
  lane-same b p q r t u = cc

  -- a lane: extent and level codes, extents, heights
  pub lane-join : (j : ℕ)
      → lane_in ws ns j
      ≡ record {
        border = eqb (code_of 7 j 2) 1;
        level = eqb (code_of 7 j 3) 1;
        extents = cubics_in ws ns (number_lines 8).first (first_of Extent j) (count_of Extent j);
        heights = heights_in ws ns (first_of Height j) (count_of Height j);
      }
  unfolding lane_in number_lines word_lines word_place word_columns ranges_of
  lane-join j = lane-same (119 + j * 6 + 1) (added 119 (j * 6)) (moved 2 119 (j * 6)) (moved2 2 1 119 (j * 6)) (moved 4 119 (j * 6)) (moved2 4 1 119 (j * 6))

  -- a section's marks, and a mark: its lane and its kind, its span
  pub marks-join : (i : ℕ) → (section_in ws ns i).marks ≡ tabulate (λ j. mark_in ws ns (first_of MarkFamily i + j)) (count_of MarkFamily i)
  unfolding section_in ranges_of
  marks-join i = refl

  pub mark-join : (j : ℕ)
      → mark_in ws ns j ≡ record { lane = get_or ws (mark_words + j * mark_stride) 0; kind = get_or ws (mark_words + j * mark_stride + 1) 0; start = number_of 14 j 2; end = number_of 14 j 3 }
  unfolding mark_in number_lines word_lines number_place number_columns
  mark-join j = mark-same refl refl (ap (λ (p : ℕ). get_or ns p nan) (sym (add-zero (7937 + j * 2)))) refl

  -- a profile: its s and its shapes
  pub profile-join : (i : ℕ) → profile_in ws ns i ≡ record { s = number_of 10 i 0; shapes = cubics_in ws ns (number_lines 11).first (first_of Shape i) (count_of Shape i) }
  unfolding profile_in number_lines word_lines number_place number_columns ranges_of
  profile-join i = rw (one_more_lem 5841 i)

  -- the cubics of a strip's width or of a term: the range that `term_of` counts up
  pub column-join : (i column : ℕ) → column_in ws ns i column ≡ cubics_in ws ns (number_lines 13).first (first_of CubicFamily (i * 11 + column * 2)) (count_of CubicFamily (i * 11 + column * 2))
  unfolding column_in number_lines word_lines ranges_of
  column-join i column = ap (λ (p : ℕ). cubics_in ws ns 7137 (get_or ws p 0) (get_or ws (p + 1) 0)) (column-place i column)

  -- ---- the lines of a list: each number of a line is that of its column

  number_at : (t column base stride first k j : ℕ) → (number_lines t).first ≡ base → (number_lines t).stride ≡ stride → number_place t column ≡ j + 1
      → get_or ns (base + first * stride + (k * stride + j)) nan ≡ number_of t (first + k) column
  number_at t column base stride first k j e f g = ap (λ (p : ℕ). get_or ns p nan) (place ∙ rw (e, f, g))
    where
      place : base + first * stride + (k * stride + j) ≡ base + (first + k) * stride + (j + 1 - 1)
      place = omega arith

  module _ (t column base : ℕ) (five : Five t column base) (first count k : ℕ) where
    abbrev part : List Float
    part = span ns (base + first * 5) (count * 5)

    cell_at : (column' j : ℕ) → j < 5 → k < length part / 5 → number_place t column' ≡ j + 1 → get_or part (k * 5 + j) nan ≡ number_of t (first + k) column'
    cell_at column' j l h g =
        let m = length-take (count * 5) (drop (base + first * 5) ns) in
        span-at ns (base + first * 5) (count * 5) (k * 5 + j) nan (omega arith) ∙ number_at t column' base 5 first k j five.first five.stride g

    pub cubic-join : k < length (cubics_in ws ns base first count) → cubic_at (cubics_in ws ns base first count) k ≡ cubic_of t column (first + k)
    cubic-join h =
        let l : k < length part / 5 = rw (cubic-count part) at h in
        cubic_in_lem part k l
        ∙ cubic-same (ap (λ (p : ℕ). get_or part p nan) (sym (add-zero (k * 5))) ∙ cell_at column 0 (omega arith) l five.start) (cell_at (column + 1) 1 (omega arith) l five.a) (cell_at (column + 2) 2 (omega arith) l five.b) (cell_at (column + 3) 3 (omega arith) l five.c) (cell_at (column + 4) 4 (omega arith) l five.d)

  -- height: start inner outer
  pub height-join : (first count k : ℕ) → k < length (heights_in ws ns first count)
      → height_def_at (heights_in ws ns first count) k ≡ record { s_offset = number_of 9 (first + k) 2; inner = number_of 9 (first + k) 3; outer = number_of 9 (first + k) 4 }
  unfolding number_lines word_lines number_place number_columns
  height-join first count k h =
      let part : List Float = span ns (4305 + first * 3) (count * 3) in
      let l : k < length part / 3 = rw (height-count part) at h in
      let m : length part ≤ count * 3 = length-span ns (4305 + first * 3) (count * 3) in
      height_in_lem part k l
      ∙ height-same (ap (λ (p : ℕ). get_or part p nan) (sym (add-zero (k * 3))) ∙ span-at ns (4305 + first * 3) (count * 3) (k * 3 + 0) nan (omega arith) ∙ number_at 9 2 4305 3 first k 0 refl refl refl)
      (span-at ns (4305 + first * 3) (count * 3) (k * 3 + 1) nan (omega arith) ∙ number_at 9 3 4305 3 first k 1 refl refl refl)
      (span-at ns (4305 + first * 3) (count * 3) (k * 3 + 2) nan (omega arith) ∙ number_at 9 4 4305 3 first k 2 refl refl refl)
