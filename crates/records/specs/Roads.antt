-- A road as the Rust's `Road` has it, a record of nested lists, and the road that two lent lists stand for. Definitions above this crate speak of `Road`, never of places, but for row 3's counts and ranges, a side's lines, and reading.
-- Decoding is total. A code that stands for no listed word, a count over its limit or a range past its table's end is refused by admission (row 3), so what they decode to does not matter.
use denote.Triple.Both.{Both}
use Rattle.std.specs.Borrow.{Bor}
use Rattle.std.specs.Prelude.{ℕ, zero, suc, ◌+◌, ◌*◌, ◌/◌, Bool, true, false, ◌&&◌, List, [], ◌∷◌, get_or, Float}
use Rattle.std.proofs.Math.Bool.{cond}
use Rattle.std.proofs.Math.ListN.{length}
use Rattle.std.proofs.Math.Dec.{eqb}
use Rattle.std.specs.Float.{nan}
use Rattle.std.specs.Float.Ieee.{eq}
use Rattle.float_laws.specs.Binary64.{f64, zero64}
use Rattle.records_cubic.specs.declared.cubics.Cubic.{Cubic}
use Rattle.records.specs.declared.points.GeomRec.{GeomRec}
use Rattle.records.specs.declared.points.GeomShape.{GeomShape}
use Rattle.records.specs.declared.points.GeomShape.TheVariants.{Line, Arc, Spiral}
use Rattle.records.specs.declared.points.HeightDef.{HeightDef}
use Rattle.records.specs.declared.points.Mark.{Mark}
use Rattle.records_lent.specs.Lists.{tabulate, span}
use Rattle.records_cubic.specs.Cubics.{cubics_of}
use Rattle.records.specs.Active.{last_start, or_first, active_up_to}
use Rattle.records.specs.Layout.{length_place, geom_base, geom_stride, elev_base, bank_base, offset_base, tshift_base, section_base, extent_base, height_base, profile_base, shape_base, cubic_base, cubic_stride, height_stride, geom_count_at, elev_count_at, bank_count_at, offset_count_at, tshift_count_at, section_count_at, profile_count_at, kind_words, section_words, section_stride, lane_words, lane_stride, profile_words, profile_stride, strip_words, strip_stride, section_mark_words, section_mark_stride, mark_words, mark_stride, span_base, span_stride}

-- ---- the road

-- "lane: section id extent level": a border lane has borders in place of widths; ids are places, 1, 2, .. left and -1, -2, .. right
pub record Lane : Type 0 where
  pub border : Bool
  pub level : Bool
  pub extents : List Cubic
  pub heights : List HeightDef

-- "section: start", with its lanes left and right, each side from the center outward, and its mark spans (document 02, point 2: "Mark spans in the section record")
pub record Section : Type 0 where
  pub start : Float
  pub left : List Lane
  pub right : List Lane
  pub marks : List Mark

-- "profile: s", with its shapes
pub record Profile : Type 0 where
  pub s : Float
  pub shapes : List Cubic

-- "strip: side place relative": one that is there, with its width's cubics and those of its terms 0 to 3; side and place are its place in the road's list
pub record StripDef : Type 0 where
  pub relative : Bool
  pub width : List Cubic
  pub terms : List (List Cubic)

-- A strip of a road, by its own two words and no option: where none is there the cross section goes by other rules, and it is taken for no strip with columns
pub data Strip : Type 0 where
  absent : Strip
  present : StripDef → Strip

-- The tables of "The job text", parents with their children. `unused`: for each geometry the columns k0, k1 that its kind does not use
pub record Road : Type 0 where
  pub length : Float
  pub geoms : List GeomRec
  pub unused : List (List Float)
  pub elevations : List Cubic
  pub superelevations : List Cubic
  pub offsets : List Cubic
  pub tshifts : List Cubic
  pub sections : List Section
  pub profiles : List Profile
  pub strips : List Strip

-- "arc of size ≤ 1e-9 is a line": a curvature up to here is straight
abbrev pub straight_curvature : Float
straight_curvature = f64 0x3e11_2e0b_e826_d695

-- ---- decoding

-- "kind line, arc or spiral", in this order from 0
abbrev pub geom_shape_of : ℕ → Float → Float → GeomShape
geom_shape_of kind k0 k1 = cond (eqb kind 1) (Arc k0) (cond (eqb kind 2) (Spiral k0 k1) Line)

-- "unused k0, k1 zero": those that are, both of a line and k1 of an arc
abbrev pub unused_of : ℕ → Float → Float → List Float
unused_of kind k0 k1 = cond (eqb kind 1) (k1 ∷ []) (cond (eqb kind 2) [] (k0 ∷ k1 ∷ []))

-- a geometry out of its kind and its seven numbers: s x y hdg length k0 k1
abbrev pub geom_from : List Float → ℕ → GeomRec
geom_from xs kind =
    record {
      s = get_or xs 0 nan;
      x = get_or xs 1 nan;
      y = get_or xs 2 nan;
      hdg = get_or xs 3 nan;
      length = get_or xs 4 nan;
      shape = geom_shape_of kind (get_or xs 5 nan) (get_or xs 6 nan);
    }

abbrev pub no_geom : GeomRec
no_geom = geom_from [] 0

-- three numbers from a place on: start inner outer
abbrev pub height_def_from : List Float → ℕ → HeightDef
height_def_from xs k = record { s_offset = get_or xs k nan; inner = get_or xs (k + 1) nan; outer = get_or xs (k + 2) nan }

abbrev pub no_height : HeightDef
no_height = record { s_offset = nan; inner = nan; outer = nan }

unfoldable pub heights_of : List Float → List HeightDef
unfolding tabulate
heights_of xs = tabulate (λ i. height_def_from xs (i * height_stride)) (length xs / height_stride)

-- the i-th height of a list, one of NaNs past its end
abbrev pub height_def_at : List HeightDef → ℕ → HeightDef
height_def_at hs i = get_or hs i no_height

module _ (words : List ℕ) (numbers : List Float) where
  -- a word, 0 past the end; a number, NaN past the end
  abbrev pub word_at : ℕ → ℕ
  word_at k = get_or words k 0

  abbrev pub number_at : ℕ → Float
  number_at k = get_or numbers k nan

  -- count cubics of the table at a base, from the first on
  abbrev pub cubics_in : ℕ → ℕ → ℕ → List Cubic
  cubics_in base first count = cubics_of (span numbers (base + first * cubic_stride) (count * cubic_stride))

  -- the i-th geometry, and its unused columns
  unfoldable pub geom_in : ℕ → GeomRec
  geom_in i = geom_from (span numbers (geom_base + i * geom_stride) geom_stride) (word_at (kind_words + i))

  unfoldable pub unused_in : ℕ → List Float
  unused_in i = unused_of (word_at (kind_words + i)) (number_at (geom_base + i * geom_stride + 5)) (number_at (geom_base + i * geom_stride + 6))

  -- count heights, from the first on
  abbrev pub heights_in : ℕ → ℕ → List HeightDef
  heights_in first count = heights_of (span numbers (height_base + first * height_stride) (count * height_stride))

  -- the j-th lane of the lane table; codes: extent 0 width, 1 border; level 0 or 1
  unfoldable pub lane_in : ℕ → Lane
  unfolding cubics_of heights_of
  lane_in j =
      let k = lane_words + j * lane_stride in
      record {
        border = eqb (word_at k) 1;
        level = eqb (word_at (k + 1)) 1;
        extents = cubics_in extent_base (word_at (k + 2)) (word_at (k + 3));
        heights = heights_in (word_at (k + 4)) (word_at (k + 5));
      }

  -- the j-th mark of the mark table
  unfoldable pub mark_in : ℕ → Mark
  mark_in j =
      let k = mark_words + j * mark_stride in
      let n = span_base + j * span_stride in
      record { lane = word_at k; kind = word_at (k + 1); start = number_at n; end = number_at (n + 1) }

  -- a section's lanes: from its first, the left ones, then the right ones; its range of marks
  unfoldable pub section_in : ℕ → Section
  unfolding tabulate lane_in mark_in
  section_in i =
      let k = section_words + i * section_stride in
      let m = section_mark_words + i * section_mark_stride in
      record {
        start = number_at (section_base + i);
        left = tabulate (λ j. lane_in (word_at k + j)) (word_at (k + 1));
        right = tabulate (λ j. lane_in (word_at k + word_at (k + 1) + j)) (word_at (k + 2));
        marks = tabulate (λ j. mark_in (word_at m + j)) (word_at (m + 1));
      }

  -- a profile with its range of shapes
  unfoldable pub profile_in : ℕ → Profile
  unfolding cubics_of
  profile_in i =
      let k = profile_words + i * profile_stride in
      record { s = number_at (profile_base + i); shapes = cubics_in shape_base (word_at k) (word_at (k + 1)) }

  -- the cubics of a strip's width (column 0) or of its term (column term + 1)
  unfoldable pub column_in : ℕ → ℕ → List Cubic
  unfolding cubics_of
  column_in i column = let k = strip_words + i * strip_stride + 1 + column * 2 in cubics_in cubic_base (word_at k) (word_at (k + 1))

  -- presence code: 0 absent, 1 there, 2 there and relative
  unfoldable pub strip_in : ℕ → Strip
  unfolding tabulate column_in
  strip_in i =
      let k = word_at (strip_words + i * strip_stride) in
      cond (eqb k 0) absent (present (record { relative = eqb k 2; width = column_in i 0; terms = tabulate (λ j. column_in i (j + 1)) 4 }))

  -- the road of the two lent lists: its length, and as many lines of each table as its count says
  unfoldable pub road_of : Road
  unfolding tabulate cubics_of geom_in unused_in section_in profile_in strip_in
  road_of =
      record {
        length = number_at length_place;
        geoms = tabulate geom_in (word_at geom_count_at);
        unused = tabulate unused_in (word_at geom_count_at);
        elevations = cubics_in elev_base 0 (word_at elev_count_at);
        superelevations = cubics_in bank_base 0 (word_at bank_count_at);
        offsets = cubics_in offset_base 0 (word_at offset_count_at);
        tshifts = cubics_in tshift_base 0 (word_at tshift_count_at);
        sections = tabulate section_in (word_at section_count_at);
        profiles = tabulate profile_in (word_at profile_count_at);
        strips = tabulate strip_in 4;
      }

-- ---- the parts of a road by place; past the end NaNs, no lanes, no marks, no cubics

abbrev pub geom_at : Road → ℕ → GeomRec
geom_at road i = get_or road.geoms i no_geom

-- "unused k0, k1 zero", of the i-th geometry
abbrev pub all_zero : List Float → Bool
all_zero [] = true
all_zero (x ∷ xs) = eq x zero64 && all_zero xs

abbrev pub unused_zero : Road → ℕ → Bool
unused_zero road i = all_zero (get_or road.unused i [])

abbrev pub no_section : Section
no_section = record { start = nan; left = []; right = []; marks = [] }

abbrev pub section_of : Road → ℕ → Section
section_of road i = get_or road.sections i no_section

abbrev pub no_lane : Lane
no_lane = record { border = false; level = false; extents = []; heights = [] }

-- the k-th lane of a section, from the center outward, on the right or on the left
abbrev pub lane_of : Road → ℕ → Bool → ℕ → Lane
lane_of road i right k = get_or (cond right (section_of road i).right (section_of road i).left) k no_lane

-- the j-th mark of a section; past the end one of no kind, whose span is NaN
abbrev pub no_mark : Mark
no_mark = record { lane = 0; kind = 0; start = nan; end = nan }

abbrev pub mark_at : Road → ℕ → ℕ → Mark
mark_at road i j = get_or (section_of road i).marks j no_mark

abbrev pub no_profile : Profile
no_profile = record { s = nan; shapes = [] }

abbrev pub profile_at : Road → ℕ → Profile
profile_at road i = get_or road.profiles i no_profile

abbrev pub strip_at : Road → ℕ → Strip
strip_at road i = get_or road.strips i absent

-- column 0 is the width's cubics, column j + 1 those of term j
abbrev pub column_by : StripDef → ℕ → List Cubic
column_by d zero = d.width
column_by d (suc j) = get_or d.terms j []

abbrev pub column_of : Strip → ℕ → List Cubic
column_of absent c = []
column_of (present d) c = column_by d c

-- ---- the geometry and the section at s: "the last with start ≤ s + 1e-9; .. (geometry, section: the first)"

unfoldable pub geom_index : Road → Float → ℕ
unfolding last_start
geom_index road s = or_first (last_start (λ i. (geom_at road i).s) (active_up_to s) (length road.geoms))

unfoldable pub section_index : Road → Float → ℕ
unfolding last_start
section_index road s = or_first (last_start (λ i. (section_of road i).start) (active_up_to s) (length road.sections))

-- The road of the two slices that a function was lent, as its contract names it
abbrev pub lent_road : {X Y : Type 0} → Both (Bor (List ℕ)) X → Both (Bor (List Float)) Y → Road
lent_road words numbers = road_of words.entry.now numbers.entry.now
