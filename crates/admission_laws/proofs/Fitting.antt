-- Every number of a lent slice is a value of its format (`c.shared-slice-known.given` of a caller's proof is `Fitting`), so every number of the road that it stands for is. What is not there is a NaN, which fits.
use Prim.Native.Nat.{ℕ, zero, suc, ◌+◌, ◌*◌, ◌/◌, ◌<◌, ◌≤◌}
use mathlib.Core.Path.{sym, subst}
use mathlib.Core.Bool.{Bool, true, false, not, cond}
use mathlib.Core.List.{List, [], ◌∷◌}
use lib.ListN.{length, get_or, take, drop}
use lib.Seq.{get_or-drop}
use lib.Dec.{T, ltb, eqb, ltb→lt, nltb→le}
use lib.Ieee.{Float, nan, binary64, fits}
use lib.Ieee.Fits.{nan-fits}
use Rattle.records_cubic.specs.declared.cubics.Cubic.{Cubic}
use Rattle.records.specs.declared.points.GeomRec.{GeomRec}
use Rattle.records.specs.declared.points.GeomShape.{GeomShape}
use Rattle.records.specs.declared.points.GeomShape.TheVariants.{Line, Arc, Spiral}
use Rattle.records.specs.declared.points.HeightDef.{HeightDef}
use Rattle.records_lent.specs.Lists.{tabulate, span}
use Rattle.records_cubic.specs.Cubics.{cubics_of, cubic_at, cubic_from, no_cubic}
use Rattle.records.specs.Roads.{Road, Lane, Section, Strip, road_of, geom_in, lane_in, section_in, profile_in, column_in, strip_in, heights_of, height_def_at, height_def_from, no_height, geom_at, geom_from, no_geom, geom_shape_of, section_of, no_section, lane_of, no_lane, profile_at, no_profile, strip_at, column_of, column_by, absent, present}
use Rattle.records_lent.proofs.TableLaws.{table_at, table-past}

abbrev pub Fits64 : Float → Type 0
Fits64 x = T (fits binary64 x)

-- every number of a list, a NaN past its end
abbrev pub Fitting : List Float → Type 0
Fitting xs = (k : ℕ) → Fits64 (get_or xs k nan)

pub record CubicFits (cubic : Cubic) : Type 0 where
  pub start : Fits64 cubic.start
  pub a : Fits64 cubic.a
  pub b : Fits64 cubic.b
  pub c : Fits64 cubic.c
  pub d : Fits64 cubic.d

abbrev pub CubicsFit : List Cubic → Type 0
CubicsFit cs = (i : ℕ) → CubicFits (cubic_at cs i)

pub record HeightFits (h : HeightDef) : Type 0 where
  pub start : Fits64 h.s_offset
  pub inner : Fits64 h.inner
  pub outer : Fits64 h.outer

abbrev pub HeightsFit : List HeightDef → Type 0
HeightsFit hs = (i : ℕ) → HeightFits (height_def_at hs i)

abbrev pub ShapeFits : GeomShape → Type 0
ShapeFits Line = Unit {0}
ShapeFits (Arc k) = Fits64 k
ShapeFits (Spiral a b) = Fits64 a × Fits64 b

pub record GeomFits (g : GeomRec) : Type 0 where
  pub s : Fits64 g.s
  pub x : Fits64 g.x
  pub y : Fits64 g.y
  pub hdg : Fits64 g.hdg
  pub length : Fits64 g.length
  pub shape : ShapeFits g.shape

pub record RoadFits (road : Road) : Type 0 where
  pub length : Fits64 road.length
  pub geoms : (i : ℕ) → GeomFits (geom_at road i)
  pub elevations : CubicsFit road.elevations
  pub superelevations : CubicsFit road.superelevations
  pub offsets : CubicsFit road.offsets
  pub tshifts : CubicsFit road.tshifts
  pub sections : (i : ℕ) → Fits64 (section_of road i).start
  pub extents : (i : ℕ) (right : Bool) (k : ℕ) → CubicsFit (lane_of road i right k).extents
  pub heights : (i : ℕ) (right : Bool) (k : ℕ) → HeightsFit (lane_of road i right k).heights
  pub profiles : (i : ℕ) → Fits64 (profile_at road i).s
  pub shapes : (i : ℕ) → CubicsFit (profile_at road i).shapes
  pub columns : (i column : ℕ) → CubicsFit (column_of (strip_at road i) column)

-- ---- lists

-- below n or not
module _ {A : Type 0} (P : A → Type 0) (f : ℕ → A) (n : ℕ) (d : A) where
  table-all : ((i : ℕ) → P (f i)) → P d → (i : ℕ) → P (get_or (tabulate f n) i d)
  table-all h k i = go (ltb i n) (ltb→lt i n) (nltb→le i n)
    where
      go : (b : Bool) → (T b → i < n) → (T (not b) → n ≤ i) → P (get_or (tabulate f n) i d)
      go true l m = subst P (sym (table_at f n i d (l tt))) (h i)
      go false l m = subst P (sym (table-past f n i d (m tt))) k

no_cubic_lem : CubicFits no_cubic
no_cubic_lem = let n = nan-fits binary64 in record { start = n; a = n; b = n; c = n; d = n }

no_height_lem : HeightFits no_height
no_height_lem = let n = nan-fits binary64 in record { start = n; inner = n; outer = n }

none-fit : CubicsFit []
none-fit i = no_cubic_lem

module _ (xs : List Float) (h : Fitting xs) where
  pub cubics-fit : CubicsFit (cubics_of xs)
  unfolding cubics_of
  cubics-fit = table-all CubicFits (λ i. cubic_from xs (i * 5)) (length xs / 5) no_cubic (λ i. record { start = h (i * 5); a = h (i * 5 + 1); b = h (i * 5 + 2); c = h (i * 5 + 3); d = h (i * 5 + 4) }) no_cubic_lem

  pub heights-fit : HeightsFit (heights_of xs)
  unfolding heights_of
  heights-fit = table-all HeightFits (λ i. height_def_from xs (i * 3)) (length xs / 3) no_height (λ i. record { start = h (i * 3); inner = h (i * 3 + 1); outer = h (i * 3 + 2) }) no_height_lem

take-fits : (n : ℕ) (xs : List Float) → Fitting xs → Fitting (take n xs)
take-fits zero xs h k = nan-fits binary64
take-fits (suc n) [] h k = nan-fits binary64
take-fits (suc n) (x ∷ xs) h zero = h zero
take-fits (suc n) (x ∷ xs) h (suc k) = take-fits n xs (λ j. h (suc j)) k

pub span_fits : (xs : List Float) → Fitting xs → (start count : ℕ) → Fitting (span xs start count)
span_fits xs h start count = take-fits count (drop start xs) (λ k. subst Fits64 (sym (get_or-drop start xs k nan)) (h (start + k)))

-- ---- the parts of a road

shape-fits : (kind : ℕ) (x y : Float) → Fits64 x → Fits64 y → ShapeFits (geom_shape_of kind x y)
shape-fits kind x y h k = go (eqb kind 1) (eqb kind 2)
  where
    go : (p q : Bool) → ShapeFits (cond p (Arc x) (cond q (Spiral x y) Line))
    go true q = h
    go false true = (h, k)
    go false false = tt

geom-fits : (xs : List Float) (kind : ℕ) → Fitting xs → GeomFits (geom_from xs kind)
geom-fits xs kind h = record { s = h 0; x = h 1; y = h 2; hdg = h 3; length = h 4; shape = shape-fits kind (get_or xs 5 nan) (get_or xs 6 nan) (h 5) (h 6) }

abbrev LaneFits : Lane → Type 0
LaneFits lane = CubicsFit lane.extents × HeightsFit lane.heights

no_lane_lem : LaneFits no_lane
no_lane_lem = (none-fit, λ i. no_height_lem)

abbrev SideFits : Section → Type 0
SideFits x = (right : Bool) (k : ℕ) → LaneFits (get_or (cond right x.right x.left) k no_lane)

no_sides : SideFits no_section
no_sides true k = no_lane_lem
no_sides false k = no_lane_lem

abbrev StripFits : Strip → Type 0
StripFits strip = (column : ℕ) → CubicsFit (column_of strip column)

module _ (words : List ℕ) (numbers : List Float) (h : Fitting numbers) where
  part-fits : (start count : ℕ) → CubicsFit (cubics_of (span numbers start count))
  part-fits start count = cubics-fit (span numbers start count) (span_fits numbers h start count)

  lane-fits : (j : ℕ) → LaneFits (lane_in words numbers j)
  unfolding lane_in
  lane-fits j =
      let k = 119 + j * 6 in
      let start = 4305 + get_or words (k + 4) 0 * 3 in
      let count = get_or words (k + 5) 0 * 3 in
      (part-fits (1745 + get_or words (k + 2) 0 * 5) (get_or words (k + 3) 0 * 5), heights-fit (span numbers start count) (span_fits numbers h start count))

  sides-fit : (i : ℕ) → SideFits (section_in words numbers i)
  unfolding section_in
  sides-fit i true k =
      let w = 71 + i * 3 in
      table-all LaneFits (λ j. lane_in words numbers (get_or words w 0 + get_or words (w + 1) 0 + j)) (get_or words (w + 2) 0) no_lane (λ j. lane-fits (get_or words w 0 + get_or words (w + 1) 0 + j)) no_lane_lem k
  sides-fit i false k =
      let w = 71 + i * 3 in
      table-all LaneFits (λ j. lane_in words numbers (get_or words w 0 + j)) (get_or words (w + 1) 0) no_lane (λ j. lane-fits (get_or words w 0 + j)) no_lane_lem k

  column_fits : (i column : ℕ) → CubicsFit (column_in words numbers i column)
  unfolding column_in
  column_fits i column =
      let k = 1303 + i * 11 + 1 + column * 2 in
      part-fits (7137 + get_or words k 0 * 5) (get_or words (k + 1) 0 * 5)

  def-fits : (i : ℕ) (code : Bool) (column : ℕ) → CubicsFit (column_by (record { relative = code; width = column_in words numbers i 0; terms = tabulate (λ j. column_in words numbers i (j + 1)) 4 }) column)
  def-fits i code zero = column_fits i 0
  def-fits i code (suc j) = table-all CubicsFit (λ j. column_in words numbers i (j + 1)) 4 [] (λ j. column_fits i (j + 1)) none-fit j

  strip-fits : (i : ℕ) → StripFits (strip_in words numbers i)
  unfolding strip_in
  strip-fits i column = go (eqb (get_or words (1303 + i * 11) 0) 0) (eqb (get_or words (1303 + i * 11) 0) 2)
    where
      go : (b code : Bool) → CubicsFit (column_of (cond b absent (present (record { relative = code; width = column_in words numbers i 0; terms = tabulate (λ j. column_in words numbers i (j + 1)) 4 }))) column)
      go true code = none-fit
      go false code = def-fits i code column

  section-fits : (i : ℕ) → Fits64 (section_in words numbers i).start
  unfolding section_in
  section-fits i = h (1729 + i)

  profile-fits : (i : ℕ) → Fits64 (profile_in words numbers i).s × CubicsFit (profile_in words numbers i).shapes
  unfolding profile_in
  profile-fits i = (h (5841 + i), part-fits (5857 + get_or words (1271 + i * 2) 0 * 5) (get_or words (1271 + i * 2 + 1) 0 * 5))

  geom_in-fits : (i : ℕ) → GeomFits (geom_in words numbers i)
  unfolding geom_in
  geom_in-fits i = geom-fits (span numbers (1 + i * 7) 7) (get_or words (7 + i) 0) (span_fits numbers h (1 + i * 7) 7)

  pub road-fits : RoadFits (road_of words numbers)
  unfolding road_of
  road-fits =
      record {
        length = h 0;
        geoms = table-all GeomFits (geom_in words numbers) (get_or words 0 0) no_geom geom_in-fits (geom-fits [] 0 (λ k. nan-fits binary64));
        elevations = part-fits 449 (get_or words 1 0 * 5);
        superelevations = part-fits 769 (get_or words 2 0 * 5);
        offsets = part-fits 1089 (get_or words 3 0 * 5);
        tshifts = part-fits 1409 (get_or words 4 0 * 5);
        sections = table-all (λ x. Fits64 x.start) (section_in words numbers) (get_or words 5 0) no_section section-fits (nan-fits binary64);
        extents = λ i right k. (table-all SideFits (section_in words numbers) (get_or words 5 0) no_section sides-fit no_sides i right k).0;
        heights = λ i right k. (table-all SideFits (section_in words numbers) (get_or words 5 0) no_section sides-fit no_sides i right k).1;
        profiles = table-all (λ x. Fits64 x.s) (profile_in words numbers) (get_or words 6 0) no_profile (λ i. (profile-fits i).0) (nan-fits binary64);
        shapes = table-all (λ x. CubicsFit x.shapes) (profile_in words numbers) (get_or words 6 0) no_profile (λ i. (profile-fits i).1) none-fit;
        columns = table-all StripFits (strip_in words numbers) 4 absent strip-fits (λ column. none-fit);
      }
