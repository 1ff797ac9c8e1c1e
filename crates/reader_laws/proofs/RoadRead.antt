-- The road that an accepted text leaves in memory, line by line: what `road_of` decodes is what the text's lines say. Every line of a table's numbers; the lists along the road whole.
use Prim.Native.Nat.{ℕ, zero, suc, ◌+◌, ◌*◌, ◌<◌, ◌≤◌, suc-le-suc}
use native.Mathlib.Omega.{arith}
use native.Mathlib.Nat.{le_of_suc-le-suc, not-suc-le-zero, zero-add, zero-lt-suc}
use mathlib.Core.Path.{◌≡◌, refl, sym, ◌∙◌, ap, subst}
use mathlib.Core.List.{List, [], ◌∷◌, map}
use lib.ListN.{length, get_or, length-map, get_or-map}
use lib.Seq.{ext_get_or}
use lib.Ieee.{Float}
use Rattle.records.specs.declared.points.GeomRec.{GeomRec}
use Rattle.records.specs.declared.points.HeightDef.{HeightDef}
use Rattle.records_cubic.specs.Cubics.{no_cubic}
use Rattle.records.specs.Layout.{elev_base, bank_base, offset_base, tshift_base}
use Rattle.records.specs.Roads.{Section, Profile, road_of, geom_shape_of, unused_of, cubics_in, section_in, profile_in, section_of, profile_at}
use Rattle.records.specs.Roads as records-roads
use Rattle.records.proofs.RoadLaws.{section_in_lem, profile_in_lem}
use Rattle.records_lent.specs.Lists.{tabulate}
use Rattle.records_lent.proofs.TableLaws.{length-table}
use Rattle.admission_structure.proofs.StructureLaws.{cubics-full}
use Rattle.reader_lines.specs.Columns.{cell_of, no_cells}
use Rattle.std.specs.Prelude.{Some}
use Rattle.reader_store.specs.Layout.{number_lines, word_lines, number_columns, word_columns, code_of, count_place}
use Rattle.reader_laws.proofs.ColumnPlaces.{number_place, word_place}
use Rattle.reader_store.specs.declared.progress.Progress.{Progress}
use Rattle.reader_calls.specs.Reading.{done}
use Rattle.reader_laws.proofs.ReadTables.{Stored}
use Rattle.reader_laws.specs.Lines.{lines_of, number_in, cubic_in, height_in, geom_said, unused_said}
use Rattle.reader_laws.proofs.Layouts.{Five, elev-five, bank-five, offset-five, tshift-five, number_of, code_of as code_at, cubic_of, cubic-join, cubic-same, elevations-join, superelevations-join, offsets-join, tshifts-join, sections-join, section_start-join, profiles-join, profile-join, length-join, geom-join, geoms-join, unused-join, unused-list-join, height-same}
use Rattle.reader_laws.proofs.TablesKept.{number-kept, rows_inside}
use Rattle.reader_laws.proofs.CountsKept.{count_kept_lem}
use Rattle.reader_laws.proofs.KindsKept.{kind-kept}
use Rattle.reader_laws.proofs.RoadLine.{road_line}

-- below a list's length any default will do
any : {A : Type 0} (xs : List A) (i : ℕ) (d e : A) → i < length xs → get_or xs i d ≡ get_or xs i e
any [] i d e h = absurd (not-suc-le-zero h)
any (x ∷ xs) zero d e h = refl
any (x ∷ xs) (suc i) d e h = any xs i d e (le_of_suc-le-suc h)

-- the tables whose lines are counted in a word of their own; and the numbers of road, section, height, profile and mark
counted : (count_place 2 ≡ Some 1) × (count_place 3 ≡ Some 2) × (count_place 4 ≡ Some 3) × (count_place 5 ≡ Some 4) × (count_place 6 ≡ Some 5) × (count_place 10 ≡ Some 6) × (count_place 1 ≡ Some 0)
unfolding count_place
counted = (refl, refl, refl, refl, refl, refl, refl)

single : (number_place 6 0 ≡ 0 + 1) × (number_place 10 0 ≡ 0 + 1) × (number_place 0 0 ≡ 0 + 1) × (number_place 9 2 ≡ 0 + 1) × (number_place 9 3 ≡ 1 + 1) × (number_place 9 4 ≡ 2 + 1) × (number_place 14 2 ≡ 0 + 1) × (number_place 14 3 ≡ 1 + 1)
unfolding number_place number_columns
single = (refl, refl, refl, refl, refl, refl, refl, refl)

-- a list of the values of a function is a list of lines, each by itself
table-map : {A B : Type 0} (rows : List A) (f : ℕ → B) (g : A → B) (d : A) → ((i : ℕ) → i < length rows → f i ≡ g (get_or rows i d)) → tabulate f (length rows) ≡ map g rows
unfolding tabulate
table-map [] f g d h = refl
table-map (r ∷ rs) f g d h = cons_same (h 0 (zero-lt-suc (length rs))) (table-map rs (λ k. f (suc k)) g d (λ i l. h (suc i) (suc-le-suc l)))
  where
    cons_same : {B : Type 0} {x y : B} {xs ys : List B} → x ≡ y → xs ≡ ys → ◌≡◌ {A = List B} (x ∷ xs) (y ∷ ys)
    cons_same e f = cc

geom-same : (kind kind' : ℕ) {a b c d e f g a' b' c' d' e' f' g' : Float} → kind ≡ kind' → a ≡ a' → b ≡ b' → c ≡ c' → d ≡ d' → e ≡ e' → f ≡ f' → g ≡ g'
    → ◌≡◌ {A = GeomRec} (record { s = a; x = b; y = c; hdg = d; length = e; shape = geom_shape_of kind f g }) (record { s = a'; x = b'; y = c'; hdg = d'; length = e'; shape = geom_shape_of kind' f' g' })
geom-same kind kind' k p q r t u v w = cc

unused-same : (kind kind' : ℕ) (f g f' g' : Float) → kind ≡ kind' → f ≡ f' → g ≡ g' → unused_of kind f g ≡ unused_of kind' f' g'
unused-same kind kind' f g f' g' k p q = cc

geom-columns : (number_place 1 0 ≡ 0 + 1) × (number_place 1 1 ≡ 1 + 1) × (number_place 1 2 ≡ 2 + 1) × (number_place 1 3 ≡ 3 + 1) × (number_place 1 4 ≡ 4 + 1) × (number_place 1 6 ≡ 5 + 1) × (number_place 1 7 ≡ 6 + 1)
unfolding number_place number_columns
geom-columns = (refl, refl, refl, refl, refl, refl, refl)

module _ (text : List ℕ) (l m n at count : ℕ) (progress : Progress) (ws : List ℕ) (ns : List Float) (vs : List ℕ) (read : Stored text l m n (done at count progress ws ns vs)) where
  -- a cell of line k
  cell-read : (t k c j : ℕ) → t < 16 → k < length (lines_of text t) → number_place t c ≡ j + 1 → number_of ws ns t k c ≡ number_in (get_or (lines_of text t) k no_cells) c
  cell-read t k c j h i e = number-kept text l m n at count progress ws ns vs read.form t k c h i (omega arith)

  -- line k of a table with the columns start a b c d: elev, bank, offset, tshift, extent, shape, cubic
  pub line_read : (t column base : ℕ) → Five t column base → t < 16 → (k : ℕ) → k < length (lines_of text t) → cubic_of ws ns t column k ≡ cubic_in column (get_or (lines_of text t) k no_cells)
  line_read t column base five h k i =
      cubic-same (cell-read t k column 0 h i five.start) (cell-read t k (column + 1) 1 h i five.a) (cell-read t k (column + 2) 2 h i five.b) (cell-read t k (column + 3) 3 h i five.c) (cell-read t k (column + 4) 4 h i five.d)

  -- a list along the road is the text's lines, in their order
  module _ (t column base : ℕ) (five : Five t column base) (small : t < 16) (p : ℕ) (own : count_place t ≡ Some p) where
    cubics-all : cubics_in ws ns base 0 (length (lines_of text t)) ≡ map (cubic_in column) (lines_of text t)
    cubics-all =
        ext_get_or (cubic_in column no_cells) (cubics_in ws ns base 0 (length (lines_of text t))) (map (cubic_in column) (lines_of text t)) (full ∙ sym (length-map (lines_of text t) (cubic_in column)))
        (λ i h. any (cubics_in ws ns base 0 (length (lines_of text t))) i (cubic_in column no_cells) no_cubic h ∙ cubic-join ws ns t column base five 0 (length (lines_of text t)) i h
        ∙ ap (cubic_of ws ns t column) (zero-add i) ∙ line_read t column base five small i (subst (λ (k : ℕ). i < k) full h) ∙ sym (get_or-map (cubic_in column) (lines_of text t) i no_cells))
      where
        full : length (cubics_in ws ns base 0 (length (lines_of text t))) ≡ length (lines_of text t)
        full =
            let r = rows_inside text l m n at count progress ws ns vs read.form t small in
            let f = five.first in
            let s : (number_lines t).first + length (lines_of text t) * 5 ≤ length ns = subst (λ (q : ℕ). (number_lines t).first + length (lines_of text t) * q ≤ length ns) five.stride r in
            cubics-full ws ns base 0 (length (lines_of text t)) (omega arith)

    cubics-read : cubics_in ws ns base 0 (get_or ws p 0) ≡ map (cubic_in column) (lines_of text t)
    cubics-read = ap (cubics_in ws ns base 0) (count_kept_lem text l m n at count progress ws ns vs read.form t p small own) ∙ cubics-all

  pub elevations-read : (road_of ws ns).elevations ≡ map (cubic_in 0) (lines_of text 2)
  unfolding count_place
  elevations-read =
      elevations-join ws ns ∙ ap (λ (b : ℕ). cubics_in ws ns b 0 (get_or ws 1 0)) elev-five.first ∙ cubics-read 2 0 elev_base elev-five (omega arith) 1 counted.0

  pub superelevations-read : (road_of ws ns).superelevations ≡ map (cubic_in 0) (lines_of text 3)
  unfolding count_place
  superelevations-read =
      superelevations-join ws ns ∙ ap (λ (b : ℕ). cubics_in ws ns b 0 (get_or ws 2 0)) bank-five.first ∙ cubics-read 3 0 bank_base bank-five (omega arith) 2 counted.1

  pub offsets-read : (road_of ws ns).offsets ≡ map (cubic_in 0) (lines_of text 4)
  unfolding count_place
  offsets-read =
      offsets-join ws ns ∙ ap (λ (b : ℕ). cubics_in ws ns b 0 (get_or ws 3 0)) offset-five.first ∙ cubics-read 4 0 offset_base offset-five (omega arith) 3 counted.2

  pub tshifts-read : (road_of ws ns).tshifts ≡ map (cubic_in 0) (lines_of text 5)
  unfolding count_place
  tshifts-read =
      tshifts-join ws ns ∙ ap (λ (b : ℕ). cubics_in ws ns b 0 (get_or ws 4 0)) tshift-five.first ∙ cubics-read 5 0 tshift_base tshift-five (omega arith) 4 counted.3

  -- as many sections and profiles as lines, and where they start
  pub sections-read : length (road_of ws ns).sections ≡ length (lines_of text 6)
  unfolding count_place
  sections-read = ap (λ (xs : List Section). length xs) (sections-join ws ns) ∙ length-table (section_in ws ns) (get_or ws 5 0) ∙ count_kept_lem text l m n at count progress ws ns vs read.form 6 5 (omega arith) counted.4

  pub section_start-read : (i : ℕ) → i < length (lines_of text 6) → (section_of (road_of ws ns) i).start ≡ number_in (get_or (lines_of text 6) i no_cells) 0
  section_start-read i h =
      ap (λ (x : Section). x.start) (section_in_lem ws ns i (subst (λ (k : ℕ). i < k) (sym (count_kept_lem text l m n at count progress ws ns vs read.form 6 5 (omega arith) counted.4)) h)) ∙ section_start-join ws ns i ∙ cell-read 6 i 0 0 (omega arith) h single.0

  pub profiles-read : length (road_of ws ns).profiles ≡ length (lines_of text 10)
  unfolding count_place
  profiles-read = ap (λ (xs : List Profile). length xs) (profiles-join ws ns) ∙ length-table (profile_in ws ns) (get_or ws 6 0) ∙ count_kept_lem text l m n at count progress ws ns vs read.form 10 6 (omega arith) counted.5

  pub profile_start-read : (i : ℕ) → i < length (lines_of text 10) → (profile_at (road_of ws ns) i).s ≡ number_in (get_or (lines_of text 10) i no_cells) 0
  profile_start-read i h =
      ap (λ (x : Profile). x.s) (profile_in_lem ws ns i (subst (λ (k : ℕ). i < k) (sym (count_kept_lem text l m n at count progress ws ns vs read.form 10 6 (omega arith) counted.5)) h) ∙ profile-join ws ns i) ∙ cell-read 10 i 0 0 (omega arith) h single.1

  -- ---- geometries, each with its kind and its columns

  kind-read : (i : ℕ) → i < length (lines_of text 1) → code_at ws ns 1 i 5 ≡ code_of (cell_of (get_or (lines_of text 1) i no_cells) 5)
  unfolding number_lines word_lines word_place word_columns
  kind-read i h = ap (λ (p : ℕ). get_or ws p 0) (place i) ∙ kind-kept text l m n at count progress ws ns vs read.form i h
    where
      place : (i : ℕ) → 7 + i * 1 + 0 ≡ 7 + i
      place i = omega arith

  geom-read : (i : ℕ) → i < length (lines_of text 1) → records-roads.geom_in ws ns i ≡ geom_said (get_or (lines_of text 1) i no_cells)
  geom-read i h =
      geom-join ws ns i
      ∙ geom-same (code_at ws ns 1 i 5) (code_of (cell_of (get_or (lines_of text 1) i no_cells) 5)) (kind-read i h) (cell-read 1 i 0 0 (omega arith) h geom-columns.0) (cell-read 1 i 1 1 (omega arith) h geom-columns.1) (cell-read 1 i 2 2 (omega arith) h geom-columns.2) (cell-read 1 i 3 3 (omega arith) h geom-columns.3) (cell-read 1 i 4 4 (omega arith) h geom-columns.4) (cell-read 1 i 6 5 (omega arith) h geom-columns.5) (cell-read 1 i 7 6 (omega arith) h geom-columns.6)

  unused-read : (i : ℕ) → i < length (lines_of text 1) → records-roads.unused_in ws ns i ≡ unused_said (get_or (lines_of text 1) i no_cells)
  unused-read i h =
      unused-join ws ns i
      ∙ unused-same (code_at ws ns 1 i 5) (code_of (cell_of (get_or (lines_of text 1) i no_cells) 5)) (number_of ws ns 1 i 6) (number_of ws ns 1 i 7) (number_in (get_or (lines_of text 1) i no_cells) 6) (number_in (get_or (lines_of text 1) i no_cells) 7) (kind-read i h) (cell-read 1 i 6 5 (omega arith) h geom-columns.5) (cell-read 1 i 7 6 (omega arith) h geom-columns.6)

  pub geoms-read : (road_of ws ns).geoms ≡ map geom_said (lines_of text 1)
  unfolding count_place
  geoms-read =
      geoms-join ws ns ∙ ap (tabulate (records-roads.geom_in ws ns)) (count_kept_lem text l m n at count progress ws ns vs read.form 1 0 (omega arith) counted.6)
      ∙ table-map (lines_of text 1) (records-roads.geom_in ws ns) geom_said no_cells geom-read

  pub unused-all_read : (road_of ws ns).unused ≡ map unused_said (lines_of text 1)
  unfolding count_place
  unused-all_read =
      unused-list-join ws ns ∙ ap (tabulate (records-roads.unused_in ws ns)) (count_kept_lem text l m n at count progress ws ns vs read.form 1 0 (omega arith) counted.6)
      ∙ table-map (lines_of text 1) (records-roads.unused_in ws ns) unused_said no_cells unused-read

  -- the road's length, of the one line that there is
  pub length-read : (road_of ws ns).length ≡ number_in (get_or (lines_of text 0) 0 no_cells) 0
  length-read = length-join ws ns ∙ cell-read 0 0 0 0 (omega arith) (road_line text l m n at count progress ws ns vs read) single.2

  -- line k of height
  pub height-line_read : (k : ℕ) → k < length (lines_of text 9) → ◌≡◌ {A = HeightDef} (record { s_offset = number_of ws ns 9 k 2; inner = number_of ws ns 9 k 3; outer = number_of ws ns 9 k 4 }) (height_in (get_or (lines_of text 9) k no_cells))
  height-line_read k h = height-same (cell-read 9 k 2 0 (omega arith) h single.3) (cell-read 9 k 3 1 (omega arith) h single.4) (cell-read 9 k 4 2 (omega arith) h single.5)

  -- the span of line k of mark
  pub mark-span-read : (k : ℕ) → k < length (lines_of text 14)
      → (number_of ws ns 14 k 2 ≡ number_in (get_or (lines_of text 14) k no_cells) 2) × (number_of ws ns 14 k 3 ≡ number_in (get_or (lines_of text 14) k no_cells) 3)
  mark-span-read k h = (cell-read 14 k 2 0 (omega arith) h single.6, cell-read 14 k 3 1 (omega arith) h single.7)
