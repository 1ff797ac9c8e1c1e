-- What the road of two lent lists holds, place by place: how long each list is, its i-th element below that, nothing past it. Every list is a table, so each law is one of TableLaws.
use Prim.Native.Nat.{ℕ, zero, suc, ◌+◌, ◌*◌, ◌<◌, ◌≤◌}
use native.Mathlib.Omega.{arith}
use native.Mathlib.Numerals.{add-one}
use mathlib.Core.Path.{◌≡◌, refl, ap, ◌∙◌, sym}
use mathlib.Core.Bool.{Bool, true, false, ◌&&◌, cond, and-true}
use mathlib.Core.List.{List, [], ◌∷◌}
use lib.ListN.{length, get_or}
use lib.Dec.{eqb}
use lib.Ieee.{Float, nan, eq}
use Rattle.float_laws.specs.Binary64.{zero64}
use Rattle.records.specs.declared.points.GeomShape.{GeomShape}
use Rattle.records.specs.declared.points.GeomShape.TheVariants.{Line, Arc, Spiral}
use Rattle.records_lent.specs.Lists.{tabulate, span}
use Rattle.records.specs.Roads.{Road, Section, Profile, Strip, absent, present, road_of, geom_in, unused_in, lane_in, section_in, profile_in, column_in, strip_in, word_at, geom_shape_of, geom_from, no_geom, geom_at, all_zero, unused_zero, no_section, section_of, no_lane, lane_of, no_mark, mark_at, mark_in, no_profile, profile_at, strip_at, column_of}
use Rattle.records_lent.proofs.TableLaws.{length-table, table_at, table-past, span-at, span-table}

-- a place by a sum of two literals, and by a sum of three
plus : (a b x : ℕ) → a + x + b ≡ a + b + x
plus a b x = omega arith

module _ (words : List ℕ) (numbers : List Float) where
  abbrev road : Road
  road = road_of words numbers

  -- ---- geometries
  pub geom_count_lem : length road.geoms ≡ get_or words 0 0
  unfolding road_of
  geom_count_lem = length-table _ _

  -- a count that a function has been told
  pub geom_count_read : {road' : Road} {n : ℕ} → n ≡ length road'.geoms → road ≡ road' → n ≡ get_or words 0 0
  geom_count_read e f = e ∙ ap (λ (x : Road). length x.geoms) (sym f) ∙ geom_count_lem

  pub geom_in_lem : (i : ℕ) → i < get_or words 0 0 → geom_at road i ≡ geom_in words numbers i
  unfolding road_of
  geom_in_lem i h = table_at _ _ i no_geom h

  pub geom-past : (i : ℕ) → get_or words 0 0 ≤ i → geom_at road i ≡ no_geom
  unfolding road_of
  geom-past i h = table-past _ _ i no_geom h

  pub unused_in_lem : (i : ℕ) → i < get_or words 0 0 → get_or road.unused i [] ≡ unused_in words numbers i
  unfolding road_of
  unused_in_lem i h = table_at _ _ i [] h

  pub unused-past : (i : ℕ) → get_or words 0 0 ≤ i → get_or road.unused i [] ≡ []
  unfolding road_of
  unused-past i h = table-past _ _ i [] h

  -- ---- sections
  pub section_count_lem : length road.sections ≡ get_or words 5 0
  unfolding road_of
  section_count_lem = length-table _ _

  pub section_count_read : {road' : Road} {n : ℕ} → n ≡ length road'.sections → road ≡ road' → n ≡ get_or words 5 0
  section_count_read e f = e ∙ ap (λ (x : Road). length x.sections) (sym f) ∙ section_count_lem

  -- the starts stand one after another
  pub section-starts : (i : ℕ) {n : ℕ} → n ≡ get_or words 5 0 → get_or (span numbers 1729 n) i nan ≡ (section_of road i).start
  unfolding road_of section_in
  section-starts i e = rw e (span-table (section_in words numbers) (λ (x : Section). x.start) no_section numbers 1729 (get_or words 5 0) i (λ k h. refl))

  pub section_in_lem : (i : ℕ) → i < get_or words 5 0 → section_of road i ≡ section_in words numbers i
  unfolding road_of
  section_in_lem i h = table_at _ _ i no_section h

  pub section-past : (i : ℕ) → get_or words 5 0 ≤ i → section_of road i ≡ no_section
  unfolding road_of
  section-past i h = table-past _ _ i no_section h

  pub left_count_lem : (i : ℕ) → i < get_or words 5 0 → length (section_of road i).left ≡ get_or words (72 + i * 3) 0
  unfolding section_in
  left_count_lem i h = ap (λ (x : Section). length x.left) (section_in_lem i h) ∙ length-table _ _ ∙ ap (word_at words numbers) (plus 71 1 (i * 3))

  pub right_count_lem : (i : ℕ) → i < get_or words 5 0 → length (section_of road i).right ≡ get_or words (73 + i * 3) 0
  unfolding section_in
  right_count_lem i h = ap (λ (x : Section). length x.right) (section_in_lem i h) ∙ length-table _ _ ∙ ap (word_at words numbers) (plus 71 2 (i * 3))

  -- a side's lanes, counted by the word that its first word's place leads to
  pub lane_count_lem :
      (i : ℕ) (right : Bool) {first : ℕ} → i < get_or words 5 0 → first ≡ cond right 73 72
      → length (cond right (section_of road i).right (section_of road i).left) ≡ get_or words (first + i * 3) 0
  lane_count_lem i true h e = rw e (right_count_lem i h)
  lane_count_lem i false h e = rw e (left_count_lem i h)

  pub lanes_none : (i : ℕ) (right : Bool) → get_or words 5 0 ≤ i → length (cond right (section_of road i).right (section_of road i).left) ≡ 0
  lanes_none i true h = rw (section-past i h)
  lanes_none i false h = rw (section-past i h)

  -- ---- the lanes of a section: the left ones from its first lane on, then the right ones
  pub left_lane-in :
      (i k : ℕ) → i < get_or words 5 0 → k < get_or words (72 + i * 3) 0
      → lane_of road i false k ≡ lane_in words numbers (get_or words (71 + i * 3) 0 + k)
  unfolding section_in
  left_lane-in i k h l =
      ap (λ (x : Section). get_or x.left k no_lane) (section_in_lem i h)
      ∙ table_at (λ j. lane_in words numbers (get_or words (71 + i * 3) 0 + j)) (get_or words (71 + i * 3 + 1) 0) k no_lane (rw (plus 71 1 (i * 3)) l)

  pub left_lane-past : (i k : ℕ) → i < get_or words 5 0 → get_or words (72 + i * 3) 0 ≤ k → lane_of road i false k ≡ no_lane
  unfolding section_in
  left_lane-past i k h l = ap (λ (x : Section). get_or x.left k no_lane) (section_in_lem i h) ∙ table-past _ (get_or words (71 + i * 3 + 1) 0) k no_lane (rw (plus 71 1 (i * 3)) l)

  pub right_lane-in :
      (i k : ℕ) → i < get_or words 5 0 → k < get_or words (73 + i * 3) 0
      → lane_of road i true k ≡ lane_in words numbers (get_or words (71 + i * 3) 0 + get_or words (72 + i * 3) 0 + k)
  unfolding section_in
  right_lane-in i k h l =
      ap (λ (x : Section). get_or x.right k no_lane) (section_in_lem i h)
      ∙ table_at (λ j. lane_in words numbers (get_or words (71 + i * 3) 0 + get_or words (71 + i * 3 + 1) 0 + j)) (get_or words (71 + i * 3 + 2) 0) k no_lane (rw (plus 71 2 (i * 3)) l)
      ∙ ap (λ (n : ℕ). lane_in words numbers (get_or words (71 + i * 3) 0 + get_or words n 0 + k)) (plus 71 1 (i * 3))

  pub right_lane-past : (i k : ℕ) → i < get_or words 5 0 → get_or words (73 + i * 3) 0 ≤ k → lane_of road i true k ≡ no_lane
  unfolding section_in
  right_lane-past i k h l = ap (λ (x : Section). get_or x.right k no_lane) (section_in_lem i h) ∙ table-past _ (get_or words (71 + i * 3 + 2) 0) k no_lane (rw (plus 71 2 (i * 3)) l)

  -- no section, no lane
  pub no_lane_lem : (i k : ℕ) (r : Bool) → get_or words 5 0 ≤ i → lane_of road i r k ≡ no_lane
  no_lane_lem i k true h = ap (λ (x : Section). get_or x.right k no_lane) (section-past i h)
  no_lane_lem i k false h = ap (λ (x : Section). get_or x.left k no_lane) (section-past i h)

  -- ---- the marks of a section: from its first mark on
  pub mark_count_lem : (i : ℕ) → i < get_or words 5 0 → length (section_of road i).marks ≡ get_or words (1348 + i * 2) 0
  unfolding section_in
  mark_count_lem i h = ap (λ (x : Section). length x.marks) (section_in_lem i h) ∙ length-table _ _ ∙ ap (word_at words numbers) (plus 1347 1 (i * 2))

  pub marks_in : (i : ℕ) {first count : ℕ} → i < get_or words 5 0 → first ≡ get_or words (1347 + i * 2) 0 → count ≡ get_or words (1348 + i * 2) 0
      → tabulate (λ j. mark_in words numbers (first + j)) count ≡ (section_of road i).marks
  unfolding section_in tabulate
  marks_in i h e f = rw (e, f, ← plus 1347 1 (i * 2)) (ap (λ (x : Section). x.marks) (sym (section_in_lem i h)))

  pub marks-past : (i : ℕ) → get_or words 5 0 ≤ i → [] ≡ (section_of road i).marks
  marks-past i h = ap (λ (x : Section). x.marks) (sym (section-past i h))

  pub mark_in_lem :
      (i j : ℕ) → i < get_or words 5 0 → j < get_or words (1348 + i * 2) 0
      → mark_at road i j ≡ mark_in words numbers (get_or words (1347 + i * 2) 0 + j)
  unfolding section_in
  mark_in_lem i j h l =
      ap (λ (x : Section). get_or x.marks j no_mark) (section_in_lem i h)
      ∙ table_at (λ j. mark_in words numbers (get_or words (1347 + i * 2) 0 + j)) (get_or words (1347 + i * 2 + 1) 0) j no_mark (rw (plus 1347 1 (i * 2)) l)

  -- ---- profiles and strips
  pub profile_count_lem : length road.profiles ≡ get_or words 6 0
  unfolding road_of
  profile_count_lem = length-table _ _

  pub profile_count_read : {road' : Road} {n : ℕ} → n ≡ length road'.profiles → road ≡ road' → n ≡ get_or words 6 0
  profile_count_read e f = e ∙ ap (λ (x : Road). length x.profiles) (sym f) ∙ profile_count_lem

  pub profile-starts : (i : ℕ) {n : ℕ} → n ≡ get_or words 6 0 → get_or (span numbers 5841 n) i nan ≡ (profile_at road i).s
  unfolding road_of profile_in
  profile-starts i e = rw e (span-table (profile_in words numbers) (λ (x : Profile). x.s) no_profile numbers 5841 (get_or words 6 0) i (λ k h. refl))

  pub profile_in_lem : (i : ℕ) → i < get_or words 6 0 → profile_at road i ≡ profile_in words numbers i
  unfolding road_of
  profile_in_lem i h = table_at _ _ i no_profile h

  pub profile-past : (i : ℕ) → get_or words 6 0 ≤ i → profile_at road i ≡ no_profile
  unfolding road_of
  profile-past i h = table-past _ _ i no_profile h

  pub strip_in_lem : (i : ℕ) → i < 4 → strip_at road i ≡ strip_in words numbers i
  unfolding road_of
  strip_in_lem i h = table_at (strip_in words numbers) 4 i absent h

  pub strip-past : (i : ℕ) → 4 ≤ i → strip_at road i ≡ absent
  unfolding road_of
  strip-past i h = table-past (strip_in words numbers) 4 i absent h

-- ---- what the road holds, by the values that a function has read

-- a strip that is there
abbrev there : List ℕ → List Float → ℕ → ℕ → Strip
there words numbers i code = present (record { relative = eqb code 2; width = column_in words numbers i 0; terms = tabulate (λ j. column_in words numbers i (j + 1)) 4 })

-- whether the columns that a shape does not use are zero, by the shape
abbrev pub zero_unused : GeomShape → Float → Float → Bool
zero_unused Line x y = eq x zero64 && eq y zero64
zero_unused (Arc k) x y = eq y zero64
zero_unused (Spiral k l) x y = true

zero-tests : (p q : Bool) (x y : Float) → zero_unused (cond p (Arc x) (cond q (Spiral x y) Line)) x y ≡ all_zero (cond p (y ∷ []) (cond q [] (x ∷ y ∷ [])))
zero-tests true q x y = sym (and-true (eq y zero64))
zero-tests false true x y = refl
zero-tests false false x y = ap (λ (b : Bool). eq x zero64 && b) (sym (and-true (eq y zero64)))

module _ (words : List ℕ) (numbers : List Float) where
  pub geom-by :
      (i : ℕ) {xs : List Float} {kind : ℕ} → i < get_or words 0 0 → xs ≡ span numbers (1 + i * 7) 7 → kind ≡ get_or words (7 + i) 0
      → geom_from xs kind ≡ geom_at (road_of words numbers) i
  unfolding geom_in
  geom-by i h e f = rw (e, f) (sym (geom_in_lem words numbers i h))

  pub unused-by :
      (i : ℕ) {xs : List Float} {kind : ℕ} {shape : GeomShape} {x y : Float} → i < get_or words 0 0 → xs ≡ span numbers (1 + i * 7) 7 → kind ≡ get_or words (7 + i) 0
      → x ≡ get_or xs 5 nan → y ≡ get_or xs 6 nan → geom_shape_of kind x y ≡ shape → zero_unused shape x y ≡ unused_zero (road_of words numbers) i
  unfolding unused_in
  unused-by i h e f g k l =
      rw (← l, g, k, e, f, span-at numbers (1 + i * 7) 7 5 nan (omega arith), span-at numbers (1 + i * 7) 7 6 nan (omega arith))
      (zero-tests (eqb (get_or words (7 + i) 0) 1) (eqb (get_or words (7 + i) 0) 2) (get_or numbers (1 + i * 7 + 5) nan) (get_or numbers (1 + i * 7 + 6) nan) ∙ ap all_zero (sym (unused_in_lem words numbers i h)))

  -- a column of a strip that is there, of one that is not, past the last column, past the last strip
  pub column_in_lem : (i column : ℕ) → i < 4 → column < 5 → eqb (get_or words (1303 + i * 11) 0) 0 ≡ false → column_of (strip_at (road_of words numbers) i) column ≡ column_in words numbers i column
  unfolding strip_in
  column_in_lem i zero h l e = rw (strip_in_lem words numbers i h, e)
  column_in_lem i (suc j) h l e = rw (strip_in_lem words numbers i h, e, ← add-one j) (table_at (λ j. column_in words numbers i (j + 1)) 4 j [] (omega arith))

  pub column-absent : (i column : ℕ) → i < 4 → eqb (get_or words (1303 + i * 11) 0) 0 ≡ true → column_of (strip_at (road_of words numbers) i) column ≡ []
  unfolding strip_in
  column-absent i column h e = rw (strip_in_lem words numbers i h, e)

  pub column-over : (i column : ℕ) → i < 4 → 5 ≤ column → column_of (strip_at (road_of words numbers) i) column ≡ []
  unfolding strip_in
  column-over i zero h l = absurd (omega arith)
  column-over i (suc j) h l = rw (strip_in_lem words numbers i h) (go (get_or words (1303 + i * 11) 0) (eqb (get_or words (1303 + i * 11) 0) 0))
    where
      go : (code : ℕ) (b : Bool) → column_of (cond b absent (there words numbers i code)) (suc j) ≡ []
      go code true = refl
      go code false = table-past (λ j. column_in words numbers i (j + 1)) 4 j [] (omega arith)

  pub column-past : (i column : ℕ) → 4 ≤ i → column_of (strip_at (road_of words numbers) i) column ≡ []
  column-past i column h = rw (strip-past words numbers i h)
