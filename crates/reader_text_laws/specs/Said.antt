-- Document 01, "The job text": the road that the lines of a text say, T n the lines of its n-th table, with no word on memory. Read `road_said` first, at the end.
-- A line's cells, by column in 01's order: an f64 is held as its pattern, a whole number n as whole_bias + n, a word of a list as its place there: side 0 left, 1 right; place 0 inner, 1 outer; extent 1 border; term 0 width, then 0 to 3 as 1 to 4. The table mark is that of document 02, point 2.
use Rattle.std.specs.Prelude.{ℕ, ◌+◌, ◌-◌, Bool, ◌&&◌, cond, get_or, ltb}
use mathlib.Core.List.{List, [], ◌∷◌, ◌++◌, map}
use Rattle.std.proofs.Math.ListN.{length}
use Rattle.std.proofs.Math.Dec.{eqb}
use Rattle.records.specs.declared.points.Mark.{Mark}
use Rattle.records.specs.Roads.{Road, Section, Lane, Profile, Strip, absent, present}
use Rattle.records_cubic.specs.declared.cubics.Cubic.{Cubic}
use Rattle.reader_schema.specs.Tables.{road_table, geom_table, elev_table, bank_table, offset_table, tshift_table, section_table, lane_table, extent_table, height_table, profile_table, shape_table, strip_table, cubic_table, mark_table}
use Rattle.reader_cells.specs.Cells.{whole_bias}
use Rattle.reader_lines.specs.Columns.{cell_of, no_cells}
use Rattle.reader_lines.specs.declared.columns.Cells.{Cells}
use Rattle.reader_store.specs.Parents.{first_left, first_right}
use Rattle.reader_store.specs.Layout.{code_of}
use Rattle.reader_calls.specs.Reading.{zeros}
use Rattle.reader_laws.specs.Lines.{number_in, cubic_in, height_in, geom_said, unused_said}

-- the lines that pass a test, in their order
unfoldable pub those : (Cells → Bool) → List Cells → List Cells
those p [] = []
those p (r ∷ rs) = cond (p r) (r ∷ those p rs) (those p rs)

-- each line with its number, counted from i
unfoldable pub numbered : {A : Type 0} → (ℕ → Cells → A) → ℕ → List Cells → List A
numbered f i [] = []
numbered f i (r ∷ rs) = f i r ∷ numbered f (i + 1) rs

-- a line under the i-th section or profile; of a lane's id: left ones are above 0, right ones below
abbrev pub under : ℕ → Cells → Bool
under i r = eqb (cell_of r 0) (whole_bias + i)

abbrev pub left_under : ℕ → Cells → Bool
left_under i r = under i r && ltb whole_bias (cell_of r 1)

abbrev pub right_under : ℕ → Cells → Bool
right_under i r = under i r && ltb (cell_of r 1) whole_bias

-- a line of extent, height or mark with a lane's section and id; a strip with a side and a place; a cubic with a side, a place and a term (width, 0, 1, 2, 3)
abbrev pub of_lane : Cells → Cells → Bool
of_lane lane r = eqb (cell_of r 0) (cell_of lane 0) && eqb (cell_of r 1) (cell_of lane 1)

abbrev pub of_strip : ℕ → ℕ → Cells → Bool
of_strip side place r = eqb (cell_of r 0) side && eqb (cell_of r 1) place

abbrev pub of_term : ℕ → ℕ → ℕ → Cells → Bool
of_term side place term r = of_strip side place r && eqb (cell_of r 2) term

-- the place of the lane of an id among those of a section with so many left ones: left ones outward, then right ones
abbrev pub place_said : ℕ → ℕ → ℕ
place_said left id = cond (ltb whole_bias id) (id - first_left) (left + (first_right - id))

module _ (T : ℕ → List Cells) where
  -- lane: section id extent level; extent width or border
  unfoldable pub lane_said : Cells → Lane
  unfolding those
  lane_said lane =
      record { border = eqb (cell_of lane 2) 1; level = eqb (cell_of lane 3) 1; extents = map (cubic_in 2) (those (of_lane lane) (T extent_table)); heights = map height_in (those (of_lane lane) (T height_table)) }

  -- mark: section id start end kind, which is kept as a word; one below 0 is 0, which is no kind either
  unfoldable pub mark_said : ℕ → Cells → Mark
  unfolding those
  mark_said i r = record { lane = place_said (length (those (left_under i) (T lane_table))) (cell_of r 1); kind = code_of (cell_of r 4 - whole_bias); start = number_in r 2; end = number_in r 3 }

  unfoldable pub section_said : ℕ → Cells → Section
  unfolding those lane_said mark_said
  section_said i r =
      record {
        start = number_in r 0;
        left = map lane_said (those (left_under i) (T lane_table));
        right = map lane_said (those (right_under i) (T lane_table));
        marks = map (mark_said i) (those (under i) (T mark_table));
      }

  unfoldable pub profile_said : ℕ → Cells → Profile
  unfolding those
  profile_said i r = record { s = number_in r 0; shapes = map (cubic_in 1) (those (under i) (T shape_table)) }

  abbrev pub term_said : ℕ → ℕ → ℕ → List Cubic
  term_said side place term = map (cubic_in 3) (those (of_term side place term) (T cubic_table))

  abbrev pub strip_by : ℕ → ℕ → List Cells → Strip
  strip_by side place [] = absent
  strip_by side place (r ∷ rs) =
      present (record { relative = eqb (cell_of r 2) 1; width = term_said side place 0; terms = term_said side place 1 ∷ term_said side place 2 ∷ term_said side place 3 ∷ term_said side place 4 ∷ [] })

  unfoldable pub strip_said : ℕ → ℕ → Strip
  unfolding those
  strip_said side place = strip_by side place (those (of_strip side place) (T strip_table))

  -- left inner, left outer, right inner, right outer
  unfoldable pub road_said : Road
  unfolding those numbered section_said profile_said strip_said
  road_said =
      record {
        length = number_in (get_or (T road_table) 0 no_cells) 0;
        geoms = map geom_said (T geom_table);
        unused = map unused_said (T geom_table);
        elevations = map (cubic_in 0) (T elev_table);
        superelevations = map (cubic_in 0) (T bank_table);
        offsets = map (cubic_in 0) (T offset_table);
        tshifts = map (cubic_in 0) (T tshift_table);
        sections = numbered section_said 0 (T section_table);
        profiles = numbered profile_said 0 (T profile_table);
        strips = strip_said 0 0 ∷ strip_said 0 1 ∷ strip_said 1 0 ∷ strip_said 1 1 ∷ [];
      }

-- want: s t, as patterns; and a slice of n of them, zeros past the last line
abbrev pub patterns : List Cells → List ℕ
patterns [] = []
patterns (r ∷ rs) = cell_of r 0 ∷ cell_of r 1 ∷ patterns rs

abbrev pub wants_said : List Cells → ℕ → List ℕ
wants_said rows n = patterns rows ++ zeros (n - length (patterns rows))
