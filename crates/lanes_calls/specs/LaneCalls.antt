-- Document 01: the two calls of the lanes layer. The borders, rows 3 4 5 7 11: "Samples and borders past those written stay unchanged"; a refusal "changes no memory". The lane named at t, rows 3 4 5 7 8.
use Rattle.std.specs.Prelude.{ℕ, ◌/◌, true, List, [], ◌∷◌, ◌++◌, length, leb, ℤ, Float, Option}
use Rattle.refusals.specs.Answer.{Answer, value, refused, Row, row, checked}
use Rattle.refusals.specs.declared.refusals.Refusal.TheVariants.{BorderSpace}
use Rattle.records.specs.Roads.{road_of, section_index}
use Rattle.admission_arguments.specs.Arguments.{station_row, across_row}
use Rattle.admission.specs.Admission.{road_rows}
use Rattle.lanes_borders.specs.Borders.{lanes_of}
use Rattle.lanes_border_list.specs.BorderList.{listed_by}
use Rattle.lanes_naming.specs.Naming.{lane_named}

module _ (words : List ℕ) (numbers : List Float) where
  -- the section at s, and its lanes
  abbrev pub section_at : Float → ℕ
  section_at s = section_index (road_of words numbers) s

  abbrev pub lanes_at : Float → ℕ
  lanes_at s = lanes_of (road_of words numbers) (section_at s)

  -- row 11: "lent border list shorter than the section's lanes", "row 11 counts whole threes"
  abbrev pub space_row : Float → ℕ → Row
  space_row s len = row BorderSpace (leb (lanes_at s) (len / 3))

  -- the rows of the borders after the road's: 7, 11
  abbrev pub list_rows : Float → ℕ → List Row
  list_rows s len = station_row (road_of words numbers) s ∷ space_row s len ∷ []

  -- how many lanes' borders are written, or the refusal
  unfoldable pub borders_call : Float → ℕ → Answer ℕ
  borders_call s len = checked (road_rows words numbers ++ list_rows s len) (value (lanes_at s))

  -- "borders past those written stay unchanged"; "any other refusal changes no memory"
  abbrev pub borders_written : Answer ℕ → Float → List Float → List Float
  borders_written (value n) s xs = listed_by true (road_of words numbers) (section_at s) s xs
  borders_written (refused n) s xs = xs

  -- the list afterwards
  unfoldable pub borders_list : Float → List Float → List Float
  unfolding borders_call
  borders_list s xs = borders_written (borders_call s (length xs)) s xs

  -- the rows of the name after the road's: 7, 8
  abbrev pub name_rows : Float → Float → List Row
  name_rows s t = station_row (road_of words numbers) s ∷ across_row t ∷ []

  -- "Lane named at t", in the section at s
  abbrev pub name_at : Float → Float → Option ℤ
  name_at s t = lane_named (road_of words numbers) (section_at s) s t

  -- the lane's name or none, or the refusal
  unfoldable pub lane_named_call : Float → Float → Answer (Option ℤ)
  lane_named_call s t = checked (road_rows words numbers ++ name_rows s t) (value (name_at s t))
