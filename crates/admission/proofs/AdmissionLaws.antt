-- What admission says of a road, and how a call goes on whose rows begin with the road's. The rows are one list, so each law is one of RowLaws at that list.
use Prim.Native.Nat.{ℕ, ◌≤◌}
use mathlib.Core.Path.{◌≡◌}
use mathlib.Core.Bool.{true, ◌&&◌}
use mathlib.Core.List.{List, ◌++◌}
use lib.Dec.{leb}
use lib.Ieee.{Float}
use borrow.Author.Tests.{leb-true}
use Rattle.std.proofs.lemmas.Bool.{and_parts}
use Rattle.refusals.specs.Answer.{Answer, value, Row, checked}
use Rattle.records.specs.Roads.{road_of}
use Rattle.admission_structure.specs.Structure.{structured}
use Rattle.admission_order.specs.Order.{ordered}
use Rattle.admission.specs.Limits.{limited}
use Rattle.line_samples.specs.Samples.{samples_needed, most_samples}
use Rattle.admission.specs.Admission.{road_rows, admit_call, admitted}
use Rattle.admission.proofs.RowLaws.{checked-pass, checked-first, pass-more}

module _ (words : List ℕ) (numbers : List Float) where
  pub value-admitted : admit_call words numbers ≡ value tt → admitted words numbers ≡ true
  unfolding admitted admit_call
  value-admitted e = checked-pass (road_rows words numbers) (value tt) tt e

  -- a call whose rows begin with the road's: an admitted road leaves it to its own rows, and a value comes of an admitted road only
  pub road-admitted : {B : Type 0} (rows : List Row) (b : Answer B) → admitted words numbers ≡ true → checked (road_rows words numbers ++ rows) b ≡ checked rows b
  unfolding admitted
  road-admitted rows b e = pass-more (road_rows words numbers) rows b e

  pub road-answered : {B : Type 0} (rows : List Row) (b : Answer B) (x : B) → checked (road_rows words numbers ++ rows) b ≡ value x → admitted words numbers ≡ true
  unfolding admitted
  road-answered rows b x e = checked-first (road_rows words numbers) rows b x e

  -- what an admitted road is
  module _ (h : admitted words numbers ≡ true) where
    rows-hold : (structured words numbers && ordered (road_of words numbers) ≡ true)
        × (limited (road_of words numbers) && (leb (samples_needed (road_of words numbers)) most_samples && true) ≡ true)
    unfolding admitted
    rows-hold = and_parts (structured words numbers && ordered (road_of words numbers)) (limited (road_of words numbers) && (leb (samples_needed (road_of words numbers)) most_samples && true)) h

    numbers-hold : (limited (road_of words numbers) ≡ true) × (leb (samples_needed (road_of words numbers)) most_samples && true ≡ true)
    numbers-hold = and_parts (limited (road_of words numbers)) (leb (samples_needed (road_of words numbers)) most_samples && true) rows-hold.1

    pub admitted-structured : structured words numbers ≡ true
    admitted-structured = (and_parts (structured words numbers) (ordered (road_of words numbers)) rows-hold.0).0

    pub admitted-ordered : ordered (road_of words numbers) ≡ true
    admitted-ordered = (and_parts (structured words numbers) (ordered (road_of words numbers)) rows-hold.0).1

    pub admitted-limited : limited (road_of words numbers) ≡ true
    admitted-limited = numbers-hold.0

    pub admitted-samples : samples_needed (road_of words numbers) ≤ most_samples
    admitted-samples =
        leb-true (samples_needed (road_of words numbers)) most_samples (and_parts (leb (samples_needed (road_of words numbers)) most_samples) true numbers-hold.1).0
