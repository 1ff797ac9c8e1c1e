-- The columns of a strip that is there, by the words of its line.
use Prim.Native.Nat.{ℕ, zero, suc, ◌+◌, ◌*◌, ◌<◌, ◌≤◌}
use native.Mathlib.Omega.{arith}
use native.Mathlib.Numerals.{add-one}
use mathlib.Core.Path.{◌≡◌, refl, sym}
use mathlib.Core.Bool.{Bool, true, false, cond, not}
use mathlib.Core.List.{List, []}
use lib.ListN.{get_or}
use lib.Dec.{eqb}
use lib.Ieee.{Float}
use Rattle.std.specs.Bool.{then_some}
use Rattle.records_lent.specs.Lists.{tabulate}
use Rattle.records_lent.proofs.TableLaws.{table_at, table-past}
use Rattle.records.specs.Roads.{absent, present, road_of, strip_at, strip_in, column_in, column_by}
use Rattle.records.proofs.RoadLaws.{strip_in_lem, strip-past}
use Rattle.records_shapes.specs.Strips.{strip_of, strip_def_in}

-- where a column's two words stand
pub place : (line column : ℕ) → 1304 + line * 11 + column * 2 ≡ 1303 + line * 11 + 1 + column * 2
place line column = omega arith

module _ (words : List ℕ) (numbers : List Float) where
  pub column-of_line : (relative : Bool) (line column : ℕ) → column < 5 → column_in words numbers line column ≡ column_by (strip_def_in words numbers relative line) column
  unfolding column_in
  column-of_line relative line zero l = refl
  column-of_line relative line (suc j) l = rw (← add-one j) (sym (table_at (λ j. column_in words numbers line (j + 1)) 4 j [] (omega arith)))

  pub column-past_line : (relative : Bool) (line column : ℕ) → 5 ≤ column → [] ≡ column_by (strip_def_in words numbers relative line) column
  unfolding column_in
  column-past_line relative line zero l = absurd (omega arith)
  column-past_line relative line (suc j) l = sym (table-past (λ j. column_in words numbers line (j + 1)) 4 j [] (omega arith))

  -- by its presence code; past the last strip there is none
  pub strip-by_code :
      (i : ℕ) {code : ℕ} → i < 4 → code ≡ get_or words (1303 + i * 11) 0
      → strip_of (then_some (not (eqb code 0)) (strip_def_in words numbers (eqb code 2) i)) ≡ strip_at (road_of words numbers) i
  unfolding strip_in column_in tabulate
  strip-by_code i {code} l e = rw (strip_in_lem words numbers i l, ← e) (go (eqb code 0))
    where
      go : (b : Bool) → strip_of (then_some (not b) (strip_def_in words numbers (eqb code 2) i)) ≡ cond b absent (present (strip_def_in words numbers (eqb code 2) i))
      go true = refl
      go false = refl

  pub strip-none : (i : ℕ) → 4 ≤ i → absent ≡ strip_at (road_of words numbers) i
  strip-none i l = sym (strip-past words numbers i l)
