-- Every number that reading keeps is a value of its format: it is a zero, or the value of a pattern that was read. By induction on cells, lines and tables.
use Prim.Native.Nat.{ℕ, zero, suc, ◌+◌, ◌*◌}
use mathlib.Core.Path.{◌≡◌, sym, subst}
use mathlib.Core.Bool.{Bool, true, false, cond}
use mathlib.Core.List.{List, [], ◌∷◌}
use lib.ListN.{length, get_or, set, replicate}
use lib.Dec.{ltb}
use lib.Ieee.{Float, binary64, of_bits}
use lib.Ieee.Fits.{nan-fits}
use lib.Ieee.Bits.{of_bits-fits}
use Rattle.reader_schema.specs.Schema.{limit_of}
use Rattle.reader_lines.specs.Columns.{cell_of}
use Rattle.reader_lines.specs.declared.columns.Cells.{Cells}
use Rattle.reader_store.specs.Layout.{number_lines, number_columns, numbers_kept}
use Rattle.reader_store.proofs.Puts.{cells-keep}
use Rattle.reader_store.specs.Progress.{start_progress}
use Rattle.reader_store.specs.declared.progress.Progress.{Progress}
use Rattle.admission_laws.proofs.Fitting.{Fits64, Fitting}
use Rattle.reader_calls.specs.Reading.{Outcome, done, stop, table_at, counted_progress, by_outcome, tables_from, zeros, zero_numbers, reading_of}
use Rattle.reader_laws.specs.Lines.{Lines, lines, broken, table_lines}
use Rattle.reader_laws.proofs.NumbersKept.{rows_put}
use Rattle.reader_laws.proofs.LinesKept.{Agree, table-agree}
use Rattle.reader_laws.proofs.ReadTables.{accepted}

-- ---- memory

blank-fits : (n : ℕ) → Fitting (replicate n (of_bits binary64 0))
blank-fits zero k = nan-fits binary64
blank-fits (suc n) zero = of_bits-fits binary64 0
blank-fits (suc n) (suc k) = blank-fits n k

set-fits : (ns : List Float) (p : ℕ) (v : Float) → Fitting ns → Fits64 v → Fitting (set ns p v)
set-fits [] p v h f k = h k
set-fits (x ∷ ns) zero v h f zero = f
set-fits (x ∷ ns) zero v h f (suc k) = h (suc k)
set-fits (x ∷ ns) (suc p) v h f zero = h zero
set-fits (x ∷ ns) (suc p) v h f (suc k) = set-fits ns p v (λ j. h (suc j)) f k

-- ---- a line, the lines of a table

line-fits : (t k : ℕ) (cells : Cells) (ns : List Float) → Fitting ns → Fitting (numbers_kept t k cells ns)
unfolding numbers_kept
line-fits t k cells ns h =
    let first : ℕ = (number_lines t).first + k * (number_lines t).stride in
    let kept : ℕ → Float = λ i. of_bits binary64 (cell_of cells (get_or (number_columns t) i 0)) in
    cells-keep (of_bits binary64) cells Fitting (number_columns t) first (λ i l xs f. set-fits xs (first + i) (kept i) f (of_bits-fits binary64 (cell_of cells (get_or (number_columns t) i 0)))) ns h

rows_fit : (t : ℕ) (rows : List Cells) (k : ℕ) (ns : List Float) → Fitting ns → Fitting (rows_put t k rows ns)
unfolding rows_put
rows_fit t [] k ns h = h
rows_fit t (r ∷ rs) k ns h = rows_fit t rs (k + 1) (numbers_kept t k r ns) (line-fits t k r ns h)

-- ---- tables

abbrev FitBy : Outcome → Type 0
FitBy (done at n progress ws ns vs) = Fitting ns
FitBy (stop m) = Unit {0}

fit-end : (b : Bool) (at n : ℕ) (progress : Progress) (ws : List ℕ) (ns : List Float) (vs : List ℕ) → Fitting ns → FitBy (cond b (stop 1) (done at n progress ws ns vs))
fit-end true at n progress ws ns vs h = tt
fit-end false at n progress ws ns vs h = h

tables-fit : (n t : ℕ) (text : List ℕ) (at count : ℕ) (progress : Progress) (ws : List ℕ) (ns : List Float) (vs : List ℕ) → Fitting ns → FitBy (tables_from n t text at count progress ws ns vs)
unfolding tables_from
tables-fit zero t text at count progress ws ns vs h = fit-end (ltb at (length text)) at count progress ws ns vs h
tables-fit (suc n) t text at count progress ws ns vs h =
    step (table_lines t text at) (table_at t text at progress ws ns vs) (table-agree t text at progress ws ns vs)
    (λ at' count' progress' us xs vs'. tables-fit n (t + 1) text at' count' (counted_progress t count' progress') us xs vs')
  where
    step : (p : Lines) (o : Outcome) → Agree t (limit_of t) 0 ns p o
        → ((at' count' : ℕ) (progress' : Progress) (us : List ℕ) (xs : List Float) (vs' : List ℕ) → Fitting xs → FitBy (tables_from n (t + 1) text at' count' (counted_progress t count' progress') us xs vs'))
        → FitBy (by_outcome o (λ at' count' progress' us xs vs'. tables_from n (t + 1) text at' count' (counted_progress t count' progress') us xs vs'))
    step p (stop m) a f = tt
    step broken (done at' count' progress' us xs vs') a f = absurd a
    step (lines rows next) (done at' count' progress' us xs vs') a f = f at' count' progress' us xs vs' (subst Fitting (sym a.3) (rows_fit t rows 0 ns h))

pub read_fits : (text : List ℕ) (l m n at count : ℕ) (progress : Progress) (ws : List ℕ) (ns : List Float) (vs : List ℕ) → reading_of text l m n ≡ done at count progress ws ns vs → Fitting ns
unfolding zero_numbers
read_fits text l m n at count progress ws ns vs read =
    let a = accepted text l m n at count progress ws ns vs read in
    subst FitBy a.stored.form.tables (tables-fit 16 0 text 0 0 start_progress (zeros l) (zero_numbers m) (zeros n) (blank-fits m))
