-- An accepted job has 16 wants at most: the last of the sixteen tables is `want`, and a table has no more lines than its limit.
use Prim.Native.Nat.{ℕ, zero, suc, ◌+◌, ◌≤◌}
use native.Mathlib.Omega.{arith}
use mathlib.Core.Path.{◌≡◌, refl, ap, ◌∙◌, subst}
use mathlib.Core.Bool.{Bool, true, false, cond}
use mathlib.Core.List.{List}
use lib.ListN.{length}
use lib.Dec.{ltb}
use lib.Ieee.{Float}
use Rattle.reader_schema.specs.Schema.{limits, limit_of}
use Rattle.reader_store.specs.Progress.{start_progress}
use Rattle.reader_store.specs.declared.progress.Progress.{Progress}
use Rattle.reader_calls.specs.Reading.{Outcome, done, stop, table_at, counted_progress, by_outcome, tables_from, zeros, zero_numbers, reading_of}
use Rattle.reader_laws.specs.Lines.{Lines, lines, broken, table_lines}
use Rattle.reader_laws.proofs.LinesKept.{Agree, table-agree}
use Rattle.reader_laws.proofs.ReadTables.{accepted}

-- at most 16 lines in the last table
abbrev Few : Outcome → Type 0
Few (done at n progress ws ns vs) = n ≤ 16
Few (stop m) = Unit {0}

few-end : (b : Bool) (at n : ℕ) (progress : Progress) (ws : List ℕ) (ns : List Float) (vs : List ℕ) → n ≤ 16 → Few (cond b (stop 1) (done at n progress ws ns vs))
few-end true at n progress ws ns vs h = tt
few-end false at n progress ws ns vs h = h

want-limit : limit_of 15 ≡ 16
unfolding limits limit_of
want-limit = refl

tables-few : (n t : ℕ) (text : List ℕ) (at count : ℕ) (progress : Progress) (ws : List ℕ) (ns : List Float) (vs : List ℕ) → t + n ≡ 15 → Few (tables_from (suc n) t text at count progress ws ns vs)
unfolding tables_from
tables-few zero t text at count progress ws ns vs e = step (table_lines t text at) (table_at t text at progress ws ns vs) (table-agree t text at progress ws ns vs)
  where
    last : t ≡ 15
    last = omega arith

    step : (p : Lines) (o : Outcome) → Agree t (limit_of t) 0 ns p o → Few (by_outcome o (λ at' count' progress' us xs vs'. tables_from 0 (t + 1) text at' count' (counted_progress t count' progress') us xs vs'))
    step p (stop m) a = tt
    step broken (done at' count' progress' us xs vs') a = absurd a
    step (lines rows next) (done at' count' progress' us xs vs') a =
        let b = a.1 in
        let c = a.2 in
        let d : limit_of t ≡ 16 = ap limit_of last ∙ want-limit in
        few-end (ltb at' (length text)) at' count' (counted_progress t count' progress') us xs vs' (omega arith)
tables-few (suc n) t text at count progress ws ns vs e =
    step (table_at t text at progress ws ns vs) (λ at' count' progress' us xs vs'. tables-few n (t + 1) text at' count' (counted_progress t count' progress') us xs vs' (omega arith))
  where
    step : (o : Outcome) → ((at' count' : ℕ) (progress' : Progress) (us : List ℕ) (xs : List Float) (vs' : List ℕ) → Few (tables_from (suc n) (t + 1) text at' count' (counted_progress t count' progress') us xs vs'))
        → Few (by_outcome o (λ at' count' progress' us xs vs'. tables_from (suc n) (t + 1) text at' count' (counted_progress t count' progress') us xs vs'))
    step (stop m) h = tt
    step (done at' count' progress' us xs vs') h = h at' count' progress' us xs vs'

pub wants-few : (text : List ℕ) (l m n at count : ℕ) (progress : Progress) (ws : List ℕ) (ns : List Float) (vs : List ℕ) → reading_of text l m n ≡ done at count progress ws ns vs → count ≤ 16
wants-few text l m n at count progress ws ns vs read =
    let a = accepted text l m n at count progress ws ns vs read in
    subst Few a.stored.form.tables (tables-few 15 0 text 0 0 start_progress (zeros l) (zero_numbers m) (zeros n) refl)
