-- A table that is read: its lines are those of specs/Lines, and its numbers are kept as NumbersKept has them. By induction on the lines left.
use Prim.Native.Nat.{ℕ, zero, suc, ◌+◌, ◌≤◌}
use native.Mathlib.Omega.{arith}
use mathlib.Core.Path.{◌≡◌, refl}
use mathlib.Core.Bool.{Bool, true, false, cond}
use mathlib.Core.List.{List, []}
use lib.ListN.{length}
use lib.Dec.{eqb}
use lib.Ieee.{Float}
use Rattle.reader_schema.specs.Schema.{name_of, limit_of}
use Rattle.reader_cells.specs.Cells.{byte_at, name_span}
use Rattle.reader_lines.specs.NamesLine.{head_at}
use Rattle.reader_lines.specs.ValuesLine.{values_at}
use Rattle.std.specs.Prelude.{Option, Some, None}
use Rattle.reader_cells.specs.declared.names.Span.{Span}
use Rattle.reader_lines.specs.declared.columns.Order.{Order}
use Rattle.reader_lines.specs.declared.columns.Cells.{Cells}
use Rattle.reader_store.specs.Layout.{numbers_kept, wants_kept, count_kept}
use Rattle.reader_store.specs.Progress.{ended_progress}
use Rattle.reader_store.specs.Keep.{kept_words, kept_progress}
use Rattle.reader_store.specs.declared.progress.Progress.{Progress}
use Rattle.reader_calls.specs.Reading.{Outcome, done, stop, lines_from, table_at, by_values, by_head}
use Rattle.reader_laws.specs.Lines.{Lines, lines, broken, after, lines_at, table_lines, by_row, by_names}
use Rattle.reader_laws.proofs.NumbersKept.{rows_put}

-- lines from line k on, at most fuel, kept in numbers: the place after them, the count, the numbers
abbrev pub Agree : ℕ → ℕ → ℕ → List Float → Lines → Outcome → Type 0
Agree t fuel k ns p (stop m) = Unit {0}
Agree t fuel k ns broken (done at n progress ws xs vs) = ⊥
Agree t fuel k ns (lines rows next) (done at n progress ws xs vs) = (at ≡ next) × (n ≡ k + length rows) × (length rows ≤ fuel) × (xs ≡ rows_put t k rows ns)

agree_after : (t fuel k : ℕ) (cells : Cells) (ns : List Float) (p : Lines) (o : Outcome) → Agree t fuel (k + 1) (numbers_kept t k cells ns) p o → Agree t (suc fuel) k ns (after cells p) o
unfolding rows_put
agree_after t fuel k cells ns p (stop m) a = tt
agree_after t fuel k cells ns broken (done at n progress ws xs vs) a = a
agree_after t fuel k cells ns (lines rows next) (done at n progress ws xs vs) a = (a.0, (let e = a.1 in omega arith), (let e = a.2 in omega arith), a.3)

pub lines-agree : (fuel t : ℕ) (order : Order) (text : List ℕ) (at k : ℕ) (progress : Progress) (ws : List ℕ) (ns : List Float) (vs : List ℕ)
    → Agree t fuel k ns (lines_at fuel t order text at) (lines_from fuel t order text at k progress ws ns vs)
unfolding lines_at lines_from rows_put
lines-agree zero t order text at k progress ws ns vs = go (eqb (byte_at text at) 10) (values_at text at t order)
  where
    go : (a : Bool) (x : Option (Span Cells)) → Agree t 0 k ns (cond a (lines [] (at + 1)) broken) (cond a (done (at + 1) k (ended_progress progress) (count_kept t k ws) ns vs) (by_values x (λ cells next. stop 2)))
    go true x = (refl, omega arith, omega arith, refl)
    go false (Some row) = tt
    go false None = tt
lines-agree (suc fuel) t order text at k progress ws ns vs = go (eqb (byte_at text at) 10) (values_at text at t order) (λ cells next. lines-agree fuel t order text next (k + 1) (kept_progress t k cells progress ws) (kept_words t k cells progress ws) (numbers_kept t k cells ns) (wants_kept t k cells vs))
  where
    go : (a : Bool) (x : Option (Span Cells))
        → ((cells : Cells) (next : ℕ) → Agree t fuel (k + 1) (numbers_kept t k cells ns) (lines_at fuel t order text next) (lines_from fuel t order text next (k + 1) (kept_progress t k cells progress ws) (kept_words t k cells progress ws) (numbers_kept t k cells ns) (wants_kept t k cells vs)))
        → Agree t (suc fuel) k ns (cond a (lines [] (at + 1)) (by_row x (λ cells next. after cells (lines_at fuel t order text next)))) (cond a (done (at + 1) k (ended_progress progress) (count_kept t k ws) ns vs) (by_values x (λ cells next. lines_from fuel t order text next (k + 1) (kept_progress t k cells progress ws) (kept_words t k cells progress ws) (numbers_kept t k cells ns) (wants_kept t k cells vs))))
    go true x ih = (refl, omega arith, omega arith, refl)
    go false (Some row) ih = agree_after t fuel k row.value ns (lines_at fuel t order text row.next) _ (ih row.value row.next)
    go false None ih = tt

pub table-agree : (t : ℕ) (text : List ℕ) (at : ℕ) (progress : Progress) (ws : List ℕ) (ns : List Float) (vs : List ℕ) → Agree t (limit_of t) 0 ns (table_lines t text at) (table_at t text at progress ws ns vs)
unfolding table_lines table_at rows_put
table-agree t text at progress ws ns vs =
    go (eqb (name_span text at).value (name_of t)) (head_at text (name_span text at).next t) (λ order next. lines-agree (limit_of t) t order text next 0 progress ws ns vs)
  where
    go : (a : Bool) (x : Option (Span Order)) → ((order : Order) (next : ℕ) → Agree t (limit_of t) 0 ns (lines_at (limit_of t) t order text next) (lines_from (limit_of t) t order text next 0 progress ws ns vs))
        → Agree t (limit_of t) 0 ns (cond a (by_names x (λ order next. lines_at (limit_of t) t order text next)) (lines [] at)) (cond a (by_head x (λ order next. lines_from (limit_of t) t order text next 0 progress ws ns vs)) (done at 0 progress ws ns vs))
    go true (Some head) ih = ih head.value head.next
    go true None ih = tt
    go false x ih = (refl, refl, omega arith, refl)
