-- An accepted text has the line of road (`road_line`): a reading that is not sound stays so, and one without that line is not.
use Prim.Native.Nat.{ℕ, zero, suc, ◌+◌, ◌<◌}
use native.Mathlib.Omega.{arith}
use mathlib.Core.Path.{◌≡◌, subst}
use mathlib.Core.Bool.{Bool, true, false, ◌&&◌, cond}
use mathlib.Core.List.{List, [], ◌∷◌}
use lib.ListN.{length, get_or}
use lib.Dec.{eqb, ltb}
use lib.Ieee.{Float}
use Rattle.reader_schema.specs.Schema.{name_of, limit_of}
use Rattle.reader_cells.specs.Cells.{byte_at, name_span}
use Rattle.reader_lines.specs.NamesLine.{head_at}
use Rattle.reader_lines.specs.ValuesLine.{values_at}
use Rattle.std.specs.Prelude.{Option, Some, None, is_some}
use Rattle.reader_lines.specs.Columns.{cell_of}
use Rattle.reader_cells.specs.declared.names.Span.{Span}
use Rattle.reader_lines.specs.declared.columns.Order.{Order}
use Rattle.reader_lines.specs.declared.columns.Cells.{Cells}
use Rattle.reader_store.specs.Layout.{codes_kept, rule_of, numbers_kept, wants_kept, count_kept}
use Rattle.reader_store.specs.Progress.{strip_line, listed_as, start_progress, unsound_progress, ended_progress}
use Rattle.reader_store.specs.Parents.{lane_turn, parent_of}
use Rattle.reader_store.specs.Keep.{strip_named, in_order, under_progress, strip_progress, ruled_progress, kept_words, kept_progress}
use Rattle.reader_store.specs.declared.layout.Rule.{Rule}
use Rattle.reader_store.specs.declared.layout.Rule.TheVariants.{Strip, Lane, Child}
use Rattle.reader_store.specs.declared.parents.Counted.{Counted}
use Rattle.reader_store.specs.declared.progress.Progress.{Progress}
use Rattle.reader_calls.specs.Reading.{Outcome, done, stop, by_outcome, lines_from, table_at, counted_progress, tables_from, zeros, zero_numbers, by_values, by_head}
use Rattle.reader_laws.specs.Lines.{Lines, lines, broken, by_lines, table_lines, tables_lines, lines_of}
use Rattle.reader_laws.proofs.ReadTables.{Stored}
use Rattle.reader_laws.proofs.LinesKept.{Agree, table-agree}

-- a progress made from another by cases: sound only where that is
by_cases : (b : Bool) (from x y : Progress) → (x.sound ≡ true → from.sound ≡ true) → (y.sound ≡ true → from.sound ≡ true) → (cond b x y).sound ≡ true → from.sound ≡ true
by_cases true from x y f g = f
by_cases false from x y f g = g

never : (from : Progress) → false ≡ true → from.sound ≡ true
never from e = absurd cc

under-sound : (parent : Option Counted) (progress : Progress) → (under_progress parent progress).sound ≡ true → progress.sound ≡ true
unfolding under_progress
under-sound None progress = never progress
under-sound (Some parent) progress =
    by_cases (in_order parent progress) progress (record { sound = progress.sound; last = parent.rank; strips = progress.strips }) (unsound_progress progress) (λ e. e) (never progress)

ruled-sound : (rule : Option Rule) (k : ℕ) (cells : Cells) (progress : Progress) (ws : List ℕ) → (ruled_progress ws rule k cells progress).sound ≡ true → progress.sound ≡ true
unfolding ruled_progress strip_progress
ruled-sound None k cells progress ws = λ e. e
ruled-sound (Some Strip) k cells progress ws =
    by_cases (is_some (strip_line progress.strips (strip_named cells))) progress (unsound_progress progress) (record { sound = progress.sound; last = progress.last; strips = listed_as progress.strips (strip_named cells) k }) (never progress) (λ e. e)
ruled-sound (Some Lane) k cells progress ws = under-sound (lane_turn ws (cell_of cells 0) (cell_of cells 1)) progress
ruled-sound (Some (Child family)) k cells progress ws = under-sound (parent_of ws family cells progress.strips) progress

pub kept-sound : (t k : ℕ) (cells : Cells) (progress : Progress) (ws : List ℕ) → (kept_progress t k cells progress ws).sound ≡ true → progress.sound ≡ true
unfolding kept_progress
kept-sound t k cells progress ws = ruled-sound (rule_of t) k cells progress (codes_kept t k cells ws)

abbrev SoundBy : Progress → Outcome → Type 0
SoundBy from (stop m) = Unit {0}
SoundBy from (done at n progress ws ns vs) = progress.sound ≡ true → from.sound ≡ true

sound-then : (progress from : Progress) (o : Outcome) → (progress.sound ≡ true → from.sound ≡ true) → SoundBy progress o → SoundBy from o
sound-then progress from (stop m) f h = tt
sound-then progress from (done at n progress' ws ns vs) f h = λ e. f (h e)

lines-sound : (fuel t : ℕ) (order : Order) (text : List ℕ) (at k : ℕ) (progress : Progress) (ws : List ℕ) (ns : List Float) (vs : List ℕ) → SoundBy progress (lines_from fuel t order text at k progress ws ns vs)
unfolding lines_from
lines-sound zero t order text at k progress ws ns vs = go (eqb (byte_at text at) 10) (values_at text at t order)
  where
    go : (a : Bool) (x : Option (Span Cells)) → SoundBy progress (cond a (done (at + 1) k (ended_progress progress) (count_kept t k ws) ns vs) (by_values x (λ cells next. stop 2)))
    go true x = λ e. e
    go false (Some row) = tt
    go false None = tt
lines-sound (suc fuel) t order text at k progress ws ns vs = go (eqb (byte_at text at) 10) (values_at text at t order) (λ cells next. lines-sound fuel t order text next (k + 1) (kept_progress t k cells progress ws) (kept_words t k cells progress ws) (numbers_kept t k cells ns) (wants_kept t k cells vs))
  where
    go : (a : Bool) (x : Option (Span Cells)) → ((cells : Cells) (next : ℕ) → SoundBy (kept_progress t k cells progress ws) (lines_from fuel t order text next (k + 1) (kept_progress t k cells progress ws) (kept_words t k cells progress ws) (numbers_kept t k cells ns) (wants_kept t k cells vs)))
        → SoundBy progress (cond a (done (at + 1) k (ended_progress progress) (count_kept t k ws) ns vs) (by_values x (λ cells next. lines_from fuel t order text next (k + 1) (kept_progress t k cells progress ws) (kept_words t k cells progress ws) (numbers_kept t k cells ns) (wants_kept t k cells vs))))
    go true x ih = λ e. e
    go false (Some row) ih = sound-then (kept_progress t k row.value progress ws) progress _ (kept-sound t k row.value progress ws) (ih row.value row.next)
    go false None ih = tt

table-sound : (t : ℕ) (text : List ℕ) (at : ℕ) (progress : Progress) (ws : List ℕ) (ns : List Float) (vs : List ℕ) → SoundBy progress (table_at t text at progress ws ns vs)
unfolding table_at
table-sound t text at progress ws ns vs =
    go (eqb (name_span text at).value (name_of t)) (head_at text (name_span text at).next t) (λ order next. lines-sound (limit_of t) t order text next 0 progress ws ns vs)
  where
    go : (a : Bool) (x : Option (Span Order)) → ((order : Order) (next : ℕ) → SoundBy progress (lines_from (limit_of t) t order text next 0 progress ws ns vs))
        → SoundBy progress (cond a (by_head x (λ order next. lines_from (limit_of t) t order text next 0 progress ws ns vs)) (done at 0 progress ws ns vs))
    go true (Some head) ih = ih head.value head.next
    go true None ih = tt
    go false x ih = λ e. e

pub counted-sound : (t n : ℕ) (progress : Progress) → (counted_progress t n progress).sound ≡ true → progress.sound ≡ true
unfolding counted_progress
counted-sound t n progress = by_cases (eqb t 0 && eqb n 0) progress (unsound_progress progress) progress (never progress) (λ e. e)

tables-sound : (n t : ℕ) (text : List ℕ) (at count : ℕ) (progress : Progress) (ws : List ℕ) (ns : List Float) (vs : List ℕ) → SoundBy progress (tables_from n t text at count progress ws ns vs)
unfolding tables_from
tables-sound zero t text at count progress ws ns vs = go (ltb at (length text))
  where
    go : (b : Bool) → SoundBy progress (cond b (stop 1) (done at count progress ws ns vs))
    go true = tt
    go false = λ e. e
tables-sound (suc n) t text at count progress ws ns vs =
    step (table_at t text at progress ws ns vs) (table-sound t text at progress ws ns vs) (λ at' count' progress' us xs vs'. tables-sound n (t + 1) text at' count' progress' us xs vs')
  where
    step : (o : Outcome) → SoundBy progress o → ((at' count' : ℕ) (progress' : Progress) (us : List ℕ) (xs : List Float) (vs' : List ℕ) → SoundBy progress' (tables_from n (t + 1) text at' count' progress' us xs vs'))
        → SoundBy progress (by_outcome o (λ at' count' progress' us xs vs'. tables_from n (t + 1) text at' count' (counted_progress t count' progress') us xs vs'))
    step (stop m) h ih = tt
    step (done at' count' progress' us xs vs') h ih =
        sound-then (counted_progress t count' progress') progress (tables_from n (t + 1) text at' count' (counted_progress t count' progress') us xs vs') (λ e. h (counted-sound t count' progress' e)) (ih at' count' (counted_progress t count' progress') us xs vs')

-- ---- the first table

abbrev LineBy : List (List Cells) → Outcome → Type 0
LineBy tables (stop m) = Unit {0}
LineBy tables (done at n progress ws ns vs) = progress.sound ≡ true → 0 < length (get_or tables 0 [])

first_line_lem : (text : List ℕ) (progress : Progress) (ws : List ℕ) (ns : List Float) (vs : List ℕ) → LineBy (tables_lines 16 0 text 0) (tables_from 16 0 text 0 0 progress ws ns vs)
unfolding tables_lines tables_from counted_progress
first_line_lem text progress ws ns vs = step (table_lines 0 text 0) (table_at 0 text 0 progress ws ns vs) (table-agree 0 text 0 progress ws ns vs)
  where
    some : (n k : ℕ) (progress' : Progress) → n ≡ 0 + k → (counted_progress 0 n progress').sound ≡ true → 0 < k
    some n zero progress' e s = let z : n ≡ 0 = omega arith in let w = subst (λ (m : ℕ). (counted_progress 0 m progress').sound ≡ true) z s in absurd cc
    some n (suc k) progress' e s = omega arith

    step : (p : Lines) (o : Outcome) → Agree 0 (limit_of 0) 0 ns p o
        → LineBy (by_lines p (λ rows next. rows ∷ tables_lines 15 1 text next)) (by_outcome o (λ at' count' progress' us xs vs'. tables_from 15 1 text at' count' (counted_progress 0 count' progress') us xs vs'))
    step p (stop m) a = tt
    step broken (done at' count' progress' us xs vs') a = absurd a
    step (lines rows next) (done at' count' progress' us xs vs') a =
        go (tables_from 15 1 text at' count' (counted_progress 0 count' progress') us xs vs') (tables-sound 15 1 text at' count' (counted_progress 0 count' progress') us xs vs')
      where
        go : (o : Outcome) → SoundBy (counted_progress 0 count' progress') o → LineBy (rows ∷ tables_lines 15 1 text next) o
        go (stop m) h = tt
        go (done at'' count'' progress'' us' xs' vs'') h = λ e. some count' (length rows) progress' a.1 (h e)

pub road_line : (text : List ℕ) (l m n at count : ℕ) (progress : Progress) (ws : List ℕ) (ns : List Float) (vs : List ℕ) → Stored text l m n (done at count progress ws ns vs) → 0 < length (lines_of text 0)
unfolding lines_of
road_line text l m n at count progress ws ns vs read =
    let a = read in
    subst (λ (o : Outcome). LineBy (tables_lines 16 0 text 0) o) a.form.tables (first_line_lem text start_progress (zeros l) (zero_numbers m) (zeros n)) a.sound
