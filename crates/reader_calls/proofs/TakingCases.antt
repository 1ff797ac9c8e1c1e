-- Tables taken one line, one table at a time: a law for each way out of the loops that take them.
use Prim.Native.Nat.{ℕ, zero, suc, ◌+◌, ◌-◌, ◌<◌, ◌≤◌}
use mathlib.Core.Path.{◌≡◌, refl, ap, sym}
use mathlib.Core.List.{List}
use native.Mathlib.Omega.{arith}
use borrow.Author.Tests.{lt-ltb, le-ltb, eq-eqb, ne_eqb}
use lib.ListN.{length}
use lib.Ieee.{Float}
use Rattle.std.specs.Prelude.{Option, Some, None, Result, Ok, Err}
use Rattle.refusals.specs.Answer.{Answer, value, refused, answered}
use Rattle.refusals.specs.Refusal.{number_of}
use Rattle.refusals.specs.declared.refusals.Refusal.{Refusal}
use Rattle.reader_schema.specs.Schema.{name_of, limit_of}
use Rattle.reader_cells.specs.Cells.{byte_at, name_span}
use Rattle.reader_cells.specs.declared.names.Span.{Span}
use Rattle.reader_lines.specs.NamesLine.{head_at}
use Rattle.reader_lines.specs.ValuesLine.{values_at}
use Rattle.reader_lines.specs.declared.columns.Order.{Order}
use Rattle.reader_lines.specs.declared.columns.Cells.{Cells}
use Rattle.reader_store.specs.Layout.{numbers_kept, wants_kept, count_kept}
use Rattle.reader_store.specs.Progress.{ended_progress}
use Rattle.reader_store.specs.Keep.{kept_words, kept_progress}
use Rattle.reader_store.specs.declared.progress.Progress.{Progress}
use Rattle.reader_calls.specs.Reading.{Outcome, done, stop, lines_from, table_at, tables_from, counted_progress}
use Rattle.reader_calls.specs.Parts.{Agrees}
use Rattle.reader_calls.specs.declared.tables.Taken.{Taken}

-- what a part took, or its refusal, agrees with an outcome
pub agree-done : {o : Outcome} {n k : ℕ} {t : Progress} {us : List ℕ} {xs : List Float} {ys : List ℕ}
    → o ≡ done n k t us xs ys → Agrees o (Ok (record { next = n; lines = k; progress = t })) us xs ys
agree-done e = rw e (refl, refl, refl, refl)

pub agree-stop : {o : Outcome} (f : Refusal) (us : List ℕ) (xs : List Float) (ys : List ℕ) → o ≡ stop (number_of f) → Agrees o (Err f) us xs ys
agree-stop f us xs ys e = rw e refl

pub agree_same : {o q : Outcome} (r : Result Taken Refusal) (us : List ℕ) (xs : List Float) (ys : List ℕ) → o ≡ q → Agrees q r us xs ys → Agrees o r us xs ys
agree_same r us xs ys e h = rw e h

pub agree_err : (o : Outcome) (f : Refusal) {r : Result Taken Refusal} (us : List ℕ) (xs : List Float) (ys : List ℕ) → r ≡ Err f → Agrees o (Err f) us xs ys → Agrees o r us xs ys
agree_err o f us xs ys e h = rw e h

pub no-refusal : {A : Type 0} {a : A} {m : ℕ} → ◌≡◌ {A = Answer A} (value a) (refused m) → ⊥
no-refusal e = cc

pub same_Ok : {r q : Taken} → ◌≡◌ {A = Result Taken Refusal} (Ok r) (Ok q) → r ≡ q
same_Ok e = cc

module _ (table : ℕ) (order : Order) (text : List ℕ) (at k : ℕ) (progress : Progress) (ws : List ℕ) (ns : List Float) (vs : List ℕ) {b : ℕ}
    (e : b ≡ byte_at text at) where
  -- an empty line
  pub lines_end : (fuel : ℕ) {t : Progress} {us : List ℕ} → b ≡ 10 → t ≡ ended_progress progress → us ≡ count_kept table k ws
      → lines_from fuel table order text at k progress ws ns vs ≡ done (at + 1) k t us ns vs
  unfolding lines_from
  lines_end zero h p q = rw (← e, eq-eqb b 10 h, p, q)
  lines_end (suc fuel) h p q = rw (← e, eq-eqb b 10 h, p, q)

  module _ {found : Option (Span Cells)} (h : b ≡ 10 → ⊥) (f : found ≡ values_at text at table order) where
    -- a broken line, whatever is left of the limit
    pub lines_cut : (fuel : ℕ) → found ≡ None → lines_from fuel table order text at k progress ws ns vs ≡ stop 1
    unfolding lines_from
    lines_cut zero g = rw (← e, ne_eqb b 10 h, ← f, g)
    lines_cut (suc fuel) g = rw (← e, ne_eqb b 10 h, ← f, g)

    -- a line past the limit
    pub lines-over : (limit : ℕ) {row : Span Cells} → limit ≤ k → found ≡ Some row → lines_from (limit - k) table order text at k progress ws ns vs ≡ stop 2
    unfolding lines_from
    lines-over limit l g = let z : limit - k ≡ 0 = omega arith in rw (z, ← e, ne_eqb b 10 h, ← f, g)

    -- a line that is kept
    pub lines_next :
        (limit : ℕ) {row : Span Cells} {t : Progress} {us : List ℕ} {xs : List Float} {ys : List ℕ} → k < limit → found ≡ Some row
        → t ≡ kept_progress table k row.value progress ws → us ≡ kept_words table k row.value progress ws → xs ≡ numbers_kept table k row.value ns
        → ys ≡ wants_kept table k row.value vs
        → lines_from (limit - k) table order text at k progress ws ns vs ≡ lines_from (limit - (k + 1)) table order text row.next (k + 1) t us xs ys
    unfolding lines_from
    lines_next limit q g p r s w =
        let z : limit - k ≡ suc (limit - (k + 1)) = omega arith in
        rw (z, ← e, ne_eqb b 10 h, ← f, g, p, r, s, w)

module _ (table : ℕ) (text : List ℕ) (at : ℕ) (progress : Progress) (ws : List ℕ) (ns : List Float) (vs : List ℕ) {name : Span ℕ} {w : ℕ}
    (e : name ≡ name_span text at) (f : w ≡ name_of table) where
  -- a table by its name and its line of names
  pub table-missing : (name.value ≡ w → ⊥) → table_at table text at progress ws ns vs ≡ done at 0 progress ws ns vs
  unfolding table_at
  table-missing h = rw (← e, ← f, ne_eqb name.value w h)

  module _ {found : Option (Span Order)} (h : name.value ≡ w) (g : found ≡ head_at text name.next table) where
    pub table-broken : found ≡ None → table_at table text at progress ws ns vs ≡ stop 1
    unfolding table_at
    table-broken k = rw (← e, ← f, eq-eqb name.value w h, ← g, k)

    pub table_lines_lem : {head : Span Order} → found ≡ Some head
        → table_at table text at progress ws ns vs ≡ lines_from (limit_of table) table head.value text head.next 0 progress ws ns vs
    unfolding table_at
    table_lines_lem k = rw (← e, ← f, eq-eqb name.value w h, ← g, k)

one_more_lem : (limit table : ℕ) → table < limit → limit - table ≡ suc (limit - (table + 1))
one_more_lem limit table l = omega arith

module _ (text : List ℕ) (limit table at lines : ℕ) (progress : Progress) (ws : List ℕ) (ns : List Float) (vs : List ℕ) (us : List ℕ) (xs : List Float)
    (ys : List ℕ) (l : table < limit) where
  next-by : (o : Outcome) (r : Taken) {t : Progress} → table_at table text at progress ws ns vs ≡ o → Agrees o (Ok r) us xs ys → t ≡ counted_progress table r.lines r.progress
      → tables_from (limit - table) table text at lines progress ws ns vs ≡ tables_from (limit - (table + 1)) (table + 1) text r.next r.lines t us xs ys
  unfolding tables_from
  next-by (done n k t' cs ds es) r e a g = let z = same_Ok a.0 in rw (one_more_lem limit table l, e, g, z, a.1, a.2, a.3)
  next-by (stop m) r e a g = absurd (no-refusal a)

  -- a table that was taken leads to the next
  pub tables-next : (r : Taken) {t : Progress} → Agrees (table_at table text at progress ws ns vs) (Ok r) us xs ys → t ≡ counted_progress table r.lines r.progress
      → tables_from (limit - table) table text at lines progress ws ns vs ≡ tables_from (limit - (table + 1)) (table + 1) text r.next r.lines t us xs ys
  tables-next r a g = next-by (table_at table text at progress ws ns vs) r refl a g

  stop-by : (o : Outcome) (f : Refusal) → table_at table text at progress ws ns vs ≡ o → Agrees o (Err f) us xs ys
      → Agrees (tables_from (limit - table) table text at lines progress ws ns vs) (Err f) us xs ys
  unfolding tables_from
  stop-by (done n k t' cs ds es) f e a = absurd (no-refusal (sym (ap answered a.0)))
  stop-by (stop m) f e a = rw (one_more_lem limit table l, e) a

  -- a table that was refused ends the reading
  pub tables-stop : (f : Refusal) → Agrees (table_at table text at progress ws ns vs) (Err f) us xs ys
      → Agrees (tables_from (limit - table) table text at lines progress ws ns vs) (Err f) us xs ys
  tables-stop f a = stop-by (table_at table text at progress ws ns vs) f refl a

module _ (text : List ℕ) (limit table at lines : ℕ) (progress : Progress) (ws : List ℕ) (ns : List Float) (vs : List ℕ) (l : limit ≤ table) where
  none : limit - table ≡ 0
  none = omega arith

  -- after the last table: text left over, or none
  pub tables-rest : at < length text → tables_from (limit - table) table text at lines progress ws ns vs ≡ stop 1
  unfolding tables_from
  tables-rest h = rw (none, lt-ltb at (length text) h)

  pub tables-done : length text ≤ at → tables_from (limit - table) table text at lines progress ws ns vs ≡ done at lines progress ws ns vs
  unfolding tables_from
  tables-done h = rw (none, le-ltb at (length text) h)
