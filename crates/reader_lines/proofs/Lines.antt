-- A line of values, one cell at a time: a law for each way out of the loop that reads it. The byte that stops a cell stands in the text.
use Prim.Native.Nat.{ℕ, zero, suc, ◌+◌, ◌-◌, ◌<◌, ◌≤◌}
use mathlib.Core.Path.{◌≡◌}
use mathlib.Core.List.{List}
use native.Mathlib.Omega.{arith}
use borrow.Author.Tests.{eq-eqb, ne_eqb}
use Rattle.reader_schema.specs.Schema.{word_count, column_kind}
use Rattle.reader_cells.specs.Cells.{byte_at, cell_at}
use Rattle.reader_cells.specs.declared.names.Span.{Span}
use Rattle.std.specs.Prelude.{Option, Some, None}
use Rattle.reader_lines.specs.Columns.{no_cells, ordered_column, valued_by}
use Rattle.reader_lines.specs.ValuesLine.{stop_of, values_read, values_at}
use Rattle.reader_lines.specs.declared.columns.Order.{Order}
use Rattle.reader_lines.specs.declared.columns.Cells.{Cells}

pub stop-more : (i n : ℕ) → i < n → 32 ≡ stop_of (n - i)
unfolding stop_of
stop-more i n h = let z : n - i ≡ suc (n - (i + 1)) = omega arith in rw z

pub stop-last : (i n : ℕ) → n ≤ i → 10 ≡ stop_of (n - i)
unfolding stop_of
stop-last i n h = let z : n - i ≡ 0 = omega arith in rw z

pub row_is : (text : List ℕ) (at table : ℕ) (order : Order) {n : ℕ} {cells : Cells} → n ≡ word_count table → cells ≡ no_cells
    → values_at text at table order ≡ values_read (n - 0) text at table order 0 cells
unfolding values_at
row_is text at table order {n} e f = let z : n - 0 ≡ n = omega arith in rw (z, f, e)

pub row-end : (text : List ℕ) (at table : ℕ) (order : Order) (i n : ℕ) (cells : Cells) → n ≤ i
    → values_read (n - i) text at table order i cells ≡ Some (record { value = cells; next = at })
unfolding values_read
row-end text at table order i n cells h = let z : n - i ≡ 0 = omega arith in rw z

module _ (text : List ℕ) (at table : ℕ) (order : Order) (i n : ℕ) (cells : Cells) {col kind : ℕ} {x : Option (Span ℕ)}
    (f : col ≡ ordered_column order i) (g : kind ≡ column_kind table col) (h : x ≡ cell_at text at kind) (l : i < n) where
  next : n - i ≡ suc (n - (i + 1))
  next = omega arith

  pub row-broken : x ≡ None → values_read (n - i) text at table order i cells ≡ None
  unfolding values_read
  row-broken k = rw (next, ← f, ← g, ← h, k)

  module _ {w : Span ℕ} {b s : ℕ} (k : x ≡ Some w) (e : b ≡ byte_at text w.next) (st : s ≡ stop_of (n - (i + 1))) where
    pub row-stop : (b ≡ s → ⊥) → values_read (n - i) text at table order i cells ≡ None
    unfolding values_read
    row-stop p = rw (next, ← f, ← g, ← h, k, ← e, ← st, ne_eqb b s p)

    pub row_next : {cells' : Cells} {q : ℕ} → b ≡ s → q ≡ w.next + 1 → cells' ≡ valued_by cells col w.value
        → values_read (n - i) text at table order i cells ≡ values_read (n - (i + 1)) text q table order (i + 1) cells'
    unfolding values_read
    row_next p z y = rw (next, ← f, ← g, ← h, k, ← e, ← st, eq-eqb b s p, y, z)
