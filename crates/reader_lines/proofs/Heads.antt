-- The line of names, one name at a time: a law for each way out of the loop that reads it.
use Prim.Native.Nat.{ℕ, suc, ◌+◌, ◌-◌, ◌<◌, ◌≤◌}
use mathlib.Core.Path.{◌≡◌}
use mathlib.Core.Bool.{Bool, true, false}
use mathlib.Core.List.{List}
use native.Mathlib.Omega.{arith}
use borrow.Author.Tests.{eq-eqb, ne_eqb}
use Rattle.reader_schema.specs.Schema.{word_count}
use Rattle.reader_cells.specs.Cells.{byte_at}
use Rattle.std.specs.Prelude.{Option, Some, None}
use Rattle.reader_lines.specs.Columns.{no_order, all_due, is_due, met_in, ordered_by}
use Rattle.reader_lines.specs.NamesLine.{column_at, names_from, head_at}
use Rattle.reader_lines.specs.declared.columns.Order.{Order}
use Rattle.reader_lines.specs.declared.columns.Due.{Due}
use Rattle.reader_cells.specs.declared.names.Span.{Span}

module _ (text : List ℕ) (at table : ℕ) where
  pub head-is : {n : ℕ} {due : Due} {order : Order} → n ≡ word_count table → due ≡ all_due n → order ≡ no_order → head_at text at table ≡ names_from (n - 0) text at table 0 due order
  unfolding head_at
  head-is {n} e f g = let z : n - 0 ≡ n = omega arith in rw (z, f, g, e)

module _ (text : List ℕ) (at table i n : ℕ) (due : Due) (order : Order) where
  module _ {x : Option (Span ℕ)} (f : x ≡ column_at text at table) (l : i < n) where
    more : n - i ≡ suc (n - (i + 1))
    more = omega arith

    pub names-broken : x ≡ None → names_from (n - i) text at table i due order ≡ None
    unfolding names_from
    names-broken k = rw (more, ← f, k)

    module _ {w : Span ℕ} (k : x ≡ Some w) {d : Bool} (h : d ≡ is_due due w.value) where
      pub names-stop : d ≡ false → names_from (n - i) text at table i due order ≡ None
      unfolding names_from
      names-stop p = rw (more, ← f, k, ← h, p)

      pub names-next : {due' : Due} {order' : Order} → d ≡ true → due' ≡ met_in due w.value → order' ≡ ordered_by order i w.value
          → names_from (n - i) text at table i due order ≡ names_from (n - (i + 1)) text w.next table (i + 1) due' order'
      unfolding names_from
      names-next p q r = rw (more, ← f, k, ← h, p, q, r)

  module _ {b : ℕ} (e : b ≡ byte_at text at) (l : n ≤ i) where
    none : n - i ≡ 0
    none = omega arith

    pub names-end : {q : ℕ} → b ≡ 10 → q ≡ at + 1 → names_from (n - i) text at table i due order ≡ Some (record { value = order; next = q })
    unfolding names_from
    names-end h z = rw (none, ← e, eq-eqb b 10 h, z)

    pub names-cut : (b ≡ 10 → ⊥) → names_from (n - i) text at table i due order ≡ None
    unfolding names_from
    names-cut h = rw (none, ← e, ne_eqb b 10 h)
