-- The invariant: the lines read on from line k give the whole table. A line past the limit ends the loop, so k stays within it.
use mathlib.Core.Path.{◌≡◌}
use Prim.Native.Nat.{◌≤◌, ◌-◌}
use lib.ListN.{length}
use Rattle.reader_schema.specs.Schema.{limit_of}
use Rattle.reader_calls.specs.Reading.{lines_from}
use Rattle.reader_calls.proofs.tables.table_lines.Given as goal

abbrev pub invariant-loop-k : goal.invariant-loop-k
invariant-loop-k l =
    (l.k ≤ l.limit) × (length l.words ≡ length l.initial.words) × (length l.numbers ≡ length l.initial.numbers) × (length l.wants ≡ length l.initial.wants)
    × (lines_from (limit_of l.table) l.table l.order l.text l.from 0 l.initial.progress l.initial.words l.initial.numbers l.initial.wants ≡ lines_from (l.limit - l.k) l.table l.order l.text l.at l.k l.progress l.words l.numbers l.wants)
