-- The invariant: the tables taken on from this one give the whole text.
use mathlib.Core.Path.{◌≡◌}
use Prim.Native.Nat.{◌-◌}
use lib.ListN.{length}
use Rattle.reader_store.specs.Progress.{start_progress}
use Rattle.reader_calls.specs.Reading.{tables_from}
use Rattle.reader_calls.proofs.tables.tables.Given as goal

abbrev pub invariant-loop-table : goal.invariant-loop-table
invariant-loop-table l =
    (length l.words ≡ length l.initial.words) × (length l.numbers ≡ length l.initial.numbers) × (length l.wants ≡ length l.initial.wants)
    × (tables_from 16 0 l.text 0 0 start_progress l.initial.words l.initial.numbers l.initial.wants ≡ tables_from (16 - l.table) l.table l.text l.so_far.next l.so_far.lines l.so_far.progress l.words l.numbers l.wants)
