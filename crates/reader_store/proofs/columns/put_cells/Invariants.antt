-- The invariant: what the columns to come keep, kept, gives what all keep.
use Prim.Native.Nat.{◌+◌}
use mathlib.Core.Path.{◌≡◌}
use lib.ListN.{length, drop}
use Rattle.reader_store.specs.Layout.{cells_kept}
use Rattle.reader_store.proofs.columns.put_cells.Given as goal

abbrev pub invariant-loop-i : goal.invariant-loop-i
invariant-loop-i g l =
    (length l.list ≡ length l.initial.list)
    × (cells_kept g.T.Kept.of_cell l.line.cells (drop l.i l.kept.columns.now) (l.first + l.i) l.list ≡ cells_kept g.T.Kept.of_cell l.line.cells l.kept.columns.now l.first l.initial.list)
