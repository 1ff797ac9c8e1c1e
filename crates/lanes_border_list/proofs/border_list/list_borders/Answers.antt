-- `list_borders`: the list's whole threes against the section's lanes, then the left side and the right side after it.
use mathlib.Core.Path.{◌≡◌, refl}
use mathlib.Core.Bool.{true, false}
use Prim.Native.Nat.{◌/◌}
use native.Mathlib.Omega.{arith}
use lib.Dec.{leb}
use lib.ListN.{length}
use borrow.Author.Tests.{le-leb, lt-leb}
use Rattle.lanes_borders.specs.Borders.{lanes_of}
use Rattle.lanes_borders.proofs.BorderSteps.{borders_written_lem}
use Rattle.lanes_border_list.proofs.border_list.list_borders.Goals as goal

pub returns-then-list-lanes : goal.returns-then-list-lanes
returns-then-list-lanes c =
    let a = c.args in
    let short : leb (lanes_of a.road.now a.section) (length a.list.now / 3) ≡ false = lt-leb _ _ (omega (arith, c.section_lanes-lanes.ensures, c.if-list-lanes.true)) in
    record { value = rw short; list_after = rw short }

pub returns : goal.returns
returns c =
    let a = c.args in
    let lanes = c.section_lanes-lanes.ensures in
    let left = rw c.both-left.ensures.left at c.len.ensures.value in
    let room : leb (lanes_of a.road.now a.section) (length a.list.now / 3) ≡ true = le-leb _ _ (omega (arith, lanes, c.if-list-lanes.false)) in
    record {
      value = rw (room, lanes);
      list_after =
          rw room
          (borders_written_lem a.road.now a.section a.s a.list.now refl refl lanes
          (rw c.both-left.ensures.left at c.write_side.ensures)
          (rw c.both-left.ensures.right at c.write_side-2.ensures)
          c.split_at_mut-written.ensures.back);
    }
