use native.Mathlib.Omega.{arith}
use mathlib.Core.Path.{sym, ◌∙◌}
use Rattle.std.specs.Prelude.{length}
use Rattle.coordinates.specs.Points.{point_at}
use Rattle.dots.specs.Along.{nth_station}
use Rattle.dots.specs.Dots.{is_dotted, station_of_multiple}
use Rattle.dots.proofs.ListSteps.{written_none, written_kept, written_left, fits_next}
use Rattle.dots.proofs.lists.DotLine.write.Goals as goal
use Rattle.dots.proofs.lists.DotLine.write.Goals.{in-Some, in_default}

pub loop-k-init : goal.loop-k-init
loop-k-init c =
    let l = c.args.self.now in
    let xs = l.stations.now in
    (c.walk-walk.ensures, written_none (station_of_multiple (point_at l.points.now) (nth_station xs) (length xs) l.spacing) (is_dotted l.road.now l.section l.rank) c.args.list.now c.args.multiples c.requires.1)

pub bounds-list-kept : goal.bounds-list-kept
bounds-list-kept c =
    let l = c.args.self.now in
    let xs = l.stations.now in
    let e = sym c.dot.ensures.value ∙ c.in-Some.is in
    let f = fits_next (station_of_multiple (point_at l.points.now) (nth_station xs) (length xs) l.spacing) (is_dotted l.road.now l.section l.rank) c.loop-k.invariant.1 c.loop-k-test.true e in
    let same = c.loop-k.auto.list in
    omega (arith, f, same)

pub loop-k-preserved : goal.loop-k-preserved
loop-k-preserved c =
    let l = c.args.self.now in
    let xs = l.stations.now in
    let at = station_of_multiple (point_at l.points.now) (nth_station xs) (length xs) l.spacing in
    let keep = is_dotted l.road.now l.section l.rank in
    let w = c.loop-k.invariant.1 in
    elim c.match-dot.branch [
      | in-Some v ↦ (c.dot.ensures.stands, rw (v.list-is, v.kept-is) (written_kept at keep w c.loop-k-test.true (sym c.dot.ensures.value ∙ v.in-Some.is)))
      | in_default v ↦ (c.dot.ensures.stands, rw (v.list-is, v.kept-is) (written_left at keep w c.loop-k-test.true (sym c.dot.ensures.value ∙ v.in_default.is)))
    ]
