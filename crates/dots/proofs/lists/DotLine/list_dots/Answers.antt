use Rattle.std.specs.Prelude.{length}
use Rattle.coordinates.specs.Points.{point_at}
use Rattle.dots.specs.Along.{nth_station}
use Rattle.dots.proofs.ListSteps.{none-over, none-short, all_listed}
use Rattle.dots.proofs.lists.DotLine.list_dots.Goals as goal

pub returns-then-multiples-gt-MOST_MULTIPLES : goal.returns-then-multiples-gt-MOST_MULTIPLES
returns-then-multiples-gt-MOST_MULTIPLES c =
    let l = c.args.self.now in
    let xs = l.stations.now in
    let e = none-over l.road.now l.section l.rank (point_at l.points.now) (nth_station xs) (length xs) l.spacing c.args.list.now c.multiple_count-multiples.ensures.value c.if-multiples-gt-MOST_MULTIPLES.true in
    record { value = e.0; list_after = e.1 }

pub returns-then-list-kept : goal.returns-then-list-kept
returns-then-list-kept c =
    let l = c.args.self.now in
    let xs = l.stations.now in
    let e = none-short l.road.now l.section l.rank (point_at l.points.now) (nth_station xs) (length xs) l.spacing c.args.list.now c.multiple_count-multiples.ensures.value c.kept-kept.ensures c.if-list-kept.true in
    record { value = e.0; list_after = e.1 }

pub returns : goal.returns
returns c =
    let l = c.args.self.now in
    let xs = l.stations.now in
    let e = all_listed l.road.now l.section l.rank (point_at l.points.now) (nth_station xs) (length xs) l.spacing c.args.list.now c.multiple_count-multiples.ensures.value c.kept-kept.ensures c.if-multiples-gt-MOST_MULTIPLES.false c.if-list-kept.false c.write.ensures in
    record { value = e.0; list_after = e.1 }
