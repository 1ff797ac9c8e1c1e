-- `unused_zero`: the line's code and columns, or no columns at all.
use native.Mathlib.Omega.{arith}
use mathlib.Core.Path.{◌∙◌, ap, sym}
use Rattle.records.specs.Roads.{all_zero}
use Rattle.records.proofs.RoadLaws.{geom_count_read, unused-by, unused-past}
use Rattle.records_geometry.proofs.geometries.unused_zero.Goals as goal

pub returns-in-Line : goal.returns-in-Line
returns-in-Line c =
    let r = c.road.inside in
    let n = geom_count_read r.words.now r.numbers.now c.geom_count.ensures.value c.road.view_is in
    rw (← c.road.view_is)
    (unused-by r.words.now r.numbers.now c.args.i (omega arith) c.part-columns.ensures c.word.ensures.value c.number-k0.ensures c.number-k1.ensures (sym c.shape_of.ensures ∙ c.in-Line.is))

pub returns-in-Arc : goal.returns-in-Arc
returns-in-Arc c =
    let r = c.road.inside in
    let n = geom_count_read r.words.now r.numbers.now c.geom_count.ensures.value c.road.view_is in
    rw (← c.road.view_is)
    (unused-by r.words.now r.numbers.now c.args.i (omega arith) c.part-columns.ensures c.word.ensures.value c.number-k0.ensures c.number-k1.ensures (sym c.shape_of.ensures ∙ c.in-Arc.is))

pub returns-in-Spiral : goal.returns-in-Spiral
returns-in-Spiral c =
    let r = c.road.inside in
    let n = geom_count_read r.words.now r.numbers.now c.geom_count.ensures.value c.road.view_is in
    rw (← c.road.view_is)
    (unused-by r.words.now r.numbers.now c.args.i (omega arith) c.part-columns.ensures c.word.ensures.value c.number-k0.ensures c.number-k1.ensures (sym c.shape_of.ensures ∙ c.in-Spiral.is))

pub returns-else-i-geom_count : goal.returns-else-i-geom_count
returns-else-i-geom_count c =
    let r = c.road.inside in
    let n = geom_count_read r.words.now r.numbers.now c.geom_count.ensures.value c.road.view_is in
    rw (← c.road.view_is) (sym (ap all_zero (unused-past r.words.now r.numbers.now c.args.i (omega arith))))
