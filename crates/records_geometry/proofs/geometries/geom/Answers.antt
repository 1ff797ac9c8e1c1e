-- `geom`: the i-th line of the table, or a line of NaNs.
use native.Mathlib.Omega.{arith}
use mathlib.Core.Path.{◌∙◌, sym}
use Rattle.records.proofs.RoadLaws.{geom_count_read, geom-by, geom-past}
use Rattle.records_geometry.proofs.geometries.geom.Goals as goal

pub returns-then-i-geom_count : goal.returns-then-i-geom_count
returns-then-i-geom_count c =
    let r = c.road.inside in
    let n = geom_count_read r.words.now r.numbers.now c.geom_count.ensures.value c.road.view_is in
    rw (← c.road.view_is) (c.geom_from.ensures ∙ geom-by r.words.now r.numbers.now c.args.i (omega arith) c.part.ensures c.word.ensures.value)

pub returns-else-i-geom_count : goal.returns-else-i-geom_count
returns-else-i-geom_count c =
    let r = c.road.inside in
    let n = geom_count_read r.words.now r.numbers.now c.geom_count.ensures.value c.road.view_is in
    rw (← c.road.view_is) (c.geom_from-else-i-geom_count.ensures ∙ sym (geom-past r.words.now r.numbers.now c.args.i (omega arith)))
