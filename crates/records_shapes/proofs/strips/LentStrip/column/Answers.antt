-- `column`: by the words of its line, or none.
use Prim.Native.Nat.{ℕ, ◌+◌}
use native.Mathlib.Omega.{arith}
use mathlib.Core.Path.{◌∙◌, ap}
use lib.ListN.{get_or}
use Rattle.records_cubic.specs.Cubics.{cubics_of}
use Rattle.records.specs.Roads.{cubics_in, column_in}
use Rattle.records_shapes.proofs.StripLaws.{column-of_line, column-past_line, place}
use Rattle.records_shapes.proofs.strips.LentStrip.column.Goals as goal

pub returns-then-column-lt-COLUMNS_A_STRIP : goal.returns-then-column-lt-COLUMNS_A_STRIP
unfolding column_in cubics_of
returns-then-column-lt-COLUMNS_A_STRIP c =
    let r = c.self.inside in
    let words = r.words.now in
    let numbers = r.numbers.now in
    rw (← c.self.view_is)
    (c.of_range.ensures
    ∙ ap (λ (k : ℕ). cubics_in words numbers 7137 (get_or words k 0) (get_or words (k + 1) 0)) (place r.line c.args.column)
    ∙ column-of_line words numbers r.relative r.line c.args.column c.if-column-lt-COLUMNS_A_STRIP.true)

pub returns-else-column-lt-COLUMNS_A_STRIP : goal.returns-else-column-lt-COLUMNS_A_STRIP
returns-else-column-lt-COLUMNS_A_STRIP c =
    let r = c.self.inside in
    rw (← c.self.view_is) (c.no_cubics.ensures ∙ column-past_line r.words.now r.numbers.now r.relative r.line c.args.column (omega arith))
