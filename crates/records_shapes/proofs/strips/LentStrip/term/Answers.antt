-- `term`: the column after its power.
use Prim.Native.Nat.{ℕ, ◌+◌}
use native.Mathlib.Numerals.{add-one}
use mathlib.Core.Path.{◌∙◌, ap}
use Rattle.records.specs.Roads.{column_by}
use Rattle.records_shapes.proofs.strips.LentStrip.term.Goals as goal

pub returns : goal.returns
returns c =
    let d = c.args.self.now in
    c.column.ensures ∙ ap (λ (n : ℕ). column_by d (n + 1)) c.from.ensures ∙ ap (column_by d) (add-one c.args.power)
