-- A number that no kind has is neither an f64's nor a whole number's.
use mathlib.Core.Path.{sym}
use borrow.Author.Tests.{ne_eqb}
use Rattle.reader_schema.specs.declared.tables.Kind.TheVariants.{Number, Whole}
use Rattle.reader_cells.specs.Cells.{cell_at}
use Rattle.reader_cells.proofs.values.cell_by_number.Goals as goal

pub returns-in-Err : goal.returns-in-Err
unfolding cell_at
returns-in-Err c =
    let none = c.in-Err.ensures.1 in
    rw (ne_eqb c.args.number 0 (λ e. none Number (sym e)), ne_eqb c.args.number 1 (λ e. none Whole (sym e))) c.listed_at.ensures
