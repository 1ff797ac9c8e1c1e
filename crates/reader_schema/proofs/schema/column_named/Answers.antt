-- The first that is the one sought, among as many as the list has words.
use Rattle.std.proofs.Common.{rules, ◌∙◌, sym, refl}
use lib.Dec.{eqb}
use Rattle.std.proofs.lemmas.Iterator.{YieldsList-from_slice}
use Rattle.std.proofs.lemmas.Iterator.Search.{position_from_yields_List}
use Rattle.reader_schema.specs.declared.schema.Column.{Column}
use Rattle.reader_schema.specs.declared.tables.Kind.TheVariants.{Number}
use Rattle.reader_schema.proofs.Places.{few, listed_by}
use Rattle.reader_schema.proofs.schema.column_named.Goals as goal

pub returns-in_err-column : goal.returns-in_err-column
returns-in_err-column c =
    let xs = c.table_of.result.columns.now in
    let place = position_from_yields_List (λ (x : Column). eqb x.title c.args.name) _ _ _ c.position.ensures.ran (YieldsList-from_slice xs (search rules)) (λ x b q called. let h = called.met in (search (rules, h), search (rules, h))) in
    c.from_residual.ensures ∙ sym c.in_err-column.was ∙ place ∙ listed_by (λ (x : Column). x.title) xs c.args.table (c.table_of.ensures.titles c.requires) (λ (x : Column). eqb x.title c.args.name) (record { title = 0; holds = Number }) c.args.name (λ x. refl)

pub overflow_cast-result : goal.overflow_cast-result
overflow_cast-result c =
    let f = few (λ (x : Column). x.title) c.table_of.result.columns.now c.args.table (c.table_of.ensures.titles c.requires) in
    search (rules, f, c.in_ok-column.ensures.bound)

pub returns : goal.returns
returns c =
    let xs = c.table_of.result.columns.now in
    let place = position_from_yields_List (λ (x : Column). eqb x.title c.args.name) _ _ _ c.position.ensures.ran (YieldsList-from_slice xs (search rules)) (λ x b q called. let h = called.met in (search (rules, h), search (rules, h))) in
    sym c.in_ok-column.was ∙ place ∙ listed_by (λ (x : Column). x.title) xs c.args.table (c.table_of.ensures.titles c.requires) (λ (x : Column). eqb x.title c.args.name) (record { title = 0; holds = Number }) c.args.name (λ x. refl)
