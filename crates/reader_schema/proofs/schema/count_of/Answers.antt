use Rattle.std.proofs.Common.{rules, ◌≡◌, ◌∙◌, sym, ℕ, ◌+◌, ◌-◌}
use Rattle.std.proofs.lemmas.List.{map-id}
use Rattle.reader_schema.specs.Tables.{table_count}
use Rattle.reader_schema.specs.declared.schema.Column.{Column}
use Rattle.reader_schema.proofs.Places.{few, as_many}
use Rattle.reader_schema.proofs.schema.count_of.Goals as goal

pub overflow_cast-result : goal.overflow_cast-result
overflow_cast-result c =
    let f = few (λ (x : Column). x.title) c.table_of.result.columns.now c.args.list (c.table_of.ensures.titles c.if-list-lt-TABLE_COUNT.true) in
    search (rules, f)

pub returns-then-list-lt-TABLE_COUNT : goal.returns-then-list-lt-TABLE_COUNT
returns-then-list-lt-TABLE_COUNT c =
    sym (as_many (λ (x : Column). x.title) c.table_of.result.columns.now c.args.list (c.table_of.ensures.titles c.if-list-lt-TABLE_COUNT.true))

pub overflow_cast-result-else-list-lt-TABLE_COUNT : goal.overflow_cast-result-else-list-lt-TABLE_COUNT
overflow_cast-result-else-list-lt-TABLE_COUNT c =
    let f = few (λ (x : ℕ). x) c.keywords_of.result.now _ (map-id c.keywords_of.result.now ∙ c.keywords_of.ensures) in
    search (rules, f)

pub returns-else-list-lt-TABLE_COUNT : goal.returns-else-list-lt-TABLE_COUNT
returns-else-list-lt-TABLE_COUNT c =
    let n : table_count + (c.args.list - table_count) ≡ c.args.list = search rules in
    sym (rw (← n) (as_many (λ (x : ℕ). x) c.keywords_of.result.now _ (map-id c.keywords_of.result.now ∙ c.keywords_of.ensures)))
