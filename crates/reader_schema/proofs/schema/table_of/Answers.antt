-- The constant is what the schema's text computes to.
use Rattle.std.proofs.Common.{rules, map, List, ℕ, ◌≡◌, ap, sym, ◌∙◌, get_or, []}
use Rattle.std.proofs.lemmas.List.{get_or_append_left}
use lib.ListN.{get_or-map}
use Rattle.reader_schema.specs.declared.schema.Table.{Table}
use Rattle.reader_schema.specs.declared.schema.Column.{Column}
use Rattle.reader_schema.specs.Schema.{names, limits, name_of, limit_of, kinds, column_kind, kind_by, word_lists, list_words}
use Rattle.reader_schema.proofs.Rows.{titles, keys, rows, row_padded}
use Rattle.reader_schema.proofs.schema.table_of.Goals as goal

pub returns-clause-named : goal.returns-clause-named
unfolding name_of names limit_of limits
returns-clause-named c = (search (rules, get_or-map (λ (t : Table). t.name)), search (rules, get_or-map (λ (t : Table). t.limit)))

pub returns-clause-titles : goal.returns-clause-titles
unfolding list_words word_lists
returns-clause-titles c = λ h. row ∙ sym (get_or_append_left titles keys [] c.args.table h)
  where
    row : map (λ (x : Column). x.title) c.unwrap_or.result.columns.now ≡ get_or titles c.args.table []
    row = search (rules, get_or-map (λ (t : Table). map (λ (x : Column). x.title) t.columns.now))

pub returns-clause-kinds : goal.returns-clause-kinds
unfolding column_kind kinds
returns-clause-kinds c = λ i. ap (λ (xs : List ℕ). get_or xs i 0) row ∙ sym (row_padded rows tt c.args.table i)
  where
    row : map (λ (c : Column). kind_by c.holds) c.unwrap_or.result.columns.now ≡ get_or rows c.args.table []
    row = search (rules, get_or-map (λ (t : Table). map (λ (c : Column). kind_by c.holds) t.columns.now))
