-- The constant is what the schema's text computes to.
use Rattle.std.proofs.Common.{rules, ◌≡◌, ◌∙◌, sym, get_or, []}
use Rattle.std.proofs.lemmas.List.{get_or-append-add}
use Rattle.reader_schema.specs.Schema.{word_lists, list_words}
use Rattle.reader_schema.proofs.Rows.{titles, keys}
use Rattle.reader_schema.proofs.schema.keywords_of.Goals as goal

pub returns : goal.returns
unfolding list_words word_lists
returns c = row ∙ sym (get_or-append-add titles keys c.args.list [])
  where
    row : c.unwrap_or.result.now ≡ get_or keys c.args.list []
    row = search rules
