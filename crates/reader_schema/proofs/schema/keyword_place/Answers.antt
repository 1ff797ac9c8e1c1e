-- The first that is the one sought, among as many as the list has words.
use Rattle.std.proofs.Common.{rules, ◌∙◌, sym, refl, ℕ, ◌+◌}
use lib.Dec.{eqb}
use Rattle.std.proofs.lemmas.Iterator.{YieldsList-from_slice}
use Rattle.std.proofs.lemmas.Iterator.Search.{position_from_yields_List}
use Rattle.std.proofs.lemmas.List.{map-id}
use Rattle.reader_schema.specs.Tables.{table_count}
use Rattle.reader_schema.proofs.Places.{few, listed_by}
use Rattle.reader_schema.proofs.schema.keyword_place.Goals as goal

pub returns-in_err-place : goal.returns-in_err-place
returns-in_err-place c =
    let xs = c.keywords_of-words.result.now in
    let place = position_from_yields_List (λ (x : ℕ). eqb x c.args.word) _ _ _ c.position.ensures.ran (YieldsList-from_slice xs (search rules)) (λ x b q called. let h = called.met in (search (rules, h), search (rules, h))) in
    c.from_residual.ensures ∙ sym c.in_err-place.was ∙ place ∙ listed_by (λ (x : ℕ). x) xs (table_count + c.args.list) (map-id c.keywords_of-words.result.now ∙ c.keywords_of-words.ensures) (λ (x : ℕ). eqb x c.args.word) 0 c.args.word (λ x. refl)

pub overflow_cast-result : goal.overflow_cast-result
overflow_cast-result c =
    let f = few (λ (x : ℕ). x) c.keywords_of-words.result.now (table_count + c.args.list) (map-id c.keywords_of-words.result.now ∙ c.keywords_of-words.ensures) in
    search (rules, f, c.in_ok-place.ensures.bound)

pub returns : goal.returns
returns c =
    let xs = c.keywords_of-words.result.now in
    let place = position_from_yields_List (λ (x : ℕ). eqb x c.args.word) _ _ _ c.position.ensures.ran (YieldsList-from_slice xs (search rules)) (λ x b q called. let h = called.met in (search (rules, h), search (rules, h))) in
    sym c.in_ok-place.was ∙ place ∙ listed_by (λ (x : ℕ). x) xs (table_count + c.args.list) (map-id c.keywords_of-words.result.now ∙ c.keywords_of-words.ensures) (λ (x : ℕ). eqb x c.args.word) 0 c.args.word (λ x. refl)
