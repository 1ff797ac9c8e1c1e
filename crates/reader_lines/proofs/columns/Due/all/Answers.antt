-- Each place has what the call gives of its index.
use Rattle.std.proofs.Common.{rules, ltb, false, arith, ap, List, Bool}
use Rattle.std.proofs.lemmas.List.FromFn.{fill_by_all}
use Rattle.reader_lines.proofs.Made.{made_by}
use Rattle.reader_lines.proofs.columns.Due.all.Goals as goal

pub returns : goal.returns
returns c =
    let n = c.args.n in
    let items = c.from_fn.ensures.items in
    ap (λ (of : List Bool). record { of = of })
    (fill_by_all (λ i. ltb i n) c.from_fn.result 8 false items.long
    (λ k. made_by (λ i. ltb i n) _ (λ i y q called. let h = called.met in (search (rules, h), search (rules, h))) c.from_fn.result false 0 8 items.each k k (omega arith)))
