-- The number, and each of the list beside its word.
use Rattle.std.proofs.Common.{eqb, rules, tests}
use Rattle.std.proofs.lemmas.Iterator.{YieldsList-from_slice, YieldsList-from_zip}
use Rattle.std.proofs.lemmas.Iterator.Search.{all_from_yields_List}
use Rattle.test_dots.specs.Case.{pattern_of}
use Rattle.test_dots.proofs.Agreement.{agrees_by}
use Rattle.test_dots.proofs.answers.Answer.agrees.Goals as goal

pub returns : goal.returns
returns c =
    let s = c.args.self.now in
    let row = c.args.row.now in
    agrees_by s.number s.numbers.now row c.requires
    (all_from_yields_List (λ p. eqb (pattern_of p.0) p.1) c.all.new.self _ _ c.all.ensures.ran (YieldsList-from_zip (YieldsList-from_slice s.numbers.now cc) (YieldsList-from_slice _ cc)) (λ x b q k. search (rules, tests)))
