-- The invariant: the words below i are at hand.
use Rattle.std.proofs.Common.{◌≡◌}
use Rattle.std.specs.declared.option.Option.TheVariants.{Some}
use Rattle.test_dots.specs.Words.{first_words}
use Rattle.test_dots.proofs.words.words.Given as goal

abbrev pub invariant-loop-i : goal.invariant-loop-i
invariant-loop-i l = Some l.words.items ≡ first_words l.line l.i
