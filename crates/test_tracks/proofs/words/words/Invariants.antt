-- The invariant: the words below i stand at the row's front.
use Rattle.std.proofs.Common.{◌≡◌, take}
use Rattle.std.specs.declared.option.Option.TheVariants.{Some}
use Rattle.test_tracks.specs.Words.{first_words}
use Rattle.test_tracks.proofs.words.words.Given as goal

abbrev pub invariant-loop-i : goal.invariant-loop-i
invariant-loop-i l = Some (take l.i l.row) ≡ first_words l.line l.i
