-- The invariant: the numbers of the words below i stand at the front.
use Rattle.std.proofs.Common.{◌≡◌, take}
use Rattle.test_tracks.specs.Words.{numbers_in}
use Rattle.test_tracks.proofs.words.Numbers.set.Given as goal

abbrev pub invariant-loop-i : goal.invariant-loop-i
invariant-loop-i l = take l.i l.self-inside.room ≡ numbers_in (take l.i l.row)
