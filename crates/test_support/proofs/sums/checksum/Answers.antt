-- The three folds, each from the sum before; of the numbers each pattern is mixed in.
use Rattle.std.proofs.Common.{◌≡◌, ℕ, rules, fold}
use Rattle.std.proofs.lemmas.List.Folds.{fold-map}
use lib.Ieee.{Float, binary64, to_bits}
use Rattle.test_support.specs.Sums.{mix_of, checksum_of}
use Rattle.test_support.proofs.sums.checksum.Goals as goal

pub returns : goal.returns
unfolding checksum_of
returns c =
    let words : c.fold-sum.result ≡ fold mix_of 1 c.args.words.now = search rules in
    let numbers : c.fold-sum-2.result ≡ fold (λ (sum : ℕ) (x : Float). mix_of sum (to_bits binary64 x)) c.fold-sum.result c.args.numbers.now = search rules in
    let wants : c.fold.result ≡ fold mix_of c.fold-sum-2.result c.args.wants.now = search rules in
    rw (wants, numbers, words, fold-map)
