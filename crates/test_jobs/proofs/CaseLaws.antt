-- A case, from what each call ensures of it.
use Rattle.std.proofs.Common.{◌≡◌, ℕ, min, List, ◌++◌, length, drop}
use lib.Ieee.{Float}
use Rattle.reader_calls.specs.Reading.{reading_of, verdict_of, words_held, numbers_held, wants_held}
use Rattle.test_support.specs.Sums.{checksum_of}
use Rattle.test_jobs.specs.Case.{seen_of, case_by, case_in}
use Rattle.test_jobs.specs.declared.cases.Lent.{Lent}
use Rattle.test_jobs.specs.declared.cases.Seen.{Seen}
use Rattle.test_jobs.specs.declared.cases.Case.{Case}

-- a reading into parts whose lengths a, b, d are those that are lent
pub case-is : (text ws : List ℕ) (ns : List Float) (vs : List ℕ) (asked : Lent) {w n v a b d : ℕ} {seen : Seen} {sum : ℕ}
    → w ≡ min asked.words (length ws) → n ≡ min asked.numbers (length ns) → v ≡ min asked.wants (length vs) → a ≡ w → b ≡ n → d ≡ v
    → seen ≡ seen_of (verdict_of (reading_of text a b d))
    → sum ≡ checksum_of (words_held a (reading_of text a b d) ++ drop w ws) (numbers_held b (reading_of text a b d) ++ drop n ns) (wants_held d (reading_of text a b d) ++ drop v vs)
    → ◌≡◌ {A = Case} (record { seen = seen; sum = sum }) (case_in text ws ns vs asked)
unfolding case_in case_by
case-is text ws ns vs asked p q s e f g h i = rw (h, i, e, f, g, p, q, s)
