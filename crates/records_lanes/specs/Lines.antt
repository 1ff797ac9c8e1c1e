-- What the lines of the lane table say, for callers that go over a side's lanes line by line. The words of a section and of a lane are in specs/Layout.antt of crate records; a word past the end is 0.
use Rattle.std.specs.Prelude.{ℕ, ◌+◌, ◌*◌, Bool, cond, List, get_or, ltb}
use Rattle.records.specs.Layout.{section_count_at, section_words, section_stride}

module _ (words : List ℕ) where
  -- the line where a side's lanes begin: the left ones from the section's first lane on, then the right ones; 0 for a section that is not there
  abbrev pub side_line : ℕ → Bool → ℕ
  side_line i right =
      let k = section_words + i * section_stride in
      cond (ltb i (get_or words section_count_at 0)) (cond right (get_or words k 0 + get_or words (k + 1) 0) (get_or words k 0)) 0
