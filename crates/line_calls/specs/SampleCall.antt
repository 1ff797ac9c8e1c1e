-- Document 01: the samples call, rows 3 to 6. "Samples are the caller's slice, four f64 each .. only whole fours count"; "Samples .. past those written stay unchanged"; a refusal "changes no memory".
use Rattle.std.specs.Prelude.{ℕ, ◌*◌, ◌/◌, List, [], ◌∷◌, ◌++◌, length, drop, leb, Float}
use Rattle.refusals.specs.Answer.{Answer, value, refused, Row, row, checked}
use Rattle.refusals.specs.declared.refusals.Refusal.TheVariants.{SampleSpace}
use Rattle.records.specs.Roads.{road_of}
use Rattle.line_samples.specs.Samples.{sample_stride, samples_needed, samples_of}
use Rattle.admission.specs.Admission.{road_rows}

module _ (words : List ℕ) (numbers : List Float) where
  -- the samples that the road needs
  abbrev pub needed : ℕ
  needed = samples_needed (road_of words numbers)

  -- row 6: a slice of len f64 holds enough whole fours
  abbrev pub sample_row : ℕ → Row
  sample_row len = row SampleSpace (leb needed (len / sample_stride))

  -- how many samples are written, or the refusal
  unfoldable pub samples_call : ℕ → Answer ℕ
  samples_call len = checked (road_rows words numbers ++ (sample_row len ∷ [])) (value needed)

  -- "Samples .. past those written stay unchanged"; "any other refusal changes no memory"
  abbrev pub samples_written : Answer ℕ → List Float → List Float
  samples_written (value n) xs = samples_of (road_of words numbers) ++ drop (4 * n) xs
  samples_written (refused n) xs = xs

  -- the slice afterwards
  unfoldable pub samples_list : List Float → List Float
  unfolding samples_call
  samples_list xs = samples_written (samples_call (length xs)) xs
