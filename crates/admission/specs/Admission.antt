-- Document 01: "A road is admitted when it passes rows 3 to 5", "the road whole and anew", row by row. Every call that takes a road, reading, and the statement on sizes cite this one definition.
use Rattle.std.specs.Prelude.{Bool, true, ◌&&◌, List, [], ◌∷◌, ℕ, leb, Float}
use Rattle.refusals.specs.Answer.{Answer, value, Row, row, checked}
use Rattle.refusals.specs.declared.refusals.Refusal.TheVariants.{Structure, Range, SampleBudget}
use Rattle.records.specs.Roads.{road_of}
use Rattle.admission_structure.specs.Structure.{structured}
use Rattle.admission_order.specs.Order.{ordered}
use Rattle.admission.specs.Limits.{limited}
use Rattle.line_samples.specs.Samples.{samples_needed, most_samples}

-- 3 counts, references, order; 4 numbers; 5 samples: each over the whole road
abbrev pub road_rows : List ℕ → List Float → List Row
road_rows words numbers =
    row Structure (structured words numbers && ordered (road_of words numbers))
    ∷ row Range (limited (road_of words numbers))
    ∷ row SampleBudget (leb (samples_needed (road_of words numbers)) most_samples)
    ∷ []

-- every row passes
abbrev pub pass : List Row → Bool
pass [] = true
pass (r ∷ rs) = r.passes && pass rs

-- "a call that takes a road checks 3 to 5": nothing where all pass, else the first that fails
unfoldable pub admit_call : List ℕ → List Float → Answer (Unit {0})
admit_call words numbers = checked (road_rows words numbers) (value tt)

-- "A road is admitted when it passes rows 3 to 5"
unfoldable pub admitted : List ℕ → List Float → Bool
admitted words numbers = pass (road_rows words numbers)
