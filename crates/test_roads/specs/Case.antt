-- What a line of the list asks, as numbers: each is an answer of the crates by its own definition. Read `answer_numbers` and `filled_of` first.
use Rattle.std.specs.Prelude.{ℕ, ◌+◌, ◌/◌, ◌%◌, ◌^◌, true, false, cond, List, [], ◌∷◌, get_or, ◌==◌, from_bits, to_bits, ℤ, Float, Option, Some, None}
use Rattle.std.specs.Float.Ieee.{binary64, of_int, eq}
use Rattle.std.specs.Float.{nan}
use Rattle.float_laws.specs.Binary64.{zero64}
use Rattle.refusals.specs.Answer.{Answer, value, refused}
use Rattle.arithmetic_sine.specs.Sine.{tan_of}
use Rattle.records.specs.Active.{value_in}
use Rattle.records.specs.Roads.{Road, road_of, section_index}
use Rattle.line_pose.specs.Poses.{pose_of}
use Rattle.line_samples.specs.declared.points.Pose.{Pose}
use Rattle.line_calls.specs.SampleCall.{samples_call, samples_list}
use Rattle.lanes.specs.Lateral.{height_toward}
use Rattle.lanes.specs.Sides.{sign_of}
use Rattle.lanes_heights.specs.Heights.{across_at}
use Rattle.lanes_heights.specs.declared.across.Across.{Across}
use Rattle.test_roads.specs.declared.answers.Question.{Question}
use Rattle.test_roads.specs.declared.answers.Question.TheVariants.{LinePose, LaneAcross, HeightToward, LaneName}
use Rattle.test_roads.specs.declared.answers.Fill.{Fill}
use Rattle.test_roads.specs.declared.answers.Fill.TheVariants.{Borders, Samples}
use Rattle.lanes_calls.specs.LaneCalls.{borders_call, borders_list, lane_named_call}

-- the word that is written for a number: zeros alike, NaNs alike
unfoldable pub pattern_of : Float → ℕ
pattern_of x = cond (eq x zero64) 0 (to_bits binary64 x)

-- x, y, heading
abbrev pub pose_numbers : Pose → List Float
pose_numbers p = p.x ∷ p.y ∷ p.heading ∷ zero64 ∷ []

-- the borders, then the height at each
abbrev pub across_numbers : Across → List Float
across_numbers a = a.inner_t ∷ a.outer_t ∷ a.inner_height ∷ a.outer_height ∷ []

-- a lane at s as 2 k for the k-th of the left, 2 k + 1 for the k-th of the right; level lanes by the bank at s
unfoldable pub lane_across : Road → Float → ℕ → Across
lane_across road s lane = across_at road (section_index road s) s (tan_of (value_in road.superelevations s)) (lane % 2 == 1) (lane / 2)

-- the heights at t to the left, then to the right
abbrev pub toward_numbers : Road → Float → Float → List Float
toward_numbers road s t =
    height_toward road s t (sign_of false) ∷ height_toward road s t (sign_of true) ∷ zero64 ∷ zero64 ∷ []

-- a lane's id, 0 for none, NaN for a refusal
abbrev pub name_number : Answer (Option ℤ) → Float
name_number (value (Some n)) = of_int binary64 n
name_number (value None) = zero64
name_number (refused number) = nan

-- the question of a letter
unfoldable pub question_of : ℕ → Option Question
question_of letter =
    cond (letter == 112) (Some LinePose)
    (cond (letter == 104) (Some LaneAcross) (cond (letter == 116) (Some HeightToward) (cond (letter == 108) (Some LaneName) None)))

-- the four numbers of an answer; a and b are a geometry and s, s and a lane, or s and t
abbrev pub answer_numbers : Question → ℕ → ℕ → List ℕ → List Float → List Float → List Float
answer_numbers LinePose a b words numbers lent = pose_numbers (pose_of (road_of words numbers) lent a (from_bits binary64 b))
answer_numbers LaneAcross a b words numbers lent = across_numbers (lane_across (road_of words numbers) (from_bits binary64 a) b)
answer_numbers HeightToward a b words numbers lent = toward_numbers (road_of words numbers) (from_bits binary64 a) (from_bits binary64 b)
answer_numbers LaneName a b words numbers lent =
    name_number (lane_named_call words numbers (from_bits binary64 a) (from_bits binary64 b)) ∷ zero64 ∷ zero64 ∷ zero64 ∷ []

-- the number of the lent slice so many places past one, NaN where the slice has none
unfoldable pub lent_number : List Float → ℕ → ℕ → Float
lent_number lent from part = get_or lent ((from + part) % 2 ^ 64) nan

-- ---- calls that write into the lent slice

-- what is written for a letter
unfoldable pub fill_of : ℕ → Option Fill
fill_of letter = cond (letter == 98) (Some Borders) (cond (letter == 115) (Some Samples) None)

-- the borders at s, or the samples
abbrev pub filled_of : Fill → ℕ → List ℕ → List Float → ℕ → Answer ℕ
filled_of Borders s words numbers len = borders_call words numbers (from_bits binary64 s) len
filled_of Samples s words numbers len = samples_call words numbers len

-- the slice afterwards
abbrev pub filled_list : Fill → ℕ → List ℕ → List Float → List Float → List Float
filled_list Borders s words numbers xs = borders_list words numbers (from_bits binary64 s) xs
filled_list Samples s words numbers xs = samples_list words numbers xs
