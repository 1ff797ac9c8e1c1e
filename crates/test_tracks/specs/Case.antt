-- What a line asks: a call on the track that was set, held against the answer that the line has. Read `verdict_of` first.
use Rattle.std.specs.Prelude.{ℕ, ◌+◌, ◌%◌, ◌^◌, Bool, cond, ◌&&◌, List, [], ◌∷◌, length, drop, ◌==◌, from_bits, nat_eq, slice_index, slice_index_or, Float, Option, Some, None}
use Rattle.std.specs.Float.{binary32, nan}
use Rattle.float_laws.specs.Binary32.{zero32}
use Rattle.refusals.specs.Answer.{Answer, value, refused, answer_number}
use Rattle.records.specs.declared.points.Point.{Point}
use Rattle.records_lent.specs.Lists.{all_below}
use Rattle.tracks.specs.declared.poses.TrackPose.{TrackPose}
use Rattle.tracks.specs.declared.projections.Projection.{Projection}
use Rattle.tracks.specs.Poses.{track_pose_list}
use Rattle.tracks.specs.Projections.{projection_list}
use Rattle.tracks_calls.specs.TrackCalls.{tangents_call, tangents_list, track_pose_call, project_call}
use Rattle.test_tracks.specs.Patterns.{pattern_of}
use Rattle.test_tracks.specs.declared.calls.Verdict.{Verdict}
use Rattle.test_tracks.specs.declared.calls.Call.{Call}
use Rattle.test_tracks.specs.declared.calls.Call.TheVariants.{Tangents, Pose, Project}

-- ---- an answer as a number and a list

-- 2^31 and the points whose tangents are written
abbrev pub count_number : Answer ℕ → ℕ
count_number (value n) = n % 2 ^ 31 + 2 ^ 31
count_number (refused n) = n

-- zeros for a refusal
abbrev pub pose_numbers : Answer TrackPose → List Float
pose_numbers (value q) = track_pose_list q
pose_numbers (refused n) = zero32 ∷ zero32 ∷ zero32 ∷ zero32 ∷ zero32 ∷ zero32 ∷ []

abbrev pub project_numbers : Answer Projection → List Float
project_numbers (value q) = projection_list q
project_numbers (refused n) = zero32 ∷ zero32 ∷ zero32 ∷ zero32 ∷ zero32 ∷ []

-- ---- held against the words of a line

-- the first word is the number, and the others stand for the list
unfoldable pub agrees_of : ℕ → List Float → List ℕ → Bool
unfolding pattern_of all_below
agrees_of number xs row = slice_index row 0 == number && all_below (λ i. nat_eq (pattern_of (slice_index_or xs i nan)) (slice_index row (i + 1))) (length xs)

-- an f32 among the words
abbrev pub number_in : List ℕ → ℕ → Float
number_in row i = from_bits binary32 (slice_index row i)

-- the row is s, then the answer
unfoldable pub pose_agrees : List Float → List ℕ → Bool
unfolding agrees_of track_pose_call
pose_agrees track row = let a = track_pose_call track (number_in row 0) in agrees_of (answer_number a) (pose_numbers a) (drop 1 row)

-- the row is x, y and z, then the answer
abbrev pub place_in : List ℕ → Point
place_in row = record { x = number_in row 0; y = number_in row 1; z = number_in row 2 }

unfoldable pub project_agrees : List Float → List ℕ → Bool
unfolding agrees_of project_call
project_agrees track row = let a = project_call track (place_in row) in agrees_of (answer_number a) (project_numbers a) (drop 3 row)

-- the row is the answer, then the whole lent list as it is afterwards
unfoldable pub tangents_agree : List Float → List Float → List ℕ → Bool
unfolding agrees_of tangents_call tangents_list
tangents_agree track list row = agrees_of (count_number (tangents_call track (length list))) (tangents_list track list) row

-- ---- what is found of a line

-- the call of a letter: g tangents, p pose, j project
unfoldable pub call_of : ℕ → Option Call
call_of letter = cond (letter == 103) (Some Tangents) (cond (letter == 112) (Some Pose) (cond (letter == 106) (Some Project) None))

-- how many words its line has, where n numbers are lent: tangents have one for each of them
abbrev pub words_wanted : Call → ℕ → ℕ
words_wanted Tangents n = n + 1
words_wanted Pose n = 8
words_wanted Project n = 9

-- whether its answer is the row
abbrev pub same_of : Call → List Float → List Float → List ℕ → Bool
same_of Tangents track list row = tangents_agree track list row
same_of Pose track list row = pose_agrees track row
same_of Project track list row = project_agrees track row

-- none for another letter, or another number of words
unfoldable pub verdict_of : Option Call → List Float → List Float → List ℕ → Option Verdict
verdict_of (Some call) track list row = cond (length row == words_wanted call (length list)) (Some (record { call = call; same = same_of call track list row })) None
verdict_of None track list row = None

-- the lent list after a call
abbrev pub list_left : Call → List Float → List Float → List Float
list_left Tangents track list = tangents_list track list
list_left Pose track list = list
list_left Project track list = list

-- the lent list after a line
unfoldable pub list_told : Option Call → List Float → List Float → List ℕ → List Float
list_told (Some call) track list row = cond (length row == words_wanted call (length list)) (list_left call track list) list
list_told None track list row = list
