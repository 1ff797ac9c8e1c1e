-- An answer held against the words of a line, from what each step found.
use Rattle.std.proofs.Common.{◌≡◌, ℕ, ◌+◌, ◌-◌, Bool, ◌&&◌, eqb, List, [], ◌∷◌, length, get_or, take, drop, refl, sym, ap, ◌∙◌, arith, length-drop, take_all, get_or-drop}
use Rattle.std.specs.List.{list_all, zip}
use lib.Ieee.{Float, nan}
use Rattle.refusals.specs.Answer.{Answer, answer_number}
use Rattle.records.specs.declared.points.Point.{Point}
use Rattle.records_lent.specs.Lists.{all_below}
use Rattle.records_lent.proofs.RangeLaws.{all-front}
use Rattle.tracks.specs.declared.poses.TrackPose.{TrackPose}
use Rattle.tracks.specs.declared.projections.Projection.{Projection}
use Rattle.tracks_calls.specs.TrackCalls.{tangents_call, tangents_list, track_pose_call, project_call}
use Rattle.test_tracks.specs.Patterns.{pattern_of}
use Rattle.test_tracks.specs.Case.{count_number, pose_numbers, project_numbers, agrees_of, number_in, place_in, pose_agrees, project_agrees, tangents_agree}

-- the i-th number of a list stands as the word after the first
abbrev pub alike : List Float → List ℕ → ℕ → Bool
alike xs row i = eqb (pattern_of (get_or xs i nan)) (get_or row (i + 1) 0)

-- the words from the k-th on, as a part of the row is made
rest-is : (k : ℕ) (row : List ℕ) → take (length row - k) (drop k row) ≡ drop k row
rest-is k row = take_all (length row - k) (drop k row) (let l = length-drop k row in omega arith)

-- the numbers beside the words
pairs-alike : (xs : List Float) (ws : List ℕ) → length ws ≡ length xs → list_all (λ (p : Float × ℕ). eqb (pattern_of p.0) p.1) (zip xs ws) ≡ all_below (λ i. eqb (pattern_of (get_or xs i nan)) (get_or ws i 0)) (length xs)
unfolding all_below
pairs-alike [] ws e = refl
pairs-alike (x ∷ xs) [] e = absurd (omega arith)
pairs-alike (x ∷ xs) (w ∷ ws) e =
    ap (λ (b : Bool). eqb (pattern_of x) w && b) (pairs-alike xs ws (omega arith))
    ∙ sym (all-front (λ i. eqb (pattern_of (get_or (x ∷ xs) i nan)) (get_or (w ∷ ws) i 0)) (length xs))

-- the numbers beside the words after the first
pub rest-alike : (xs : List Float) (row : List ℕ) → length row ≡ length xs + 1 → list_all (λ (p : Float × ℕ). eqb (pattern_of p.0) p.1) (zip xs (take (length row - 1) (drop 1 row))) ≡ all_below (alike xs row) (length xs)
rest-alike xs row e =
    ap (λ (ws : List ℕ). list_all (λ (p : Float × ℕ). eqb (pattern_of p.0) p.1) (zip xs ws)) (rest-is 1 row)
    ∙ pairs-alike xs (drop 1 row) (let l = length-drop 1 row in omega arith)
    ∙ ap (λ (q : ℕ → Bool). all_below q (length xs)) (λ k i. eqb (pattern_of (get_or xs i nan)) ((get_or-drop 1 row i 0 ∙ ap (λ (m : ℕ). get_or row m 0) (place i)) k))
  where
    place : (i : ℕ) → 1 + i ≡ i + 1
    place i = omega arith

pub agrees-by : (n : ℕ) (xs : List Float) (row : List ℕ) {b : Bool} → b ≡ all_below (alike xs row) (length xs) → eqb (get_or row 0 0) n && b ≡ agrees_of n xs row
unfolding agrees_of
agrees-by n xs row e = rw e

-- an answer that is another's, by its number and its list
held_by_lem :
    {A : Type 0} (number : Answer A → ℕ) (numbers : Answer A → List Float) (row : List ℕ) {n : ℕ} {xs : List Float} {r : Bool} {a b : Answer A}
    → r ≡ agrees_of n xs row → n ≡ number a → xs ≡ numbers a → a ≡ b → r ≡ agrees_of (number b) (numbers b) row
held_by_lem {A} number numbers row {n} {xs} {r} {a} e g h q =
    e
    ∙ ap (λ (m : ℕ). agrees_of m xs row) g
    ∙ ap (λ (ys : List Float). agrees_of (number a) ys row) h
    ∙ ap (λ (c : Answer A). agrees_of (number c) (numbers c) row) q

module _ (track : List Float) (row : List ℕ) {n : ℕ} {xs : List Float} {r : Bool} where
  pub pose_by_lem : {s : Float} {a : Answer TrackPose} → s ≡ number_in row 0 → a ≡ track_pose_call track s → n ≡ answer_number a → xs ≡ pose_numbers a → r ≡ agrees_of n xs (take (length row - 1) (drop 1 row)) → r ≡ pose_agrees track row
  unfolding pose_agrees
  pose_by_lem p q g h e =
      held_by_lem answer_number pose_numbers (drop 1 row) (e ∙ ap (λ (w : List ℕ). agrees_of n xs w) (rest-is 1 row)) g h (q ∙ ap (λ (x : Float). track_pose_call track x) p)

  pub project-by : {at : Point} {a : Answer Projection} → at ≡ place_in row → a ≡ project_call track at → n ≡ answer_number a → xs ≡ project_numbers a → r ≡ agrees_of n xs (take (length row - 3) (drop 3 row)) → r ≡ project_agrees track row
  unfolding project_agrees
  project-by p q g h e =
      held_by_lem answer_number project_numbers (drop 3 row) (e ∙ ap (λ (w : List ℕ). agrees_of n xs w) (rest-is 3 row)) g h (q ∙ ap (λ (x : Point). project_call track x) p)

  pub tangents-by : (list : List Float) {a : Answer ℕ} → a ≡ tangents_call track (length list) → n ≡ count_number a → xs ≡ tangents_list track list → r ≡ agrees_of n xs row → r ≡ tangents_agree track list row
  unfolding tangents_agree
  tangents-by list {a} q g h e =
      e
      ∙ ap (λ (m : ℕ). agrees_of m xs row) (g ∙ ap count_number q)
      ∙ ap (λ (ys : List Float). agrees_of (count_number (tangents_call track (length list))) ys row) h
