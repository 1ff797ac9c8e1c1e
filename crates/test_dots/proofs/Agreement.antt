-- An answer held against the words of a line.
use Rattle.std.proofs.Common.{◌≡◌, ℕ, ◌+◌, ◌-◌, Bool, ◌&&◌, eqb, List, [], ◌∷◌, length, get_or, take, drop, map, refl, ap, ◌∙◌, arith, length-drop, take_all}
use Rattle.std.specs.Cmp.Lexicographic.{pointwise}
use Rattle.std.specs.List.{list_all, zip}
use lib.Ieee.{Float}
use Rattle.test_support.specs.Answers.{count_word}
use Rattle.test_dots.specs.Case.{pattern_of, agrees_of, dots_answer, dots_left, dots_agree}

-- the numbers beside as many words
beside : (xs : List Float) (ws : List ℕ) → length ws ≡ length xs → list_all (λ (p : Float × ℕ). eqb (pattern_of p.0) p.1) (zip xs ws) ≡ pointwise eqb (map pattern_of xs) ws
beside [] [] e = refl
beside [] (w ∷ ws) e = absurd (omega arith)
beside (x ∷ xs) [] e = absurd (omega arith)
beside (x ∷ xs) (w ∷ ws) e = ap (λ (b : Bool). eqb (pattern_of x) w && b) (beside xs ws (omega arith))

-- the words from the k-th on, as a part of the row is made
rest_is : (k : ℕ) (row : List ℕ) → take (length row - k) (drop k row) ≡ drop k row
rest_is k row = take_all (length row - k) (drop k row) (let l = length-drop k row in omega arith)

-- the number beside the first word, and the list beside the others
pub agrees_by : (n : ℕ) (xs : List Float) (row : List ℕ) {b : Bool} → length row ≡ length xs + 1 → b ≡ list_all (λ (p : Float × ℕ). eqb (pattern_of p.0) p.1) (zip xs (take (length row - 1) (drop 1 row))) → eqb n (get_or row 0 0) && b ≡ agrees_of n xs row
unfolding agrees_of
agrees_by n xs [] l e = absurd (omega arith)
agrees_by n xs (w ∷ ws) l e =
    ap (λ (c : Bool). eqb n w && c)
    (e ∙ ap (λ (vs : List ℕ). list_all (λ (p : Float × ℕ). eqb (pattern_of p.0) p.1) (zip xs vs)) (rest_is 1 (w ∷ ws)) ∙ beside xs ws (omega arith))

-- dots, from what each step found
pub dots_by :
    (words : List ℕ) (numbers samples stations list : List Float) (row : List ℕ) {n : ℕ} {xs : List Float} {r : Bool}
    → n ≡ count_word (dots_answer words numbers samples stations list row)
    → xs ≡ dots_left words numbers samples stations list row
    → r ≡ agrees_of n xs (take (length row - 3) (drop 3 row))
    → r ≡ dots_agree words numbers samples stations list row
unfolding dots_agree
dots_by words numbers samples stations list row n xs e = rw (e, xs, n, rest_is 3 row)
