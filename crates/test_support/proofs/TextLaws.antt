-- Pieces of a text.
use Rattle.std.proofs.Common.{◌≡◌, ℕ, ◌+◌, ◌-◌, ◌≤◌, min, Bool, true, false, leb, List, [], ◌++◌, length, take, drop, sym, refl, arith, length-drop, drop-drop, drop_of_length-le, take_all, leb-false, leb-true}
use lib.Seq.{take-nil}
use Rattle.test_support.specs.Texts.{part_of, word_bytes}

-- the part that there is of a list, cut to the list's length
pub part-is : (l : List ℕ) (first last e s : ℕ) → e ≡ min (length l) last → s ≡ min e first → take (e - s) (drop s l) ≡ part_of l first last
unfolding part_of
part-is l first last e s p q = go (leb first e) (leb last (length l)) refl refl
  where
    go : (a b : Bool) → leb first e ≡ a → leb last (length l) ≡ b → take (e - s) (drop s l) ≡ take (last - first) (drop first l)
    go true true h k =
        let u = leb-true first e h in
        let v = leb-true last (length l) k in
        let f : s ≡ first = omega arith in
        let g : e ≡ last = omega arith in
        rw (f, g)
    go true false h k =
        let u = leb-true first e h in
        let v = leb-false last (length l) k in
        let f : s ≡ first = omega arith in
        let m = length-drop first l in
        rw (f, take_all (e - first) (drop first l) (omega arith), take_all (last - first) (drop first l) (omega arith))
    go false b h k =
        let u = leb-false first e h in
        let f : e - s ≡ 0 = omega arith in
        let m = length-drop first l in
        rw f (sym (rest b k))
      where
        rest : (b : Bool) → leb last (length l) ≡ b → take (last - first) (drop first l) ≡ take 0 (drop s l)
        rest true k =
            let u = leb-false first e h in
            let v = leb-true last (length l) k in
            let g : last - first ≡ 0 = omega arith in rw g
        rest false k =
            let u = leb-false first e h in
            let v = leb-false last (length l) k in
            let none : drop first l ≡ [] = drop_of_length-le l (omega arith) in rw (none, take-nil (last - first))

-- the low bytes of the second of two words
pub low-bytes : (a b i : ℕ) → i ≡ 16 - min a 8 → take (16 - i) (drop i (word_bytes a ++ word_bytes b)) ≡ drop (8 - a) (word_bytes b)
low-bytes a b i e =
    let second : drop (8 + (8 - a)) (word_bytes a ++ word_bytes b) ≡ drop (8 - a) (word_bytes b) = sym (drop-drop (8 - a) 8 (word_bytes a ++ word_bytes b)) in
    let m = length-drop (8 - a) (word_bytes b) in
    let f : i ≡ 8 + (8 - a) = omega arith in
    let g : length (drop (8 - a) (word_bytes b)) ≤ 16 - (8 + (8 - a)) = omega arith in
    rw (f, second) (take_all (16 - (8 + (8 - a))) (drop (8 - a) (word_bytes b)) g)
