-- Pieces of a text.
use Rattle.std.proofs.Common.{◌≡◌, ℕ, ◌+◌, ◌-◌, ◌≤◌, min, Bool, true, false, leb, List, ◌++◌, length, take, sym, refl, ap, ◌∙◌, arith, take_all, leb-false, leb-true, length-take-le}
use Rattle.std.proofs.lemmas.Slice.{take-put_mid}
use borrow.Rule.Slice.PartMut.{put_mid}
use lib.Seq.{take-append-add}
use Rattle.fixed_text.specs.Texts.{appended}

take-fitting : (room n : ℕ) (piece : List ℕ) → n ≡ min (length piece) room → take n piece ≡ take room piece
take-fitting room n piece e = go (leb (length piece) room) refl
  where
    go : (b : Bool) → leb (length piece) room ≡ b → take n piece ≡ take room piece
    go true h = let u = leb-true (length piece) room h in take_all n piece (omega arith) ∙ sym (take_all room piece (omega arith))
    go false h = let u = leb-false (length piece) room h in let f : n ≡ room = omega arith in rw f

-- n bytes of a piece are put behind the first count of a text's bytes
pub appended-is : (room count n : ℕ) (bytes piece : List ℕ) → length bytes ≡ room → count ≤ room → n ≡ min (length piece) (room - count)
    → take (count + n) (put_mid count (count + n - count) bytes (take n piece)) ≡ appended room (take count bytes) piece
unfolding appended
appended-is room count n bytes piece l h e =
    let long : length (take n piece) ≡ n = length-take-le n piece (omega arith) in
    let front : length (take count bytes) ≡ count = length-take-le count bytes (omega arith) in
    let all : length (take count bytes) + (room - count) ≡ room = omega arith in
    take-put_mid count (count + n - count) bytes (take n piece) (count + n) (omega arith) (omega arith)
    ∙ ap (λ (r : List ℕ). take count bytes ++ r) (take-fitting (room - count) n piece e)
    ∙ sym (take-append-add (take count bytes) piece (room - count))
    ∙ ap (λ (k : ℕ). take k (take count bytes ++ piece)) all
