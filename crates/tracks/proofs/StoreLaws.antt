-- Numbers put into a list of which the first are already written: the written part grows by them, and the rest stays as it was.
use Prim.Native.Nat.{ℕ, suc, ◌+◌, ◌-◌, ◌*◌, ◌≤◌, ◌<◌}
use native.Mathlib.Omega.{arith}
use mathlib.Core.Path.{◌≡◌, sym, ap, ◌∙◌, subst}
use mathlib.Core.List.{List, [], ◌∷◌, ◌++◌, append_assoc}
use lib.ListN.{length, take, drop, set, length-append, length-drop}
use lib.Seq.{sets-eq, take_at, drop_at, drop-append-add, drop-drop}

module _ {A : Type 0} where
  pub past_head : (p old : List A) (m n : ℕ) → length p ≡ m → drop (m + n) (p ++ drop m old) ≡ drop (m + n) old
  past_head p old m n e = subst (λ (k : ℕ). drop (k + n) (p ++ drop m old) ≡ drop n (drop m old)) e (drop-append-add p (drop m old) n) ∙ drop-drop n m old

  -- one stored where the written ones end
  pub one-store : (p old : List A) (i : ℕ) (a : A) → length p ≡ i → i < length old → set (p ++ drop i old) i a ≡ (p ++ (a ∷ [])) ++ drop (i + 1) old
  one-store p old i a e h =
      let l = p ++ drop i old in
      let d = length-drop i old in
      let n = length-append p (drop i old) in
      let room : i + 1 ≤ length l = omega arith in
      sets-eq (a ∷ []) l i room
      ∙ ap (λ (r : List A). (r ++ (a ∷ [])) ++ drop (i + 1) l) (take_at p (drop i old) i e)
      ∙ ap (λ (r : List A). (p ++ (a ∷ [])) ++ r) (past_head p old i 1 e)

  -- three stored there, one after another
  pub three-stores :
      (p old : List A) (i : ℕ) (a b c : A) → length p ≡ i → i + 3 ≤ length old
      → set (set (set (p ++ drop i old) i a) (i + 1) b) (i + 2) c ≡ (p ++ (a ∷ b ∷ c ∷ [])) ++ drop (i + 3) old
  three-stores p old i a b c e h =
      let l = p ++ drop i old in
      let vs = a ∷ b ∷ c ∷ [] in
      let one : i + 1 ≡ suc i = omega arith in
      let two : i + 2 ≡ suc (suc i) = omega arith in
      let d = length-drop i old in
      let n = length-append p (drop i old) in
      let room : i + 3 ≤ length l = omega arith in
      ap (λ (m : ℕ). set (set (set l i a) m b) (i + 2) c) one
      ∙ ap (λ (m : ℕ). set (set (set l i a) (suc i) b) m c) two
      ∙ sets-eq vs l i room
      ∙ ap (λ (r : List A). (r ++ vs) ++ drop (i + 3) l) (take_at p (drop i old) i e)
      ∙ ap (λ (r : List A). (p ++ vs) ++ r) (past_head p old i 3 e)

  -- a part of three copied there
  pub part_written :
      (q old list ys : List A) (k : ℕ) → length q ≡ k * 3 → list ≡ q ++ drop (k * 3) old
      → take (k * 3) list ++ (ys ++ drop (k * 3 + 3 - k * 3) (drop (k * 3) list)) ≡ (q ++ ys) ++ drop ((k + 1) * 3) old
  part_written q old list ys k l f =
      let i = k * 3 in
      let m : i + (i + 3 - i) ≡ (k + 1) * 3 = omega arith in
      rw (f, take_at q (drop i old) i l, drop_at q (drop i old) i l, drop-drop (i + 3 - i) i old, m) (sym (append_assoc q ys (drop ((k + 1) * 3) old)))
