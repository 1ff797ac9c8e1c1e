-- Document 01: "Per section ids 1,2.. left then -1,-2.. right". What a lane's side tells of its id and of the section's lanes so far, whatever `side_word` is made of.
use Prim.Native.Nat.{ℕ, ◌+◌}
use mathlib.Core.Path.{◌≡◌, refl}
use mathlib.Core.Bool.{Bool, true, false, ◌&&◌, cond}
use lib.Dec.{eqb}
use borrow.Author.Tests.{eqb-true}
use Rattle.std.specs.Prelude.{Option, Some, None}
use Rattle.std.proofs.lemmas.Option.{none-some, same_Some}
use Rattle.reader_store.specs.Parents.{side_word}
use Rattle.reader_store.specs.declared.parents.SectionRecord.{SectionRecord}

-- "ids 1,2.. left then -1,-2.. right": a left lane has the next id of its side and comes before all right ones; a right lane has the next one of its side
pub side-cases : {A : Type 0} (section : SectionRecord) (id side : ℕ) → side_word section id ≡ Some side
    → (1 ≡ side → id ≡ section.left + 10001 → section.right ≡ 0 → A) → (2 ≡ side → id + section.right + 1 ≡ 10000 → A) → A
unfolding side_word
side-cases {A} section id side e f g = go (eqb id (section.left + 10001)) (eqb section.right 0) (eqb (id + section.right + 1) 10000) refl refl refl e
  where
    turn : Bool → Bool → Bool → Option ℕ
    turn a b c = cond (a && b) (Some 1) (cond c (Some 2) None)

    go : (a b c : Bool) → eqb id (section.left + 10001) ≡ a → eqb section.right 0 ≡ b → eqb (id + section.right + 1) 10000 ≡ c → turn a b c ≡ Some side → A
    go true true c p q r s = f (same_Some 1 side s) (eqb-true id (section.left + 10001) p) (eqb-true section.right 0 q)
    go true false true p q r s = g (same_Some 2 side s) (eqb-true (id + section.right + 1) 10000 r)
    go true false false p q r s = absurd (none-some side s)
    go false b true p q r s = g (same_Some 2 side s) (eqb-true (id + section.right + 1) 10000 r)
    go false b false p q r s = absurd (none-some side s)
