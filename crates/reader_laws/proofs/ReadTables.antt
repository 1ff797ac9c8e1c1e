-- An accepted reading: the slices were long enough, the tables left this memory, and its road is admitted.
use Prim.Native.Nat.{ℕ, ◌≤◌}
use mathlib.Core.Path.{◌≡◌, refl, sym, ◌∙◌, ap}
use mathlib.Core.Bool.{Bool, true, false, ◌&&◌, cond}
use mathlib.Core.List.{List, [], ◌∷◌}
use lib.ListN.{length}
use lib.Dec.{leb, ltb}
use lib.Ieee.{Float}
use borrow.Author.Tests.{leb-true}
use Rattle.refusals.specs.Answer.{Answer, value, refused}
use Rattle.records_lent.proofs.TestLaws.{chain-at}
use Rattle.admission.specs.Admission.{admit_call}
use Rattle.reader_store.specs.Progress.{start_progress}
use Rattle.reader_store.specs.declared.progress.Progress.{Progress}
use Rattle.reader_calls.specs.Reading.{Outcome, done, stop, tables_from, admitted_as, judge, reading_by, zeros, zero_numbers, reading_of, words_held, numbers_held}

-- references and order were right
abbrev pub sound_of : Outcome → Bool
sound_of (done at count progress ws ns vs) = progress.sound
sound_of (stop m) = false

-- tables of right form into slices that are long enough; whether references and order are right is not said
pub record RightForm (text : List ℕ) (l m n : ℕ) (o : Outcome) : Type 0 where
  pub words_long : 1891 ≤ length (zeros l)
  pub numbers_long : 8449 ≤ length (zero_numbers m)
  pub wants_long : 32 ≤ length (zeros n)
  pub tables : tables_from 16 0 text 0 0 start_progress (zeros l) (zero_numbers m) (zeros n) ≡ o

-- with their references and order right; admission has not been asked
pub record Stored (text : List ℕ) (l m n : ℕ) (o : Outcome) : Type 0 where
  pub form : RightForm text l m n o
  pub sound : sound_of o ≡ true

pub record Accepted (text : List ℕ) (l m n : ℕ) (o : Outcome) (ws : List ℕ) (ns : List Float) : Type 0 where
  pub stored : Stored text l m n o
  pub admits : admit_call ws ns ≡ value tt

module _ (text : List ℕ) (l m n at count : ℕ) (progress : Progress) (ws : List ℕ) (ns : List Float) (vs : List ℕ) where
  abbrev end : Outcome
  end = done at count progress ws ns vs

  judged : (o : Outcome) → judge o ≡ end → (o ≡ end) × (admit_call ws ns ≡ value tt) × (progress.sound ≡ true)
  judged (stop k) e = absurd cc
  judged (done at' count' progress' us xs vs') e = go progress'.sound (admit_call us xs) refl refl e
    where
      go : (b : Bool) (a : Answer (Unit {0})) → progress'.sound ≡ b → admit_call us xs ≡ a → cond b (admitted_as a (done at' count' progress' us xs vs') stop) (stop 3) ≡ end → (done at' count' progress' us xs vs' ≡ end) × (admit_call ws ns ≡ value tt) × (progress.sound ≡ true)
      go true (value u) d g f = (f, ap (λ (o : Outcome). admit_call (words_held 0 o) (numbers_held 0 o)) (sym f) ∙ g, ap sound_of (sym f) ∙ d)
      go true (refused k) d g f = absurd cc
      go false a d g f = absurd cc

  pub accepted : reading_of text l m n ≡ end → Accepted text l m n end ws ns
  unfolding reading_of reading_by
  accepted read = go ((leb 1891 (length (zeros l)) && leb 8449 (length (zero_numbers m))) && leb 32 (length (zeros n))) (ltb 65536 (length text)) refl read
    where
      go : (a b : Bool) → (leb 1891 (length (zeros l)) && leb 8449 (length (zero_numbers m))) && leb 32 (length (zeros n)) ≡ a
          → cond a (cond b (stop 2) (judge (tables_from 16 0 text 0 0 start_progress (zeros l) (zero_numbers m) (zeros n)))) (stop 2) ≡ end → Accepted text l m n end ws ns
      go true false e f =
          let t = chain-at (leb 1891 (length (zeros l))) (leb 8449 (length (zero_numbers m)) ∷ leb 32 (length (zeros n)) ∷ []) e in
          let j = judged (tables_from 16 0 text 0 0 start_progress (zeros l) (zero_numbers m) (zeros n)) f in
          let form : RightForm text l m n end = record { words_long = leb-true 1891 (length (zeros l)) (t 0); numbers_long = leb-true 8449 (length (zero_numbers m)) (t 1); wants_long = leb-true 32 (length (zeros n)) (t 2); tables = j.0 } in
          record { stored = record { form = form; sound = j.2 }; admits = j.1 }
      go true true e f = absurd cc
      go false b e f = absurd cc
