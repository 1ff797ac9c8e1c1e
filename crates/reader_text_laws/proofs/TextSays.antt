-- The two statements of specs/TextSays hold. The progress is sound exactly where references and order are right (FamilySays); a sound text leaves what it says (RoadSays, WantLines), and reading's last step asks the progress, then admission, which judges the road that is said (CountsSay).
use Prim.Native.Nat.{ℕ, ◌≤◌}
use native.Mathlib.Omega.{arith}
use mathlib.Core.Path.{◌≡◌, refl, ◌∙◌, ap}
use mathlib.Core.Bool.{Bool, true, false, cond}
use mathlib.Core.List.{List}
use lib.ListN.{length, length-replicate}
use lib.Ieee.{Float, binary64, of_bits}
use borrow.Author.Tests.{le-leb, le-ltb}
use Rattle.refusals.specs.Answer.{Answer, value, checked}
use Rattle.admission.specs.Admission.{admit_call}
use Rattle.reader_store.specs.declared.progress.Progress.{Progress}
use Rattle.reader_calls.specs.Reading.{Outcome, done, stop, admitted_as, judge, reading_by, reading_of, zeros, zero_numbers}
use Rattle.reader_laws.specs.Lines.{lines_of}
use Rattle.reader_laws.proofs.ReadTables.{RightForm, Stored, accepted}
use Rattle.reader_text_laws.specs.Said.{road_said}
use Rattle.reader_text_laws.specs.Family.{Family}
use Rattle.reader_text_laws.specs.Counts.{said_rows}
use Rattle.reader_text_laws.specs.TextSays.{Formed, AsSaid, TextSays, ReadSays}
use Rattle.reader_text_laws.proofs.RoadSays.{road-says}
use Rattle.reader_text_laws.proofs.CountsSay.{admission-says}
use Rattle.reader_text_laws.proofs.WantLines.{wants-say, count-says}
use Rattle.reader_text_laws.proofs.FamilySays.{sound-is-family}

module _ (text : List ℕ) (l m n at count : ℕ) (progress : Progress) (ws : List ℕ) (ns : List Float) (vs : List ℕ) where
  abbrev end : Outcome
  end = done at count progress ws ns vs

  stored-says : Stored text l m n end → AsSaid text l m n at count progress ws ns vs
  stored-says read = record { road = road-says text l m n at count progress ws ns vs read; wants = count-says text l m n at count progress ws ns vs read; of_wants_held = wants-say text l m n at count progress ws ns vs read }

  module _ (f : Formed text l m n at count progress ws ns vs) where
    long_words : 1891 ≤ length (zeros l)
    unfolding zeros
    long_words = let e = length-replicate {A = ℕ} l 0 in let h = f.words_long in omega arith

    long_numbers : 8449 ≤ length (zero_numbers m)
    unfolding zero_numbers
    long_numbers = let e = length-replicate {A = Float} m (of_bits binary64 0) in let h = f.numbers_long in omega arith

    long-wants : 32 ≤ length (zeros n)
    unfolding zeros
    long-wants = let e = length-replicate {A = ℕ} n 0 in let h = f.wants_long in omega arith

    form : RightForm text l m n end
    form = record { words_long = long_words; numbers_long = long_numbers; wants_long = long-wants; tables = f.tables }

    judged : reading_of text l m n ≡ judge end
    unfolding reading_of reading_by
    judged =
        let a = le-leb 1891 (length (zeros l)) long_words in
        let b = le-leb 8449 (length (zero_numbers m)) long_numbers in
        let c = le-leb 32 (length (zeros n)) long-wants in
        let d = le-ltb 65536 (length text) f.text_short in
        rw (a, b, c, d, f.tables)

    sound-family : (progress.sound ≡ true → Family (lines_of text)) × (Family (lines_of text) → progress.sound ≡ true)
    sound-family = sound-is-family text l m n at count progress ws ns vs form

    right : Family (lines_of text) → AsSaid text l m n at count progress ws ns vs × (reading_of text l m n ≡ admitted_as (checked (said_rows (road_said (lines_of text))) (value tt)) end stop)
    right family =
        let s = sound-family.1 family in
        let read : Stored text l m n end = record { form = form; sound = s } in
        (stored-says read, judged ∙ ap (λ (b : Bool). cond b (admitted_as (admit_call ws ns) end stop) (stop 3)) s ∙ ap (λ (a : Answer (Unit {0})). admitted_as a end stop) (admission-says text l m n at count progress ws ns vs read))

    wrong : (Family (lines_of text) → ⊥) → reading_of text l m n ≡ stop 3
    wrong none = judged ∙ go progress.sound (λ e. none (sound-family.0 e))
      where
        go : (b : Bool) → (b ≡ true → ⊥) → cond b (admitted_as (admit_call ws ns) end stop) (stop 3) ≡ stop 3
        go true h = absurd (h refl)
        go false h = refl

pub text_says : TextSays
text_says text l m n at count progress ws ns vs f = (right text l m n at count progress ws ns vs f, wrong text l m n at count progress ws ns vs f)

pub read-says : ReadSays
read-says text l m n at count progress ws ns vs read = stored-says text l m n at count progress ws ns vs (accepted text l m n at count progress ws ns vs read).stored
