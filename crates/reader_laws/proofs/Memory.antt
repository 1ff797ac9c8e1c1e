-- Lent memory written out by runs, and what a text is read as once its tables' memory is known: row 3's tests of memory, and the rest of admission on the road itself.
use Prim.Native.Nat.{ℕ, zero, suc, ◌*◌}
use mathlib.Core.Path.{◌≡◌, refl, ◌∙◌, ap}
use mathlib.Core.Bool.{true, false, ◌&&◌}
use mathlib.Core.List.{List, [], ◌∷◌}
use Prim.Native.String.{String}
use lib.Dec.{leb, ltb}
use lib.Ieee.{Float}
use lib.ListN.{length, take}
use Rattle.float_laws.specs.Binary64.{f64, zero64}
use Rattle.refusals.specs.Answer.{value}
use Rattle.records_lent.specs.Lists.{tabulate, all_below}
use Rattle.records_cubic.specs.Cubics.{cubics_of}
use Rattle.records.specs.Roads.{Road, heights_of, geom_in, unused_in, lane_in, mark_in, section_in, profile_in, column_in, strip_in, road_of}
use Rattle.admission_structure.specs.Structure.{counts_ok, kinds_ok, lane_ok, section_ok, profile_ok, column_ok, strip_ok, marks_ok, structured}
use Rattle.admission_order.specs.Order.{ordered}
use Rattle.admission.specs.Limits.{limited}
use Rattle.line_samples.specs.Samples.{samples_needed}
use Rattle.admission.specs.Admission.{admit_call}
use Rattle.reader_store.specs.Progress.{start_progress}
use Rattle.reader_store.specs.declared.progress.Progress.{Progress}
use Rattle.reader_calls.specs.Reading.{Outcome, done, judge, tables_from, reading_by, zeros, zero_numbers, reading_of, verdict_of, words_held, numbers_held, wants_held}
use Rattle.reader_laws.specs.Samples.{text_of, read_of, Reads}

abbrev pub these : List ℕ → List ℕ → List ℕ
these [] ws = ws
these (v ∷ vs) ws = v ∷ these vs ws

abbrev pub blanks : ℕ → List ℕ → List ℕ
blanks zero ws = ws
blanks (suc n) ws = 0 ∷ blanks n ws

abbrev pub numbers : List ℕ → List Float → List Float
numbers [] ns = ns
numbers (v ∷ vs) ns = f64 v ∷ numbers vs ns

abbrev pub noughts : ℕ → List Float → List Float
noughts zero ns = ns
noughts (suc n) ns = zero64 ∷ noughts n ns

-- what the samples compute with, beside what reading and admission do: the road that memory stands for, and row 3's tests of it
unfoldable pub standing : Unit {0}
unfolding heights_of geom_in unused_in lane_in mark_in section_in profile_in column_in strip_in road_of cubics_of tabulate
standing = tt

unfoldable pub structuring : Unit {0}
unfolding counts_ok kinds_ok lane_ok section_ok profile_ok column_ok strip_ok marks_ok structured all_below
structuring = tt

-- a text's tables, before admission
abbrev pub taken : List String → Outcome
taken lines = tables_from 16 0 (text_of lines) 0 0 start_progress (zeros 1891) (zero_numbers 8449) (zeros 32)

-- the slices are long enough
slices-long : (leb 1891 (length (zeros 1891)) && leb 8449 (length (zero_numbers 8449))) && leb 32 (length (zeros 32)) ≡ true
unfolding zeros zero_numbers
slices-long = refl

read-judged : (lines : List String) → ltb 65536 (length (text_of lines)) ≡ false → read_of lines ≡ judge (taken lines)
unfolding reading_of reading_by
read-judged lines short = rw (slices-long, short)

passed : (ws : List ℕ) (ns : List Float) (road : Road) → structured ws ns ≡ true → road_of ws ns ≡ road → ordered road ≡ true → limited road ≡ true → leb (samples_needed road) 2000 ≡ true → admit_call ws ns ≡ value tt
unfolding admit_call
passed ws ns road a e b c d = rw (a, e, b, c, d)

pub reads : (lines : List String) (road : Road) (wants : List ℕ) (n at : ℕ) (progress : Progress) (ws : List ℕ) (ns : List Float) (vs : List ℕ)
    → ltb 65536 (length (text_of lines)) ≡ false → taken lines ≡ done at n progress ws ns vs → progress.sound ≡ true → road_of ws ns ≡ road → take (2 * n) vs ≡ wants
    → structured ws ns ≡ true → ordered road ≡ true → limited road ≡ true → leb (samples_needed road) 2000 ≡ true → Reads lines road wants n
reads lines road wants n at progress ws ns vs short t sound e held a b c d =
    record {
      accepted = ap verdict_of read;
      stands = ap (λ (o : Outcome). road_of (words_held 1891 o) (numbers_held 8449 o)) read ∙ e;
      held = ap (λ (o : Outcome). take (2 * n) (wants_held 32 o)) read ∙ held;
    }
  where
    read : read_of lines ≡ done at n progress ws ns vs
    read = read-judged lines short ∙ ap judge t ∙ rw (sound, passed ws ns road a e b c d)
