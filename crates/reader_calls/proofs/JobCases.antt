-- A whole reading: a law for each way out of `judged`, `fill` and `read`.
use Prim.Native.Nat.{ℕ, ◌<◌, ◌≤◌}
use mathlib.Core.Path.{◌≡◌, ap, ◌∙◌, sym}
use mathlib.Core.Bool.{Bool, true, false, ◌&&◌, cond}
use mathlib.Core.List.{List}
use borrow.Author.Tests.{lt-ltb, le-ltb}
use lib.Dec.{leb}
use lib.ListN.{length}
use lib.Ieee.{Float}
use Rattle.refusals.specs.Answer.{Answer, value, refused, answered, checked}
use Rattle.refusals.specs.declared.refusals.Refusal.{Refusal}
use Rattle.records.specs.Roads.{Road, road_of}
use Rattle.admission.specs.Admission.{road_rows, admit_call}
use Rattle.admission_calls.proofs.AdmitLaws.{admit-refused, admit-admitted}
use Rattle.reader_store.specs.Progress.{start_progress}
use Rattle.reader_store.specs.declared.progress.Progress.{Progress}
use Rattle.reader_calls.specs.Parts.{Agrees, judged_by, Filled}
use Rattle.reader_calls.specs.Reading.{Outcome, done, stop, tables_from, admitted_as, judge, reading_by, reading_of, zeros, zero_numbers, verdict_of, words_held, numbers_held, wants_held}
use Rattle.reader_calls.specs.declared.tables.Taken.{Taken}
use Rattle.std.specs.Prelude.{Result, Ok, Err, is_err}
use Rattle.std.proofs.lemmas.Bool.{false≢true, true≢false}
use Rattle.reader_calls.proofs.TakingCases.{no-refusal, same_Ok}

refusal-number : {A : Type 0} {n m : ℕ} → ◌≡◌ {A = Answer A} (refused n) (refused m) → n ≡ m
refusal-number e = cc

same-refusal : {A B : Type 0} {n m : ℕ} → ◌≡◌ {A = Answer A} (refused n) (refused m) → ◌≡◌ {A = Answer B} (refused n) (refused m)
same-refusal e = let z = refusal-number e in cc

module _ (taken : Taken) (ws : List ℕ) (ns : List Float) where
  -- each way out of `judged`
  pub judged-structure : taken.progress.sound ≡ false → refused 3 ≡ judged_by taken ws ns
  unfolding judged_by
  judged-structure h = rw h

  module _ (h : taken.progress.sound ≡ true) where
    pub judged-refused : {m : ℕ} → ◌≡◌ {A = Answer Road} (refused m) (checked (road_rows ws ns) (value (road_of ws ns))) → refused m ≡ judged_by taken ws ns
    unfolding judged_by
    judged-refused e = rw (h, ← admit-refused ws ns (road_of ws ns) e)

    pub judged-value : {road : Road} → value road ≡ checked (road_rows ws ns) (value (road_of ws ns)) → value taken.lines ≡ judged_by taken ws ns
    unfolding judged_by
    judged-value e = rw (h, ← admit-admitted ws ns (road_of ws ns) e)

-- by the two tests of what was taken: its references and order, and admission
settled :
    (s : Bool) (v : Answer (Unit {0})) (n k : ℕ) (t : Progress) {ws : List ℕ} {ns : List Float} {vs : List ℕ} (r : Result ℕ Refusal) (us : List ℕ) (xs : List Float) (ys : List ℕ)
    → answered r ≡ cond s (admitted_as v (value k) refused) (refused 3) → us ≡ ws → xs ≡ ns → ys ≡ vs
    → Filled (cond s (admitted_as v (done n k t ws ns vs) stop) (stop 3)) r us xs ys
settled true (value u) n k t r us xs ys e p q w = (e, p, q, w)
settled true (refused m) n k t r us xs ys e p q w = e
settled false v n k t r us xs ys e p q w = e

judged-done : (taken : Taken) {n k : ℕ} {t : Progress} {us ws : List ℕ} {xs ns : List Float} → taken ≡ record { next = n; lines = k; progress = t }
    → us ≡ ws → xs ≡ ns → judged_by taken us xs ≡ cond t.sound (admitted_as (admit_call ws ns) (value k) refused) (refused 3)
unfolding judged_by
judged-done taken e f g = rw (e, f, g)

-- what was taken and judged agrees with the whole reading, and so does what was refused
pub filled-by : (o : Outcome) (taken : Taken) (r : Result ℕ Refusal) (us : List ℕ) (xs : List Float) (ys : List ℕ)
    → Agrees o (Ok taken) us xs ys → answered r ≡ judged_by taken us xs → Filled (judge o) r us xs ys
filled-by (done n k t ws ns vs) taken r us xs ys a e = settled t.sound (admit_call ws ns) n k t r us xs ys (e ∙ judged-done taken (same_Ok a.0) a.1 a.2) a.1 a.2 a.3
filled-by (stop m) taken r us xs ys a e = absurd (no-refusal a)

pub filled-stop : (o : Outcome) (f : Refusal) {r : Result ℕ Refusal} (us : List ℕ) (xs : List Float) (ys : List ℕ) → r ≡ Err f → Agrees o (Err f) us xs ys → Filled (judge o) r us xs ys
filled-stop (done n k t ws ns vs) f us xs ys e a = absurd (no-refusal (sym (ap answered a.0)))
filled-stop (stop m) f us xs ys e a = rw e (same-refusal a)

module _ (text ws : List ℕ) (ns : List Float) (vs : List ℕ) where
  -- the tests of lengths
  pub fill-room : (r : Result ℕ Refusal) (us : List ℕ) (xs : List Float) (ys : List ℕ) → ((leb 1891 (length ws) && leb 8449 (length ns)) && leb 32 (length vs)) ≡ false → answered r ≡ refused 2
      → Filled (reading_by text ws ns vs) r us xs ys
  unfolding reading_by
  fill-room r us xs ys h e = rw h e

  module _ (h : ((leb 1891 (length ws) && leb 8449 (length ns)) && leb 32 (length vs)) ≡ true) where
    pub fill-text : (r : Result ℕ Refusal) (us : List ℕ) (xs : List Float) (ys : List ℕ) → 65536 < length text → answered r ≡ refused 2
        → Filled (reading_by text ws ns vs) r us xs ys
    unfolding reading_by
    fill-text r us xs ys l e = rw (h, lt-ltb 65536 (length text) l) e

    pub reading-is : length text ≤ 65536 → reading_by text ws ns vs ≡ judge (tables_from 16 0 text 0 0 start_progress ws ns vs)
    unfolding reading_by
    reading-is l = rw (h, le-ltb 65536 (length text) l)

pub filled-same : {o q : Outcome} (r : Result ℕ Refusal) (us : List ℕ) (xs : List Float) (ys : List ℕ) → o ≡ q → Filled q r us xs ys → Filled o r us xs ys
filled-same r us xs ys e h = rw e h

-- what an answer is not, by whether it is a refusal
no-stop : {m : ℕ} (r : Result ℕ Refusal) → is_err r ≡ false → answered r ≡ refused m → ⊥
no-stop (Ok k) e f = no-refusal f
no-stop (Err f) e g = true≢false e

no-done : {k : ℕ} (r : Result ℕ Refusal) → is_err r ≡ true → answered r ≡ value k → ⊥
no-done (Ok k) e f = false≢true e
no-done (Err f) e g = no-refusal (sym g)

module _ (n m l : ℕ) (r : Result ℕ Refusal) where
  held-right : (o : Outcome) (us : List ℕ) (xs : List Float) (ys : List ℕ) → Filled o r us xs ys → is_err r ≡ false
      → (answered r ≡ verdict_of o) × ((us ≡ words_held n o) × ((xs ≡ numbers_held m o) × (ys ≡ wants_held l o)))
  held-right (done p k t ws ns vs) us xs ys f e = (f.0, (f.1, (f.2, f.3)))
  held-right (stop k) us xs ys f e = absurd (no-stop r e f)

  held-wrong : (o : Outcome) (us : List ℕ) (xs : List Float) (ys : List ℕ) {us' : List ℕ} {xs' : List Float} {ys' : List ℕ}
      → Filled o r us xs ys → is_err r ≡ true → us' ≡ zeros n → xs' ≡ zero_numbers m → ys' ≡ zeros l
      → (answered r ≡ verdict_of o) × ((us' ≡ words_held n o) × ((xs' ≡ numbers_held m o) × (ys' ≡ wants_held l o)))
  held-wrong (done p k t ws ns vs) us xs ys f e g h i = absurd (no-done r e f.0)
  held-wrong (stop k) us xs ys f e g h i = (f, (g, (h, i)))

module _ (text : List ℕ) (n m l : ℕ) (ws : List ℕ) (ns : List Float) (vs : List ℕ) (us : List ℕ) (xs : List Float) (ys : List ℕ)
    (p : ws ≡ zeros n) (q : ns ≡ zero_numbers m) (w : vs ≡ zeros l) where
  read_is : reading_of text n m l ≡ reading_by text ws ns vs
  unfolding reading_of
  read_is = rw (p, q, w)

  module _ (r : Result ℕ Refusal) (f : Filled (reading_by text ws ns vs) r us xs ys) where
    -- an accepted reading keeps what was filled; a refused one has zeros
    pub read_right : is_err r ≡ false
        → (answered r ≡ verdict_of (reading_of text n m l)) × ((us ≡ words_held n (reading_of text n m l)) × ((xs ≡ numbers_held m (reading_of text n m l)) × (ys ≡ wants_held l (reading_of text n m l))))
    read_right e = rw read_is (held-right n m l r (reading_by text ws ns vs) us xs ys f e)

    pub read-wrong : {us' : List ℕ} {xs' : List Float} {ys' : List ℕ} → is_err r ≡ true → us' ≡ zeros n → xs' ≡ zero_numbers m → ys' ≡ zeros l
        → (answered r ≡ verdict_of (reading_of text n m l)) × ((us' ≡ words_held n (reading_of text n m l)) × ((xs' ≡ numbers_held m (reading_of text n m l)) × (ys' ≡ wants_held l (reading_of text n m l))))
    read-wrong e g h i = rw read_is (held-wrong n m l r (reading_by text ws ns vs) us xs ys f e g h i)
