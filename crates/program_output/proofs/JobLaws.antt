-- A job answered: the samples of an admitted road are made in full, and what was read decides the text.
use Prim.Native.Nat.{ℕ, ◌*◌, ◌≤◌}
use native.Mathlib.Omega.{arith}
use mathlib.Core.Path.{◌≡◌, refl, sym, ◌∙◌, ap}
use mathlib.Core.Bool.{true}
use mathlib.Core.List.{List}
use lib.ListN.{length, take, drop, replicate, length-replicate}
use lib.Seq.{take_at}
use lib.Ieee.{Float, binary64, of_bits}
use Rattle.refusals.specs.Answer.{Answer, value, refused}
use Rattle.records.specs.Roads.{road_of}
use Rattle.line_samples.specs.Samples.{samples_needed, samples_of}
use Rattle.line_samples.proofs.SpiralLaws.{length-samples_of}
use Rattle.admission.specs.Admission.{admitted}
use Rattle.line_calls.specs.SampleCall.{samples_call, samples_list}
use Rattle.admission.proofs.AdmissionLaws.{value-admitted, admitted-samples}
use Rattle.line_calls.proofs.SampleCalls.{samples-made, samples_written_lem, made-needed}
use Rattle.reader_calls.specs.Reading.{Outcome, done, stop, reading_of, verdict_of, words_held, numbers_held, wants_held}
use Rattle.reader_laws.proofs.ReadTables.{accepted}
use Rattle.program_output.specs.Lines.{refused_line}
use Rattle.program_output.specs.Output.{wants_text, written_for}
use Rattle.program_output.proofs.WantsFew.{wants-few}

no_value : {m n : ℕ} → ◌≡◌ {A = Answer ℕ} (refused m) (value n) → ⊥
no_value e = cc

same-value : {m n : ℕ} → ◌≡◌ {A = Answer ℕ} (value m) (value n) → m ≡ n
same-value e = cc

same-refusal : {m n : ℕ} → ◌≡◌ {A = Answer ℕ} (refused m) (refused n) → m ≡ n
same-refusal e = cc

-- ---- the samples

-- the slice that the samples are made into
abbrev pub blank : List Float
blank = replicate 8000 (of_bits binary64 0)

pub blank-long : length blank ≡ 8000
blank-long = length-replicate 8000 (of_bits binary64 0)

module _ (words : List ℕ) (numbers : List Float) (ok : admitted words numbers ≡ true) where
  pub made-count : (n : ℕ) → value n ≡ samples_call words numbers (length blank) → n * 4 ≤ 8000
  made-count n e = let long = blank-long in let m = made-needed words numbers (length blank) n (sym e) in let h = m.1 in omega arith

  -- the part of the slice that was written is the road's samples
  pub made-part : (n : ℕ) {ys : List Float} → value n ≡ samples_call words numbers (length blank) → ys ≡ samples_list words numbers blank → take (n * 4) ys ≡ samples_of (road_of words numbers)
  made-part n {ys} e f =
      let long = blank-long in
      let m = made-needed words numbers (length blank) n (sym e) in
      let h = m.0 in
      let i = m.1 in
      let k = length-samples_of (road_of words numbers) in
      let l : length (samples_of (road_of words numbers)) ≡ n * 4 = omega arith in
      let room : 4 * samples_needed (road_of words numbers) ≤ length blank = omega arith in
      ap (λ (z : List Float). take (n * 4) z) (f ∙ samples_written_lem words numbers ok blank room)
      ∙ take_at (samples_of (road_of words numbers)) (drop (4 * samples_needed (road_of words numbers)) blank) (n * 4) l

  pub never-refused : (m : ℕ) → refused m ≡ samples_call words numbers (length blank) → ⊥
  never-refused m e =
      let long = blank-long in
      let h = admitted-samples words numbers ok in
      let room : 4 * samples_needed (road_of words numbers) ≤ length blank = omega arith in
      no_value (e ∙ samples-made words numbers ok (length blank) room)

-- ---- what was read

-- the slices that the job is read into
abbrev words : List ℕ
words = replicate 1891 0

abbrev numbers : List Float
numbers = replicate 8449 (of_bits binary64 0)

abbrev wants : List ℕ
wants = replicate 32 0

module _ (text : List ℕ) where
  accepted-by : (o : Outcome) → reading_of text 1891 8449 32 ≡ o → {n : ℕ} {ws : List ℕ} {ns : List Float} {vs : List ℕ}
      → value n ≡ verdict_of o → ws ≡ words_held 1891 o → ns ≡ numbers_held 8449 o → vs ≡ wants_held 32 o
      → (admitted ws ns ≡ true) × (n ≤ 16) × (wants_text ws ns vs n ≡ written_for o)
  accepted-by (done at count progress us xs ys) r {n} {ws} {ns} {vs} e f g h =
      let a = accepted text 1891 8449 32 at count progress us xs ys r in
      let b = wants-few text 1891 8449 32 at count progress us xs ys r in
      let c = same-value e in
      let d : admitted ws ns ≡ true = ap (λ (w : List ℕ). admitted w ns) f ∙ ap (λ (w : List Float). admitted us w) g ∙ value-admitted us xs a.admits in
      let t : wants_text ws ns vs n ≡ wants_text us xs ys count =
      ap (λ (w : List ℕ). wants_text w ns vs n) f
      ∙ ap (λ (w : List Float). wants_text us w vs n) g
      ∙ ap (λ (w : List ℕ). wants_text us xs w n) h
      ∙ ap (λ (w : ℕ). wants_text us xs ys w) c in
      (d, omega arith, t)
  accepted-by (stop m) r e f g h = absurd (no_value (sym e))

  abbrev read : Outcome
  read = reading_of text (length words) (length numbers) (length wants)

  -- the reading into slices of these lengths
  read-into : read ≡ reading_of text 1891 8449 32
  read-into = rw (length-replicate {A = ℕ} 1891 0, length-replicate 8449 (of_bits binary64 0), length-replicate {A = ℕ} 32 0) refl

  pub accepted-job : {n : ℕ} {ws : List ℕ} {ns : List Float} {vs : List ℕ}
      → value n ≡ verdict_of read → ws ≡ words_held (length words) read → ns ≡ numbers_held (length numbers) read → vs ≡ wants_held (length wants) read
      → (admitted ws ns ≡ true) × (n ≤ 16) × (wants_text ws ns vs n ≡ written_for (reading_of text 1891 8449 32))
  accepted-job e f g h =
      let p = length-replicate {A = ℕ} 1891 0 in
      let q = length-replicate 8449 (of_bits binary64 0) in
      let w = length-replicate {A = ℕ} 32 0 in
      accepted-by (reading_of text 1891 8449 32) refl (rw (p, q, w) at e) (rw (p, q, w) at f) (rw (p, q, w) at g) (rw (p, q, w) at h)

  refused-by : (o : Outcome) {n : ℕ} → refused n ≡ verdict_of o → refused_line n ≡ written_for o
  refused-by (done at count progress us xs ys) e = absurd (no_value e)
  refused-by (stop m) e = ap refused_line (same-refusal e)

  pub refused-job : {n : ℕ} → refused n ≡ verdict_of read → refused_line n ≡ written_for (reading_of text 1891 8449 32)
  refused-job e = refused-by (reading_of text 1891 8449 32) (rw (← read-into) e)
