-- What the samples call answers, and the slice that it leaves.
use Prim.Native.Nat.{ℕ, ◌*◌, ◌/◌, ◌≤◌}
use native.Mathlib.Omega.{arith}
use mathlib.Core.Path.{◌≡◌, refl, sym, ◌∙◌, ap}
use mathlib.Core.Bool.{Bool, true, false, cond}
use mathlib.Core.List.{List, [], ◌∷◌, ◌++◌}
use lib.Dec.{leb}
use lib.Ieee.{Float}
use lib.ListN.{length, drop}
use borrow.Author.Tests.{le-leb, leb-true}
use Rattle.refusals.specs.Answer.{Answer, value, refused}
use Rattle.records.specs.Roads.{road_of}
use Rattle.line_samples.specs.Samples.{samples_needed, samples_of}
use Rattle.admission.specs.Admission.{admitted}
use Rattle.line_calls.specs.SampleCall.{needed, sample_row, samples_call, samples_written, samples_list}
use Rattle.admission.proofs.AdmissionLaws.{road-admitted, road-answered}

room_of : (b : Bool) (k m n : ℕ) → ◌≡◌ {A = Answer ℕ} (cond b (value m) (refused k)) (value n) → (b ≡ true) × (n ≡ m)
room_of true k m n e = (refl, cc)
room_of false k m n e = let z : ◌≡◌ {A = ℕ} 0 1 = cc in absurd (omega arith)

module _ (words : List ℕ) (numbers : List Float) where
  -- an admitted road with room: all its samples, and the rest as it was
  module _ (h : admitted words numbers ≡ true) where
    pub samples-made : (len : ℕ) → 4 * samples_needed (road_of words numbers) ≤ len → samples_call words numbers len ≡ value (samples_needed (road_of words numbers))
    unfolding samples_call
    samples-made len l =
        let room : needed words numbers ≤ len / 4 = omega arith in
        road-admitted words numbers (sample_row words numbers len ∷ []) (value (needed words numbers)) h ∙ rw (le-leb (needed words numbers) (len / 4) room)

    pub samples_written_lem : (xs : List Float) → 4 * samples_needed (road_of words numbers) ≤ length xs
        → samples_list words numbers xs ≡ samples_of (road_of words numbers) ++ drop (4 * samples_needed (road_of words numbers)) xs
    unfolding samples_list
    samples_written_lem xs l = ap (λ (a : Answer ℕ). samples_written words numbers a xs) (samples-made (length xs) l)

  -- where samples were made the road is admitted, they are all of its own, and the slice has room for them
  pub made-admitted : (len n : ℕ) → samples_call words numbers len ≡ value n → admitted words numbers ≡ true
  unfolding samples_call
  made-admitted len n e = road-answered words numbers (sample_row words numbers len ∷ []) (value (needed words numbers)) n e

  pub made-needed : (len n : ℕ) → samples_call words numbers len ≡ value n → (n ≡ samples_needed (road_of words numbers)) × (4 * n ≤ len)
  unfolding samples_call
  made-needed len n e =
      let w = road-admitted words numbers (sample_row words numbers len ∷ []) (value (needed words numbers)) (made-admitted len n e) in
      let r = room_of (leb (needed words numbers) (len / 4)) 6 (needed words numbers) n (sym w ∙ e) in
      let l = leb-true (needed words numbers) (len / 4) r.0 in
      let m = r.1 in
      (m, omega arith)

  -- a refusal changes nothing
  pub refused-kept : (xs : List Float) (n : ℕ) → samples_call words numbers (length xs) ≡ refused n → samples_list words numbers xs ≡ xs
  unfolding samples_list
  refused-kept xs n e = ap (λ (a : Answer ℕ). samples_written words numbers a xs) e
