-- Eight leading samples at once.
use Prim.Native.Nat.{ℕ, zero, suc, ◌+◌, ◌-◌, ◌*◌, ◌<◌, ◌≤◌}
use native.Mathlib.Omega.{arith}
use native.Mathlib.Nat.{eq-or-lt_of_le}
use mathlib.Core.Path.{◌≡◌, refl, sym, ◌∙◌, ap}
use mathlib.Core.Bool.{Bool, true, ◌&&◌}
use mathlib.Core.List.{List}
use mathlib.Core.Logic.{⊎_elim}
use lib.ListN.{get_or}
use lib.Ieee.{Float, nan, le}
use Rattle.std.specs.Prelude.{Option, Some, None}
use Rattle.std.specs.List.{fold, range_with_len}
use Rattle.std.specs.Option.{MatchOption, unwrap_or}
use Rattle.std.proofs.lemmas.Bool.{and_parts}
use Rattle.line_pose.specs.Poses.{leading}
use Rattle.line_pose.proofs.PoseLaws.{lead-run}

-- that all passed so far and the numbers of a range do
pub all-passed : (p : ℕ → Bool) (b : Bool) (a n : ℕ) → fold (λ all j. all && p j) b (range_with_len a n) ≡ true → (b ≡ true) × ((j : ℕ) → a ≤ j → j < a + n → p j ≡ true)
all-passed p b a zero h = (h, λ j l m. absurd (omega arith))
all-passed p b a (suc n) h =
    let r = all-passed p (b && p a) (a + 1) n h in
    let s = and_parts b (p a) r.0 in
    (s.0, λ j l m. ⊎_elim (λ e. ap p (sym e) ∙ s.1) (λ e. r.1 j (omega arith) (omega arith)) (eq-or-lt_of_le l))

module _ (samples : List Float) (d : Float) where
  -- a group from the k-th on, all of which lead
  pub group-leads : (k n : ℕ) → ((j : ℕ) → 0 ≤ j → j < 8 → le (get_or samples (k * 4 + j * 4) nan) d ≡ true) → leading samples k d (n + 8) ≡ 8 + leading samples (k + 8) d n
  group-leads k n h =
      let each : (i : ℕ) → k ≤ i → i < k + 8 → le (get_or samples (i * 4) nan) d ≡ true = λ i a b. let e : i * 4 ≡ k * 4 + (i - k) * 4 = omega arith in rw e (h (i - k) (omega arith) (omega arith)) in
      let r = lead-run samples d (k + n + 8) k 8 (k + 8) refl (omega arith) each in
      let p : k + n + 8 - k ≡ n + 8 = omega arith in
      let q : k + n + 8 - (k + 8) ≡ n = omega arith in
      let s : k + leading samples k d (n + 8) ≡ k + 8 + leading samples (k + 8) d n = ap (λ (m : ℕ). k + leading samples k d m) (sym p) ∙ r ∙ ap (λ (m : ℕ). k + 8 + leading samples (k + 8) d m) q in
      omega arith

  -- each of the groups before the one that is found leads
  module _ (n : ℕ) where
    run : (e : ℕ) → e * 8 ≤ n → ((i : ℕ) → 0 ≤ i → i < e → (m : ℕ) → leading samples (i * 8) d (m + 8) ≡ 8 + leading samples (i * 8 + 8) d m)
        → leading samples 0 d n ≡ e * 8 + leading samples (e * 8) d (n - e * 8)
    run zero l h = let p : n - 0 ≡ n = omega arith in rw p (omega arith)
    run (suc e) l h =
        let before = run e (omega arith) (λ i a b. h i a (omega arith)) in
        let p : n - e * 8 ≡ n - suc e * 8 + 8 = omega arith in
        let q : e * 8 + 8 ≡ suc e * 8 = omega arith in
        let s : leading samples (e * 8) d (n - e * 8) ≡ 8 + leading samples (suc e * 8) d (n - suc e * 8) = ap (λ (m : ℕ). leading samples (e * 8) d m) p ∙ h e (omega arith) (omega arith) (n - suc e * 8) ∙ ap (λ (i : ℕ). 8 + leading samples i d (n - suc e * 8)) q in
        omega arith

    -- of m groups
    pub groups_found : (m : ℕ) (r : Option ℕ) → m * 8 ≤ n
        → MatchOption r ((i : ℕ) → 0 ≤ i → i < m → (k : ℕ) → leading samples (i * 8) d (k + 8) ≡ 8 + leading samples (i * 8 + 8) d k)
        (λ e. (0 ≤ e) × (e < m) × Unit {0} × ((i : ℕ) → 0 ≤ i → i < e → (k : ℕ) → leading samples (i * 8) d (k + 8) ≡ 8 + leading samples (i * 8 + 8) d k))
        → leading samples 0 d n ≡ unwrap_or r m * 8 + leading samples (unwrap_or r m * 8) d (n - unwrap_or r m * 8)
    groups_found m None l h = run m l h
    groups_found m (Some e) l h = run e (omega (arith, h.1)) h.3

-- what is found in a range from 0 on, else its end, is at most its end
pub found-within : (r : Option ℕ) (m : ℕ) → MatchOption r ((k : ℕ) → 0 ≤ k → k < m → Unit {0}) (λ i. (0 ≤ i) × (i < m) × Unit {0} × ((k : ℕ) → 0 ≤ k → k < i → Unit {0})) → unwrap_or r m ≤ m
found-within None m h = omega arith
found-within (Some i) m h = omega (arith, h.1)
