-- The leading samples, k of n counted: one more leads, none more, all are counted; and what is found among them. And a spiral's own part of the lent samples gives its pose.
use Prim.Native.Nat.{ℕ, zero, suc, ◌+◌, ◌-◌, ◌*◌, ◌≤◌, ◌<◌, zero-le, suc-le-suc}
use native.Mathlib.Omega.{arith}
use native.Mathlib.Nat.{add-zero, zero-add}
use mathlib.Core.Path.{◌≡◌, refl, sym, ◌∙◌, ap, ap₂}
use mathlib.Core.Bool.{Bool, true, false, cond}
use mathlib.Core.List.{List}
use lib.ListN.{get_or, drop}
use lib.Ieee.{Float, nan, le}
use Rattle.std.specs.Prelude.{Option, Some, None}
use Rattle.std.specs.Option.{MatchOption, unwrap_or}
use Rattle.std.proofs.lemmas.List.{get_or-drop}
use Rattle.line_samples.specs.Samples.{sample_at}
use Rattle.line_samples.specs.declared.points.Sample.{Sample}
use Rattle.line_samples.specs.declared.points.Pose.{Pose}
use Rattle.line_pose.specs.Poses.{held, leading, segment, fraction_of, between, spiral_pose}

cond-le : (b : Bool) (m n : ℕ) → m ≤ n → cond b m 0 ≤ n
cond-le true m n h = h
cond-le false m n h = zero-le

module _ (samples : List Float) (d : Float) where
  pub leading_le : (first n : ℕ) → leading samples first d n ≤ n
  unfolding leading
  leading_le first zero = zero-le
  leading_le first (suc n) = cond-le (le (get_or samples ((first + 0) * 4) nan) d) (suc (leading samples (suc first) d n)) (suc n) (suc-le-suc (leading_le (suc first) n))

  one : (at n : ℕ) (b : Bool) → le (get_or samples (at * 4) nan) d ≡ b → leading samples at d (suc n) ≡ cond b (suc (leading samples (suc at) d n)) 0
  unfolding leading
  one at n b e = rw (add-zero, e)

  -- the first of n leads, or does not
  pub lead-first : (at n : ℕ) → le (get_or samples (at * 4) nan) d ≡ true → leading samples at d (n + 1) ≡ 1 + leading samples (at + 1) d n
  lead-first at n e = let p : n + 1 ≡ suc n = omega arith in let q : at + 1 ≡ suc at = omega arith in rw (p, q, one at n true e) (omega arith)

  lead-next : (n k : ℕ) → k < n → le (get_or samples (k * 4) nan) d ≡ true → k + leading samples k d (n - k) ≡ k + 1 + leading samples (k + 1) d (n - (k + 1))
  lead-next n k h e = let p : n - k ≡ n - (k + 1) + 1 = omega arith in rw (p, lead-first k (n - (k + 1)) e) (omega arith)

  lead-stop : (n k : ℕ) → k < n → le (get_or samples (k * 4) nan) d ≡ false → k + leading samples k d (n - k) ≡ k
  lead-stop n k h e = let p : n - k ≡ suc (n - (k + 1)) = omega arith in rw (p, one k (n - (k + 1)) false e) (omega arith)

  lead-full : (n k : ℕ) → n ≤ k → k + leading samples k d (n - k) ≡ k
  lead-full n k h = let l = leading_le k (n - k) in omega arith

  module _ (n : ℕ) where
    abbrev pub leads : ℕ → Bool
    leads k = le (get_or samples (k * 4) nan) d

    abbrev pub left : ℕ → ℕ
    left k = k + leading samples k d (n - k)

    -- all from the k-th to before the j-th lead
    pub lead-run : (k m j : ℕ) → j ≡ k + m → j ≤ n → ((i : ℕ) → k ≤ i → i < j → leads i ≡ true) → left k ≡ left j
    lead-run k zero j e l h = let p : k ≡ j = omega arith in ap left p
    lead-run k (suc m) j e l h =
        let q : k + m + 1 ≡ j = omega arith in
        lead-run k m (k + m) refl (omega arith) (λ i a b. h i a (omega arith)) ∙ lead-next n (k + m) (omega arith) (h (k + m) (omega arith) (omega arith)) ∙ ap left q

    -- what is found from the k-th on is the first that does not lead
    pub lead_found : (k : ℕ) (r : Option ℕ) → k ≤ n
        → MatchOption r ((i : ℕ) → k ≤ i → i < n → le (get_or samples (i * 4) nan) d ≡ true)
        (λ j. (k ≤ j) × (j < n) × (le (get_or samples (j * 4) nan) d ≡ false) × ((i : ℕ) → k ≤ i → i < j → le (get_or samples (i * 4) nan) d ≡ true))
        → k + leading samples k d (n - k) ≡ unwrap_or r n
    lead_found k None l h = lead-run k (n - k) n (omega arith) (omega arith) h ∙ lead-full n n (omega arith)
    lead_found k (Some j) l h = lead-run k (j - k) j (omega (arith, h.0)) (omega (arith, h.1)) h.3 ∙ lead-stop n j h.1 h.2

-- a segment of two or more samples ends at one of them
pub segment-in : (lead n : ℕ) → 2 ≤ n → segment lead n + 1 < n
segment-in lead n h = omega arith

-- ---- a spiral's own part of the samples
module _ (samples : List Float) (first : ℕ) where
  abbrev own : List Float
  own = drop (first * 4) samples

  own-number : (k j : ℕ) → get_or own (k * 4 + j) nan ≡ get_or samples ((first + k) * 4 + j) nan
  own-number k j = let e : first * 4 + (k * 4 + j) ≡ (first + k) * 4 + j = omega arith in get_or-drop (first * 4) samples (k * 4 + j) nan ∙ ap (λ (i : ℕ). get_or samples i nan) e

  own-distance : (k : ℕ) → get_or own (k * 4) nan ≡ get_or samples ((first + k) * 4) nan
  own-distance k = let e : first * 4 + k * 4 ≡ (first + k) * 4 = omega arith in get_or-drop (first * 4) samples (k * 4) nan ∙ ap (λ (i : ℕ). get_or samples i nan) e

  own-sample : (k : ℕ) → sample_at own 0 k ≡ sample_at samples first k
  own-sample k = rw (zero-add, own-distance k, own-number k 1, own-number k 2, own-number k 3)

  leading-none : (xs : List Float) (at : ℕ) (d : Float) → leading xs at d 0 ≡ 0
  unfolding leading
  leading-none xs at d = refl

  own-leading : (at n : ℕ) (d : Float) → leading own at d n ≡ leading samples (first + at) d n
  own-leading at zero d = leading-none own at d ∙ sym (leading-none samples (first + at) d)
  own-leading at (suc n) d =
      let e : first + suc at ≡ suc (first + at) = omega arith in
      one own d at n (le (get_or own (at * 4) nan) d) refl
      ∙ rw (own-distance at, own-leading (suc at) n d, e) (sym (one samples d (first + at) n (le (get_or samples ((first + at) * 4) nan) d) refl))

  abbrev by : (ℕ → Sample) → (Float → ℕ) → ℕ → Float → Pose
  by sample lead n ds =
      let d = held (sample (n - 1)).distance ds in
      let i = segment (lead d) n in
      between (sample i) (sample (i + 1)) (fraction_of (sample i).distance (sample (i + 1)).distance d)

  lead-is : (n : ℕ) (d : Float) → leading own 0 d n ≡ leading samples first d n
  lead-is n d = own-leading 0 n d ∙ ap (λ (k : ℕ). leading samples k d n) (add-zero first)

  pub own_pose : (n : ℕ) (ds : Float) → spiral_pose own 0 n ds ≡ spiral_pose samples first n ds
  unfolding spiral_pose
  own_pose n ds = ap₂ (λ (s : ℕ → Sample) (l : Float → ℕ). by s l n ds) (λ i k. own-sample k i) (λ i d. lead-is n d i)
