-- The leading values of a list counted one by one: while k are counted, all others that lead stand from the k-th on. And the NaN of the code, by its bits.
use Prim.Native.Nat.{ℕ, suc, ◌+◌, ◌-◌, ◌≤◌, ◌<◌}
use native.Mathlib.Nat.{zero-add}
use native.Mathlib.Omega.{arith}
use native.Mathlib.Numerals.{add-one}
use mathlib.Core.Path.{◌≡◌, refl, sym, ap, ◌∙◌}
use mathlib.Core.Bool.{true, false}
use lib.Ieee.{Float, nan, binary64, of_bits, le}
use Rattle.tracks.specs.Poses.{leading_from}
use Rattle.tracks.proofs.PoseSteps.{lead-stop, lead-step}

pub nan64_is : of_bits binary64 0x7ff8_0000_0000_0000 ≡ nan
unfolding of_bits
nan64_is = refl

module _ (c : ℕ → Float) (s : Float) (n : ℕ) where
  abbrev pub Counted : ℕ → Type 0
  Counted k = leading_from c s 0 n ≡ k + leading_from c s k (n - k)

  pub counted_none : Counted 0
  counted_none = let e : n - 0 ≡ n = omega arith in rw e (sym (zero-add (leading_from c s 0 n)))

  pub counted_next : (k : ℕ) {x : Float} → Counted k → x ≡ c k → k < n → le x s ≡ true → Counted (k + 1)
  counted_next k h hx l e =
      let d : n - k - 1 ≡ n - (k + 1) = omega arith in
      let f : le (c k) s ≡ true = ap (λ (y : Float). le y s) (sym hx) ∙ e in
      let g : leading_from c s k (n - k) ≡ suc (leading_from c s (k + 1) (n - (k + 1))) = lead-step c s k (n - k) (omega arith) f ∙ ap (λ (m : ℕ). suc (leading_from c s (suc k) m)) d ∙ ap (λ (m : ℕ). suc (leading_from c s m (n - (k + 1)))) (sym (add-one k)) in
      omega (arith, h, g)

  pub counted_stops : (k : ℕ) {x : Float} → Counted k → x ≡ c k → le x s ≡ false → k ≡ leading_from c s 0 n
  counted_stops k h hx e =
      let g = lead-stop c s k (n - k) (ap (λ (y : Float). le y s) (sym hx) ∙ e) in
      omega (arith, h, g)

  pub counted_ends : (k : ℕ) → Counted k → n ≤ k → k ≡ leading_from c s 0 n
  unfolding leading_from
  counted_ends k h l =
      let d : n - k ≡ 0 = omega arith in
      let g : leading_from c s k (n - k) ≡ 0 = rw d refl in
      omega (arith, h, g)

pub ruleset counting = (counted_none, counted_next, counted_stops, counted_ends)
