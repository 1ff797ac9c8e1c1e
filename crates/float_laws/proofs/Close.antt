-- Closeness of natural numbers: `Close K A B k S` says |A - B| ≤ k * S / K, so A and B agree but for k parts in K of a scale S.
-- Errors of a computation of several steps are carried as such k, over one scale; k adds up in sums and chains. Assumes nothing.
use mathlib.Core.Path.{◌≡◌, subst}
use Prim.Native.Nat.{ℕ, ◌+◌, ◌*◌, ◌≤◌, ◌<◌}
use native.Mathlib.Nat.{mul-le-mul_right, mul-le-mul_left, le_of_mul-le-mul_right}
use native.Mathlib.Omega.{arith}

pub record Close (K A B k S : ℕ) : Type 0 where
  pub above : A * K ≤ B * K + k * S
  pub below : B * K ≤ A * K + k * S

module _ {K A B k S : ℕ} where
  pub close-sym : Close K A B k S → Close K B A k S
  close-sym h = record { above = h.below; below = h.above }

  -- k and the scale may grow
  pub close-wider : (l R : ℕ) → k * S ≤ l * R → Close K A B k S → Close K A B l R
  close-wider l R g h = let a = h.above in let b = h.below in record { above = omega arith; below = omega arith }

  -- parts of another size: k in K is l in H
  pub close-parts : (H m l : ℕ) → 0 < m → K ≡ H * m → k ≤ l * m → Close K A B k S → Close H A B l S
  close-parts H m l M e g h =
      let x : k * S ≤ l * m * S = mul-le-mul_right S g in
      let a : A * (H * m) ≤ B * (H * m) + k * S = subst (λ (n : ℕ). A * n ≤ B * n + k * S) e h.above in
      let b : B * (H * m) ≤ A * (H * m) + k * S = subst (λ (n : ℕ). B * n ≤ A * n + k * S) e h.below in
      let a' : A * H * m ≤ (B * H + l * S) * m = omega arith in
      let b' : B * H * m ≤ (A * H + l * S) * m = omega arith in
      record { above = le_of_mul-le-mul_right a' M; below = le_of_mul-le-mul_right b' M }

  pub close-trans : {C l : ℕ} → Close K A B k S → Close K B C l S → Close K A C (k + l) S
  close-trans h g = let a = h.above in let b = h.below in let c = g.above in let d = g.below in record { above = omega arith; below = omega arith }

  pub close-add : {C D l : ℕ} → Close K A B k S → Close K C D l S → Close K (A + C) (B + D) (k + l) S
  close-add h g = let a = h.above in let b = h.below in let c = g.above in let d = g.below in record { above = omega arith; below = omega arith }

  -- by a common factor, which the scale takes too, and back
  pub close-scale : (m : ℕ) → Close K A B k S → Close K (A * m) (B * m) k (S * m)
  close-scale m h =
      let a : A * K * m ≤ (B * K + k * S) * m = mul-le-mul_right m h.above in
      let b : B * K * m ≤ (A * K + k * S) * m = mul-le-mul_right m h.below in
      record { above = omega arith; below = omega arith }

  pub close-unscale : (m : ℕ) → 0 < m → Close K (A * m) (B * m) k (S * m) → Close K A B k S
  close-unscale m M h =
      let a = h.above in
      let b = h.below in
      let a' : A * K * m ≤ (B * K + k * S) * m = omega arith in
      let b' : B * K * m ≤ (A * K + k * S) * m = omega arith in
      record { above = le_of_mul-le-mul_right a' M; below = le_of_mul-le-mul_right b' M }

  -- A * C - B * D = A * (C - D) + D * (A - B)
  pub close-mul : {C D l R : ℕ} (a d : ℕ) → A ≤ a * S → D ≤ d * R → Close K A B k S → Close K C D l R → Close K (A * C) (B * D) (a * l + d * k) (S * R)
  close-mul {C} {D} {l} {R} a d ha hd h g =
      let x1 : A * (C * K) ≤ A * (D * K + l * R) = mul-le-mul_left A g.above in
      let x2 : A * (D * K) ≤ A * (C * K + l * R) = mul-le-mul_left A g.below in
      let y1 : A * K * D ≤ (B * K + k * S) * D = mul-le-mul_right D h.above in
      let y2 : B * K * D ≤ (A * K + k * S) * D = mul-le-mul_right D h.below in
      let u : A * (l * R) ≤ a * S * (l * R) = mul-le-mul_right (l * R) ha in
      let v : k * S * D ≤ k * S * (d * R) = mul-le-mul_left (k * S) hd in
      record { above = omega arith; below = omega arith }

pub close-square : {K A B k S : ℕ} (m : ℕ) → A ≤ m * S → B ≤ m * S → Close K A B k S → Close K (A * A) (B * B) (m * k + m * k) (S * S)
close-square m ha hb h = close-mul m m ha hb h h
