-- An id out of half a number: the half itself, or as far below 0 on the other side of -1.
use Rattle.std.proofs.Common.{◌≡◌, ℕ, zero, suc, ◌+◌, ◌/◌, ◌%◌, ◌^◌, ◌<◌, ℤ, pos, negsuc, ◌-ℤ◌, sym, refl, ap, ◌∙◌, subst, arith, w32, SFits, to_z, of_z}
use mir.ValLaws.{to_z_pos, to_z-of_z}

below : (k : ℕ) → negsuc 0 -ℤ pos k ≡ negsuc k
below zero = refl
below (suc k) = ap (λ (m : ℕ). negsuc (suc m)) (let e : 0 + k ≡ k = omega arith in e)

module _ (n : ℕ) where
  small : n / 2 % 2 ^ 31 < 2 ^ 31
  small = omega arith

  pub id_left : to_z w32 (n / 2 % 2 ^ 31) ≡ pos (n / 2 % 2 ^ 31)
  id_left = to_z_pos w32 (n / 2 % 2 ^ 31) small

  apart : negsuc 0 -ℤ to_z w32 (n / 2 % 2 ^ 31) ≡ negsuc (n / 2 % 2 ^ 31)
  apart = ap (λ (z : ℤ). negsuc 0 -ℤ z) id_left ∙ below (n / 2 % 2 ^ 31)

  pub id-fits : SFits w32 (negsuc 0 -ℤ to_z w32 (n / 2 % 2 ^ 31))
  id-fits = subst (λ (z : ℤ). SFits w32 z) (sym apart) (record { sfits = small })

  pub id_right : to_z w32 (of_z w32 (negsuc 0 -ℤ to_z w32 (n / 2 % 2 ^ 31))) ≡ negsuc (n / 2 % 2 ^ 31)
  id_right = to_z-of_z w32 (negsuc 0 -ℤ to_z w32 (n / 2 % 2 ^ 31)) id-fits ∙ apart
