-- Where the sum of x and a whole c, by which the nearest whole number is found, reaches on each side of zero. Assumes nothing.
use mathlib.Core.Path.{◌≡◌, ap, ◌∙◌}
use Prim.Native.Nat.{ℕ, ◌+◌, ◌*◌, ◌^◌, ◌≤◌, ◌<◌}
use native.Mathlib.Nat.{add-mul, le_refl}
use native.Mathlib.Omega.{arith}
use lib.Ieee.{Float, Format, prec, low, hid}
use Rattle.float_laws.proofs.Value.{pl, mi}
use Rattle.float_laws.proofs.Whole.{Reach, twice_hid}

-- x from 0 up to hid f, with c = hid f; and x below 0 down to -hid f, with c = 2 ^ prec f
pub reach-plus : (f : Format) (x : Float) → mi f x ≡ 0 → pl f x < hid f * 2 ^ low f → Reach f x (hid f)
reach-plus f x z h =
    let t = twice_hid f in
    let d : 2 ^ prec f * 2 ^ low f ≡ hid f * 2 ^ low f + hid f * 2 ^ low f = ap (λ (n : ℕ). n * 2 ^ low f) t ∙ add-mul (hid f) (hid f) (2 ^ low f) in
    record { least = least (hid f * 2 ^ low f) (pl f x) (mi f x) z; most = most (hid f * 2 ^ low f) (2 ^ prec f * 2 ^ low f) (pl f x) (mi f x) d h; from = le_refl (hid f); to = omega arith }
  where
    least : (H p n : ℕ) → n ≡ 0 → H + n ≤ p + H
    least H p n z = omega arith

    most : (H T p n : ℕ) → T ≡ H + H → p < H → p + H < T + n
    most H T p n e h = omega arith

pub reach-minus : (f : Format) (x : Float) → pl f x ≡ 0 → 0 < mi f x → mi f x < hid f * 2 ^ low f → Reach f x (2 ^ prec f)
reach-minus f x z u h =
    let t = twice_hid f in
    let d : 2 ^ prec f * 2 ^ low f ≡ hid f * 2 ^ low f + hid f * 2 ^ low f = ap (λ (n : ℕ). n * 2 ^ low f) t ∙ add-mul (hid f) (hid f) (2 ^ low f) in
    record { least = least (hid f * 2 ^ low f) (2 ^ prec f * 2 ^ low f) (pl f x) (mi f x) d h; most = most (2 ^ prec f * 2 ^ low f) (pl f x) (mi f x) z u; from = omega arith; to = le_refl (2 ^ prec f) }
  where
    least : (H T p n : ℕ) → T ≡ H + H → n < H → H + n ≤ p + T
    least H T p n e h = omega arith

    most : (T p n : ℕ) → p ≡ 0 → 0 < n → p + T < T + n
    most T p n z h = omega arith
