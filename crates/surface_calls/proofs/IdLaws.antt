-- The place that an id names, by the id's size and sign.
use mathlib.Core.Path.{◌≡◌, refl}
use Prim.Native.Nat.{ℕ, zero, suc, ◌-◌, ◌≤◌}
use native.Mathlib.Omega.{arith}
use lib.IntN.{ℤ, pos, negsuc, nat_abs}
use lib.Signed.{lt_z}
use Rattle.std.proofs.lemmas.Bool.{le-ltb}
use Rattle.std.specs.Prelude.{Some, None}
use Rattle.surface_calls.specs.SurfaceCalls.{place_of_id}

pub no_place : (i : ℕ) (z : ℤ) → nat_abs z ≡ 0 → None ≡ place_of_id i z
unfolding place_of_id
no_place i (pos zero) e = refl
no_place i (pos (suc k)) e = absurd (omega (arith, e))
no_place i (negsuc k) e = absurd (omega (arith, e))

pub named_place : (i : ℕ) (z : ℤ) → (nat_abs z ≡ 0 → ⊥) → Some (record { section = i; right = lt_z z (pos 0); k = nat_abs z - 1 }) ≡ place_of_id i z
unfolding place_of_id
named_place i (pos zero) n = absurd (n refl)
named_place i (pos (suc k)) n =
    let e : suc k - 1 ≡ k = omega arith in
    let l : 0 ≤ suc k = omega arith in
    rw (e, le-ltb (suc k) 0 l)
named_place i (negsuc k) n = let e : suc k - 1 ≡ k = omega arith in rw e
