-- Taking +0 from a finite value leaves the value itself, a zero's sign too: the result is the rounding of the value's own fraction.
use mathlib.Core.Path.{◌≡◌, ap, ◌∙◌}
use Prim.Native.Nat.{ℕ, ◌+◌, ◌-◌, ◌*◌, ◌^◌}
use native.Mathlib.Nat.{mul-one, le_of_eq, lt_of_le_of_lt}
use native.Mathlib.Omega.{arith}
use mathlib.Core.Bool.{Bool, true, false, cond}
use lib.Dec.{ltb}
use lib.IntN.{ℤ, pos}
use lib.Pow.{pow_pos}
use lib.Ieee.{Float, nan, inf, fin, Format, low, up, down, round, sum, add, sub, neg}
use lib.Ieee.Fits.{round-fits, down_pos}
use borrow.Author.Tests.{le-ltb}
use Rattle.float_laws.proofs.Units.{rnd, rnd-same}
use Rattle.float_laws.proofs.Value.{mag, Real, units_of, mag_of, under}
use Rattle.float_laws.proofs.Operation.{round-has}
use Rattle.float_laws.proofs.Exact.{fixed}
use Rattle.float_laws.proofs.Same.{same-value}

pub round-self : (f : Format) (s : Bool) (m : ℕ) (e : ℤ) → Real f (fin s m e) → round f s (m * up e) (down e) ≡ fin s m e
round-self f s m e r =
    let x = fin s m e in
    let k : rnd f (m * up e * 2 ^ low f) (down e) ≡ mag f x = rnd-same f (m * up e * 2 ^ low f) (down e) (mag f x) 1 (down_pos e) (pow_pos 0) (mul-one (m * up e * 2 ^ low f) ∙ units_of f x r) ∙ fixed f x r in
    let v = mag_of f (round f s (m * up e) (down e)) s (rnd f (m * up e * 2 ^ low f) (down e)) (round-has f s (m * up e) (down e) (lt_of_le_of_lt (le_of_eq k) (under f x r))) in
    same-value f (round f s (m * up e) (down e)) x (record { finite = v.0; fits = round-fits f s (m * up e) (down e) }) r v.2 (v.1 ∙ k)

pub sub-zero : (f : Format) (x : Float) → Real f x → sub f x (fin false 0 (pos 0)) ≡ x
unfolding sub add neg sum
sub-zero f nan r = absurd r.finite
sub-zero f (inf s) r = absurd r.finite
sub-zero f (fin true m e) r =
    let a : m * up e * 1 + 0 * 1 * down e ≡ m * up e = omega arith in
    ap (λ (n : ℕ). round f true n (down e * 1)) a ∙ ap (λ (d : ℕ). round f true (m * up e) d) (mul-one (down e)) ∙ round-self f true m e r
sub-zero f (fin false m e) r =
    let a : m * up e * 1 - 0 * 1 * down e ≡ m * up e = omega arith in
    let t : ltb (m * up e * 1) (0 * 1 * down e) ≡ false = le-ltb (m * up e * 1) (0 * 1 * down e) (omega arith) in
    ap (λ (b : Bool). cond b (round f true (0 * 1 * down e - m * up e * 1) (down e * 1)) (round f false (m * up e * 1 - 0 * 1 * down e) (down e * 1))) t
    ∙ ap (λ (n : ℕ). round f false n (down e * 1)) a ∙ ap (λ (d : ℕ). round f false (m * up e) d) (mul-one (down e)) ∙ round-self f false m e r
