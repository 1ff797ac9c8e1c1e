-- A value of a format is known by its sign and its magnitude in units: these two give its pattern, and the pattern gives it back. Assumes nothing.
use mathlib.Core.Path.{◌≡◌, refl, sym, ap, ◌∙◌}
use Prim.Native.Nat.{ℕ, ◌+◌, ◌-◌, ◌*◌, ◌/◌, ◌^◌}
use mathlib.Core.Bool.{Bool, cond}
use lib.Ieee.{Float, nan, inf, fin, Format, prec, low, size, hid, top, to_bits, of_bits}
use lib.Ieee.Bits.{of_bits-to_bits}
use lib.Ieee.Exact.{HasValue}
use Rattle.float_laws.proofs.Value.{sign, mag, Real, units_of}
use Rattle.float_laws.proofs.Pattern.{bits_of}

pub own_value : (f : Format) (x : Float) → Real f x → HasValue x (sign x) (mag f x) (2 ^ low f)
own_value f nan r = absurd r.finite
own_value f (inf s) r = absurd r.finite
own_value f (fin s m e) r = (refl, units_of f (fin s m e) r)

pub same-value : (f : Format) (x y : Float) → Real f x → Real f y → sign x ≡ sign y → mag f x ≡ mag f y → x ≡ y
same-value f x y r q s g =
    let patterned : Bool → ℕ → ℕ = λ (b : Bool) (a : ℕ). cond b (top f) 0 + (size a - prec f) * hid f + a / 2 ^ (size a - prec f) in
    let a : to_bits f x ≡ patterned (sign x) (mag f x) = bits_of f x (sign x) (mag f x) (own_value f x r) in
    let b : to_bits f y ≡ patterned (sign y) (mag f y) = bits_of f y (sign y) (mag f y) (own_value f y q) in
    let e : to_bits f x ≡ to_bits f y = a ∙ ap (λ (t : Bool). patterned t (mag f x)) s ∙ ap (λ (n : ℕ). patterned (sign y) n) g ∙ sym b in
    sym (of_bits-to_bits f x r.fits) ∙ ap (of_bits f) e ∙ of_bits-to_bits f y q.fits
