-- The fraction of the way from a to b, (s - a) / (b - a) as computed, where a is a start at or before s + e and b, at least c past a, is after it: at most 1, and below 0 by e / c and little more.
-- The idea: s ≤ s + e < b, so s - a rounds to at most b - a; and a ≤ s + e, one rounding of a sum whose size is known, so s - a is not below -w for a w a little larger than e. Over the format; assumes nothing.
use mathlib.Core.Path.{◌≡◌, refl, sym, ap, ◌∙◌, subst}
use mathlib.Core.Logic.{inl, inr}
use Prim.Native.Nat.{ℕ, suc, ◌+◌, ◌-◌, ◌*◌, ◌/◌, ◌^◌, ◌≤◌, ◌<◌, zero-le}
use native.Mathlib.Nat.{le_trans, le_of_eq, lt_of_lt_of_le, mul-le-mul_right, mul_comm, zero-mul}
use native.Mathlib.Omega.{arith}
use mathlib.Core.Bool.{Bool, not}
use lib.IntN.{pos}
use lib.Dec.{T}
use lib.Pow.{pow_pos, pow-lt}
use lib.Ieee.{Float, nan, inf, fin, Format, prec, emax, low, unlike, le, add, sub, div}
use lib.Ieee.Fits.{sub-fits, div-fits}
use lib.Ieee.Scale.{finite, overflow}
use Rattle.std.proofs.lemmas.Float.{le_trans as float_trans}
use Rattle.float_laws.proofs.Units.{rnd, rnd-le, rnd-zero, rnd-pow}
use Rattle.float_laws.proofs.Value.{mag, pl, mi, Real, mag_is, pl-le, mi-le, one_side, le→units, le_refl, nle→le}
use Rattle.float_laws.proofs.Operation.{add-Is, sub-Is}
use Rattle.float_laws.proofs.Interval.{le→parts, div-Is'}
use Rattle.float_laws.proofs.Size.{Within, sub_within, is-bounded}
use Rattle.float_laws.proofs.Exact.{fixed, add-grow-l}
use Rattle.float_laws.proofs.Order.{sub-mono, div-within}
use Rattle.float_laws.proofs.Error.{Near, is-near-le}

-- t lies in -U..1, in units
pub record Fraction (f : Format) (t : Float) (U : ℕ) : Type 0 where
  pub value : Real f t
  pub below : mi f t ≤ U
  pub above : pl f t ≤ 2 ^ low f

-- what the constants have to satisfy: s is within S and a within A; e is added to s, c is the least gap, and w is at least e and the rounding of a sum of at most 2 ^ j units
pub record Margin (f : Format) (S A e c w : Float) (j : ℕ) : Type 0 where
  pub e_real : Real f e
  pub e_plus : mi f e ≡ 0
  pub c_real : Real f c
  pub c_plus : mi f c ≡ 0
  pub c_above : 0 < pl f c
  pub w_real : Real f w
  pub w_plus : mi f w ≡ 0
  pub total : T (finite (add f S A))
  pub sum : pl f S + pl f e ≤ 2 ^ j
  pub exponent : j < low f + suc (emax f)
  pub slack : pl f e * 2 + 2 ^ (j - prec f) ≤ pl f w * 2
  pub quotient : T (finite (div f w c))
  pub small : pl f (div f w c) ≤ 2 ^ low f

-- ---- the quotient n / d of an n in -w..d by a d of at least c
module _ (f : Format) (n d c w : Float) (rn : Real f n) (rd : Real f d) (rc : Real f c) (rw : Real f w) (zw : mi f w ≡ 0) (C : 0 < pl f c) (cd : pl f c ≤ pl f d) (nd : pl f n ≤ pl f d) (nw : mi f n ≤ pl f w)
    (t : T (finite (div f w c))) (small : pl f (div f w c) ≤ 2 ^ low f) where
  not-above : pl f n ≡ 0 → Fraction f (div f n d) (pl f (div f w c))
  not-above z =
      let m = mag_is f n in
      let g : mag f n ≤ pl f w = omega arith in
      let k = div-within f n d w c (record { value = rn; bound = rw; plus = zw; le = g }) rd rc C (le_trans cd (pl-le f d)) t in
      record { value = k.value; below = le_trans (mi-le f (div f n d)) k.le; above = le_trans (pl-le f (div f n d)) (le_trans k.le small) }

  not-below : mi f n ≡ 0 → Fraction f (div f n d) (pl f (div f w c))
  not-below z =
      let L = 2 ^ low f in
      let D : 0 < pl f d = lt_of_lt_of_le C cd in
      let i = div-Is' f n d rn rd D in
      let e = rnd-pow f (pl f d) (low f) D in
      let zl : mi f n * L ≡ 0 = ap (λ (k : ℕ). k * L) z ∙ zero-mul L in
      let h : pl f n * L ≤ L * pl f d = le_trans (mul-le-mul_right L nd) (le_of_eq (mul_comm (pl f d) L)) in
      let b = is-bounded f (div f n d) (pl f n * L) (mi f n * L) (pl f d) (L * pl f d) D i (omega arith) (omega arith) (subst (λ (k : ℕ). k < overflow f) (sym e) (pow-lt (room (low f) (emax f)))) in
      let o : mi f n * L - pl f n * L ≡ 0 = omega arith in
      let q : mi f (div f n d) ≡ 0 = i.minus b.0.finite ∙ ap (λ (k : ℕ). rnd f k (pl f d)) o ∙ rnd-zero f (pl f d) D in
      record { value = b.0; below = le_trans (le_of_eq q) zero-le; above = le_trans (pl-le f (div f n d)) (le_trans b.1 (le_of_eq e)) }
    where
      room : (l e : ℕ) → l < l + suc e
      room l e = omega arith

  quotient : Fraction f (div f n d) (pl f (div f w c))
  quotient = elim (one_side f n) [ inl z ↦ not-above z | inr z ↦ not-below z ]

-- ---- a divisor that has overflowed
no-le-nan : (c : Float) → T (le c nan) → ⊥
unfolding le
no-le-nan nan t = t
no-le-nan (inf s) t = t
no-le-nan (fin s m e) t = t

zero-mag : (f : Format) (s : Bool) → mag f (fin s 0 (pos 0)) ≡ 0
unfolding mag
zero-mag f s = ap (λ (n : ℕ). n / 1) (zero-mul (2 ^ low f))

over-inf : (f : Format) (n : Float) (s : Bool) (U : ℕ) → Real f n → Fraction f (div f n (inf s)) U
unfolding div
over-inf f nan s U r = absurd r.finite
over-inf f (inf q) s U r = absurd r.finite
over-inf f (fin q m e) s U r =
    let z = zero-mag f (unlike q s) in
    let h = mi-le f (fin (unlike q s) 0 (pos 0)) in
    let k = pl-le f (fin (unlike q s) 0 (pos 0)) in
    record {
      value = record { finite = tt; fits = div-fits f (fin q m e) (inf s) };
      below = le_trans (le_trans h (le_of_eq z)) zero-le;
      above = le_trans (le_trans k (le_of_eq z)) zero-le;
    }

-- ---- the law
-- a ≤ r, and r is s + e but for E / 2: a is at most w past s
not-far : (a a' s s' r r' e e' w E : ℕ) → a + r' ≤ r + a' → (r * 1 + (s' + e')) * 2 ≤ (r' * 1 + (s + e)) * 2 + E * 1 → e * 2 + E ≤ w * 2 → s' + a - (s + a') ≤ w
not-far a a' s s' r r' e e' w E h k l = omega arith

module _ (f : Format) (a b s e c w S A : Float) (j : ℕ) (k : Margin f S A e c w j) (ws : Within f s S) (wa : Within f a A) (rb : Real f b)
    (reached : T (le a (add f s e))) (after : T (not (le b (add f s e)))) (apart : T (le c (sub f b a))) where
  total : Real f (add f s e) × (mag f (add f s e) ≤ 2 ^ j) × Near f (add f s e) (pl f s + pl f e) (mi f s + mi f e) 1 (2 ^ (j - prec f))
  total =
      let m = mag_is f s in
      let l = ws.le in
      let z = k.e_plus in
      let h = k.sum in
      is-near-le f (add f s e) (pl f s + pl f e) (mi f s + mi f e) 1 j (pow_pos 0) (add-Is f s e ws.value k.e_real) (omega arith) (omega arith) k.exponent

  from : Real f (sub f s a)
  from = (sub_within f s a S A ws wa k.total).value

  before : mi f (sub f s a) ≤ pl f w
  before =
      let h = not-far (pl f a) (mi f a) (pl f s) (mi f s) (pl f (add f s e)) (mi f (add f s e)) (pl f e) (mi f e) (pl f w) (2 ^ (j - prec f)) (le→units f a (add f s e) wa.value total.0 reached) total.2.above k.slack in
      let m = mag_is f w in
      let z = k.w_plus in
      let g : mi f s + pl f a - (pl f s + mi f a) ≤ mag f w = omega arith in
      let x = rnd-le f (mi f s + pl f a - (pl f s + mi f a)) (mag f w) 1 (pow_pos 0) g in
      let y = fixed f w k.w_real in
      let i = (sub-Is f s a ws.value wa.value).minus from.finite in
      omega arith

  by-gap : T (finite (sub f b a)) → Fraction f (div f (sub f s a) (sub f b a)) (pl f (div f w c))
  by-gap t =
      let rd : Real f (sub f b a) = record { finite = t; fits = sub-fits f b a } in
      let r = total.0 in
      let h = float_trans s (add f s e) b (add-grow-l f s e ws.value k.e_real k.e_plus r.finite) (nle→le f b (add f s e) rb r after) in
      let nd = (le→parts f (sub f s a) (sub f b a) from rd (sub-mono f s b a a ws.value rb wa.value wa.value h (le_refl f a wa.value) from.finite t)).0 in
      quotient f (sub f s a) (sub f b a) c w from rd k.c_real k.w_real k.w_plus k.c_above (le→parts f c (sub f b a) k.c_real rd apart).0 nd before k.quotient k.small

  pub fraction : Fraction f (div f (sub f s a) (sub f b a)) (pl f (div f w c))
  fraction = go (sub f b a) refl
    where
      go : (d : Float) → sub f b a ≡ d → Fraction f (div f (sub f s a) d) (pl f (div f w c))
      go nan q = absurd (no-le-nan c (subst (λ (x : Float). T (le c x)) q apart))
      go (inf i) q = over-inf f (sub f s a) i (pl f (div f w c)) from
      go (fin i m x) q = subst (λ (d : Float). Fraction f (div f (sub f s a) d) (pl f (div f w c))) q (by-gap (subst (λ (d : Float). T (finite d)) (sym q) tt))
