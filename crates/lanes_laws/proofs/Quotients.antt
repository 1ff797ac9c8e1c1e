-- Quotients as the fraction across a lane has them, over the format: by what is not zero a quotient is a number, if perhaps an infinity, and of two numbers of one sign, the smaller by the larger, it lies in 0..1.
-- The first by the cases of division; the second since 1 is a value of the format and rounding does not go past it.
use mathlib.Core.Path.{◌≡◌, sym, ap, ◌∙◌, subst}
use Prim.Native.Nat.{ℕ, zero, suc, ◌+◌, ◌-◌, ◌*◌, ◌/◌, ◌^◌, ◌≤◌, ◌<◌}
use native.Mathlib.Nat.{le_trans, le_of_eq, mul-le-mul_right, mul_comm, zero-mul, zero-div}
use native.Mathlib.Omega.{arith}
use mathlib.Core.Bool.{Bool, true, false, not, cond}
use lib.Dec.{T, ltb, eqb, eqb→eq}
use lib.Pow.{pow_pos, pow-lt}
use lib.Ieee.{Float, nan, inf, fin, Format, prec, emax, low, up, down, unlike, odd, units, round, le, sub, div, is_nan}
use lib.Ieee.Order.{drop, kept}
use lib.Ieee.Fits.{round_is}
use lib.Ieee.Scale.{finite, overflow}
use Rattle.float_laws.proofs.Units.{rnd, rnd-zero, rnd-pow}
use Rattle.float_laws.proofs.Value.{mag, pl, mi, Real, mag_is, pl-le, le_refl, le→units, sign-minus}
use Rattle.float_laws.proofs.Operation.{Is, sub-Is, div-Is}
use Rattle.float_laws.proofs.Interval.{le→parts, div-Is'}
use Rattle.float_laws.proofs.Size.{is-bounded}
use Rattle.float_laws.proofs.Order.{sub-mono}
use Rattle.lanes_laws.proofs.Fractions.{Fraction}

-- ---- a number

round_number : (f : Format) (s : Bool) (a c : ℕ) → T (not (is_nan (round f s a c)))
unfolding units odd is_nan
round_number f s a c = subst (λ (z : Float). T (not (is_nan z))) (sym (round_is f s a c)) (go (ltb (kept (prec f) (a * 2 ^ low f) c * 2 ^ drop (prec f) (a * 2 ^ low f) c) (overflow f)) (kept (prec f) (a * 2 ^ low f) c) (drop (prec f) (a * 2 ^ low f) c))
  where
    go : (b : Bool) (q k : ℕ) → T (not (is_nan (cond b (odd (suc (prec f)) s q k (low f)) (inf s))))
    go true zero k = tt
    go true (suc q) k = tt
    go false q k = tt

pub div-number : (f : Format) (x y : Float) → Real f x → Real f y → 0 < mag f y → T (not (is_nan (div f x y)))
unfolding div mag
div-number f nan y r q h = absurd r.finite
div-number f (inf s) y r q h = absurd r.finite
div-number f (fin s m e) nan r q h = absurd q.finite
div-number f (fin s m e) (inf t) r q h = absurd q.finite
div-number f (fin s m e) (fin t n d) r q h = go (eqb n 0) (eqb→eq n 0)
  where
    none : n ≡ 0 → n * up d * 2 ^ low f / down d ≡ 0
    none z = ap (λ (k : ℕ). k * up d * 2 ^ low f / down d) z ∙ ap (λ (k : ℕ). k * 2 ^ low f / down d) (zero-mul (up d)) ∙ ap (λ (k : ℕ). k / down d) (zero-mul (2 ^ low f)) ∙ zero-div (down d)

    go : (b : Bool) → (T b → n ≡ 0) → T (not (is_nan (cond b (cond (eqb m 0) nan (inf (unlike s t))) (round f (unlike s t) (m * up e * down d) (n * up d * down e)))))
    go true z = absurd (let g = none (z tt) in omega arith)
    go false z = round_number f (unlike s t) (m * up e * down d) (n * up d * down e)

-- ---- in 0..1

-- P / D with P at most D, rounded
share : (f : Format) (z : Float) (P N D : ℕ) → 0 < D → Is f z (P * 2 ^ low f) (N * 2 ^ low f) D → N ≡ 0 → P ≤ D → Fraction f z 0
share f z P N D h i e l =
    let L = 2 ^ low f in
    let g = rnd-pow f D (low f) h in
    let o : N * L ≡ 0 = ap (λ (k : ℕ). k * L) e ∙ zero-mul L in
    let p : P * L ≤ L * D = le_trans (mul-le-mul_right L l) (le_of_eq (mul_comm D L)) in
    let b = is-bounded f z (P * L) (N * L) D (L * D) h i (omega arith) (omega arith) (subst (λ (k : ℕ). k < overflow f) (sym g) (pow-lt (room (low f) (emax f)))) in
    let none : N * L - P * L ≡ 0 = omega arith in
    record {
      value = b.0;
      below = le_of_eq (i.minus b.0.finite ∙ ap (λ (k : ℕ). rnd f k D) none ∙ rnd-zero f D h);
      above = le_trans (pl-le f z) (le_trans b.1 (le_of_eq g));
    }
  where
    room : (l e : ℕ) → l < l + suc e
    room l e = omega arith

-- a difference x - y with x not below y has no minus part; with x not above y no plus part
module _ (f : Format) (x y : Float) (rx : Real f x) (ry : Real f y) (t : T (finite (sub f x y))) where
  not-minus : T (le y x) → mi f (sub f x y) ≡ 0
  not-minus h =
      let u = le→units f y x ry rx h in
      let o : mi f x + pl f y - (pl f x + mi f y) ≡ 0 = omega arith in
      (sub-Is f x y rx ry).minus t ∙ ap (λ (k : ℕ). rnd f k 1) o ∙ rnd-zero f 1 (pow_pos 0)

  not-plus : T (le x y) → pl f (sub f x y) ≡ 0
  not-plus h =
      let u = le→units f x y rx ry h in
      let o : pl f x + mi f y - (mi f x + pl f y) ≡ 0 = omega arith in
      (sub-Is f x y rx ry).plus t ∙ ap (λ (k : ℕ). rnd f k 1) o ∙ rnd-zero f 1 (pow_pos 0)

-- t between a and b, either being the smaller, and b - a not zero: (t - a) / (b - a)
module _ (f : Format) (a b t : Float) (ra : Real f a) (rb : Real f b) (rt : Real f t) (n : Real f (sub f t a)) (d : Real f (sub f b a)) (h : 0 < mag f (sub f b a)) where
  pub rising : T (le a t) → T (le t b) → Fraction f (div f (sub f t a) (sub f b a)) 0
  rising p q =
      let m = mag_is f (sub f b a) in
      let x = le→parts f (sub f t a) (sub f b a) n d (sub-mono f t b a a rt rb ra ra q (le_refl f a ra) n.finite d.finite) in
      let z = not-minus f t a rt ra n.finite p in
      let x1 = x.1 in
      let g : 0 < pl f (sub f b a) = omega arith in
      share f (div f (sub f t a) (sub f b a)) (pl f (sub f t a)) (mi f (sub f t a)) (pl f (sub f b a)) g (div-Is' f (sub f t a) (sub f b a) n d g) z x.0

  pub falling : T (le b t) → T (le t a) → Fraction f (div f (sub f t a) (sub f b a)) 0
  falling p q =
      let m = mag_is f (sub f b a) in
      let x = le→parts f (sub f b a) (sub f t a) d n (sub-mono f b t a a rb rt ra ra p (le_refl f a ra) d.finite n.finite) in
      let z = not-plus f t a rt ra n.finite q in
      let x0 = x.0 in
      let g : 0 < mi f (sub f b a) = omega arith in
      let w : mi f (sub f b a) ≡ mag f (sub f b a) = omega arith in
      let s = sign-minus f (sub f b a) g in
      let L = 2 ^ low f in
      let i = subst (λ (c : Bool). Is f (div f (sub f t a) (sub f b a)) (cond c (mi f (sub f t a)) (pl f (sub f t a)) * L) (cond c (pl f (sub f t a)) (mi f (sub f t a)) * L) (mag f (sub f b a))) s (div-Is f (sub f t a) (sub f b a) n d h) in
      share f (div f (sub f t a) (sub f b a)) (mi f (sub f t a)) (pl f (sub f t a)) (mag f (sub f b a)) h i z (le_trans x.1 (le_of_eq w))
