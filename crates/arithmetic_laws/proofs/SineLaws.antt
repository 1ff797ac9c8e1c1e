-- What upper layers need of sine, cosine and tangent: sizes for every angle in the range, and for an angle of at most 0.76, where nothing is turned, a cosine of at least 0.7 and a tangent of at most 1.
-- The angle is reduced to 0.8 at most, the kernels are bounded there, and the quarter only chooses among them and their negatives.
use mathlib.Core.Path.{◌≡◌, refl, sym, ap, ◌∙◌, subst}
use mathlib.Core.Logic.{◌⊎◌, inl, inr}
use mathlib.Core.List.{[], ◌∷◌}
use Prim.Native.Nat.{ℕ, ◌+◌, ◌≤◌, ◌<◌}
use native.Mathlib.Nat.{le_trans, le_of_eq}
use native.Mathlib.Omega.{arith}
use mathlib.Core.Bool.{Bool, true, false, cond}
use lib.Dec.{T, eqb, lit≤, lit<}
use lib.IntN.{pos}
use lib.Ieee.{Float, fin, binary64, le, neg, add, sub, mul, div, fits, of_bits}
use lib.Ieee.Scale.{finite}
use Rattle.float_laws.proofs.Value.{mag, pl, mi, mag_is, one_side, le→units, units→le, sign-plus}
use Rattle.float_laws.proofs.Interval.{In, least, most, sq-low}
use Rattle.float_laws.proofs.Size.{Within, in-of-within, neg-mag, neg-within, within-trans}
use Rattle.float_laws.proofs.Order.{div-within}
use Rattle.float_laws.proofs.Checker.{Ex, var, con, plus, times, eval, iv, check, checked, good-real}
use Rattle.float_laws.proofs.Zero.{sub-zero}
use Rattle.float_laws.proofs.Whole.{Whole, unit}
use Rattle.arithmetic_sine.specs.Floor.{floor_of, quarter_of}
use Rattle.arithmetic_sine.specs.Sine.{sine_range, I, half, one, turn, turns, rest, in_sine_range, sine_kernel, cosine_kernel, sine_by, cosine_by, sine_of, cosine_of, tan_of}
use Rattle.arithmetic_sine.proofs.FloorLaws.{floor-unique}
use Rattle.arithmetic_sine.proofs.Reduction.{in_reach, within-range, rest-within}
use Rattle.arithmetic_sine.proofs.SineKernel.{point-75, point-68, point-76, point-7, sine-size, cosine-size, sine-size-near, cosine-size-near}

-- ---- the definitions in the range
sine-is : (h : Float) → in_sine_range h ≡ true → sine_of h ≡ sine_by (quarter_of (turns h)) (sine_kernel (rest h (turns h))) (cosine_kernel (rest h (turns h)))
unfolding sine_of
sine-is h e = rw e

cosine-is : (h : Float) → in_sine_range h ≡ true → cosine_of h ≡ cosine_by (quarter_of (turns h)) (sine_kernel (rest h (turns h))) (cosine_kernel (rest h (turns h)))
unfolding cosine_of
cosine-is h e = rw e

-- ---- what holds of all that the quarter can choose holds of the choice
module _ (G : Float → Type 0) (s c : Float) (gs : G s) (gc : G c) (ns : G (neg s)) (nc : G (neg c)) where
  four : (a b d : Bool) (w x y z : Float) → G w → G x → G y → G z → G (cond a w (cond b x (cond d y z)))
  four true b d w x y z gw gx gy gz = gw
  four false true d w x y z gw gx gy gz = gx
  four false false true w x y z gw gx gy gz = gy
  four false false false w x y z gw gx gy gz = gz

  sine-chosen : (k : ℕ) → G (sine_by k s c)
  unfolding sine_by
  sine-chosen k = four (eqb k 0) (eqb k 1) (eqb k 2) s c (neg s) (neg c) gs gc ns nc

  cosine-chosen : (k : ℕ) → G (cosine_by k s c)
  unfolding cosine_by
  cosine-chosen k = four (eqb k 0) (eqb k 1) (eqb k 2) c (neg s) (neg c) s gc ns nc gs

-- ---- sizes, for |h| up to the range
point-75-one : Within binary64 point-75 one
unfolding of_bits fits mi mag pl
point-75-one = record { value = good-real binary64 point-75 tt; bound = good-real binary64 one tt; plus = refl; le = lit≤ tt }

point-68-plus : mi binary64 point-68 ≡ 0
unfolding of_bits mi
point-68-plus = refl

one-plus : mi binary64 one ≡ 0
unfolding of_bits mi
one-plus = refl

-- an interval above zero bounds the size from both sides
in_size : (lo x : Float) → mi binary64 lo ≡ 0 → In binary64 lo one x → Within binary64 x one × (pl binary64 lo ≤ mag binary64 x)
in_size lo x z i =
    let f = binary64 in
    let a = le→units f lo x i.low i.value i.above in
    let b = le→units f x one i.value i.high i.below in
    let o = one-plus in
    let g = mag_is f x in
    (record { value = i.value; bound = i.high; plus = o; le = sizes (pl f lo) (mi f lo) (pl f x) (mi f x) (mag f x) (pl f one) (mi f one) z o g (one_side f x) a b }, omega arith)
  where
    sizes : (l l' p m g o o' : ℕ) → l' ≡ 0 → o' ≡ 0 → g ≡ p + m → (p ≡ 0) ⊎ (m ≡ 0) → l + m ≤ p + l' → p + o' ≤ o + m → g ≤ o
    sizes l l' p m g o o' z w e (inl y) a b = omega arith
    sizes l l' p m g o o' z w e (inr y) a b = omega arith

-- what the two kernels give at the reduced angle
record Kernels (h : Float) : Type 0 where
  sine : Within binary64 (sine_kernel (rest h (turns h))) one
  cosine : Within binary64 (cosine_kernel (rest h (turns h))) one
  large : pl binary64 point-68 ≤ mag binary64 (cosine_kernel (rest h (turns h)))

kernels : (h : Float) → Within binary64 h sine_range → Kernels h
kernels h w =
    let r = rest-within h (in_reach h w) in
    let c = in_size point-68 (cosine_kernel (rest h (turns h))) point-68-plus (cosine-size (rest h (turns h)) r) in
    record { sine = within-trans binary64 (sine_kernel (rest h (turns h))) point-75 one (sine-size (rest h (turns h)) r) point-75-one; cosine = c.0; large = c.1 }

-- |sine| ≤ 1 and |cosine| ≤ 1, both finite
pub sine-within : (h : Float) → Within binary64 h sine_range → Within binary64 (sine_of h) one
sine-within h w =
    let k = kernels h w in
    let s = sine_kernel (rest h (turns h)) in
    let c = cosine_kernel (rest h (turns h)) in
    subst (λ (x : Float). Within binary64 x one) (sym (sine-is h (within-range h w))) (sine-chosen (λ (x : Float). Within binary64 x one) s c k.sine k.cosine (neg-within binary64 s one k.sine) (neg-within binary64 c one k.cosine) (quarter_of (turns h)))

pub cosine-within : (h : Float) → Within binary64 h sine_range → Within binary64 (cosine_of h) one
cosine-within h w =
    let k = kernels h w in
    let s = sine_kernel (rest h (turns h)) in
    let c = cosine_kernel (rest h (turns h)) in
    subst (λ (x : Float). Within binary64 x one) (sym (cosine-is h (within-range h w))) (cosine-chosen (λ (x : Float). Within binary64 x one) s c k.sine k.cosine (neg-within binary64 s one k.sine) (neg-within binary64 c one k.cosine) (quarter_of (turns h)))

-- one of the two has a size of at least 0.68
abbrev pub Large : Float → Type 0
Large x = pl binary64 point-68 ≤ mag binary64 x

pub one-large : (h : Float) → Within binary64 h sine_range → Large (sine_of h) ⊎ Large (cosine_of h)
unfolding sine_by cosine_by
one-large h w =
    let k = kernels h w in
    let s = sine_kernel (rest h (turns h)) in
    let c = cosine_kernel (rest h (turns h)) in
    let q = quarter_of (turns h) in
    let n : Large (neg c) = le_trans k.large (le_of_eq (sym (neg-mag binary64 c k.cosine.value))) in
    elim (choice (eqb q 0) (eqb q 1) (eqb q 2) s c k.large n) [
      | inl g ↦ inl (subst Large (sym (sine-is h (within-range h w))) g)
      | inr g ↦ inr (subst Large (sym (cosine-is h (within-range h w))) g)
    ]
  where
    choice : (a b d : Bool) (s c : Float) → Large c → Large (neg c) → Large (cond a s (cond b c (cond d (neg s) (neg c)))) ⊎ Large (cond a c (cond b (neg s) (cond d (neg c) s)))
    choice true b d s c g n = inr g
    choice false true d s c g n = inl g
    choice false false true s c g n = inr n
    choice false false false s c g n = inl n

-- ---- |p| ≤ 0.76: h * I + 0.5 lies between 0 and 1, so nothing is turned
turn-term : Ex
turn-term = plus (times (var 0) (con I)) (con half)

abbrev least-turn : Float
least-turn = of_bits binary64 0x3f80_0000_0000_0000

abbrev most-turn : Float
most-turn = of_bits binary64 0x3fef_c000_0000_0000

turn-passes : T (check binary64 (iv (neg point-76) point-76 ∷ []) turn-term least-turn most-turn)
unfolding check turn-term of_bits add sub mul div le neg fits least most sq-low
turn-passes = tt

turn_in : (p : Float) → Within binary64 p point-76 → In binary64 least-turn most-turn (turn p)
unfolding turn turn-term eval of_bits fits
turn_in p w = checked binary64 (iv (neg point-76) point-76 ∷ []) (p ∷ []) turn-term least-turn most-turn (good-real binary64 least-turn tt) (good-real binary64 most-turn tt) turn-passes (in-of-within binary64 p point-76 w, tt)

least-plus : (0 < pl binary64 least-turn) × (mi binary64 least-turn ≡ 0)
unfolding of_bits pl mi
least-plus = (lit< tt, refl)

most-less : (pl binary64 most-turn < unit) × (mi binary64 most-turn ≡ 0)
unfolding of_bits pl mi unit
most-less = (lit< tt, refl)

zero-whole : Whole binary64 (fin false 0 (pos 0)) 0 0
unfolding pl mi fits
zero-whole = record { value = record { finite = tt; fits = tt }; plus = refl; minus = refl }

zero-parts : (pl binary64 (fin false 0 (pos 0)) ≡ 0) × (mi binary64 (fin false 0 (pos 0)) ≡ 0)
unfolding pl mi
zero-parts = (refl, refl)

floor-none : (x : Float) → In binary64 least-turn most-turn x → fin false 0 (pos 0) ≡ floor_of binary64 x
unfolding unit
floor-none x i =
    let f = binary64 in
    let a = le→units f least-turn x i.low i.value i.above in
    let b = le→units f x most-turn i.value i.high i.below in
    let z = zero-parts in
    let p : 0 < pl f x = positive (pl f least-turn) (mi f least-turn) (pl f x) (mi f x) least-plus.0 least-plus.1 a in
    floor-unique f x (fin false 0 (pos 0)) 0 0 i.value zero-whole (units→le f (fin false 0 (pos 0)) x zero-whole.value i.value (under-x (pl f (fin false 0 (pos 0))) (mi f (fin false 0 (pos 0))) (pl f least-turn) (mi f least-turn) (pl f x) (mi f x) z.0 z.1 least-plus.1 a))
    (over-x (pl f (fin false 0 (pos 0))) (mi f (fin false 0 (pos 0))) (pl f most-turn) (mi f most-turn) (pl f x) (mi f x) unit z.1 most-less.0 most-less.1 b) (λ e. sym (sign-plus f x p))
  where
    positive : (l l' p m : ℕ) → 0 < l → l' ≡ 0 → l + m ≤ p + l' → 0 < p
    positive l l' p m h z a = omega arith

    under-x : (o o' l l' p m : ℕ) → o ≡ 0 → o' ≡ 0 → l' ≡ 0 → l + m ≤ p + l' → o + m ≤ p + o'
    under-x o o' l l' p m h k z a = omega arith

    over-x : (o o' l l' p m U : ℕ) → o' ≡ 0 → l < U → l' ≡ 0 → p + l' ≤ l + m → p + o' < o + m + U
    over-x o o' l l' p m U k h z a = omega arith

pub small-turns : (p : Float) → Within binary64 p point-76 → turns p ≡ fin false 0 (pos 0)
unfolding turns
small-turns p w = sym (floor-none (turn p) (turn_in p w))

-- the reduced angle is the angle itself, a zero's sign too
pub small-rest : (p : Float) → Within binary64 p point-76 → rest p (turns p) ≡ p
unfolding rest mul of_bits
small-rest p w = ap (rest p) (small-turns p w) ∙ ap (λ (x : Float). sub binary64 x (fin false 0 (pos 0))) (sub-zero binary64 p w.value) ∙ sub-zero binary64 p w.value

point-76-range : Within binary64 point-76 sine_range
unfolding of_bits fits mi mag pl
point-76-range = record { value = good-real binary64 point-76 tt; bound = good-real binary64 sine_range tt; plus = refl; le = lit≤ tt }

small-in : (p : Float) → Within binary64 p point-76 → Within binary64 p sine_range
small-in p w = within-trans binary64 p point-76 sine_range w point-76-range

pub small-sine : (p : Float) → Within binary64 p point-76 → sine_of p ≡ sine_kernel p
unfolding quarter_of sine_by
small-sine p w =
    sine-is p (within-range p (small-in p w)) ∙ ap (λ (n : Float). sine_by (quarter_of n) (sine_kernel (rest p (turns p))) (cosine_kernel (rest p (turns p)))) (small-turns p w) ∙ ap sine_kernel (small-rest p w)

pub small-cosine : (p : Float) → Within binary64 p point-76 → cosine_of p ≡ cosine_kernel p
unfolding quarter_of cosine_by
small-cosine p w =
    cosine-is p (within-range p (small-in p w)) ∙ ap (λ (n : Float). cosine_by (quarter_of n) (sine_kernel (rest p (turns p))) (cosine_kernel (rest p (turns p)))) (small-turns p w) ∙ ap cosine_kernel (small-rest p w)

pub small-sine-within : (p : Float) → Within binary64 p point-76 → Within binary64 (sine_of p) point-7
small-sine-within p w = subst (λ (x : Float). Within binary64 x point-7) (sym (small-sine p w)) (sine-size-near p w)

pub small-cosine-in : (p : Float) → Within binary64 p point-76 → In binary64 point-7 one (cosine_of p)
small-cosine-in p w = subst (λ (x : Float). In binary64 point-7 one x) (sym (small-cosine p w)) (cosine-size-near p w)

point-7-plus : (0 < pl binary64 point-7) × (mi binary64 point-7 ≡ 0)
unfolding of_bits pl mi
point-7-plus = (lit< tt, refl)

ratio : div binary64 point-7 point-7 ≡ one
unfolding div of_bits
ratio = refl

one-finite : T (finite (div binary64 point-7 point-7))
unfolding div of_bits
one-finite = tt

-- |tangent| ≤ 1, finite
pub tan-within : (p : Float) → Within binary64 p point-76 → Within binary64 (tan_of p) one
unfolding tan_of
tan-within p w =
    let i = small-cosine-in p w in
    subst (λ (b : Float). Within binary64 (div binary64 (sine_of p) (cosine_of p)) b) ratio
    (div-within binary64 (sine_of p) (cosine_of p) point-7 point-7 (small-sine-within p w) i.value i.low point-7-plus.0 (in_size point-7 (cosine_of p) point-7-plus.1 i).1 one-finite)
