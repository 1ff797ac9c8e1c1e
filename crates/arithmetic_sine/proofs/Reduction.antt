-- Argument reduction: for |h| ≤ 120,000, t = h * I + 0.5 and n with n ≤ t ≤ n + 1 (the whole number below t is one), r = (h - n * P) - n * Q has |r| ≤ 0.8.
-- n and h go together, so no interval shows it. Each operation's error is a linear fact, with `unit` for the number 1, and `omega` joins them.
use mathlib.Core.Path.{◌≡◌, refl, sym, subst}
use mathlib.Core.Logic.{◌⊎◌, inl, inr}
use Prim.Native.Nat.{ℕ, ◌+◌, ◌*◌, ◌^◌, ◌≤◌, ◌<◌}
use native.Mathlib.Nat.{le_trans, le_of_eq, le_of_lt}
use native.Mathlib.Omega.{arith}
use mathlib.Core.Bool.{Bool, true, false, ◌&&◌}
use lib.Dec.{T, lit≤, lit<}
use lib.Pow.{pow_pos}
use lib.Ieee.{Float, binary64, le, add, sub, mul, neg, fits, of_bits}
use lib.Ieee.Fits.{and_l, and_r}
use lib.Ieee.Scale.{finite}
use Rattle.float_laws.proofs.Value.{mag, pl, mi, Real, neg-real, mag_is, one_side, le→units}
use Rattle.float_laws.proofs.Interval.{finite-between}
use Rattle.float_laws.proofs.Size.{Within, within-of_le, le_of-within, add-within, sub_within, mul-within}
use Rattle.float_laws.proofs.Checker.{good, good-real}
use Rattle.float_laws.proofs.Whole.{unit}
use Rattle.float_laws.proofs.Error.{Near, add-near, sub-near, Scaled, mul-const}
use Rattle.arithmetic_sine.specs.Sine.{sine_range, in_sine_range, I, P, Q, half, turn, turns, rest}
use Rattle.arithmetic_sine.specs.Floor.{below_reach}
use Rattle.arithmetic_sine.proofs.FloorLaws.{floor-below}

-- ---- on ℕ. L stands for 1, and E for 2 ^ -36; x is xp - xm; I = 5734161139222659 / 2 ^ 53 and P = 1686629713 / 2 ^ 30
-- |n - I h| ≤ 1/2 + E, from a ≈ I h, t ≈ a + 1/2 and n ≤ t ≤ n + 1
turn-lo : (hp hm ap' am tp tm np nm L E : ℕ)
    → (am * 9007199254740992 + hp * 5734161139222659) * 2 ≤ (ap' * 9007199254740992 + hm * 5734161139222659) * 2 + E * 9007199254740992
    → (tm + ap') * 2 + L ≤ (tp + am) * 2 + E
    → tp + nm ≤ np + tm + L
    → (nm * 9007199254740992 + hp * 5734161139222659) * 2 ≤ (np * 9007199254740992 + hm * 5734161139222659) * 2 + (L + 2 * E) * 9007199254740992
turn-lo hp hm ap' am tp tm np nm L E a t n = omega arith

turn-hi : (hp hm ap' am tp tm np nm L E : ℕ)
    → (ap' * 9007199254740992 + hm * 5734161139222659) * 2 ≤ (am * 9007199254740992 + hp * 5734161139222659) * 2 + E * 9007199254740992
    → (tp + am) * 2 ≤ (tm + ap') * 2 + L + E
    → np + tm ≤ tp + nm
    → (np * 9007199254740992 + hm * 5734161139222659) * 2 ≤ (nm * 9007199254740992 + hp * 5734161139222659) * 2 + (L + 2 * E) * 9007199254740992
turn-hi hp hm ap' am tp tm np nm L E a t n = omega arith

-- c ≈ h - b, b ≈ P n
rest-hi : (hp hm np nm bp bm cp cm L E F G : ℕ) → E * 68719476736 ≡ L → F ≡ E → G ≡ 2 * E → hp + hm ≤ 120000 * L
    → (nm * 9007199254740992 + hp * 5734161139222659) * 2 ≤ (np * 9007199254740992 + hm * 5734161139222659) * 2 + (L + 2 * E) * 9007199254740992
    → (bm * 1073741824 + np * 1686629713) * 2 ≤ (bp * 1073741824 + nm * 1686629713) * 2 + F * 1073741824
    → (cp * 1 + (hm + bp)) * 2 ≤ (cm * 1 + (hp + bm)) * 2 + G * 1
    → cp * 100 ≤ cm * 100 + 79 * L
rest-hi hp hm np nm bp bm cp cm L E F G e u v h n b c = omega arith

rest-lo : (hp hm np nm bp bm cp cm L E F G : ℕ) → E * 68719476736 ≡ L → F ≡ E → G ≡ 2 * E → hp + hm ≤ 120000 * L
    → (np * 9007199254740992 + hm * 5734161139222659) * 2 ≤ (nm * 9007199254740992 + hp * 5734161139222659) * 2 + (L + 2 * E) * 9007199254740992
    → (bp * 1073741824 + nm * 1686629713) * 2 ≤ (bm * 1073741824 + np * 1686629713) * 2 + F * 1073741824
    → (cm * 1 + (hp + bm)) * 2 ≤ (cp * 1 + (hm + bp)) * 2 + G * 1
    → cm * 100 ≤ cp * 100 + 79 * L
rest-lo hp hm np nm bp bm cp cm L E F G e u v h n b c = omega arith

-- ---- the constants. A closed number of units computes: `refl`
-- 120,000: how far the law goes
abbrev pub reach : Float
reach = of_bits binary64 0x40fd_4c00_0000_0000

abbrev most-n : Float
most-n = of_bits binary64 0x40f2_a6c0_0000_0000

abbrev most-c : Float
most-c = of_bits binary64 0x3fe9_47ae_147a_e148

abbrev pub point-8 : Float
point-8 = of_bits binary64 0x3fe9_9999_9999_999a

-- E in units, shut like `unit`: an atom to `omega`, and no number of 313 digits
unfoldable tiny : ℕ
tiny = 2 ^ 1038

real : (x : Float) → T (good binary64 x) → Real binary64 x
real x t = good-real binary64 x t

own : (x : Float) → T (good binary64 x) → mi binary64 x ≡ 0 → Within binary64 x x
own x t z = let g = mag_is binary64 x in record { value = real x t; bound = real x t; plus = z; le = omega arith }

inv-own : Within binary64 I I
unfolding of_bits fits mi
inv-own = own I tt refl

half-own : Within binary64 half half
unfolding of_bits fits mi
half-own = own half tt refl

hi-own : Within binary64 P P
unfolding of_bits fits mi
hi-own = own P tt refl

lo-own : Within binary64 Q Q
unfolding of_bits fits mi
lo-own = own Q tt refl

inv-is : pl binary64 I * 9007199254740992 ≡ 5734161139222659 * 2 ^ 1074
unfolding of_bits pl
inv-is = refl

hi-is : pl binary64 P * 1073741824 ≡ 1686629713 * 2 ^ 1074
unfolding of_bits pl
hi-is = refl

half_is : pl binary64 half * 2 ≡ unit
unfolding of_bits pl unit
half_is = refl

reach-is : pl binary64 reach ≡ 120000 * unit
unfolding of_bits pl unit
reach-is = refl

most-n-is : pl binary64 most-n ≡ 76396 * unit
unfolding of_bits pl unit
most-n-is = refl

most-c-is : 79 * unit ≤ pl binary64 most-c * 100
unfolding of_bits pl unit
most-c-is = lit≤ tt

tiny-is : tiny * 68719476736 ≡ unit
unfolding tiny unit
tiny-is = refl

unit-pos : 0 < unit
unfolding unit
unit-pos = pow_pos 1074

-- ---- the sizes
abbrev most-a : Float
most-a = mul binary64 reach I

abbrev most-t : Float
most-t = add binary64 most-a half

abbrev most-b : Float
most-b = mul binary64 most-n P

abbrev most-d : Float
most-d = mul binary64 most-n Q

a-fin : T (finite most-a)
unfolding mul of_bits
a-fin = tt

t-fin : T (finite most-t)
unfolding mul add of_bits
t-fin = tt

b-fin : T (finite most-b)
unfolding mul of_bits
b-fin = tt

d-fin : T (finite most-d)
unfolding mul of_bits
d-fin = tt

c-fin : T (finite (add binary64 reach most-b))
unfolding mul add of_bits
c-fin = tt

r-fin : T (finite (add binary64 most-c most-d))
unfolding mul add of_bits
r-fin = tt

t_size : pl binary64 most-t ≤ 76395 * unit
unfolding mul add of_bits pl unit
t_size = lit≤ tt

b-size : pl binary64 most-b ≤ 120003 * unit
unfolding mul add of_bits pl unit
b-size = lit≤ tt

r-size : pl binary64 (add binary64 most-c most-d) ≤ pl binary64 point-8
unfolding mul add of_bits pl
r-size = lit≤ tt

a-size : pl binary64 most-a ≤ 76395 * unit
unfolding mul of_bits pl unit
a-size = lit≤ tt

-- ---- the errors, in `unit` and `tiny`
a-below : (m U : ℕ) → 0 < U → m ≤ 120000 * U → m * 5734161139222659 < 131072 * U * 9007199254740992
a-below m U u h = omega arith

b-below : (m U : ℕ) → 0 < U → m ≤ 76396 * U → m * 1686629713 < 131072 * U * 1073741824
b-below m U u h = omega arith

a-near : (h : Float) → Within binary64 h reach → mag binary64 h ≤ 120000 * unit → T (finite (mul binary64 h I)) → Scaled binary64 (mul binary64 h I) h 5734161139222659 9007199254740992 tiny
unfolding unit tiny
a-near h w s t = mul-const binary64 h I 1091 5734161139222659 9007199254740992 w.value inv-own.value t inv-own.plus (lit< tt) inv-is (a-below (mag binary64 h) unit unit-pos s)

b-near : (n : Float) → Real binary64 n → mag binary64 n ≤ 76396 * unit → T (finite (mul binary64 n P)) → Scaled binary64 (mul binary64 n P) n 1686629713 1073741824 tiny
unfolding unit tiny
b-near n r s t = mul-const binary64 n P 1091 1686629713 1073741824 r hi-own.value t hi-own.plus (lit< tt) hi-is (b-below (mag binary64 n) unit unit-pos s)

t-near : (a : Float) → Real binary64 a → T (finite (add binary64 a half)) → mag binary64 a + mag binary64 half < 131072 * unit → Near binary64 (add binary64 a half) (pl binary64 a + pl binary64 half) (mi binary64 a + mi binary64 half) 1 tiny
unfolding unit tiny
t-near a r t s = add-near binary64 a half 1091 r half-own.value t s

c-near : (h b : Float) → Real binary64 h → Real binary64 b → T (finite (sub binary64 h b)) → pl binary64 h + mi binary64 b < 262144 * unit + (mi binary64 h + pl binary64 b) → mi binary64 h + pl binary64 b < 262144 * unit + (pl binary64 h + mi binary64 b)
    → Near binary64 (sub binary64 h b) (pl binary64 h + mi binary64 b) (mi binary64 h + pl binary64 b) 1 (2 * tiny)
unfolding unit tiny
c-near h b r q t s s' = sub-near binary64 h b 1092 r q t s s'

-- ---- joined: for any n with |n - I h| ≤ 1/2 + 2 ^ -36
a-within : (h : Float) → Within binary64 h reach → Within binary64 (mul binary64 h I) most-a
a-within h w = mul-within binary64 h I reach I w inv-own a-fin

a-scaled : (h : Float) → Within binary64 h reach → Scaled binary64 (mul binary64 h I) h 5734161139222659 9007199254740992 tiny
a-scaled h w = a-near h w (le_trans w.le (le_of_eq reach-is)) (a-within h w).value.finite

a-limit : (h : Float) → Within binary64 h reach → mag binary64 (mul binary64 h I) ≤ 76395 * unit
a-limit h w = le_trans (a-within h w).le a-size

reduced-core : (h n : Float) → Within binary64 h reach → Real binary64 n → mag binary64 n ≤ 76396 * unit
    → (mi binary64 n * 9007199254740992 + pl binary64 h * 5734161139222659) * 2 ≤ (pl binary64 n * 9007199254740992 + mi binary64 h * 5734161139222659) * 2 + (unit + 2 * tiny) * 9007199254740992
    → (pl binary64 n * 9007199254740992 + mi binary64 h * 5734161139222659) * 2 ≤ (mi binary64 n * 9007199254740992 + pl binary64 h * 5734161139222659) * 2 + (unit + 2 * tiny) * 9007199254740992
    → Within binary64 (rest h n) point-8
unfolding rest
reduced-core h n w rn sn lo hi =
    let f = binary64 in
    let b = mul f n P in
    let c = sub f h b in
    let u = unit-pos in
    let mh = mag_is f h in
    let sh : mag f h ≤ 120000 * unit = le_trans w.le (le_of_eq reach-is) in
    let wn : Within f n most-n = record { value = rn; bound = real most-n (unfold of_bits fits in tt); plus = unfold of_bits mi in refl; le = le_trans sn (le_of_eq (sym most-n-is)) } in
    let wb = mul-within f n P most-n P wn hi-own b-fin in
    let sb : mag f b ≤ 120003 * unit = le_trans wb.le b-size in
    let mb = mag_is f b in
    let wc = sub_within f h b reach most-b w wb c-fin in
    let mc = mag_is f c in
    let eb = b-near n rn sn wb.value.finite in
    let ec = c-near h b w.value wb.value wc.value.finite (small' (pl f h) (mi f h) (mag f h) (pl f b) (mi f b) (mag f b) unit u sh mh sb mb) (small'' (pl f h) (mi f h) (mag f h) (pl f b) (mi f b) (mag f b) unit u sh mh sb mb) in
    let sh' : pl f h + mi f h ≤ 120000 * unit = le_trans (le_of_eq (sym mh)) sh in
    let chi = rest-hi (pl f h) (mi f h) (pl f n) (mi f n) (pl f b) (mi f b) (pl f c) (mi f c) unit tiny tiny (2 * tiny) tiny-is refl refl sh' lo eb.below ec.above in
    let clo = rest-lo (pl f h) (mi f h) (pl f n) (mi f n) (pl f b) (mi f b) (pl f c) (mi f c) unit tiny tiny (2 * tiny) tiny-is refl refl sh' hi eb.above ec.below in
    let sc : mag f c ≤ pl f most-c = finish (pl f c) (mi f c) (mag f c) (pl f most-c) unit chi clo mc (one_side f c) most-c-is in
    let wc' : Within f c most-c = record { value = wc.value; bound = real most-c (unfold of_bits fits in tt); plus = unfold of_bits mi in refl; le = sc } in
    let wd = mul-within f n Q most-n Q wn lo-own d-fin in
    let wr = sub_within f c (mul f n Q) most-c most-d wc' wd r-fin in
    record { value = wr.value; bound = real point-8 (unfold of_bits fits in tt); plus = unfold of_bits mi in refl; le = le_trans wr.le r-size }
  where
    small' : (hp hm h bp bm b U : ℕ) → 0 < U → h ≤ 120000 * U → h ≡ hp + hm → b ≤ 120003 * U → b ≡ bp + bm → hp + bm < 262144 * U + (hm + bp)
    small' hp hm h bp bm b U u x y z w = omega arith

    small'' : (hp hm h bp bm b U : ℕ) → 0 < U → h ≤ 120000 * U → h ≡ hp + hm → b ≤ 120003 * U → b ≡ bp + bm → hm + bp < 262144 * U + (hp + bm)
    small'' hp hm h bp bm b U u x y z w = omega arith

    finish : (cp cm c k U : ℕ) → cp * 100 ≤ cm * 100 + 79 * U → cm * 100 ≤ cp * 100 + 79 * U → c ≡ cp + cm → (cp ≡ 0) ⊎ (cm ≡ 0) → 79 * U ≤ k * 100 → c ≤ k
    finish cp cm c k U x y e (inl z) h = omega arith
    finish cp cm c k U x y e (inr z) h = omega arith

t-limit : (h : Float) → Within binary64 h reach → Real binary64 (turn h) × (mag binary64 (turn h) ≤ 76395 * unit)
unfolding turn
t-limit h w = let wt = add-within binary64 (mul binary64 h I) half most-a half (a-within h w) half-own t-fin in (wt.value, le_trans wt.le t_size)

-- ---- n with n ≤ t ≤ n + 1 for t = h * I + 0.5: the reduced angle is at most 0.8 either way
pub reduced : (h n : Float) → Within binary64 h reach → Real binary64 n → T (le n (turn h)) → pl binary64 (turn h) + mi binary64 n ≤ pl binary64 n + mi binary64 (turn h) + unit → Within binary64 (rest h n) point-8
unfolding turn
reduced h n w rn ln un =
    let f = binary64 in
    let a = mul f h I in
    let t = add f a half in
    let u = unit-pos in
    let wa = a-within h w in
    let wt = add-within f a half most-a half wa half-own t-fin in
    let sa = a-limit h w in
    let st : mag f t ≤ 76395 * unit = le_trans wt.le t_size in
    let mt = mag_is f t in
    let mn = mag_is f n in
    let mf = mag_is f half in
    let zf = half-own.plus in
    let hf = half_is in
    let l1 = le→units f n t rn wt.value ln in
    let sn : mag f n ≤ 76396 * unit = elim (one_side f n) [ inl z ↦ omega arith | inr z ↦ omega arith ] in
    let ea = a-scaled h w in
    let et = t-near a wa.value wt.value.finite (small (mag f a) (mag f half) (pl f half) (mi f half) unit u sa mf zf hf) in
    let tlo = half-lo (pl f t) (mi f t) (pl f a) (mi f a) (pl f half) (mi f half) unit tiny hf zf et.below in
    let thi = half-hi (pl f t) (mi f t) (pl f a) (mi f a) (pl f half) (mi f half) unit tiny hf zf et.above in
    reduced-core h n w rn sn
    (turn-lo (pl f h) (mi f h) (pl f a) (mi f a) (pl f t) (mi f t) (pl f n) (mi f n) unit tiny ea.below tlo un)
    (turn-hi (pl f h) (mi f h) (pl f a) (mi f a) (pl f t) (mi f t) (pl f n) (mi f n) unit tiny ea.above thi l1)
  where
    small : (a k p m U : ℕ) → 0 < U → a ≤ 76395 * U → k ≡ p + m → m ≡ 0 → p * 2 ≡ U → a + k < 131072 * U
    small a k p m U u h e z d = omega arith

    half-lo : (tp tm ap' am fp fm U E : ℕ) → fp * 2 ≡ U → fm ≡ 0 → (tm * 1 + (ap' + fp)) * 2 ≤ (tp * 1 + (am + fm)) * 2 + E * 1 → (tm + ap') * 2 + U ≤ (tp + am) * 2 + E
    half-lo tp tm ap' am fp fm U E x y h = omega arith

    half-hi : (tp tm ap' am fp fm U E : ℕ) → fp * 2 ≡ U → fm ≡ 0 → (tp * 1 + (am + fm)) * 2 ≤ (tm * 1 + (ap' + fp)) * 2 + E * 1 → (tp + am) * 2 ≤ (tm + ap') * 2 + U + E
    half-hi tp tm ap' am fp fm U E x y h = omega arith

-- ---- the range of the definition
range-real : Real binary64 sine_range
unfolding of_bits fits
range-real = real sine_range tt

range_size : pl binary64 sine_range ≤ pl binary64 reach
unfolding of_bits pl
range_size = lit≤ tt

-- the range lies within 120,000
pub in_reach : (h : Float) → Within binary64 h sine_range → Within binary64 h reach
unfolding of_bits fits mi
in_reach h w = record { value = w.value; bound = real reach tt; plus = refl; le = le_trans w.le range_size }

-- so the reduced angle of the definition, whose n is the floor of t
pub rest-within : (h : Float) → Within binary64 h reach → Within binary64 (rest h (turns h)) point-8
unfolding unit turns
rest-within h w =
    let o = floor-below binary64 (turn h) (t-limit h w).0 in
    reduced h (turns h) w o.whole.value o.below (le_of_lt o.above)

-- the test of the definition and the bound are one
pub range-within : (h : Float) → T (fits binary64 h) → in_sine_range h ≡ true → Within binary64 h sine_range
unfolding in_sine_range
range-within h k e =
    let t = subst T (sym e) tt in
    let l = and_l (le (neg sine_range) h) (le h sine_range) t in
    let u = and_r (le (neg sine_range) h) (le h sine_range) t in
    within-of_le binary64 h sine_range (record { finite = finite-between (neg sine_range) h sine_range (neg-real binary64 sine_range range-real).finite range-real.finite l u; fits = k }) range-real l u

pub within-range : (h : Float) → Within binary64 h sine_range → in_sine_range h ≡ true
unfolding in_sine_range
within-range h w = let g = le_of-within binary64 h sine_range w in is_true (le (neg sine_range) h) (le h sine_range) g.0 g.1
  where
    is_true : (a b : Bool) → T a → T b → ◌≡◌ {A = Bool} (a && b) true
    is_true true true s t = refl
    is_true true false s t = absurd t
    is_true false b s t = absurd s

-- ---- t lies within 2 ^ 50, as the floor with its quarter asks
wholes-size : 76395 * unit ≤ pl binary64 below_reach
unfolding of_bits pl unit
wholes-size = lit≤ tt

pub turn-whole : (h : Float) → Within binary64 h reach → T (le (neg below_reach) (turn h)) × T (le (turn h) below_reach)
unfolding of_bits fits mi
turn-whole h w = let t = t-limit h w in le_of-within binary64 (turn h) below_reach (record { value = t.0; bound = real below_reach tt; plus = refl; le = le_trans t.1 wholes-size })
