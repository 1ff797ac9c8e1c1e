-- The first and the third axis of any heading in the sine's range, any grade up to 1 and any bank up to 0.76: their squares sum to within 1/1000 of 1, and the third's numbers are at most 2.
-- One of the heading's sine and cosine is at least 0.68 in size, so the first vector is far from 0 and its length lies between 0.5 and 2. The third component of the cross product is the difference of two products of unlike sign, so nothing cancels:
-- it is at least 1/8. That takes the signs of sine and cosine apart, eight cases, each one computed test. No identity between sine and cosine is needed.
use mathlib.Core.Path.{◌≡◌, refl, sym, subst}
use mathlib.Core.Logic.{◌⊎◌, inl, inr}
use mathlib.Core.List.{List, [], ◌∷◌}
use mathlib.Core.Bool.{Bool, ◌&&◌}
use Prim.Native.Nat.{ℕ, ◌+◌, ◌-◌, ◌*◌, ◌^◌, ◌≤◌}
use native.Mathlib.Nat.{le_trans, le_of_eq}
use native.Mathlib.Omega.{arith}
use lib.Dec.{T, lit≤}
use lib.Ieee.{Float, binary64, low, le, neg, add, sub, mul, div, fits, of_bits}
use lib.Ieee.Fits.{and_l, and_r}
use Rattle.std.proofs.lemmas.Float.{le_trans as float_trans}
use Rattle.float_laws.specs.Binary64.{◌⊖◌, ◌⊗◌, ◌⊘◌, f64, zero64}
use Rattle.float_laws.proofs.Value.{mag, pl, mi, Real, mag_is, one_side, le→units, units→le, neg-real, neg-pl, neg-mi}
use Rattle.float_laws.proofs.Interval.{In, least, most, sq-low}
use Rattle.float_laws.proofs.Size.{Within, within-of_le, le_of-within, in-of-within}
use Rattle.float_laws.proofs.Checker.{Ex, var, plus, minus, times, over, square, opp, eval, Iv, iv, Inside, check, checked, good-real}
use Rattle.float_laws.proofs.UnitVector.{squares3, component-most}
use Rattle.arithmetic.specs.Root.{root_of}
use Rattle.arithmetic.proofs.RootLaws.{root-between}
use Rattle.arithmetic.proofs.UnitLaws.{unit-squares}
use Rattle.arithmetic_sine.specs.Sine.{sine_range, one, sine_of, cosine_of, sin_cos_of}
use Rattle.arithmetic_sine.proofs.SineKernel.{point-68, point-7, point-76}
use Rattle.arithmetic_laws.proofs.SineLaws.{Large, one-large, sine-within, cosine-within, small-sine-within, small-cosine-in}
use Rattle.surface_station.specs.declared.axis.Axis.{Axis}
use Rattle.surface_station.specs.Axes.{unit_of, cross_of, along_by, tilted_by, up_by}
use Rattle.surface_laws.specs.Squares.{UnitLong}
use Rattle.surface_laws.proofs.SquareSums.{unit-long}

-- ---- the constants

abbrev eighth : Float
eighth = f64 0x3fc0_0000_0000_0000

abbrev quarter : Float
quarter = f64 0x3fd0_0000_0000_0000

abbrev half : Float
half = f64 0x3fe0_0000_0000_0000

abbrev pub two : Float
two = f64 0x4000_0000_0000_0000

abbrev four : Float
four = f64 0x4010_0000_0000_0000

eighth-real : Real binary64 eighth
unfolding of_bits fits
eighth-real = good-real binary64 eighth tt

quarter-real : Real binary64 quarter
unfolding of_bits fits
quarter-real = good-real binary64 quarter tt

zero-real : Real binary64 zero64
unfolding of_bits fits
zero-real = good-real binary64 zero64 tt

two-real : Real binary64 two
unfolding of_bits fits
two-real = good-real binary64 two tt

four-real : Real binary64 four
unfolding of_bits fits
four-real = good-real binary64 four tt

point-68-real : Real binary64 point-68
unfolding of_bits fits
point-68-real = good-real binary64 point-68 tt

point-68-plus : mi binary64 point-68 ≡ 0
unfolding of_bits mi
point-68-plus = refl

zero-parts : (pl binary64 zero64 ≡ 0) × (mi binary64 zero64 ≡ 0)
unfolding of_bits pl mi
zero-parts = (refl, refl)

two-parts : (pl binary64 two ≡ 2 * 2 ^ low binary64) × (mi binary64 two ≡ 0)
unfolding of_bits pl mi
two-parts = (refl, refl)

quarter-plus : mi binary64 quarter ≡ 0
unfolding of_bits mi
quarter-plus = refl

eighth-plus : mi binary64 eighth ≡ 0
unfolding of_bits mi
eighth-plus = refl

-- sizes in units: 0.68 and 1/8 are at least 2^-4; 1 and 4 at most 2^4
large-size : 2 ^ (low binary64 - 4) ≤ pl binary64 point-68
unfolding of_bits pl
large-size = lit≤ tt

eighth-size : 2 ^ (low binary64 - 4) ≤ pl binary64 eighth
unfolding of_bits pl
eighth-size = lit≤ tt

one_size : pl binary64 one ≤ 2 ^ (low binary64 + 4)
unfolding of_bits pl
one_size = lit≤ tt

four-size : pl binary64 four ≤ 2 ^ (low binary64 + 4)
unfolding of_bits pl
four-size = lit≤ tt

-- ---- a value by its sign, of size 1 at most

sign-in : (x : Float) → Within binary64 x one → In binary64 zero64 one x ⊎ In binary64 (neg one) zero64 x
sign-in x w = elim (one_side binary64 x) [
  | inl z ↦ inr (record { low = neg-real binary64 one w.bound; high = zero-real; value = w.value; above = (le_of-within binary64 x one w).0; below = units→le binary64 x zero64 w.value zero-real (below (pl binary64 x) (mi binary64 x) (pl binary64 zero64) (mi binary64 zero64) z zero-parts.1) })
  | inr z ↦ inl (record { low = zero-real; high = w.bound; value = w.value; above = units→le binary64 zero64 x zero-real w.value (above (pl binary64 x) (mi binary64 x) (pl binary64 zero64) (mi binary64 zero64) z zero-parts.0); below = (le_of-within binary64 x one w).1 })
]
  where
    below : (p m o o' : ℕ) → p ≡ 0 → o' ≡ 0 → p + o' ≤ o + m
    below p m o o' z e = omega arith

    above : (p m o o' : ℕ) → m ≡ 0 → o ≡ 0 → o + m ≤ p + o'
    above p m o o' z e = omega arith

-- and of size 0.68 at least
large-in : (x : Float) → Within binary64 x one → Large x → In binary64 point-68 one x ⊎ In binary64 (neg one) (neg point-68) x
large-in x w l = elim (one_side binary64 x) [
  | inl z ↦ inr (record { low = neg-real binary64 one w.bound; high = neg-real binary64 point-68 point-68-real; value = w.value; above = (le_of-within binary64 x one w).0; below = units→le binary64 x (neg point-68) w.value (neg-real binary64 point-68 point-68-real) (below (pl binary64 x) (mi binary64 x) (mag binary64 x) (pl binary64 point-68) (mi binary64 point-68) (pl binary64 (neg point-68)) (mi binary64 (neg point-68)) z (mag_is binary64 x) l point-68-plus (neg-pl binary64 point-68 point-68-real) (neg-mi binary64 point-68 point-68-real)) })
  | inr z ↦ inl (record { low = point-68-real; high = w.bound; value = w.value; above = units→le binary64 point-68 x point-68-real w.value (above (pl binary64 x) (mi binary64 x) (mag binary64 x) (pl binary64 point-68) (mi binary64 point-68) z (mag_is binary64 x) l); below = (le_of-within binary64 x one w).1 })
]
  where
    below : (p m g a a' n n' : ℕ) → p ≡ 0 → g ≡ p + m → a ≤ g → a' ≡ 0 → n ≡ a' → n' ≡ a → p + n' ≤ n + m
    below p m g a a' n n' z e h k i j = omega arith

    above : (p m g a a' : ℕ) → m ≡ 0 → g ≡ p + m → a ≤ g → a + m ≤ p + a'
    above p m g a a' z e h = omega arith

-- ---- the computed tests. Variables: cosine and sine of the heading, then what is named

-- the sum of squares, with the grade
squares-term : Ex
squares-term = plus (plus (square (var 0)) (square (var 1))) (square (var 2))

-- the third component, with the length and the bank's cosine
third-term : Ex
third-term = minus (times (over (var 0) (var 2)) (times (var 0) (var 3))) (times (over (var 1) (var 2)) (times (opp (var 1)) (var 3)))

-- the first and the second, with the grade, the length, the bank's sine and its cosine
first-term : Ex
first-term = minus (times (over (var 1) (var 3)) (var 4)) (times (over (var 2) (var 3)) (times (var 0) (var 5)))

second-term : Ex
second-term = minus (times (over (var 2) (var 3)) (times (opp (var 1)) (var 5))) (times (over (var 0) (var 3)) (var 4))

-- cosine in a..b, sine in c..d
passes : Float → Float → Float → Float → Bool
passes a b c d =
    check binary64 (iv a b ∷ iv c d ∷ iv (neg one) one ∷ []) squares-term quarter four
    && check binary64 (iv a b ∷ iv c d ∷ iv half two ∷ iv point-7 one ∷ []) third-term eighth four

large-cosine : T (passes point-68 one zero64 one) × T (passes point-68 one (neg one) zero64) × T (passes (neg one) (neg point-68) zero64 one) × T (passes (neg one) (neg point-68) (neg one) zero64)
unfolding passes check squares-term third-term of_bits add sub mul div le neg fits least most sq-low
large-cosine = (tt, tt, tt, tt)

large-sine : T (passes zero64 one point-68 one) × T (passes (neg one) zero64 point-68 one) × T (passes zero64 one (neg one) (neg point-68)) × T (passes (neg one) zero64 (neg one) (neg point-68))
unfolding passes check squares-term third-term of_bits add sub mul div le neg fits least most sq-low
large-sine = (tt, tt, tt, tt)

abbrev crude : List Iv
crude = iv (neg one) one ∷ iv (neg one) one ∷ iv (neg one) one ∷ iv half two ∷ iv (neg point-7) point-7 ∷ iv point-7 one ∷ []

first_passes : T (check binary64 crude first-term (neg four) four)
unfolding check first-term of_bits add sub mul div le neg fits least most sq-low
first_passes = tt

second-passes : T (check binary64 crude second-term (neg four) four)
unfolding check second-term of_bits add sub mul div le neg fits least most sq-low
second-passes = tt

-- the root of 1/4 is 1/2, of 4 it is 2
roots : (root_of binary64 quarter ≡ half) × (root_of binary64 four ≡ two)
unfolding root_of of_bits
roots = (refl, refl)

-- ---- the length, and the components of the cross product

-- the length of (cosine, sine, grade)
abbrev length_by : Float → Float → Float → Float
length_by c s g = root_of binary64 (squares3 binary64 c s g)

abbrev third_by : Float → Float → Float → Float → Float
third_by c s n p = (c ⊘ n) ⊗ (c ⊗ p) ⊖ (s ⊘ n) ⊗ (neg s ⊗ p)

length-in : (x : Float) → In binary64 quarter four x → In binary64 half two (root_of binary64 x)
length-in x i =
    subst (λ (a : Float). In binary64 a two (root_of binary64 x)) roots.0
    (subst (λ (b : Float). In binary64 (root_of binary64 quarter) b (root_of binary64 x)) roots.1 (root-between binary64 quarter x four i.low i.value i.high quarter-plus i.above i.below))

record Parts (c s g p : Float) : Type 0 where
  length : In binary64 half two (length_by c s g)
  third : In binary64 eighth four (third_by c s (length_by c s g) p)

-- one of the eight cases
parts-by : (a b d e : Float) → T (passes a b d e) → (c s g p : Float) → In binary64 a b c → In binary64 d e s → Within binary64 g one → In binary64 point-7 one p → Parts c s g p
unfolding passes squares-term third-term eval
parts-by a b d e ok c s g p ic is wg ip =
    let first = check binary64 (iv a b ∷ iv d e ∷ iv (neg one) one ∷ []) squares-term quarter four in
    let second = check binary64 (iv a b ∷ iv d e ∷ iv half two ∷ iv point-7 one ∷ []) third-term eighth four in
    let sum = checked binary64 (iv a b ∷ iv d e ∷ iv (neg one) one ∷ []) (c ∷ s ∷ g ∷ []) squares-term quarter four quarter-real four-real (and_l first second ok) (ic, (is, (in-of-within binary64 g one wg, tt))) in
    let n = length-in (squares3 binary64 c s g) sum in
    record { length = n; third = checked binary64 (iv a b ∷ iv d e ∷ iv half two ∷ iv point-7 one ∷ []) (c ∷ s ∷ length_by c s g ∷ p ∷ []) third-term eighth four eighth-real four-real (and_r first second ok) (ic, (is, (n, (ip, tt)))) }

parts : (c s g p : Float) → Within binary64 c one → Within binary64 s one → Large s ⊎ Large c → Within binary64 g one → In binary64 point-7 one p → Parts c s g p
parts c s g p wc ws (inr l) wg ip = elim (large-in c wc l) [
  | inl i ↦ elim (sign-in s ws) [
    | inl j ↦ parts-by point-68 one zero64 one large-cosine.0 c s g p i j wg ip
    | inr j ↦ parts-by point-68 one (neg one) zero64 large-cosine.1 c s g p i j wg ip
  ]
  | inr i ↦ elim (sign-in s ws) [
    | inl j ↦ parts-by (neg one) (neg point-68) zero64 one large-cosine.2 c s g p i j wg ip
    | inr j ↦ parts-by (neg one) (neg point-68) (neg one) zero64 large-cosine.3 c s g p i j wg ip
  ]
]
parts c s g p wc ws (inl l) wg ip = elim (large-in s ws l) [
  | inl j ↦ elim (sign-in c wc) [
    | inl i ↦ parts-by zero64 one point-68 one large-sine.0 c s g p i j wg ip
    | inr i ↦ parts-by (neg one) zero64 point-68 one large-sine.1 c s g p i j wg ip
  ]
  | inr j ↦ elim (sign-in c wc) [
    | inl i ↦ parts-by zero64 one (neg one) (neg point-68) large-sine.2 c s g p i j wg ip
    | inr i ↦ parts-by (neg one) zero64 (neg one) (neg point-68) large-sine.3 c s g p i j wg ip
  ]
]

-- ---- a vector whose numbers are at most 2^4, one of them at least 2^-4, over its length

pub record Unit (v : Axis) : Type 0 where
  pub long : UnitLong v
  pub x : Within binary64 v.x two
  pub y : Within binary64 v.y two
  pub z : Within binary64 v.z two

component-two : (x : Float) (S : ℕ) → Real binary64 x → mag binary64 x * mag binary64 x ≤ S → 1000 * S ≤ 1001 * (2 ^ low binary64 * 2 ^ low binary64) → Within binary64 x two
component-two x S r h k =
    record { value = r; bound = two-real; plus = two-parts.1; le = le_trans (rough (mag binary64 x) (2 ^ low binary64) (component-most (mag binary64 x) (2 ^ low binary64) (scaled (mag binary64 x * mag binary64 x) S (2 ^ low binary64 * 2 ^ low binary64) h k))) (le_of_eq (sym two-parts.0)) }
  where
    scaled : (u S l : ℕ) → u ≤ S → 1000 * S ≤ 1001 * l → 1000 * u ≤ 1001 * l
    scaled u S l h k = omega arith

    rough : (u l : ℕ) → 1000 * u ≤ 1001 * l → u ≤ 2 * l
    rough u l h = omega arith

unit-is : (v : Axis) → Real binary64 v.x → Real binary64 v.y → Real binary64 v.z → mag binary64 v.x ≤ 2 ^ (low binary64 + 4) → mag binary64 v.y ≤ 2 ^ (low binary64 + 4) → mag binary64 v.z ≤ 2 ^ (low binary64 + 4)
    → (2 ^ (low binary64 - 4) ≤ mag binary64 v.x) ⊎ (2 ^ (low binary64 - 4) ≤ mag binary64 v.y) ⊎ (2 ^ (low binary64 - 4) ≤ mag binary64 v.z) → Unit (unit_of v)
unfolding unit_of
unit-is v rx ry rz hx hy hz big =
    let f = binary64 in
    let q = unit-squares f 4 (lit≤ tt) v.x v.y v.z rx ry rz hx hy hz big in
    let u = unit_of v in
    let X = mag f u.x * mag f u.x in
    let Y = mag f u.y * mag f u.y in
    let Z = mag f u.z * mag f u.z in
    record {
      long = unit-long f u q.0 q.1 q.2 q.3 q.4;
      x = component-two u.x (X + Y + Z) q.0 (first X Y Z) q.4;
      y = component-two u.y (X + Y + Z) q.1 (second X Y Z) q.4;
      z = component-two u.z (X + Y + Z) q.2 (third X Y Z) q.4;
    }
  where
    first : (a b c : ℕ) → a ≤ a + b + c
    first a b c = omega arith

    second : (a b c : ℕ) → b ≤ a + b + c
    second a b c = omega arith

    third : (a b c : ℕ) → c ≤ a + b + c
    third a b c = omega arith

-- ---- the laws

in_four : (x : Float) → In binary64 (neg four) four x → mag binary64 x ≤ 2 ^ (low binary64 + 4)
in_four x i = le_trans (within-of_le binary64 x four i.value four-real i.above i.below).le four-size

in-eighth : (x : Float) → In binary64 eighth four x → 2 ^ (low binary64 - 4) ≤ mag binary64 x
in-eighth x i = le_trans eighth-size (least-mag (pl binary64 eighth) (mi binary64 eighth) (pl binary64 x) (mi binary64 x) (mag binary64 x) eighth-plus (mag_is binary64 x) (le→units binary64 eighth x i.low i.value i.above))
  where
    least-mag : (a a' p m g : ℕ) → a' ≡ 0 → g ≡ p + m → a + m ≤ p + a' → a ≤ g
    least-mag a a' p m g z e h = omega arith

minus-four-eighth : T (le (neg four) eighth)
unfolding of_bits le neg
minus-four-eighth = tt

module _ (heading grade bank : Float) (wh : Within binary64 heading sine_range) (wg : Within binary64 grade one) (wb : Within binary64 bank point-76) where
  within-size : (x : Float) → Within binary64 x one → mag binary64 x ≤ 2 ^ (low binary64 + 4)
  within-size x w = le_trans w.le one_size

  -- along the reference line
  pub along-unit : Unit (along_by (sin_cos_of heading) grade)
  unfolding along_by
  along-unit =
      let wc = cosine-within heading wh in
      let ws = sine-within heading wh in
      unit-is (record { x = cosine_of heading; y = sine_of heading; z = grade }) wc.value ws.value wg.value (within-size (cosine_of heading) wc) (within-size (sine_of heading) ws) (within-size grade wg)
      (elim (one-large heading wh) [
        | inl l ↦ inr (inl (le_trans large-size l))
        | inr l ↦ inl (le_trans large-size l)
      ])

  its-parts : Parts (cosine_of heading) (sine_of heading) grade (cosine_of bank)
  its-parts = parts (cosine_of heading) (sine_of heading) grade (cosine_of bank) (cosine-within heading wh) (sine-within heading wh) (one-large heading wh) wg (small-cosine-in bank wb)

  -- square to it and to the banked cross section
  pub up-unit : Unit (up_by (sin_cos_of heading) grade (sin_cos_of bank))
  unfolding up_by cross_of along_by unit_of first-term second-term eval
  up-unit =
      let f = binary64 in
      let ρ = cosine_of heading ∷ sine_of heading ∷ grade ∷ length_by (cosine_of heading) (sine_of heading) grade ∷ sine_of bank ∷ cosine_of bank ∷ [] in
      let inside : Inside f crude ρ = (in-of-within f (cosine_of heading) one (cosine-within heading wh), (in-of-within f (sine_of heading) one (sine-within heading wh), (in-of-within f grade one wg, (its-parts.length, (in-of-within f (sine_of bank) point-7 (small-sine-within bank wb), (small-cosine-in bank wb, tt)))))) in
      let v = cross_of (along_by (sin_cos_of heading) grade) (tilted_by (sin_cos_of heading) (sin_cos_of bank)) in
      let ix = checked f crude ρ first-term (neg four) four (neg-real f four four-real) four-real first_passes inside in
      let iy = checked f crude ρ second-term (neg four) four (neg-real f four four-real) four-real second-passes inside in
      let iz = its-parts.third in
      unit-is v ix.value iy.value iz.value (in_four v.x ix) (in_four v.y iy)
      (in_four v.z (record { low = neg-real f four four-real; high = four-real; value = iz.value; above = float_trans (neg four) eighth v.z minus-four-eighth iz.above; below = iz.below }))
      (inr (inr (in-eighth v.z iz)))
