-- The station so far along a segment, from the station a at its start to b at its end: never falling as the fraction grows (`on-rise`), from a on (`on_from`), and past b by two roundings at most, each half a unit in the last place of a number below 2^15 m (`on-to`).
use Prim.Native.Nat.{ℕ, ◌+◌, ◌-◌, ◌*◌, ◌^◌, ◌≤◌, ◌<◌}
use native.Mathlib.Nat.{lt_of_le_of_lt, mul-pos, mul-le-mul_right, le_of_mul-le-mul_right}
use native.Mathlib.Omega.{arith}
use mathlib.Core.Path.{◌≡◌, refl, ap, subst}
use mathlib.Core.List.{[], ◌∷◌}
use lib.Dec.{T, lit≤}
use lib.Pow.{pow_pos}
use lib.Ieee.{Float, prec, binary32, binary64, low, of_bits, fits, neg, le, lt, eq, add, sub, mul}
use lib.Ieee.Fits.{mul-fits, fits_widens}
use lib.Ieee.Positive.{den}
use Rattle.float_laws.specs.Binary32.{one32}
use Rattle.float_laws.specs.Binary64.{◌⊖◌, ◌⊗◌, f64}
use Rattle.float_laws.proofs.Value.{mag, pl, mi, Real, mag_is, le→units, le_refl}
use Rattle.float_laws.proofs.Size.{add-fin}
use Rattle.float_laws.proofs.Error.{sub-near, add-near}
use Rattle.float_laws.proofs.Exact.{add-grow-l}
use Rattle.float_laws.proofs.Order.{add-mono}
use Rattle.float_laws.proofs.Interval.{In, nil, nil-real, from_zero, le→parts, in-of_le, least, most}
use Rattle.float_laws.proofs.Checker.{Ex, var, plus, minus, times, eval, Iv, iv, ival, covers, check, checked, good-real, add_i, sub_i, mul_i}
use Rattle.arithmetic_ranges.specs.Ranges.{blend}
use Rattle.admission_laws.specs.Fractions.{positive_part, negative_part}
use Rattle.admission_laws.proofs.FractionLaws.{left-side, right_side}
use Rattle.dots.specs.Along.{one64}
use Rattle.dots_laws.specs.NeverBack.{NotBack, greatest_station}
use Rattle.dots_laws.proofs.Orders.{sub_plus, mul_mono_r, mul_plus, mul_part}

-- ---- from units of 2^-1074 to the fractions of specs/NeverBack

abbrev unit : ℕ
unit = 2 ^ low binary64

cleared : (A B u v D L E N : ℕ) → 0 < L → A * L ≡ u * D → B * L ≡ v * D → u * 2 ≤ v * 2 + E → E * N ≤ L * 2 → A * N ≤ B * N + D
cleared A B u v D L E N o e f h k =
    let a : A * L * (N * 2) ≡ u * D * (N * 2) = ap (λ (n : ℕ). n * (N * 2)) e in
    let b : B * L * (N * 2) ≡ v * D * (N * 2) = ap (λ (n : ℕ). n * (N * 2)) f in
    let c : u * 2 * (D * N) ≤ (v * 2 + E) * (D * N) = mul-le-mul_right (D * N) h in
    let d : E * N * D ≤ L * 2 * D = mul-le-mul_right D k in
    le_of_mul-le-mul_right (let g : A * N * (L * 2) ≤ (B * N + D) * (L * 2) = omega arith in g) (mul-pos o (pow_pos 1))

pub not-back : (x y : Float) (E : ℕ) → Real binary64 x → Real binary64 y → E * 1000000000 ≤ unit * 2 → (pl binary64 x + mi binary64 y) * 2 ≤ (pl binary64 y + mi binary64 x) * 2 + E → NotBack x y
not-back x y E rx ry k h =
    cleared (positive_part x * den y + negative_part y * den x) (positive_part y * den x + negative_part x * den y) (pl binary64 x + mi binary64 y) (pl binary64 y + mi binary64 x) (den x * den y) unit E 1000000000 (pow_pos (low binary64)) (left-side x y rx ry) (right_side x y rx ry) h k

pub le_not-back : (x y : Float) → Real binary64 x → Real binary64 y → T (le x y) → NotBack x y
le_not-back x y rx ry h = not-back x y 0 rx ry (omega arith) (let e = le→units binary64 x y rx ry h in omega arith)

-- ---- fractions and stations

pub one64-real : Real binary64 one64
unfolding of_bits fits
one64-real = good-real binary64 one64 tt

pub one64-pl : pl binary64 one64 ≡ unit
unfolding of_bits pl
one64-pl = refl

pub one64-mi : mi binary64 one64 ≡ 0
unfolding of_bits mi
one64-mi = refl

one-same : one32 ≡ one64
unfolding of_bits
one-same = refl

-- an f32 is an f64
pub widened : (t : Float) → In binary32 nil one32 t → In binary64 nil one64 t
widened t i = in-of_le binary64 nil one64 t (nil-real binary64) one64-real (fits_widens t i.value.fits) i.above (subst (λ (w : Float). T (le t w)) one-same i.below)

pub greatest-real : Real binary64 greatest_station
unfolding of_bits fits
greatest-real = good-real binary64 greatest_station tt

abbrev pub Station : Float → Type 0
Station x = In binary64 nil greatest_station x

-- ---- sizes

abbrev least_span : Float
least_span = neg greatest_station

least-real : Real binary64 least_span
unfolding of_bits fits neg
least-real = good-real binary64 least_span tt

-- 20,000
abbrev twice : Float
twice = f64 0x40d3_8800_0000_0000

twice-real : Real binary64 twice
unfolding of_bits fits
twice-real = good-real binary64 twice tt

across : Ex
across = minus (var 1) (var 0)

way : Ex
way = plus (var 0) (times (minus (var 1) (var 0)) (var 2))

ends : Iv
ends = iv nil greatest_station

part : Iv
part = iv nil one64

across-passes : T (check binary64 (ends ∷ ends ∷ []) across least_span greatest_station)
unfolding ends across check covers ival sub_i sub neg le lt eq add fits of_bits
across-passes = tt

way-passes : T (check binary64 (ends ∷ ends ∷ part ∷ []) way least_span twice)
unfolding ends part way check covers ival add_i sub_i mul_i least most add sub mul neg le lt eq fits of_bits
way-passes = tt

-- below 2^14
greatest-below : pl binary64 greatest_station < 2 ^ 1088
unfolding of_bits pl
greatest-below = lit≤ tt

small : (2 ^ (1088 - prec binary64) + 2 ^ (1089 - prec binary64)) * 1000000000 ≤ unit * 2
small = lit≤ tt

-- ---- a segment

over_by : (a a' b b' d d' p p' r r' y y' E F : ℕ) → (d * 1 + (b' + a)) * 2 ≤ (d' * 1 + (b + a')) * 2 + E * 1 → p + d' ≤ d + p' → (r * 1 + (a' + p')) * 2 ≤ (r' * 1 + (a + p)) * 2 + F * 1 → b + y' ≤ y + b'
    → (r + y') * 2 ≤ (y + r') * 2 + (E + F)
over_by a a' b b' d d' p p' r r' y y' E F h k l m = omega arith

under_span : (p n q m J : ℕ) → p < J → n ≡ 0 → p + n < J + (q + m)
under_span p n q m J h e = omega arith

twofold : (a p s t J : ℕ) → a < J → p < J → s ≡ a → t ≡ p → s + t < J * 2
twofold a p s t J h k e f = omega arith

module _ (a b : Float) (sa : Station a) (sb : Station b) (h : T (le a b)) where
  span-in : In binary64 least_span greatest_station (b ⊖ a)
  unfolding eval across ends
  span-in = checked binary64 (ends ∷ ends ∷ []) (a ∷ b ∷ []) across least_span greatest_station least-real greatest-real across-passes (sa, (sb, tt))

  za : mi binary64 a ≡ 0
  za = from_zero binary64 a sa.value sa.above

  zb : mi binary64 b ≡ 0
  zb = from_zero binary64 b sb.value sb.above

  pub span : Real binary64 (b ⊖ a)
  span = span-in.value

  pub span-plus : mi binary64 (b ⊖ a) ≡ 0
  span-plus = from_zero binary64 (b ⊖ a) span (sub_plus binary64 a b sa.value sb.value h span.finite)

  module _ (t : Float) (i : In binary64 nil one64 t) where
    pub on-real : Real binary64 (blend a b t)
    unfolding eval way ends part
    on-real = (checked binary64 (ends ∷ ends ∷ part ∷ []) (a ∷ b ∷ t ∷ []) way least_span twice least-real twice-real way-passes (sa, (sb, (i, tt)))).value

    part-real : Real binary64 ((b ⊖ a) ⊗ t)
    part-real = record { finite = (add-fin binary64 a ((b ⊖ a) ⊗ t) on-real.finite).1; fits = mul-fits binary64 (b ⊖ a) t }

    part-plus : mi binary64 ((b ⊖ a) ⊗ t) ≡ 0
    part-plus = from_zero binary64 ((b ⊖ a) ⊗ t) part-real (mul_plus binary64 (b ⊖ a) t span span-plus i.value (from_zero binary64 t i.value i.above) part-real.finite)

    part-le : T (le ((b ⊖ a) ⊗ t) (b ⊖ a))
    part-le = mul_part binary64 (b ⊖ a) t span span-plus i.value (subst (λ (n : ℕ). pl binary64 t ≤ n) one64-pl (le→parts binary64 t one64 i.value i.high i.below).0) part-real.finite

    pub on_from : T (le a (blend a b t))
    on_from = add-grow-l binary64 a ((b ⊖ a) ⊗ t) sa.value part-real part-plus on-real.finite

    pub on-to : (y : Float) → Real binary64 y → T (le b y) → NotBack (blend a b t) y
    on-to y ry k =
        let d = b ⊖ a in
        let p = d ⊗ t in
        let r = blend a b t in
        let qa = lt_of_le_of_lt (le→parts binary64 a greatest_station sa.value sa.high sa.below).0 greatest-below in
        let qb = lt_of_le_of_lt (le→parts binary64 b greatest_station sb.value sb.high sb.below).0 greatest-below in
        let qd = (le→parts binary64 d greatest_station span span-in.high span-in.below).0 in
        let qp = lt_of_le_of_lt (le→parts binary64 p d part-real span part-le).0 (lt_of_le_of_lt qd greatest-below) in
        let nd = sub-near binary64 b a 1088 sb.value sa.value span.finite (under_span (pl binary64 b) (mi binary64 a) (mi binary64 b) (pl binary64 a) (2 ^ 1088) qb za) (under_apart (mi binary64 b) (pl binary64 a) (pl binary64 b) (mi binary64 a) (2 ^ 1088) qa zb) in
        let nr = add-near binary64 a p 1089 sa.value part-real on-real.finite (twofold (pl binary64 a) (pl binary64 p) (mag binary64 a) (mag binary64 p) (2 ^ 1088) qa qp (plain (mag binary64 a) (pl binary64 a) (mi binary64 a) (mag_is binary64 a) za) (plain (mag binary64 p) (pl binary64 p) (mi binary64 p) (mag_is binary64 p) part-plus)) in
        not-back r y (2 ^ (1088 - prec binary64) + 2 ^ (1089 - prec binary64)) on-real ry small
        (over_by (pl binary64 a) (mi binary64 a) (pl binary64 b) (mi binary64 b) (pl binary64 d) (mi binary64 d) (pl binary64 p) (mi binary64 p) (pl binary64 r) (mi binary64 r) (pl binary64 y) (mi binary64 y) (2 ^ (1088 - prec binary64)) (2 ^ (1089 - prec binary64))
        nd.above (le→units binary64 p d part-real span part-le) nr.above (le→units binary64 b y sb.value ry k))
      where
        plain : (m p n : ℕ) → m ≡ p + n → n ≡ 0 → m ≡ p
        plain m p n e z = omega arith

        under_apart : (n p q m J : ℕ) → p < J → n ≡ 0 → n + p < J + (q + m)
        under_apart n p q m J h e = omega arith

  pub on-rise : (t u : Float) → In binary64 nil one64 t → In binary64 nil one64 u → T (le t u) → T (le (blend a b t) (blend a b u))
  on-rise t u i j k =
      let p = part-real t i in
      let q = part-real u j in
      add-mono binary64 a a ((b ⊖ a) ⊗ t) ((b ⊖ a) ⊗ u) sa.value sa.value p q (le_refl binary64 a sa.value) (mul_mono_r binary64 (b ⊖ a) t u span span-plus i.value j.value k p.finite q.finite) (on-real t i).finite (on-real u j).finite
