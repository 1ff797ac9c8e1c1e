-- The samples of an admitted spiral: distances from 0 to 499.75, x and y within 1,000,500, headings within 3,500.
-- A road that needs at most 2,000 samples has spirals of at most 1,999 steps, each of a quarter metre at most, so distance, x and y grow by a quarter a step, with no slack for rounding (`sum-next`).
-- A step is made only before the length, and a step is at most the length, so a distance is at most twice the length; with the length between two powers of two this bounds the turn rate times the distance by 4.
use mathlib.Core.Path.{◌≡◌, refl, sym, ap, subst}
use Prim.Native.Nat.{ℕ, zero, suc, ◌+◌, ◌-◌, ◌*◌, ◌^◌, ◌≤◌, ◌<◌, zero-le}
use native.Mathlib.Nat.{le_trans, le_of_eq, lt_of_lt_of_le, mul-le-mul_right, not-suc-le-zero, le_of_suc-le-suc, pow-suc}
use native.Mathlib.Omega.{arith}
use mathlib.Core.Bool.{Bool, true, false, cond}
use mathlib.Core.List.{List, ◌∷◌}
use lib.ListN.{length, get_or}
use lib.Dec.{T, lit<, lit≤}
use lib.Pow.{pow_pos}
use lib.Ieee.{Float, Format, prec, emax, low, binary64, of_bits, fits, le, lt, add, mul}
use lib.Ieee.Scale.{finite}
use Rattle.float_laws.specs.Binary64.{◌⊕◌, ◌⊖◌, ◌⊗◌, ◌⊘◌, f64, zero64}
use Rattle.float_laws.proofs.Value.{Real, mag, pl, mi, mag_is, parts→le, lt→units}
use Rattle.float_laws.proofs.Interval.{In, le→parts, from_zero}
use Rattle.float_laws.proofs.Size.{Within, within-mono, le_of-within, sub_within}
use Rattle.float_laws.proofs.Exact.{exponent}
use Rattle.float_laws.proofs.Checker.{good-real}
use Rattle.arithmetic_sine.specs.Sine.{sine_range, half, one, sine_of, cosine_of}
use Rattle.arithmetic_laws.proofs.SineLaws.{sine-within, cosine-within}
use Rattle.records.specs.declared.points.GeomRec.{GeomRec}
use Rattle.records.specs.declared.points.GeomShape.TheVariants.{Spiral}
use Rattle.records.specs.Roads.{Road, geom_at}
use Rattle.line_samples.specs.declared.points.Sample.{Sample}
use Rattle.line_samples.specs.Samples.{most_samples, end_margin, goes_on, whole_step, step_at, steps_from, most_steps, spiral_steps, sample_count, samples_before, samples_needed, no_turn_length, turn_rate, heading_at, first_sample, next_sample, later_samples, geom_samples}
use Rattle.line_samples.proofs.SpiralLaws.{count-spiral, before-next, before-mono, samples-are}
use Rattle.admission.specs.Limits.{greatest_heading, least_geom_length, greatest_geom_length}
use Rattle.admission_laws.proofs.Constants.{const-at_least, const-at_most, const-plus, const-real, const-within}
use Rattle.admission_laws.proofs.RoadBounds.{GeomWithin}
use Rattle.admission_laws.proofs.Powers.{Small, mul_small, div-small, Plus, none_below, plus-small, plus-mono, sub-plus, lesser-plus, div-plus, add-plus, sum-next, power_below}
use Rattle.admission_laws.proofs.Geometry.{sum-passes, sum-within}

-- ---- the constants: 2, 4, 499.75, 500, 1,500, 3,500 and 1,000,500
abbrev two : Float
two = f64 0x4000_0000_0000_0000

abbrev four : Float
four = f64 0x4010_0000_0000_0000

abbrev pub sample-end : Float
sample-end = f64 0x407f_3c00_0000_0000

abbrev pub five-hundred : Float
five-hundred = f64 0x407f_4000_0000_0000

abbrev fifteen-hundred : Float
fifteen-hundred = f64 0x4097_7000_0000_0000

abbrev pub sample-turn : Float
sample-turn = f64 0x40ab_5800_0000_0000

abbrev pub sample-far : Float
sample-far = f64 0x412e_8868_0000_0000

-- a quarter metre is 2 ^ 1072 units
pub quarter-plus : Plus binary64 whole_step (2 ^ 1072)
unfolding of_bits fits pl mi
quarter-plus = record { value = good-real binary64 whole_step tt; plus = refl; le = lit≤ tt }

pub nano-plus : Plus binary64 end_margin (pl binary64 least_geom_length)
unfolding of_bits fits pl mi
nano-plus = record { value = good-real binary64 end_margin tt; plus = refl; le = lit≤ tt }

zero-plus : Plus binary64 zero64 (0 * 2 ^ 1072)
unfolding of_bits fits pl mi
zero-plus = record { value = good-real binary64 zero64 tt; plus = refl; le = lit≤ tt }

zero-small : (r : ℕ) → Small binary64 zero64 r
unfolding of_bits fits mag
zero-small r = record { value = good-real binary64 zero64 tt; le = zero-le }

half-small : Small binary64 half 1073
unfolding of_bits fits mag
half-small = record { value = good-real binary64 half tt; le = lit≤ tt }

twice-finite : T (finite (one ⊕ one))
unfolding of_bits add
twice-finite = tt

twice-small : pl binary64 (one ⊕ one) ≤ 2 ^ 1075
unfolding of_bits add pl
twice-small = lit≤ tt

first-test : T (sum-passes greatest_heading one five-hundred fifteen-hundred)
unfolding of_bits fits le add mul
first-test = tt

second-test : T (sum-passes fifteen-hundred four five-hundred sample-turn)
unfolding of_bits fits le add mul
second-test = tt

pub turn_in-range : Within binary64 sample-turn sine_range
turn_in-range = const-within _ _ tt

-- a value from 0 on has no minus part
pub not_below_zero_lem : (x : Float) → Real binary64 x → T (le zero64 x) → mi binary64 x ≡ 0
unfolding of_bits
not_below_zero_lem x r h = from_zero binary64 x r h

-- ---- an admitted length
module _ (len : Float) (il : In binary64 least_geom_length greatest_geom_length len) where
  pub length-large : pl binary64 least_geom_length ≤ pl binary64 len
  length-large = (le→parts binary64 least_geom_length len il.low il.value il.above).0

  pub length-plus : mi binary64 len ≡ 0
  length-plus = none_below (mi binary64 len) (mi binary64 least_geom_length) (le→parts binary64 least_geom_length len il.low il.value il.above).1 (const-plus _ tt)

  -- over 1e-9
  pub nano-below : Plus binary64 end_margin (pl binary64 len)
  nano-below = plus-mono binary64 end_margin (pl binary64 least_geom_length) (pl binary64 len) length-large nano-plus

-- ---- steps in any format
module _ (f : Format) where
  less : (p n q m M : ℕ) → p + m < q + n → n ≡ 0 → q ≤ M → p ≤ M
  less p n q m M h z l = omega arith

  -- below what is at most M
  below : (u v : Float) (M : ℕ) → Real f u → mi f u ≡ 0 → Plus f v M → T (lt u v) → Plus f u M
  below u v M r z w h = record { value = r; plus = z; le = less (pl f u) (mi f u) (pl f v) (mi f v) M (lt→units f u v r w.value h) z w.le }

  -- one step of at most 2 ^ j units and at most 2 ^ a, from at most k steps and at most 2 ^ a
  moved : (u w : Float) (k j a : ℕ) → suc k < 2 ^ 23 → 23 < prec f → j + 23 < low f + suc (emax f) → suc a < low f + suc (emax f)
      → Plus f u (k * 2 ^ j) → pl f u ≤ 2 ^ a → Plus f w (2 ^ j) → pl f w ≤ 2 ^ a → Plus f (add f u w) (suc k * 2 ^ j) × (pl f (add f u w) ≤ 2 ^ suc a)
  moved u w k j a h p o q v vl x xl =
      let g = mag_is f u in
      let z = v.plus in
      let l = v.le in
      let e = pow-suc 2 a in
      let s = sum-next f u w k j h p o v.value (let m : mag f u ≤ k * 2 ^ j = omega arith in m) (plus-small f w j x) in
      let t = add-plus f u w (2 ^ a) (2 ^ a) (suc a) (record { value = v.value; plus = z; le = vl }) (record { value = x.value; plus = x.plus; le = xl }) (omega arith) q in
      let d = mag_is f (add f u w) in
      let n = t.plus in
      let c = s.1 in
      (record { value = s.0; plus = n; le = omega arith }, t.le)

small-within : (x A : Float) (p : ℕ) → Small binary64 x p → Real binary64 A → mi binary64 A ≡ 0 → 2 ^ p ≤ pl binary64 A → Within binary64 x A
small-within x A p s r z h = record { value = s.value; bound = r; plus = z; le = le_trans s.le h }

within-small : (x A : Float) (p : ℕ) → Within binary64 x A → pl binary64 A ≤ 2 ^ p → Small binary64 x p
within-small x A p w h = record { value = w.value; le = le_trans w.le h }

-- from 0 to 500
plus-within : (u : Float) → Plus binary64 u (2000 * 2 ^ 1072) → Within binary64 u five-hundred
plus-within u v =
    record { value = v.value; bound = const-real _ tt; plus = const-plus _ tt; le = le_trans (le_of_eq (whole (pl binary64 u) (mi binary64 u) (mag binary64 u) (mag_is binary64 u) v.plus)) (le_trans v.le (const-at_least _ _ tt)) }
  where
    whole : (p m g : ℕ) → g ≡ p + m → m ≡ 0 → g ≡ p
    whole p m g e z = omega arith

-- ---- exponents, on their own: what power bounds what
room-rate : (a : ℕ) → 1066 ≤ a → 2149 - a < 2098
room-rate a h = omega arith

sum-rate : (a : ℕ) → a ≤ 1088 → 2149 ≡ 2149 - a + a
sum-rate a h = omega arith

room-half : (a : ℕ) → 1066 ≤ a → 2148 - a < 2098
room-half a h = omega arith

sum-half : (a : ℕ) → a ≤ 1088 → 1073 + (2149 - a) ≡ 2148 - a + 1074
sum-half a h = omega arith

sum-four : (a : ℕ) → a ≤ 1088 → 2148 - a + suc (suc a) ≡ 2150
sum-four a h = omega arith

-- what a sample of a spiral keeps to, after k steps; the length is from 2 ^ a to 2 ^ (a + 1) units
record Sampled (a k : ℕ) (p : Sample) : Type 0 where
  distance : Plus binary64 p.distance (k * 2 ^ 1072)
  short : pl binary64 p.distance ≤ 2 ^ suc (suc a)
  x_real : Real binary64 p.x
  x : mag binary64 p.x ≤ (k + 4000000) * 2 ^ 1072
  y_real : Real binary64 p.y
  y : mag binary64 p.y ≤ (k + 4000000) * 2 ^ 1072
  heading : Within binary64 p.heading sample-turn

module _ (g : GeomRec) (k0 k1 : Float)
    (own : GeomWithin g) (w0 : Within binary64 k0 one) (w1 : Within binary64 k1 one) where
  module _ (a : ℕ) (la : 2 ^ a ≤ pl binary64 g.length) (ha : pl binary64 g.length ≤ 2 ^ suc a) where
    a-high : a ≤ 1088
    a-high = exponent a 1088 (le_trans la (le_trans (le→parts binary64 g.length greatest_geom_length own.length.value own.length.high own.length.below).0 (const-at_most _ _ tt)))

    a-low : 1066 ≤ a
    a-low = le_of_suc-le-suc (exponent 1067 (suc a) (le_trans (const-at_least _ _ tt) (le_trans (length-large g.length own.length) ha)))

    -- ---- the heading

    rate-small : Small binary64 (turn_rate g.length k0 k1) (2149 - a)
    rate-small = go (lt no_turn_length g.length)
      where
        go : (b : Bool) → Small binary64 (cond b ((k1 ⊖ k0) ⊘ g.length) zero64) (2149 - a)
        go true =
            div-small binary64 (k1 ⊖ k0) g.length 1075 a (2149 - a) (within-small (k1 ⊖ k0) (one ⊕ one) 1075 (sub_within binary64 k1 k0 one one w1 w0 twice-finite) twice-small) own.length.value la (sum-rate a a-high) (room-rate a a-low)
        go false = zero-small (2149 - a)

    heading-within : (u : Float) → Plus binary64 u (2000 * 2 ^ 1072) → pl binary64 u ≤ 2 ^ suc (suc a) → Within binary64 (heading_at g k0 k1 u) sample-turn
    heading-within u v l =
        let c = turn_rate g.length k0 k1 in
        let wu = plus-within u v in
        let e = mul_small binary64 half c 1073 (2149 - a) (2148 - a) half-small rate-small (sum-half a a-high) (room-half a a-low) in
        let w = mul_small binary64 (half ⊗ c) u (2148 - a) (suc (suc a)) 1076 e (plus-small binary64 u (suc (suc a)) (record { value = v.value; plus = v.plus; le = l })) (sum-four a a-high) (lit< tt) in
        sum-within (g.hdg ⊕ k0 ⊗ u) (half ⊗ c ⊗ u) u fifteen-hundred four five-hundred sample-turn
        (sum-within g.hdg k0 u greatest_heading one five-hundred fifteen-hundred own.hdg w0 wu first-test) (small-within (half ⊗ c ⊗ u) four 1076 w (const-real _ tt) (const-plus _ tt) (const-at_least _ _ tt)) wu second-test

    -- ---- a step

    near-end : Plus binary64 (g.length ⊖ end_margin) (pl binary64 g.length)
    near-end = sub-plus binary64 g.length end_margin own.length.value (length-plus g.length own.length) (nano-below g.length own.length)

    before-end : (u : Float) (M : ℕ) → Plus binary64 u M → T (goes_on g.length u) → Plus binary64 u (pl binary64 g.length)
    unfolding goes_on
    before-end u M v t = below binary64 u (g.length ⊖ end_margin) (pl binary64 g.length) v.value v.plus near-end t

    step-plus : (u : Float) → Plus binary64 u (pl binary64 g.length) → Plus binary64 (step_at g.length u) (pl binary64 g.length) × Plus binary64 (step_at g.length u) (2 ^ 1072)
    step-plus u v = lesser-plus binary64 (g.length ⊖ u) whole_step (pl binary64 g.length) (2 ^ 1072) (sub-plus binary64 g.length u own.length.value (length-plus g.length own.length) v) quarter-plus

    ahead : (u w : Float) (k : ℕ) → k < 2000 → Plus binary64 u (k * 2 ^ 1072) → Plus binary64 u (pl binary64 g.length) → Plus binary64 w (pl binary64 g.length) → Plus binary64 w (2 ^ 1072)
        → Plus binary64 (u ⊕ w) (suc k * 2 ^ 1072) × (pl binary64 (u ⊕ w) ≤ 2 ^ suc (suc a))
    ahead u w k h v vl x xq =
        moved binary64 u w k 1072 (suc a) (few k h) (lit< tt) (lit< tt) (reach a a-high) v (le_trans vl.le ha) xq (le_trans x.le ha)
      where
        few : (k : ℕ) → k < 2000 → suc k < 8388608
        few k h = omega arith

        reach : (a : ℕ) → a ≤ 1088 → suc (suc a) < 2098
        reach a h = omega arith

    up_to-2000 : (k : ℕ) → k ≤ 2000 → k * 2 ^ 1072 ≤ 2000 * 2 ^ 1072
    up_to-2000 k h = mul-le-mul_right (2 ^ 1072) h

    -- c * step more, for a c of size 1 at most
    shifted : (x c w : Float) (k : ℕ) → k < 2000 → Real binary64 x → mag binary64 x ≤ (k + 4000000) * 2 ^ 1072 → Within binary64 c one → Plus binary64 w (2 ^ 1072) → Real binary64 (x ⊕ c ⊗ w) × (mag binary64 (x ⊕ c ⊗ w) ≤ (suc k + 4000000) * 2 ^ 1072)
    shifted x c w k h r l v q =
        let m = mul_small binary64 c w 1074 1072 1072 (within-small c one 1074 v (const-at_most _ _ tt)) (plus-small binary64 w 1072 q) refl (lit< tt) in
        let s = sum-next binary64 x (c ⊗ w) (k + 4000000) 1072 (few k h) (lit< tt) (lit< tt) r l m in
        (s.0, le_trans s.1 (le_of_eq (ap (λ (n : ℕ). n * 2 ^ 1072) (onward k))))
      where
        few : (k : ℕ) → k < 2000 → suc (k + 4000000) < 8388608
        few k h = omega arith

        onward : (k : ℕ) → suc (k + 4000000) ≡ suc k + 4000000
        onward k = omega arith

    in_range_lem : (h : Float) → Within binary64 h sample-turn → Within binary64 h sine_range
    in_range_lem h w = within-mono binary64 h sample-turn sine_range w turn_in-range.bound (le_of-within binary64 sample-turn sine_range turn_in-range).1

    next-sampled : (k : ℕ) (p : Sample) → k < 2000 → Sampled a k p → T (goes_on g.length p.distance) → Sampled a (suc k) (next_sample g k0 k1 p)
    unfolding next_sample
    next-sampled k p h v t =
        let u = p.distance in
        let b = before-end u (k * 2 ^ 1072) v.distance t in
        let step = step_at g.length u in
        let s = step-plus u b in
        let m = ahead u (step ⊘ two) k h v.distance b (div-plus binary64 step two (pl binary64 g.length) s.0 (const-real _ tt) (const-at_least _ _ tt)) (div-plus binary64 step two (2 ^ 1072) s.1 (const-real _ tt) (const-at_least _ _ tt)) in
        let n = ahead u step k h v.distance b s.0 s.1 in
        let mid = u ⊕ step ⊘ two in
        let q = in_range_lem (heading_at g k0 k1 mid) (heading-within mid (plus-mono binary64 mid (suc k * 2 ^ 1072) (2000 * 2 ^ 1072) (up_to-2000 (suc k) h) m.0) m.1) in
        let xs = shifted p.x (cosine_of (heading_at g k0 k1 mid)) step k h v.x_real v.x (cosine-within (heading_at g k0 k1 mid) q) s.1 in
        let ys = shifted p.y (sine_of (heading_at g k0 k1 mid)) step k h v.y_real v.y (sine-within (heading_at g k0 k1 mid) q) s.1 in
        record {
          distance = n.0;
          short = n.1;
          x_real = xs.0;
          x = xs.1;
          y_real = ys.0;
          y = ys.1;
          heading = heading-within (u ⊕ step) (plus-mono binary64 (u ⊕ step) (suc k * 2 ^ 1072) (2000 * 2 ^ 1072) (up_to-2000 (suc k) h) n.0) n.1;
        }

    first-sampled : Sampled a 0 (first_sample g)
    first-sampled =
        record {
          distance = zero-plus;
          short = le_trans zero-plus.le zero-le;
          x_real = own.x.value;
          x = le_trans own.x.le (const-at_most _ _ tt);
          y_real = own.y.value;
          y = le_trans own.y.le (const-at_most _ _ tt);
          heading = within-mono binary64 g.hdg greatest_heading sample-turn own.hdg (const-real _ tt) (le_of-within binary64 greatest_heading sample-turn (const-within _ _ tt)).1;
        }

    -- ---- all samples: i steps after p, where k are made before; the test of going on is an argument, as in `steps_from`
    chain : (m : ℕ) (more : Bool) (k : ℕ) (p : Sample) (i : ℕ) (d : Sample) → more ≡ goes_on g.length p.distance → Sampled a k p → k + steps_from m more g.length p.distance ≤ 1999 → i ≤ steps_from m more g.length p.distance
        → Sampled a (k + i) (get_or (p ∷ later_samples g k0 k1 (steps_from m more g.length p.distance) p) i d)
    unfolding steps_from later_samples next_sample
    chain m more k p zero d e s b h = subst (λ (n : ℕ). Sampled a n p) (let o : k ≡ k + 0 = omega arith in o) s
    chain zero more k p (suc i) d e s b h = absurd (not-suc-le-zero h)
    chain (suc m) false k p (suc i) d e s b h = absurd (not-suc-le-zero h)
    chain (suc m) true k p (suc i) d e s b h =
        let q = next_sample g k0 k1 p in
        let v = next-sampled k p (early k _ b) s (subst T e tt) in
        subst (λ (n : ℕ). Sampled a n (get_or (q ∷ later_samples g k0 k1 (steps_from m (goes_on g.length q.distance) g.length q.distance) q) i d)) (onward k i)
        (chain m (goes_on g.length q.distance) (suc k) q i d refl v (still k _ b) (le_of_suc-le-suc h))
      where
        early : (k n : ℕ) → k + suc n ≤ 1999 → k < 2000
        early k n h = omega arith

        still : (k n : ℕ) → k + suc n ≤ 1999 → suc k + n ≤ 1999
        still k n h = omega arith

        onward : (k i : ℕ) → suc k + i ≡ k + suc i
        onward k i = omega arith

    sampled-at : (i : ℕ) (d : Sample) → g.shape ≡ Spiral k0 k1 → spiral_steps g.length ≤ 1999 → i ≤ spiral_steps g.length → Sampled a i (get_or (geom_samples g) i d)
    unfolding spiral_steps
    sampled-at i d e b h =
        let n = steps_from most_steps (goes_on g.length zero64) g.length zero64 in
        subst (λ (ps : List Sample). Sampled a i (get_or ps i d)) (sym (samples-are g e))
        (subst (λ (k : ℕ). Sampled a k (get_or (first_sample g ∷ later_samples g k0 k1 n (first_sample g)) i d)) (let o : 0 + i ≡ i = omega arith in o)
        (chain most_steps (goes_on g.length zero64) 0 (first_sample g) i d refl first-sampled (le_trans (le_of_eq (let o : 0 + n ≡ n = omega arith in o)) b) h))

-- ---- what is shown of a sample
pub record SampleWithin (p : Sample) : Type 0 where
  pub distance : In binary64 zero64 sample-end p.distance
  pub x : Within binary64 p.x sample-far
  pub y : Within binary64 p.y sample-far
  pub heading : Within binary64 p.heading sample-turn

shown : (a k : ℕ) (p : Sample) → k ≤ 1999 → Sampled a k p → SampleWithin p
shown a k p h s =
    let v = s.distance in
    let far = le_trans (mul-le-mul_right (2 ^ 1072) (let o : k + 4000000 ≤ 4002000 = omega arith in o)) (const-at_least _ _ tt) in
    record {
      distance =
          record {
            low = zero-plus.value;
            high = const-real _ tt;
            value = v.value;
            above = parts→le binary64 zero64 p.distance zero-plus.value v.value (le_trans zero-plus.le zero-le) (le_trans (le_of_eq v.plus) zero-le);
            below = parts→le binary64 p.distance sample-end v.value (const-real _ tt) (le_trans v.le (le_trans (mul-le-mul_right (2 ^ 1072) h) (const-at_least _ _ tt))) (le_trans (le_of_eq (const-plus _ tt)) zero-le);
          };
      x = record { value = s.x_real; bound = const-real _ tt; plus = const-plus _ tt; le = le_trans s.x far };
      y = record { value = s.y_real; bound = const-real _ tt; plus = const-plus _ tt; le = le_trans s.y far };
      heading = s.heading;
    }

-- every sample of a spiral of at most 1,999 steps
pub sample-within : (g : GeomRec) (k0 k1 : Float) → GeomWithin g → Within binary64 k0 one → Within binary64 k1 one
    → (i : ℕ) (d : Sample) → g.shape ≡ Spiral k0 k1 → spiral_steps g.length ≤ 1999 → i ≤ spiral_steps g.length → SampleWithin (get_or (geom_samples g) i d)
sample-within g k0 k1 own w0 w1 i d e b h =
    let l = length-large g.length own.length in
    let w = power_below (pl binary64 g.length) (lt_of_lt_of_le (pow_pos 1067) (le_trans (const-at_least _ _ tt) l)) in
    shown w.0 i (get_or (geom_samples g) i d) (le_trans h b) (sampled-at g k0 k1 own w0 w1 w.0 w.1.0 w.1.1 i d e b h)

-- a road that passes row 5 has no spiral of more steps
pub few-steps : (road : Road) (i : ℕ) {k0 k1 : Float} → i < length road.geoms → (geom_at road i).shape ≡ Spiral k0 k1 → samples_needed road ≤ most_samples → spiral_steps (geom_at road i).length ≤ 1999
unfolding samples_needed
few-steps road i h e b = bound (samples_before road i) (samples_before road (suc i)) (sample_count (geom_at road i)) (spiral_steps (geom_at road i).length) _ (before-next road i) (count-spiral (geom_at road i) e refl) (before-mono road (suc i) (length road.geoms) h) b
  where
    bound : (p q c n m : ℕ) → q ≡ p + c → n + 1 ≡ c → q ≤ m → m ≤ 2000 → n ≤ 1999
    bound p q c n m e f h b = omega arith
