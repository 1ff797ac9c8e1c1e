-- The limits carried to the values: where a list of cubics passes its tests, the station lies within the active cubic's reach D, so its value is at most B in size, and its slope at most its bound.
-- Upwards by monotone rounding (s is before the next start, or the list's end); downwards by the error of the one sum s + 1e-9, far below the 0.001 of D. All starts are finite by their range, D by B.
use Prim.Native.Nat.{ℕ, ◌+◌, ◌-◌, ◌*◌, ◌^◌, ◌<◌, ◌≤◌}
use native.Mathlib.Omega.{arith}
use native.Mathlib.Nat.{le_of_eq, lt_of_le_of_lt}
use mathlib.Core.Path.{◌≡◌, refl, sym, ◌∙◌, subst}
use mathlib.Core.Logic.{inl, inr}
use mathlib.Core.Bool.{Bool, true, false, not, ◌&&◌, cond}
use mathlib.Core.List.{List}
use lib.ListN.{length}
use lib.Dec.{T, ltb, ltb→lt, lit≤, lit<}
use lib.Pow.{pow_pos}
use lib.Ieee.{Float, nan, inf, fin, binary64, of_bits, add, sub, le, lt, neg, fits}
use lib.Ieee.Fits.{cond-fits, neg-fits, add-fits, sub-fits, mul-fits}
use lib.Ieee.Scale.{finite, overflow}
use Rattle.float_laws.specs.Binary64.{◌⊕◌, ◌⊖◌, ◌⊗◌, f64, zero64, abs_of}
use Rattle.float_laws.proofs.Units.{rnd, rnd-le}
use Rattle.float_laws.proofs.Value.{mag, pl, mi, Real, mag_is, one_side, le→units, units→le, lt→units, nlt→units, nle→le, le_refl, under, neg-real, neg-pl, neg-mi}
use Rattle.float_laws.proofs.Operation.{sub-Is}
use Rattle.float_laws.proofs.Interval.{In, nil, nil-real, nil-pl, nil-mi, over-of, under_of, enclose, finite-between}
use Rattle.float_laws.proofs.Size.{Within, within-mono, add-within, nn, nn-of_le, add-nn, mul-nn, add-fin, mul-fin, fin-of_le, size, size-nn, size-within, nn-within, cubic, cubic-admitted, slope, slope-admitted}
use Rattle.float_laws.proofs.Exact.{fixed, self-Is, add-grow-l, add-grow-r}
use Rattle.float_laws.proofs.Error.{Near, add-near}
use Rattle.float_laws.proofs.Whole.{unit}
use Rattle.records_cubic.specs.declared.cubics.Cubic.{Cubic}
use Rattle.std.specs.declared.option.Option.{Option}
use Rattle.std.specs.declared.option.Option.TheVariants.{Some, None}
use Rattle.std.proofs.lemmas.Float.{le_trans as float_trans, T_from_true}
use Rattle.records_cubic.specs.Cubics.{cubic_at, eval_by, slope_by}
use Rattle.records.specs.Active.{active_margin, active_in, value_in, slope_in, active_up_to}
use Rattle.records.proofs.CubicLaws.{value-at, value_none, slope_at_lem, slope-none}
use Rattle.arithmetic_ranges.specs.Ranges.{at_least_zero}
use Rattle.admission_bounds.specs.Bounds.{end_at, reach_margin, reach_at, bound_of, bound_at, slope_bound_of, cubic_within, cubics_within, slopes_within}
use Rattle.admission_laws.proofs.Constants.{const-within}
use Rattle.admission_laws.proofs.Fitting.{Fits64, CubicFits, CubicsFit}
use Rattle.admission_laws.proofs.ActiveRecord.{Active, active-at}
use Rattle.records_lent.proofs.TestLaws.{all-at, and-fst, and-snd}

-- ---- the constants: 20,000, and the margins of the active record and of D, 1e-9 and 0.001

abbrev pub far : Float
far = f64 0x40d3_8800_0000_0000

-- the error of a sum below 2^15 in size, and 2^15, in units: shut, so that `omega` meets no long number
unfoldable slack : ℕ
slack = 2 ^ 1036

unfoldable room : ℕ
room = 2 ^ 1089

far-is : pl binary64 far ≡ 20000 * unit
unfolding of_bits pl unit
far-is = refl

nano-is : (pl binary64 active_margin ≤ unit) × (mi binary64 active_margin ≡ 0)
unfolding of_bits pl mi unit
nano-is = (lit≤ tt, refl)

milli-is : pl binary64 active_margin * 2 + slack ≤ pl binary64 reach_margin * 2
unfolding of_bits pl slack
milli-is = lit≤ tt

room-is : 20001 * unit < room
unfolding room unit
room-is = lit< tt

nano-own : Within binary64 active_margin active_margin
nano-own = const-within _ _ tt

milli-own : Within binary64 reach_margin reach_margin
milli-own = const-within _ _ tt

up_to-finite : T (finite (far ⊕ active_margin))
unfolding of_bits add
up_to-finite = tt

-- ---- s + 1e-9 is at least s, and less than s + 0.001

module _ (s : Float) (w : Within binary64 s far) where
  pub up_to-real : Real binary64 (active_up_to s)
  up_to-real = (add-within binary64 s active_margin far active_margin w nano-own up_to-finite).value

  pub up_to-grows : T (le s (active_up_to s))
  up_to-grows = add-grow-l binary64 s active_margin w.value nano-own.value nano-own.plus up_to-real.finite

  near : Near binary64 (active_up_to s) (pl binary64 s + pl binary64 active_margin) (mi binary64 s + mi binary64 active_margin) 1 slack
  unfolding slack room
  near =
      add-near binary64 s active_margin 1089 w.value nano-own.value up_to-real.finite (near-room (mag binary64 s) (mag binary64 active_margin) (pl binary64 far) (pl binary64 active_margin) unit (2 ^ 1089) w.le far-is nano-own.le nano-is.0 room-is)
    where
      near-room : (m n f p u r : ℕ) → m ≤ f → f ≡ 20000 * u → n ≤ p → p ≤ u → 20001 * u < r → m + n < r
      near-room m n f p u r a b c d e = omega arith

  before : (x : Float) → Real binary64 x → T (le x (active_up_to s)) → pl binary64 x + mi binary64 s ≤ mi binary64 x + pl binary64 s + pl binary64 reach_margin
  before x r h =
      close (pl binary64 x) (mi binary64 x) (pl binary64 s) (mi binary64 s) (pl binary64 (active_up_to s)) (mi binary64 (active_up_to s)) (pl binary64 active_margin) (mi binary64 active_margin) (pl binary64 reach_margin) slack
      (le→units binary64 x (active_up_to s) r up_to-real h) near.above nano-is.1 milli-is
    where
      close : (xp xm sp sm rp rm np nm k e : ℕ) → xp + rm ≤ rp + xm → (rp * 1 + (sm + nm)) * 2 ≤ (rm * 1 + (sp + np)) * 2 + e * 1 → nm ≡ 0 → np * 2 + e ≤ k * 2 → xp + sm ≤ xm + sp + k
      close xp xm sp sm rp rm np nm k e a b c d = omega arith

-- ---- not below zero, and raised to zero

zero_is : (pl binary64 zero64 ≡ 0) × (mi binary64 zero64 ≡ 0)
unfolding of_bits pl mi
zero_is = (refl, refl)

pub zero-own : Within binary64 zero64 zero64
zero-own = const-within _ _ tt

-- by its units
pub nn-of-mi : (x : Float) → Real binary64 x → mi binary64 x ≡ 0 → T (nn x)
nn-of-mi x r z =
    let n = neg-real binary64 x r in
    let np = neg-pl binary64 x r in
    let p = nil-pl binary64 in
    let m = nil-mi binary64 in
    nn-of_le binary64 nil x (nil-real binary64).fits r.fits (units→le binary64 (neg x) nil n (nil-real binary64) (omega arith)) (units→le binary64 nil x (nil-real binary64) r (omega arith))

raised-real : (x : Float) → Real binary64 x → Real binary64 (at_least_zero x) × (mi binary64 (at_least_zero x) ≡ 0) × T (le x (at_least_zero x))
raised-real x r = go (lt x zero64) (lt→units binary64 x zero64 r zero-own.value) (nlt→units binary64 x zero64 r zero-own.value)
  where
    below : (p m : ℕ) → p + 0 < 0 + m → p + 0 ≤ 0 + m
    below p m h = omega arith

    go :
        (b : Bool) → (T b → pl binary64 x + mi binary64 zero64 < pl binary64 zero64 + mi binary64 x) → (T (not b) → pl binary64 zero64 + mi binary64 x ≤ pl binary64 x + mi binary64 zero64)
        → Real binary64 (cond b zero64 x) × (mi binary64 (cond b zero64 x) ≡ 0) × T (le x (cond b zero64 x))
    go true h k =
        let a = h tt in
        let z = zero_is in
        let p = z.0 in
        let m = z.1 in
        (zero-own.value, m, units→le binary64 x zero64 r zero-own.value (omega arith))
    go false h k =
        let a = k tt in
        let z = zero_is in
        let p = z.0 in
        let m = z.1 in
        let g : mi binary64 x ≡ 0 = elim (one_side binary64 x) [ inl w ↦ omega arith | inr w ↦ w ] in
        (r, g, le_refl binary64 x r)

raised-nn : (x : Float) → Fits64 x → T (nn (at_least_zero x))
unfolding lt of_bits
raised-nn nan h = tt
raised-nn (inf true) h = tt
raised-nn (inf false) h = tt
raised-nn (fin s m e) h =
    let r = raised-real (fin s m e) (record { finite = tt; fits = h }) in
    nn-of-mi (at_least_zero (fin s m e)) r.0 r.1

raised-fin : (x : Float) → T (nn x) → T (finite (at_least_zero x)) → T (finite x)
unfolding lt of_bits
raised-fin nan n t = t
raised-fin (inf true) n t = n
raised-fin (inf false) n t = t
raised-fin (fin s m e) n t = tt

-- a difference that is hardly below zero is finite where it is so once raised
module _ (e st : Float) (re : Real binary64 e) (rs : Real binary64 st) (h : mi binary64 e + pl binary64 st ≤ pl binary64 e + mi binary64 st + pl binary64 reach_margin) where
  small-fin : (x : Float) → Real binary64 x → pl binary64 e + mi binary64 st - (mi binary64 e + pl binary64 st) ≤ mag binary64 x → T (finite (e ⊖ st))
  small-fin x r k =
      (sub-Is binary64 e st re rs).small (own x r (pl binary64 e + mi binary64 st - (mi binary64 e + pl binary64 st)) k)
      (own reach_margin milli-own.value (mi binary64 e + pl binary64 st - (pl binary64 e + mi binary64 st)) (rest (mag_is binary64 reach_margin)))
    where
      own : (x : Float) → Real binary64 x → (n : ℕ) → n ≤ mag binary64 x → rnd binary64 n 1 < overflow binary64
      own x r n k = lt_of_le_of_lt (rnd-le binary64 n (mag binary64 x) 1 (pow_pos 0) k) (lt_of_le_of_lt (le_of_eq (fixed binary64 x r)) (under binary64 x r))

      rest : mag binary64 reach_margin ≡ pl binary64 reach_margin + mi binary64 reach_margin → mi binary64 e + pl binary64 st - (pl binary64 e + mi binary64 st) ≤ mag binary64 reach_margin
      rest g = omega arith

  both-nn : mi binary64 e ≡ 0 → pl binary64 st ≡ 0 → T (nn (e ⊖ st))
  unfolding sub
  both-nn a b = add-nn binary64 e (neg st) (nn-of-mi e re a) (nn-of-mi (neg st) (neg-real binary64 st rs) (neg-mi binary64 st rs ∙ b))

  gap-fin : T (finite (at_least_zero (e ⊖ st))) → T (finite (e ⊖ st))
  gap-fin t =
      let ge = mag_is binary64 e in
      let gs = mag_is binary64 st in
      elim (one_side binary64 e) [
        | inl a ↦ small-fin st rs (omega arith)
        | inr a ↦ elim (one_side binary64 st) [ inl b ↦ raised-fin (e ⊖ st) (both-nn a b) t | inr b ↦ small-fin e re (omega arith) ]
      ]

-- ---- the reach covers the station

neg-le : (x y : Float) → Real binary64 x → Real binary64 y → T (le x y) → T (le (neg y) (neg x))
neg-le x y r q h =
    let a = le→units binary64 x y r q h in
    let xp = neg-pl binary64 x r in
    let xm = neg-mi binary64 x r in
    let yp = neg-pl binary64 y q in
    let ym = neg-mi binary64 y q in
    units→le binary64 (neg y) (neg x) (neg-real binary64 y q) (neg-real binary64 x r) (omega arith)

-- -D ≤ ds ≤ D, both finite, D not below zero
pub record Covers (ds D : Float) : Type 0 where
  pub value : Real binary64 ds
  pub reach : Real binary64 D
  pub plus : mi binary64 D ≡ 0
  pub low : T (le (neg D) ds)
  pub high : T (le ds D)

-- e is where a record ends and st where it starts, as computed numbers
module _ (s st e : Float) (w : Within binary64 s far) (rs : Real binary64 st) (re : Real binary64 e) (after : T (le s e)) (hit : T (le st (active_up_to s))) where
  order : pl binary64 s + mi binary64 e ≤ pl binary64 e + mi binary64 s
  order = le→units binary64 s e w.value re after

  start : pl binary64 st + mi binary64 s ≤ mi binary64 st + pl binary64 s + pl binary64 reach_margin
  start = before s w st rs hit

  negative : Real binary64 (neg reach_margin)
  negative = neg-real binary64 reach_margin milli-own.value

  -- s less the start lies in -0.001 .. e less the start
  pub gap-covers : T (finite (e ⊖ st)) → In binary64 (neg reach_margin) (e ⊖ st) (s ⊖ st)
  gap-covers t =
      enclose binary64 (s ⊖ st) (neg reach_margin) (e ⊖ st) (pl binary64 s + mi binary64 st) (mi binary64 s + pl binary64 st) 1 (sub-Is binary64 s st w.value rs) negative (record { finite = t; fits = sub-fits binary64 e st })
      (under_of binary64 (pl binary64 s + mi binary64 st) (mi binary64 s + pl binary64 st) 1 (pl binary64 (neg reach_margin)) (mi binary64 (neg reach_margin)) 1 (neg reach_margin) (pow_pos 0) (pow_pos 0) (self-Is binary64 (neg reach_margin) negative) negative.finite
      (down (pl binary64 s) (mi binary64 s) (pl binary64 st) (mi binary64 st) (pl binary64 reach_margin) (pl binary64 (neg reach_margin)) (mi binary64 (neg reach_margin)) start (neg-pl binary64 reach_margin milli-own.value ∙ milli-own.plus) (neg-mi binary64 reach_margin milli-own.value)))
      (over-of binary64 (pl binary64 s + mi binary64 st) (mi binary64 s + pl binary64 st) 1 (pl binary64 e + mi binary64 st) (mi binary64 e + pl binary64 st) 1 (e ⊖ st) (pow_pos 0) (pow_pos 0) (sub-Is binary64 e st re rs) t
      (up (pl binary64 s) (mi binary64 s) (pl binary64 e) (mi binary64 e) (pl binary64 st) (mi binary64 st) order))
    where
      up : (sp sm ep em tp tm : ℕ) → sp + em ≤ ep + sm → (sp + tm) * 1 + (em + tp) * 1 ≤ (ep + tm) * 1 + (sm + tp) * 1
      up sp sm ep em tp tm a = omega arith

      down : (sp sm tp tm k q r : ℕ) → tp + sm ≤ tm + sp + k → q ≡ 0 → r ≡ k → q * 1 + (sm + tp) * 1 ≤ (sp + tm) * 1 + r * 1
      down sp sm tp tm k q r a b c = omega arith

  gap-real : T (finite (at_least_zero (e ⊖ st))) → Real binary64 (e ⊖ st)
  gap-real t = record { finite = gap-fin e st re rs (joined (pl binary64 s) (mi binary64 s) (pl binary64 e) (mi binary64 e) (pl binary64 st) (mi binary64 st) (pl binary64 reach_margin) order start) t; fits = sub-fits binary64 e st }
    where
      joined : (sp sm ep em tp tm k : ℕ) → sp + em ≤ ep + sm → tp + sm ≤ tm + sp + k → em + tp ≤ ep + tm + k
      joined sp sm ep em tp tm k a b = omega arith

  -- so within D, wherever D is finite
  covers : T (finite (at_least_zero (e ⊖ st) ⊕ reach_margin)) → Covers (s ⊖ st) (at_least_zero (e ⊖ st) ⊕ reach_margin)
  covers t =
      let D = at_least_zero (e ⊖ st) ⊕ reach_margin in
      let r_x = gap-real (add-fin binary64 (at_least_zero (e ⊖ st)) reach_margin t).0 in
      let raised = raised-real (e ⊖ st) r_x in
      let r_d : Real binary64 D = record { finite = t; fits = add-fits binary64 (at_least_zero (e ⊖ st)) reach_margin } in
      let over = add-grow-r binary64 (at_least_zero (e ⊖ st)) reach_margin raised.0 milli-own.value raised.1 t in
      let grown = add-grow-l binary64 (at_least_zero (e ⊖ st)) reach_margin raised.0 milli-own.value milli-own.plus t in
      let i = gap-covers r_x.finite in
      record {
        value = i.value;
        reach = r_d;
        plus = (within-mono binary64 reach_margin reach_margin D milli-own r_d over).plus;
        low = float_trans (neg D) (neg reach_margin) (s ⊖ st) (neg-le reach_margin D milli-own.value r_d over) i.above;
        high = float_trans (s ⊖ st) (e ⊖ st) D i.below (float_trans (e ⊖ st) (at_least_zero (e ⊖ st)) D raised.2 grown);
      }

-- ---- a cubic whose bound passes: its reach is finite

abs-nn : (x : Float) → Fits64 x → T (nn (abs_of x))
unfolding size of_bits
abs-nn x h = size-nn binary64 x h

abs-fits : (x : Float) → Fits64 x → Fits64 (abs_of x)
abs-fits x h = cond-fits binary64 (lt x zero64) (neg x) x (neg-fits binary64 x h) h

module _ (c : Cubic) (D : Float) (h : CubicFits c) (n : T (nn D)) where
  part-b : T (nn (abs_of c.b ⊗ D))
  part-b = mul-nn binary64 (abs_of c.b) D (abs-nn c.b h.b) n

  part_c : T (nn (abs_of c.c ⊗ D ⊗ D))
  part_c = mul-nn binary64 (abs_of c.c ⊗ D) D (mul-nn binary64 (abs_of c.c) D (abs-nn c.c h.c) n) n

  part-d : T (nn (abs_of c.d ⊗ D ⊗ D ⊗ D))
  part-d = mul-nn binary64 (abs_of c.d ⊗ D ⊗ D) D (mul-nn binary64 (abs_of c.d ⊗ D) D (mul-nn binary64 (abs_of c.d) D (abs-nn c.d h.d) n) n) n

  sum-b : T (nn (abs_of c.a ⊕ abs_of c.b ⊗ D))
  sum-b = add-nn binary64 (abs_of c.a) (abs_of c.b ⊗ D) (abs-nn c.a h.a) part-b

  sum-c : T (nn ((abs_of c.a ⊕ abs_of c.b ⊗ D) ⊕ abs_of c.c ⊗ D ⊗ D))
  sum-c = add-nn binary64 (abs_of c.a ⊕ abs_of c.b ⊗ D) (abs_of c.c ⊗ D ⊗ D) sum-b part_c

  bound-own : (limit : Float) → T (finite limit) → T (le (bound_of c D) limit) → Within binary64 (bound_of c D) (bound_of c D)
  unfolding bound_of
  bound-own limit l k =
      let n_b = add-nn binary64 ((abs_of c.a ⊕ abs_of c.b ⊗ D) ⊕ abs_of c.c ⊗ D ⊗ D) (abs_of c.d ⊗ D ⊗ D ⊗ D) sum-c part-d in
      nn-within binary64 (bound_of c D) (add-fits binary64 ((abs_of c.a ⊕ abs_of c.b ⊗ D) ⊕ abs_of c.c ⊗ D ⊗ D) (abs_of c.d ⊗ D ⊗ D ⊗ D)) n_b (fin-of_le (bound_of c D) limit n_b l k)

  reach-fin : T (finite (bound_of c D)) → T (finite D)
  unfolding bound_of
  reach-fin t = (mul-fin binary64 (abs_of c.d ⊗ D ⊗ D) D (add-fin binary64 ((abs_of c.a ⊕ abs_of c.b ⊗ D) ⊕ abs_of c.c ⊗ D ⊗ D) (abs_of c.d ⊗ D ⊗ D ⊗ D) t).1).1

  -- a sum is at least its first part
  grows : (x y : Float) → Fits64 x → T (nn x) → T (nn y) → Fits64 y → T (finite (x ⊕ y)) → Real binary64 x × T (le x (x ⊕ y))
  grows x y fx nx ny fy t =
      let u = add-fin binary64 x y t in
      let rx : Real binary64 x = record { finite = u.0; fits = fx } in
      (rx, add-grow-l binary64 x y rx (record { finite = u.1; fits = fy }) (nn-within binary64 y fy ny u.1).plus t)

  -- |a| alone is at most B
  first-within : T (finite (bound_of c D)) → Within binary64 c.a (bound_of c D)
  unfolding bound_of size of_bits
  first-within t =
      let A = abs_of c.a in
      let P = A ⊕ abs_of c.b ⊗ D in
      let Q = P ⊕ abs_of c.c ⊗ D ⊗ D in
      let q = grows Q (abs_of c.d ⊗ D ⊗ D ⊗ D) (add-fits binary64 P (abs_of c.c ⊗ D ⊗ D)) sum-c part-d (mul-fits binary64 (abs_of c.d ⊗ D ⊗ D) D) t in
      let p = grows P (abs_of c.c ⊗ D ⊗ D) (add-fits binary64 A (abs_of c.b ⊗ D)) sum-b part_c (mul-fits binary64 (abs_of c.c ⊗ D) D) q.0.finite in
      let a = grows A (abs_of c.b ⊗ D) (abs-fits c.a h.a) (abs-nn c.a h.a) part-b (mul-fits binary64 (abs_of c.b) D) p.0.finite in
      within-mono binary64 c.a Q (bound_of c D)
      (within-mono binary64 c.a P Q (within-mono binary64 c.a A P (size-within binary64 c.a h.a a.0.finite) p.0 a.1) q.0 p.1)
      (record { finite = t; fits = add-fits binary64 Q (abs_of c.d ⊗ D ⊗ D ⊗ D) }) q.1

-- its value and its slope within the bounds
eval-within : (c : Cubic) (ds D limit : Float) → CubicFits c → Covers ds D → T (finite limit) → T (le (bound_of c D) limit) → Within binary64 (eval_by c ds) (bound_of c D)
unfolding cubic bound_of size of_bits
eval-within c ds D limit h k l p =
    cubic-admitted binary64 c.a c.b c.c c.d ds D limit h.a h.b h.c h.d k.value.fits k.reach.fits k.low k.high l p

rate-within : (c : Cubic) (ds D limit : Float) → CubicFits c → Covers ds D → T (finite limit) → T (le (slope_bound_of c D) limit) → Within binary64 (slope_by c ds) (slope_bound_of c D)
unfolding slope slope_bound_of size of_bits fits
rate-within c ds D limit h k l p =
    slope-admitted binary64 (f64 0x4000_0000_0000_0000) (f64 0x4008_0000_0000_0000) c.b c.c c.d ds D limit tt tt tt tt h.b h.c h.d k.value.fits k.reach.fits k.low k.high l p

-- ---- a list that passes its tests, and a station before its end

pub record Ready (cs : List Cubic) (lo hi end limit s : Float) : Type 0 where
  pub fitting : CubicsFit cs
  pub least : Real binary64 lo
  pub most : Real binary64 hi
  pub place : Within binary64 s far
  pub stop : Real binary64 end
  pub order : T (le s end)
  pub bound : Within binary64 zero64 limit
  pub passed : cubics_within cs lo hi end limit ≡ true

slope-passes : (cs : List Cubic) (end m : Float) → slopes_within cs end m ≡ true → (i : ℕ) → i < length cs → T (le (slope_bound_of (cubic_at cs i) (reach_at cs end i)) m)
unfolding slopes_within
slope-passes cs end m p i h =
    T_from_true (le (slope_bound_of (cubic_at cs i) (reach_at cs end i)) m) (all-at (λ k. le (slope_bound_of (cubic_at cs k) (reach_at cs end k)) m) (length cs) p i h)

module _ {cs : List Cubic} {lo hi end limit s : Float} (r : Ready cs lo hi end limit s) where
  passes : (i : ℕ) → i < length cs → cubic_within cs lo hi end limit i ≡ true
  unfolding cubics_within
  passes i h = all-at (cubic_within cs lo hi end limit) (length cs) r.passed i h

  start-real : (i : ℕ) → i < length cs → Real binary64 (cubic_at cs i).start
  unfolding cubic_within
  start-real i h =
      let x = (cubic_at cs i).start in
      let p = and-fst (le lo x && le x hi) (le (bound_at cs end i) limit) (passes i h) in
      record { finite = finite-between lo x hi r.least.finite r.most.finite (T_from_true (le lo x) (and-fst (le lo x) (le x hi) p)) (T_from_true (le x hi) (and-snd (le lo x) (le x hi) p)); fits = (r.fitting i).start }

  -- "B at most": the bound of the i-th cubic
  pub bound-passes : (i : ℕ) → i < length cs → T (le (bound_at cs end i) limit)
  unfolding cubic_within
  bound-passes i h = T_from_true (le (bound_at cs end i) limit) (and-snd (le lo (cubic_at cs i).start && le (cubic_at cs i).start hi) (le (bound_at cs end i) limit) (passes i h))

  ends-after : (i : ℕ) → Active (λ k. (cubic_at cs k).start) (active_up_to s) (length cs) i → Real binary64 (end_at cs end i) × T (le s (end_at cs end i))
  ends-after i a = go (ltb (i + 1) (length cs)) (ltb→lt (i + 1) (length cs))
    where
      next : (q : Real binary64 (cubic_at cs (i + 1)).start) → T (not (le (cubic_at cs (i + 1)).start (active_up_to s))) → T (le s (cubic_at cs (i + 1)).start)
      next q n = float_trans s (active_up_to s) (cubic_at cs (i + 1)).start (up_to-grows s r.place) (nle→le binary64 (cubic_at cs (i + 1)).start (active_up_to s) q (up_to-real s r.place) n)

      go : (b : Bool) → (T b → i + 1 < length cs) → Real binary64 (cond b (cubic_at cs (i + 1)).start end) × T (le s (cond b (cubic_at cs (i + 1)).start end))
      go true l = let q = start-real (i + 1) (l tt) in (q, next q (a.miss (l tt)))
      go false l = (r.stop, r.order)

  reach-nn : (i : ℕ) → T (nn (reach_at cs end i))
  unfolding reach_at
  reach-nn i =
      let x = (cubic_at cs i).start in
      add-nn binary64 (at_least_zero (end_at cs end i ⊖ x)) reach_margin (raised-nn (end_at cs end i ⊖ x) (sub-fits binary64 (end_at cs end i) x)) (nn-of-mi reach_margin milli-own.value milli-own.plus)

  -- the bound of each cubic is finite and not below zero, and its a alone is within the limit
  pub bound_real : (i : ℕ) → i < length cs → Within binary64 (bound_at cs end i) (bound_at cs end i)
  bound_real i h = bound-own (cubic_at cs i) (reach_at cs end i) (r.fitting i) (reach-nn i) limit r.bound.bound.finite (bound-passes i h)

  pub constant-within : (i : ℕ) → i < length cs → Within binary64 (cubic_at cs i).a limit
  constant-within i h =
      within-mono binary64 (cubic_at cs i).a (bound_at cs end i) limit
      (first-within (cubic_at cs i) (reach_at cs end i) (r.fitting i) (reach-nn i) (bound_real i h).bound.finite) r.bound.bound (bound-passes i h)

  -- the station lies within the reach of the active cubic
  pub reach-covers : (i : ℕ) → active_in cs s ≡ Some i → Covers (s ⊖ (cubic_at cs i).start) (reach_at cs end i)
  unfolding reach_at
  reach-covers i e =
      let a = active-at cs s i e in
      let x = (cubic_at cs i).start in
      let f = ends-after i a in
      covers s x (end_at cs end i) r.place (start-real i a.below) f.0 f.1 a.hit
      (reach-fin (cubic_at cs i) (reach_at cs end i) (r.fitting i) (reach-nn i) (bound_real i a.below).bound.finite)

  -- its value is at most its bound B in size
  pub active-within : (i : ℕ) → active_in cs s ≡ Some i → Within binary64 (value_in cs s) (bound_at cs end i)
  active-within i e =
      subst (λ (v : Float). Within binary64 v (bound_at cs end i)) (sym (value-at cs s i e))
      (eval-within (cubic_at cs i) (s ⊖ (cubic_at cs i).start) (reach_at cs end i) limit (r.fitting i) (reach-covers i e) r.bound.bound.finite (bound-passes i (active-at cs s i e).below))

  -- so the value is at most the limit, whether a cubic is active or not
  pub value-within : Within binary64 (value_in cs s) limit
  value-within = go (active_in cs s) refl
    where
      go : (x : Option ℕ) → active_in cs s ≡ x → Within binary64 (value_in cs s) limit
      go (Some i) e = within-mono binary64 (value_in cs s) (bound_at cs end i) limit (active-within i e) r.bound.bound (bound-passes i (active-at cs s i e).below)
      go None e = subst (λ (v : Float). Within binary64 v limit) (sym (value_none cs s e)) r.bound

  -- and so is the slope, of a list whose slopes pass theirs
  pub slope_within_lem : (m : Float) → Within binary64 zero64 m → slopes_within cs end m ≡ true → Within binary64 (slope_in cs s) m
  slope_within_lem m w p = go (active_in cs s) refl
    where
      go : (x : Option ℕ) → active_in cs s ≡ x → Within binary64 (slope_in cs s) m
      go (Some i) e =
          let D = reach_at cs end i in
          let q = slope-passes cs end m p i (active-at cs s i e).below in
          subst (λ (v : Float). Within binary64 v m) (sym (slope_at_lem cs s i e))
          (within-mono binary64 (slope_by (cubic_at cs i) (s ⊖ (cubic_at cs i).start)) (slope_bound_of (cubic_at cs i) D) m
          (rate-within (cubic_at cs i) (s ⊖ (cubic_at cs i).start) D m (r.fitting i) (reach-covers i e) w.bound.finite q) w.bound q)
      go None e = subst (λ (v : Float). Within binary64 v m) (sym (slope-none cs s e)) w
