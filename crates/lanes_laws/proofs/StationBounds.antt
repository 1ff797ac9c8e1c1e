-- A value given at stations along the road, at least 0.001 apart, and linear between them: at most as large between as at the stations, but for the roundings and the nanometre before a station.
-- By the law on fractions and the law on interpolation; the constants are compared by computation.
use mathlib.Core.Path.{◌≡◌, refl}
use Prim.Native.Nat.{ℕ, zero, suc, ◌+◌, ◌-◌, ◌*◌, ◌^◌, ◌≤◌, ◌<◌, zero-le}
use native.Mathlib.Nat.{le_trans, le-add_right, le_of_mul-le-mul_right}
use native.Mathlib.Omega.{arith}
use mathlib.Core.Bool.{Bool, true, false, cond}
use lib.Dec.{T, ltb, eqb, lit≤, lit<}
use lib.Pow.{pow_pos}
use lib.Ieee.{Float, binary64, prec, emax, low, le, add, div, fits, of_bits}
use lib.Ieee.Scale.{finite}
use borrow.Author.Tests.{ltb-true, eqb-false}
use Rattle.std.proofs.lemmas.Float.{T_from_true, T_from_false}
use Rattle.float_laws.specs.Binary64.{◌⊖◌, ◌⊘◌, f64, zero64}
use Rattle.float_laws.proofs.Value.{mag, pl, mi, Real}
use Rattle.float_laws.proofs.Size.{Within}
use Rattle.float_laws.proofs.Checker.{good-real}
use Rattle.float_laws.proofs.Interpolate.{interpolate-within-outside}
use Rattle.std.specs.declared.option.Option.{Option}
use Rattle.std.specs.declared.option.Option.TheVariants.{Some, None}
use Rattle.records.specs.Active.{active_margin, last_start, active_up_to}
use Rattle.records.proofs.ScanLaws.{last_start-below, last_start-reached, last_start-after}
use Rattle.admission_order.specs.Order.{least_gap}
use Rattle.arithmetic_ranges.specs.Ranges.{largest, blend}
use Rattle.lanes_laws.proofs.Fractions.{Fraction, Margin, fraction}

-- ---- the constants: 1e-9 before a station it counts (`active_margin`), 1.1e-9 has room for a rounding, stations are at most 16,384 from 0
abbrev slack : Float
slack = f64 0x3e12_e5d9_e5c4_5270

abbrev pub far : Float
far = f64 0x40d0_0000_0000_0000

-- how far below 0 a fraction may lie, in units
abbrev pub short : ℕ
short = pl binary64 (slack ⊘ least_gap)

-- starts as large as R may be: `far` for profiles, any number for a lane's heights
abbrev pub Starts : Float → Type 0
Starts R = Margin binary64 far R active_margin least_gap slack 1089

margin-of : (R : Float) → T (finite (add binary64 far R)) → Starts R
unfolding of_bits fits mi pl div
margin-of R t =
    record {
      e_real = good-real binary64 active_margin tt;
      e_plus = refl;
      c_real = good-real binary64 least_gap tt;
      c_plus = refl;
      c_above = lit< tt;
      w_real = good-real binary64 slack tt;
      w_plus = refl;
      total = t;
      sum = lit≤ tt;
      exponent = lit< tt;
      slack = lit≤ tt;
      quotient = tt;
      small = lit≤ tt;
    }

pub starts-far : Starts far
unfolding of_bits add
starts-far = margin-of far tt

pub starts-any : Starts largest
unfolding of_bits add
starts-any = margin-of largest tt

-- ---- one interpolation: from ends within A to B, a little larger
pub record Wider (A B : Float) (j : ℕ) : Type 0 where
  pub size : pl binary64 A ≤ 2 ^ j
  pub exponent : j + 2 < low binary64 + emax binary64
  pub real : Real binary64 B
  pub plus : mi binary64 B ≡ 0
  pub room : (pl binary64 A + 8 * 2 ^ (j - prec binary64)) * 2 ^ low binary64 + 2 * (pl binary64 A * short) ≤ pl binary64 B * 2 ^ low binary64

wider_le : (a e b u L : ℕ) → 0 < L → (a + e) * L + 2 * (a * u) ≤ b * L → a ≤ b
wider_le a e b u L l h = let k : a * L ≤ b * L = omega arith in le_of_mul-le-mul_right k l

pub widened : {A B : Float} {j : ℕ} (x : Float) → Wider A B j → Within binary64 x A → Within binary64 x B
widened {A} {B} {j} x w v =
    let h = wider_le (pl binary64 A) (8 * 2 ^ (j - prec binary64)) (pl binary64 B) short (2 ^ low binary64) (pow_pos (low binary64)) w.room in
    record { value = v.value; bound = w.real; plus = w.plus; le = le_trans v.le h }

pub zero-within : (B : Float) → Real binary64 B → mi binary64 B ≡ 0 → Within binary64 zero64 B
unfolding of_bits fits mag
zero-within B r z = record { value = good-real binary64 zero64 tt; bound = r; plus = z; le = zero-le }

pub blend-within : {A B : Float} {j : ℕ} (a b t : Float) → Wider A B j → Within binary64 a A → Within binary64 b A → Fraction binary64 t short → Within binary64 (blend a b t) B
blend-within {A} {B} {j} a b t w wa wb q =
    interpolate-within-outside binary64 a b t A B short j wa wb q.value starts-far.small q.below (le_trans q.above (le-add_right (2 ^ low binary64) short)) w.size w.exponent w.real w.plus w.room

-- ---- along the stations
module _ (start value : ℕ → Float) (n : ℕ) (s : Float) where
  abbrev pub between : ℕ → Float
  between i = blend (value i) (value (i + 1)) ((s ⊖ start i) ⊘ (start (i + 1) ⊖ start i))

  -- linear between the stations, constant outside, 0 with none
  abbrev pub along : Option ℕ → Float
  along (Some i) = cond (ltb (i + 1) n) (between i) (value i)
  along None = cond (eqb n 0) zero64 (value 0)

pub record Stations (start value : ℕ → Float) (n : ℕ) (R A : Float) : Type 0 where
  pub starts : (i : ℕ) → i < n → Within binary64 (start i) R
  pub values : (i : ℕ) → i < n → Within binary64 (value i) A
  pub apart : (i : ℕ) → i + 1 < n → T (le least_gap (start (i + 1) ⊖ start i))

module _ (start value : ℕ → Float) (n : ℕ) (s R A B : Float) (j : ℕ) (m : Starts R) (w : Wider A B j) (k : Stations start value n R A) (ws : Within binary64 s far) where
  between-within : (i : ℕ) → last_start start (active_up_to s) n ≡ Some i → i + 1 < n → Within binary64 (between start value n s i) B
  between-within i e h =
      let l : i < n = omega arith in
      let o : i < i + 1 = omega arith in
      let q = fraction binary64 (start i) (start (i + 1)) s active_margin least_gap slack far R 1089 m ws (k.starts i l) (k.starts (i + 1) h).value (T_from_true _ (last_start-reached start (active_up_to s) n i e)) (T_from_false _ (last_start-after start (active_up_to s) n i (i + 1) e o h)) (k.apart i h) in
      blend-within (value i) (value (i + 1)) ((s ⊖ start i) ⊘ (start (i + 1) ⊖ start i)) w (k.values i l) (k.values (i + 1) h) q

  at-within : (i : ℕ) → last_start start (active_up_to s) n ≡ Some i → Within binary64 (along start value n s (Some i)) B
  at-within i e = go (ltb (i + 1) n) (ltb-true (i + 1) n)
    where
      go : (b : Bool) → (b ≡ true → i + 1 < n) → Within binary64 (cond b (between start value n s i) (value i)) B
      go true h = between-within i e (h refl)
      go false h = widened (value i) w (k.values i (last_start-below start (active_up_to s) n i e))

  none_within : Within binary64 (along start value n s None) B
  none_within = go (eqb n 0) (eqb-false n 0)
    where
      some : (n : ℕ) → (n ≡ 0 → ⊥) → 0 < n
      some zero h = absurd (h refl)
      some (suc i) h = omega arith

      go : (b : Bool) → (b ≡ false → n ≡ 0 → ⊥) → Within binary64 (cond b zero64 (value 0)) B
      go true h = zero-within B w.real w.plus
      go false h = widened (value 0) w (k.values 0 (some n (h refl)))

  pub along-within : Within binary64 (along start value n s (last_start start (active_up_to s) n)) B
  along-within = go (last_start start (active_up_to s) n) refl
    where
      go : (f : Option ℕ) → last_start start (active_up_to s) n ≡ f → Within binary64 (along start value n s f) B
      go (Some i) e = at-within i e
      go None e = none_within
