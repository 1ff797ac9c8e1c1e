-- A finite value is at most the largest of its format in size, so the machine's test of a finite f64 is document 01's.
-- In units of the format's smallest value it is q × 2^j for a q below 2^53, and what of that kind lies below the overflow is at most (2^53 - 1) × 2^2045, the largest.
use Prim.Native.Nat.{ℕ, zero, suc, ◌+◌, ◌-◌, ◌*◌, ◌/◌, ◌%◌, ◌^◌, ◌≤◌, ◌<◌}
use native.Mathlib.Nat.{le_trans, le_of_eq, lt_of_le_of_lt, not-le_of_lt, mul-le-mul, mul-le-mul_right, mul_assoc, mul-one, zero-mul, zero-div, div-one}
use native.Mathlib.Omega.{arith}
use mathlib.Core.Path.{◌≡◌, refl, sym, ◌∙◌, ap, subst}
use mathlib.Core.Bool.{Bool, true, false, not, ◌&&◌, cond}
use lib.IntN.{ℤ, pos, negsuc}
use lib.Dec.{T, leb, ltb, eqb, leb→le, ltb→lt, nleb→lt}
use lib.Pow.{pow_pos, pow_mono, pow-lt, pow-add, le_ones, shl-shr, shr_lt}
use lib.Ieee.{Float, nan, inf, fin, Format, binary64, prec, low, emax, up, down, lt, le, neg, fits, of_bits}
use lib.Ieee.Fits.{and_l, and_r}
use lib.Ieee.Scale.{overflow}
use Rattle.std.specs.Float.{float_is_finite}
use lib.Ieee.Bits.{is_true}
use Rattle.float_laws.specs.Binary64.{zero64}
use Rattle.float_laws.proofs.Value.{Real, mag, pl, mi, under}
use Rattle.float_laws.proofs.Checker.{good-real}
use Rattle.float_laws.proofs.Size.{Within, le_of-within, neg-within}
use Rattle.arithmetic_ranges.specs.Ranges.{largest, finite64}

most : (p t q j : ℕ) → q < 2 ^ p → q * 2 ^ j < 2 ^ (p + t) → q * 2 ^ j ≤ (2 ^ p - 1) * 2 ^ t
most p t q j h k = go (leb j t) (leb→le j t) (nleb→lt j t)
  where
    go : (b : Bool) → (T b → j ≤ t) → (T (not b) → t < j) → q * 2 ^ j ≤ (2 ^ p - 1) * 2 ^ t
    go true l g = mul-le-mul (le_ones p h) (pow_mono (l tt))
    go false l g =
        let w = g tt in
        let d : j - t + t ≡ j = omega arith in
        let e : q * 2 ^ j ≡ q * 2 ^ (j - t) * 2 ^ t = ap (λ (n : ℕ). q * 2 ^ n) (sym d) ∙ ap (λ (n : ℕ). q * n) (pow-add 2 (j - t) t) ∙ sym (mul_assoc q (2 ^ (j - t)) (2 ^ t)) in
        let u : q * 2 ^ (j - t) < 2 ^ p = subst (λ (n : ℕ). n < 2 ^ p) (shl-shr (q * 2 ^ (j - t)) t) (shr_lt p t (lt_of_le_of_lt (le_of_eq (sym e)) k)) in
        le_trans (le_of_eq e) (mul-le-mul_right (2 ^ t) (le_ones p u))

-- n × 2^e, which is a whole number of units
units_by : (l n : ℕ) (e : ℤ) → down e ≤ 2 ^ l → (j : ℕ) × (n * up e * 2 ^ l / down e ≡ n * 2 ^ j)
units_by l n (pos k) h = (k + l, div-one (n * 2 ^ k * 2 ^ l) ∙ mul_assoc n (2 ^ k) (2 ^ l) ∙ ap (λ (x : ℕ). n * x) (sym (pow-add 2 k l)))
units_by l n (negsuc k) h = go (leb (suc k) l) (leb→le (suc k) l) (nleb→lt (suc k) l)
  where
    go : (b : Bool) → (T b → suc k ≤ l) → (T (not b) → l < suc k) → (j : ℕ) × (n * 1 * 2 ^ l / 2 ^ suc k ≡ n * 2 ^ j)
    go true a c =
        let w = a tt in
        let d : l - suc k + suc k ≡ l = omega arith in
        let e : n * 1 * 2 ^ l ≡ n * 2 ^ (l - suc k) * 2 ^ suc k =
        ap (λ (x : ℕ). x * 2 ^ l) (mul-one n) ∙ ap (λ (x : ℕ). n * 2 ^ x) (sym d) ∙ ap (λ (x : ℕ). n * x) (pow-add 2 (l - suc k) (suc k)) ∙ sym (mul_assoc n (2 ^ (l - suc k)) (2 ^ suc k)) in
        (l - suc k, ap (λ (x : ℕ). x / 2 ^ suc k) e ∙ shl-shr (n * 2 ^ (l - suc k)) (suc k))
    go false a c = absurd (not-le_of_lt (pow-lt (c tt)) h)

record Grid (f : Format) (x : Float) : Type 0 where
  q : ℕ
  j : ℕ
  small : q < 2 ^ prec f
  units : mag f x ≡ q * 2 ^ j

grid_of : (f : Format) (x : Float) → Real f x → Grid f x
unfolding mag fits
grid_of f nan r = absurd r.finite
grid_of f (inf s) r = absurd r.finite
grid_of f (fin s zero e) r = record { q = 0; j = 0; small = pow_pos (prec f); units = ap (λ (x : ℕ). x / down e) (ap (λ (x : ℕ). x * 2 ^ low f) (zero-mul (up e)) ∙ zero-mul (2 ^ low f)) ∙ zero-div (down e) }
grid_of f (fin s (suc m) e) r =
    let w = and_l (eqb (suc m % 2) 1 && ltb (suc m) (2 ^ prec f) && leb (down e) (2 ^ low f)) (ltb (suc m * up e) (2 ^ suc (emax f) * down e)) r.fits in
    let u = units_by (low f) (suc m) e (leb→le (down e) (2 ^ low f) (and_r (eqb (suc m % 2) 1 && ltb (suc m) (2 ^ prec f)) (leb (down e) (2 ^ low f)) w)) in
    record {
      q = suc m;
      j = u.0;
      small = ltb→lt (suc m) (2 ^ prec f) (and_r (eqb (suc m % 2) 1) (ltb (suc m) (2 ^ prec f)) (and_l (eqb (suc m % 2) 1 && ltb (suc m) (2 ^ prec f)) (leb (down e) (2 ^ low f)) w));
      units = u.1;
    }

-- so the largest value of a format is at least every finite one in size
pub within-top : (f : Format) (top : Float) (t : ℕ) → 2 ^ (prec f + t) ≡ overflow f → Real f top → (pl f top ≡ (2 ^ prec f - 1) * 2 ^ t) × (mi f top ≡ 0) → (x : Float) → Real f x → Within f x top
within-top f top t o r p x v =
    let g = grid_of f x v in
    let h = most (prec f) t g.q g.j g.small (lt_of_le_of_lt (le_of_eq (sym g.units)) (subst (λ (n : ℕ). mag f x < n) (sym o) (under f x v))) in
    record { value = v; bound = r; plus = p.1; le = le_trans (le_of_eq g.units) (le_trans h (le_of_eq (sym p.0))) }

largest-parts : (pl binary64 largest ≡ (2 ^ 53 - 1) * 2 ^ 2045) × (mi binary64 largest ≡ 0)
unfolding of_bits mag pl mi
largest-parts = (refl, refl)

within-largest : (x : Float) → Real binary64 x → Within binary64 x largest
unfolding of_bits fits
within-largest = within-top binary64 largest 2045 refl (good-real binary64 largest tt) largest-parts

pub finite_is : (x : Float) → T (fits binary64 x) → float_is_finite x ≡ finite64 x
unfolding float_is_finite of_bits lt le neg
finite_is nan h = refl
finite_is (inf true) h = refl
finite_is (inf false) h = refl
finite_is (fin s m e) h = go (lt (fin s m e) zero64)
  where
    r : Real binary64 (fin s m e)
    r = record { finite = tt; fits = h }

    w : Within binary64 (fin s m e) largest
    w = within-largest (fin s m e) r

    go : (b : Bool) → true ≡ le (cond b (neg (fin s m e)) (fin s m e)) largest
    go true = sym (is_true _ (le_of-within binary64 (neg (fin s m e)) largest (neg-within binary64 (fin s m e) largest w)).1)
    go false = sym (is_true _ (le_of-within binary64 (fin s m e) largest w).1)
