-- The line's length, `along` at its last station, is the arc length at its last point: all stations are at most the last, so the segment is the last one; the way along it is d / d, exactly 1 for a d above zero, and 1 leaves a distance as it is.
use Prim.Native.Nat.{ℕ, suc, ◌+◌, ◌-◌, ◌*◌, ◌^◌, ◌≤◌, ◌<◌, min}
use native.Mathlib.Nat.{le_trans, le_of_eq, lt_of_lt_of_le, mul-one, zero-add, min-eq_right, eq-or-lt_of_le}
use native.Mathlib.Omega.{arith}
use mathlib.Core.Path.{◌≡◌, refl, sym, ap, ◌∙◌, subst}
use mathlib.Core.Logic.{⊎_elim}
use mathlib.Core.Bool.{Bool, true, false}
use lib.Dec.{T}
use lib.Pow.{pow_pos, pow-lt}
use lib.Ieee.{Float, nan, inf, fin, binary32, binary64, low, up, down, unlike, round, of_bits, le, lt, mul}
use lib.Ieee.Bits.{is_true}
use lib.Ieee.Scale.{finite, overflow}
use Rattle.float_laws.specs.Binary32.{◌⊕◌, ◌⊗◌, one32, clamp_of}
use Rattle.float_laws.specs.Binary64.{◌⊖◌, ◌⊘◌, zero64}
use Rattle.float_laws.proofs.Nearest.{apart}
use Rattle.float_laws.proofs.Units.{rnd, rnd-le, rnd-pow, rnd-zero}
use Rattle.float_laws.proofs.Value.{mag, pl, mi, Real, mag_is, sign-plus, lt→units}
use Rattle.float_laws.proofs.Operation.{Is, sub-Is}
use Rattle.float_laws.proofs.Same.{same-value}
use Rattle.float_laws.proofs.Interval.{div-Is'}
use Rattle.float_laws.proofs.Zero.{round-self}
use Rattle.arithmetic.specs.Narrow.{narrowed}
use Rattle.records.specs.declared.points.Point.{Point}
use Rattle.tracks.specs.Lengths.{distance_of, length_to}
use Rattle.tracks.specs.Poses.{leading_from, segment_in}
use Rattle.tracks_laws.proofs.Leading.{lead-le, lead-at}
use Rattle.dots.specs.Along.{one64, fraction_to, along}
use Rattle.dots_laws.proofs.StationOn.{one64-real, one64-pl, one64-mi}

-- ---- d / d

itself : (p m L : ℕ) → m ≡ 0 → (p * L - m * L ≡ L * p) × (m * L - p * L ≡ 0)
itself p m L e = rw e (omega arith, omega arith)

module _ (d : Float) (r : Real binary64 d) (z : mi binary64 d ≡ 0) (o : 0 < pl binary64 d) where
  abbrev L : ℕ
  L = 2 ^ low binary64

  sizes : (rnd binary64 (pl binary64 d * L - mi binary64 d * L) (pl binary64 d) ≡ L) × (rnd binary64 (mi binary64 d * L - pl binary64 d * L) (pl binary64 d) ≡ 0)
  sizes =
      let e = itself (pl binary64 d) (mi binary64 d) L z in
      (ap (λ (n : ℕ). rnd binary64 n (pl binary64 d)) e.0 ∙ rnd-pow binary64 (pl binary64 d) (low binary64) o, ap (λ (n : ℕ). rnd binary64 n (pl binary64 d)) e.1 ∙ rnd-zero binary64 (pl binary64 d) o)

  quot-Is : Is binary64 (d ⊘ d) (pl binary64 d * L) (mi binary64 d * L) (pl binary64 d)
  quot-Is = div-Is' binary64 d d r r o

  quot-finite : T (finite (d ⊘ d))
  quot-finite = quot-Is.small (subst (λ (n : ℕ). n < overflow binary64) (sym sizes.0) (pow-lt (let h : 1074 < 2098 = omega arith in h))) (subst (λ (n : ℕ). n < overflow binary64) (sym sizes.1) (pow_pos 2098))

  by-itself : d ⊘ d ≡ one64
  by-itself =
      let p = quot-Is.plus quot-finite ∙ sizes.0 in
      let m = quot-Is.minus quot-finite ∙ sizes.1 in
      same-value binary64 (d ⊘ d) one64 (record { finite = quot-finite; fits = quot-Is.fits }) one64-real
      (sign-plus binary64 (d ⊘ d) (above (pl binary64 (d ⊘ d)) p) ∙ sym (sign-plus binary64 one64 (above (pl binary64 one64) one64-pl)))
      (sizes-add (d ⊘ d) p m ∙ sym (sizes-add one64 one64-pl one64-mi))
    where
      above : (n : ℕ) → n ≡ L → 0 < n
      above n e = subst (λ (k : ℕ). 0 < k) (sym e) (pow_pos (low binary64))

      added : (p m l : ℕ) → p ≡ l → m ≡ 0 → p + m ≡ l
      added p m l e f = omega arith

      sizes-add : (x : Float) → pl binary64 x ≡ L → mi binary64 x ≡ 0 → mag binary64 x ≡ L
      sizes-add x e f = mag_is binary64 x ∙ added (pl binary64 x) (mi binary64 x) L e f

-- what is left of a larger number is above zero
less_above : (a b : Float) → Real binary64 a → Real binary64 b → T (lt a b) → T (finite (b ⊖ a)) → 0 < pl binary64 (b ⊖ a)
less_above a b ra rb h t =
    let e = lt→units binary64 a b ra rb h in
    let one : rnd binary64 1 1 ≡ 1 = rnd-pow binary64 1 0 (pow_pos 0) in
    lt_of_lt_of_le (pow_pos 0) (le_trans (le_of_eq (sym one)) (le_trans (rnd-le binary64 1 (pl binary64 b + mi binary64 a - (mi binary64 b + pl binary64 a)) 1 (pow_pos 0) (gap (pl binary64 a) (mi binary64 b) (pl binary64 b) (mi binary64 a) e)) (le_of_eq (sym ((sub-Is binary64 b a rb ra).plus t)))))
  where
    gap : (p q u v : ℕ) → p + q < u + v → 1 ≤ u + v - (q + p)
    gap p q u v h = omega arith

-- ---- times 1

unlike-plus : (s : Bool) → unlike s false ≡ s
unlike-plus true = refl
unlike-plus false = refl

pub times-one : (x : Float) → Real binary32 x → x ⊗ one32 ≡ x
unfolding mul of_bits
times-one nan r = absurd r.finite
times-one (inf s) r = absurd r.finite
times-one (fin s m e) r =
    ap (λ (b : Bool). round binary32 b (m * up e * 1) (down e * 1)) (unlike-plus s) ∙ ap (λ (n : ℕ). round binary32 s n (down e * 1)) (mul-one (m * up e)) ∙ ap (λ (n : ℕ). round binary32 s (m * up e) n) (mul-one (down e)) ∙ round-self binary32 s m e r

-- ---- at the last station

held-one : clamp_of zero64 one64 one64 ≡ one64
unfolding of_bits lt
held-one = refl

narrow-one : narrowed one64 ≡ one32
unfolding narrowed of_bits
narrow-one = refl

-- where none of the n is above s, all lead
all-lead : (c : ℕ → Float) (n : ℕ) (s : Float) → ((i : ℕ) → i < n → T (le (c i) s)) → leading_from c s 0 n ≡ n
all-lead c n s h =
    let l = lead-le c s 0 n in
    ⊎_elim
    (λ (e : leading_from c s 0 n ≡ n). e)
    (λ (g : leading_from c s 0 n < n). let i = leading_from c s 0 n in absurd (apart (sym (is_true (le (c i) s) (h i g)) ∙ ap (λ (k : ℕ). le (c k) s) (sym (zero-add i)) ∙ lead-at c s 0 n g)))
    (eq-or-lt_of_le l)

last-segment : (c : ℕ → Float) (n : ℕ) (s : Float) → ((i : ℕ) → i < n → T (le (c i) s)) → segment_in c n s ≡ n - 2
last-segment c n s h = ap (λ (k : ℕ). min (k - 1) (n - 2)) (all-lead c n s h) ∙ min-eq_right (let o : n - 2 ≤ n - 1 = omega arith in o)

-- a and b, the last two stations; b is the one asked for
pub whole-fraction : (a b : Float) → Real binary64 a → Real binary64 b → T (lt a b) → Real binary64 (b ⊖ a) → mi binary64 (b ⊖ a) ≡ 0 → narrowed (fraction_to a b b) ≡ one32
whole-fraction a b ra rb h rd z = ap (λ (q : Float). narrowed (clamp_of zero64 one64 q)) (by-itself (b ⊖ a) rd z (less_above a b ra rb h rd.finite)) ∙ ap narrowed held-one ∙ narrow-one

along-in : (p : ℕ → Point) (c : ℕ → Float) (n : ℕ) (s : Float) → along p c n s ≡ length_to p (segment_in c n s) ⊕ distance_of (p (segment_in c n s)) (p (suc (segment_in c n s))) ⊗ narrowed (fraction_to (c (segment_in c n s)) (c (suc (segment_in c n s))) s)
unfolding along
along-in p c n s = refl

one-more : (p : ℕ → Point) (i : ℕ) → length_to p (suc i) ≡ length_to p i ⊕ distance_of (p i) (p (suc i))
unfolding length_to
one-more p i = refl

pub along-last : (p : ℕ → Point) (c : ℕ → Float) (n i : ℕ) → n ≡ suc (suc i) → ((j : ℕ) → j < n → T (le (c j) (c (suc i)))) → Real binary32 (distance_of (p i) (p (suc i))) → narrowed (fraction_to (c i) (c (suc i)) (c (suc i))) ≡ one32 → along p c n (c (suc i)) ≡ length_to p (suc i)
along-last p c n i e h r w =
    let s = c (suc i) in
    let k : segment_in c n s ≡ i = last-segment c n s h ∙ (omega arith) in
    along-in p c n s ∙ ap (λ (j : ℕ). length_to p j ⊕ distance_of (p j) (p (suc j)) ⊗ narrowed (fraction_to (c j) (c (suc j)) s)) k
    ∙ ap (λ (t : Float). length_to p i ⊕ distance_of (p i) (p (suc i)) ⊗ t) w ∙ ap (λ (x : Float). length_to p i ⊕ x) (times-one (distance_of (p i) (p (suc i))) r) ∙ sym (one-more p i)
