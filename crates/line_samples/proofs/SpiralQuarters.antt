-- The count of a spiral's steps may start from k / 4, where that lies below the end: the steps up to there are 0.25 each and their sums are exact.
-- In units of 2 ^ -1074 the place is k * 2 ^ 1072. By induction on the steps made; the length's order in units says that each is a whole one.
use Prim.Native.Nat.{ℕ, zero, suc, ◌+◌, ◌-◌, ◌*◌, ◌^◌, ◌≤◌, ◌<◌}
use native.Mathlib.Nat.{le_refl, le_trans, le_of_eq, le_of_lt, lt_of_le_of_lt, lt_of_lt_of_le, mul-le-mul_right, zero-mul, mul-pos}
use native.Mathlib.Numerals.{add-one}
use native.Mathlib.Omega.{arith}
use mathlib.Core.Path.{◌≡◌, refl, sym, ap, ◌∙◌, subst}
use mathlib.Core.Logic.{◌⊎◌, inl, inr}
use mathlib.Core.List.{[], ◌∷◌}
use mathlib.Core.Bool.{Bool, true, false, not, cond}
use lib.Dec.{T, lit≤, lit<}
use borrow.Author.Tests.{le-leb}
use lib.Pow.{pow_pos}
use lib.IntN.{pos, negsuc}
use lib.Ieee.{Float, nan, inf, fin, Format, binary32, binary64, prec, emax, low, round, of_int, of_bits, add, sub, mul, lt, le, eq, fits, is_nan, in_float}
use lib.Ieee.Bits.{is_true}
use lib.Ieee.Fits.{round-fits, sub-fits, and_r}
use lib.Ieee.Scale.{finite}
use Rattle.float_laws.specs.Binary64.{◌⊕◌, ◌⊖◌, f64, zero64}
use Rattle.float_laws.proofs.Units.{rnd, rnd-exact, rnd-zero, rnd-le}
use Rattle.float_laws.proofs.Value.{sign, mag, pl, mi, Real, mag_is, one_side, mag_of, under, le→units, lt→units, units→lt, sign-plus}
use Rattle.float_laws.proofs.Operation.{sub-Is, mul-Is, round-has}
use Rattle.float_laws.proofs.Exact.{fixed, self-Is, is_le}
use Rattle.float_laws.proofs.Size.{add-fin}
use Rattle.float_laws.proofs.Same.{same-value}
use Rattle.float_laws.proofs.Whole.{Steps, Whole, steps-rnd, steps-under, steps-add}
use Rattle.float_laws.proofs.Interval.{in-of_le, least, most}
use Rattle.float_laws.proofs.Checker.{Ex, var, con, plus, times, eval, iv, ival, add_i, mul_i, con_i, covers, check, checked, good-real}
use Rattle.arithmetic_sine.proofs.FloorCases.{real-no_nan}
use Rattle.line_samples.specs.Quarters.{quarters, least_estimated, greatest_estimated, QuartersBelow}
use Rattle.line_samples.specs.Samples.{end_margin, goes_on, whole_step, step_at, steps_from, most_samples, most_steps, spiral_steps}
use Rattle.line_samples.proofs.SpiralLaws.{steps-start, steps_next}

-- ---- n / 4 is n steps of a quarter
abbrev quarter : Float
quarter = fin false 1 (negsuc 1)

quarter-steps : (f : Format) → Steps f (low f - 2) quarter 1 0
unfolding pl mi fits
quarter-steps binary32 = record { value = record { finite = tt; fits = tt }; plus = refl; minus = refl }
quarter-steps binary64 = record { value = record { finite = tt; fits = tt }; plus = refl; minus = refl }

plus-of : (f : Format) (x : Float) (g : ℕ) → sign x ≡ false → mag f x ≡ g → (pl f x ≡ g) × (mi f x ≡ 0)
unfolding pl mi
plus-of f x g s m = (rw s m, rw s)

whole-steps : (f : Format) (n : ℕ) → n ≤ 2 ^ prec f → Whole f (of_int f (pos n)) n 0
unfolding of_int
whole-steps f n h =
    let e = steps-rnd f (low f) n h in
    let x = round f false n 1 in
    let v = mag_of f x false (rnd f (n * 2 ^ low f) 1) (round-has f false n 1 (lt_of_le_of_lt (le_of_eq e) (steps-under f (low f) n (le_refl (low f)) h))) in
    let p = plus-of f x (n * 2 ^ low f) v.2 (v.1 ∙ e) in
    record { value = record { finite = v.0; fits = round-fits f false n 1 }; plus = p.0; minus = p.1 ∙ sym (zero-mul (2 ^ low f)) }

product : (p_k m_k pq mq n U Q : ℕ) → p_k ≡ n * U → m_k ≡ 0 * U → pq ≡ 1 * Q → mq ≡ 0 * Q → (p_k * pq + m_k * mq - (p_k * mq + m_k * pq) ≡ n * Q * U) × (p_k * mq + m_k * pq - (p_k * pq + m_k * mq) ≡ 0)
product p_k m_k pq mq n U Q a b c d = (rw (a, b, c, d) (omega arith), rw (a, b, c, d) (omega arith))

quarters-steps : (f : Format) (n : ℕ) → n < 2 ^ prec f → Steps f (low f - 2) (mul f (of_int f (pos n)) quarter) n 0
quarters-steps f n h =
    let j = low f - 2 in
    let U = 2 ^ low f in
    let K = of_int f (pos n) in
    let a = whole-steps f n (le_of_lt h) in
    let b = quarter-steps f in
    let i = mul-Is f K quarter a.value b.value in
    let p = product (pl f K) (mi f K) (pl f quarter) (mi f quarter) n U (2 ^ j) a.plus a.minus b.plus b.minus in
    let u = ap (λ (w : ℕ). rnd f w U) p.0 ∙ rnd-exact f n j U (pow_pos (low f)) h in
    let v = ap (λ (w : ℕ). rnd f w U) p.1 ∙ rnd-zero f U (pow_pos (low f)) in
    let t = i.small (lt_of_le_of_lt (le_of_eq u) (steps-under f j n (omega arith) (le_of_lt h))) (lt_of_le_of_lt (le_of_eq v) (pow_pos (low f + suc (emax f)))) in
    record { value = record { finite = t; fits = i.fits }; plus = i.plus t ∙ u; minus = i.minus t ∙ v ∙ sym (zero-mul (2 ^ j)) }

-- two sums of as many steps are one value
same-steps : (f : Format) (j : ℕ) (x y : Float) (n : ℕ) → 0 < n → Steps f j x n 0 → Steps f j y n 0 → x ≡ y
same-steps f j x y n h a b =
    let ga = mag_is f x in
    let gb = mag_is f y in
    let pa = a.plus in
    let ma = a.minus in
    let pb = b.plus in
    let mb = b.minus in
    let m : mag f x ≡ mag f y = omega arith in
    let q = mul-pos h (pow_pos j) in
    same-value f x y a.value b.value (sign-plus f x (lt_of_lt_of_le q (le_of_eq (sym pa))) ∙ sym (sign-plus f y (lt_of_lt_of_le q (le_of_eq (sym pb))))) m

quarters-next : (f : Format) (n : ℕ) → suc n < 2 ^ prec f → add f (mul f (of_int f (pos n)) quarter) quarter ≡ mul f (of_int f (pos (suc n))) quarter
quarters-next f n h =
    let j = low f - 2 in
    let x = mul f (of_int f (pos n)) quarter in
    let s = steps-add f j x quarter n 0 1 0 (quarters-steps f n (omega arith)) (quarter-steps f) (omega arith) (omega arith) (omega arith) in
    let t = subst (λ (k : ℕ). Steps f j (add f x quarter) (suc n) k) (let z : 0 + 0 - (n + 1) ≡ 0 = omega arith in z) (subst (λ (k : ℕ). Steps f j (add f x quarter) k (0 + 0 - (n + 1))) (let z : n + 1 - (0 + 0) ≡ suc n = omega arith in z) s) in
    same-steps f j (add f x quarter) (mul f (of_int f (pos (suc n))) quarter) (suc n) (omega arith) t (quarters-steps f (suc n) h)

-- ---- the steps up to k / 4
from_zero : (len : Float) → spiral_steps len ≡ 0 + steps_from (most_steps - 0) (goes_on len (quarters 0)) len (quarters 0)
unfolding mul of_int of_bits
from_zero len = steps-start len

near-real : Real binary64 end_margin
unfolding fits of_bits
near-real = good-real binary64 end_margin tt

near-mi : mi binary64 end_margin ≡ 0
unfolding mi of_bits
near-mi = refl

many : most_steps < 2 ^ prec binary64
many = lit< tt

module _ (len : Float) (k : ℕ) (fit : T (fits binary64 len)) (few : k ≤ most_samples) (known : T (finite (len ⊖ end_margin))) (start : T (goes_on len (quarters k))) where
  abbrev last : Float
  last = len ⊖ end_margin

  len-real : Real binary64 len
  unfolding sub
  len-real = record { finite = (add-fin binary64 len _ known).0; fits = fit }

  last-real : Real binary64 last
  last-real = record { finite = known; fits = sub-fits binary64 len end_margin }

  at : (i : ℕ) → i ≤ most_steps → Steps binary64 (low binary64 - 2) (quarters i) i 0
  unfolding of_bits
  at i h = quarters-steps binary64 i (lt_of_le_of_lt h many)

  last-le : T (le last len)
  last-le =
      let z = near-mi in
      is_le binary64 last len _ _ 1 (pl binary64 len) (mi binary64 len) 1 (pow_pos 0) (pow_pos 0) (sub-Is binary64 len end_margin len-real near-real) (self-Is binary64 len len-real) known len-real.finite (omega arith)

  under_last : k * 2 ^ (low binary64 - 2) + mi binary64 last < pl binary64 last
  unfolding goes_on
  under_last =
      let s = at k (omega arith) in
      let p = s.plus in
      let m = s.minus in
      let h = lt→units binary64 (quarters k) last s.value last-real start in
      order (pl binary64 (quarters k)) (mi binary64 (quarters k)) (pl binary64 last) (mi binary64 last) k (2 ^ (low binary64 - 2)) p m h
    where
      order : (p m q n k J : ℕ) → p ≡ k * J → m ≡ 0 * J → p + n < q + m → k * J + n < q
      order p m q n k J a b h = omega arith

  under-len : (k * 2 ^ (low binary64 - 2) < pl binary64 len) × (mi binary64 len ≡ 0)
  under-len = order (k * 2 ^ (low binary64 - 2)) (pl binary64 last) (mi binary64 last) (pl binary64 len) (mi binary64 len) under_last (le→units binary64 last len last-real len-real last-le) (one_side binary64 len)
    where
      order : (K q n p m : ℕ) → K + n < q → q + m ≤ p + n → (p ≡ 0) ⊎ (m ≡ 0) → (K < p) × (m ≡ 0)
      order K q n p m h l (inl z) = absurd (omega arith)
      order K q n p m h l (inr z) = (omega arith, z)

  -- on the way the loop goes on, and by a whole step
  goes : (i : ℕ) → i ≤ k → goes_on len (quarters i) ≡ true
  unfolding goes_on
  goes i h =
      let s = at i (omega arith) in
      is_true _ (units→lt binary64 (quarters i) last s.value last-real (order (pl binary64 (quarters i)) (mi binary64 (quarters i)) (pl binary64 last) (mi binary64 last) i k (2 ^ (low binary64 - 2)) s.plus s.minus (mul-le-mul_right (2 ^ (low binary64 - 2)) h) under_last))
    where
      order : (p m q n i k J : ℕ) → p ≡ i * J → m ≡ 0 * J → i * J ≤ k * J → k * J + n < q → p + n < q + m
      order p m q n i k J a b h l = omega arith

  left-finite : (i : ℕ) → i < k → T (finite (len ⊖ quarters i))
  left-finite i h =
      let f = binary64 in
      let s = at i (omega arith) in
      let u = under-len in
      let g = mag_is f len in
      let d = sub-Is f len (quarters i) len-real s.value in
      d.small
      (lt_of_le_of_lt (le_trans (rnd-le f _ (mag f len) 1 (pow_pos 0) (fewer (pl f len) (mi f len) (pl f (quarters i)) (mi f (quarters i)) (mag f len) (2 ^ (low f - 2)) g s.minus)) (le_of_eq (fixed f len len-real))) (under f len len-real))
      (lt_of_le_of_lt (le_of_eq (ap (λ (n : ℕ). rnd f n 1) (none (pl f len) (mi f len) (pl f (quarters i)) (mi f (quarters i)) i k (2 ^ (low f - 2)) u.1 s.plus s.minus (mul-le-mul_right (2 ^ (low f - 2)) (le_of_lt h)) u.0) ∙ rnd-zero f 1 (pow_pos 0))) (pow_pos (low f + suc (emax f))))
    where
      fewer : (p m q n g J : ℕ) → g ≡ p + m → n ≡ 0 * J → p + n - (m + q) ≤ g
      fewer p m q n g J e z = omega arith

      none : (p m q n i k J : ℕ) → m ≡ 0 → q ≡ i * J → n ≡ 0 * J → i * J ≤ k * J → k * J < p → m + q - (p + n) ≡ 0
      none p m q n i k J a b c h l = omega arith

  full : (i : ℕ) → i < k → step_at len (quarters i) ≡ whole_step
  unfolding of_bits
  full i h =
      let f = binary64 in
      let s = at i (omega arith) in
      let q = quarter-steps f in
      let u = under-len in
      let l = left-finite i h in
      let x = len ⊖ quarters i in
      let r : Real f x = record { finite = l; fits = sub-fits f len (quarters i) } in
      let e = is_le f quarter x (pl f quarter) (mi f quarter) 1 (pl f len + mi f (quarters i)) (mi f len + pl f (quarters i)) 1 (pow_pos 0) (pow_pos 0) (self-Is f quarter q.value) (sub-Is f len (quarters i) len-real s.value) tt l
      (room (pl f quarter) (mi f quarter) (pl f len) (mi f len) (pl f (quarters i)) (mi f (quarters i)) i k (2 ^ (low f - 2)) q.plus q.minus u.1 s.plus s.minus (mul-le-mul_right (2 ^ (low f - 2)) h) u.0) in
      let b = le→units f quarter x q.value r e in
      ap (λ (t : Bool). cond t x quarter) (not-under (lt x quarter) (λ t. let a = lt→units f x quarter r q.value t in omega arith))
    where
      room : (a b p m q n i k J : ℕ) → a ≡ 1 * J → b ≡ 0 * J → m ≡ 0 → q ≡ i * J → n ≡ 0 * J → suc i * J ≤ k * J → k * J < p → a * 1 + (m + q) * 1 ≤ (p + n) * 1 + b * 1
      room a b p m q n i k J x y z v w h l = omega arith

      not-under : (t : Bool) → (T t → ⊥) → t ≡ false
      not-under true h = absurd (h tt)
      not-under false h = refl

  pub up_to : (i : ℕ) → i ≤ k → spiral_steps len ≡ i + steps_from (most_steps - i) (goes_on len (quarters i)) len (quarters i)
  unfolding of_bits
  up_to zero h = from_zero len
  up_to (suc i) h =
      up_to i (omega arith)
      ∙ steps_next len (quarters i) i (goes_on len (quarters i)) whole_step (omega arith) (goes i (omega arith)) (sym (full i h))
      ∙ ap (λ (u : Float). i + 1 + steps_from (most_steps - (i + 1)) (goes_on len u) len u) (next i (omega arith))
      ∙ ap (λ (n : ℕ). n + steps_from (most_steps - n) (goes_on len (quarters (suc i))) len (quarters (suc i))) (add-one i)
    where
      next : (i : ℕ) → i ≤ most_samples → quarters i ⊕ whole_step ≡ quarters (suc i)
      next i h = quarters-next binary64 i (lt_of_le_of_lt (let o : suc i ≤ most_steps = omega arith in o) many)

-- ---- a count that starts from quarters below the end
-- above a number and at most another
known : (u x : Float) → T (lt u x) → T (le x greatest_estimated) → T (finite x)
unfolding lt le eq of_bits
known nan x a b = absurd a
known (inf s) nan a b = absurd b
known (inf s) (inf true) a b = absurd (and_r s false a)
known (inf s) (inf false) a b = absurd b
known (inf s) (fin t n d) a b = tt
known (fin s m e) nan a b = absurd a
known (fin s m e) (inf true) a b = absurd a
known (fin s m e) (inf false) a b = absurd b
known (fin s m e) (fin t n d) a b = tt

pub steps_from_lem : (len : Float) (n : ℕ) → T (fits binary64 len) → QuartersBelow (len ⊖ end_margin) n → spiral_steps len ≡ n + steps_from (most_steps - n) (goes_on len (quarters n)) len (quarters n)
unfolding goes_on
steps_from_lem len n fit h = go h.1
  where
    last : Float
    last = len ⊖ end_margin

    go : (n ≡ 0) ⊎ (T (lt (quarters n) last) × T (le last greatest_estimated)) → spiral_steps len ≡ n + steps_from (most_steps - n) (goes_on len (quarters n)) len (quarters n)
    go (inl z) = rw z (from_zero len)
    go (inr t) = up_to len n fit h.0 (known (quarters n) last t.0 t.1) t.0 n (le_refl n)

-- ---- the code's sum, x * 4 + (2 ^ 52 - 1) for x in 1..10,000, is a number
abbrev sum : Ex
sum = plus (times (var 0) (con (f64 0x4010_0000_0000_0000))) (con (f64 0x432f_ffff_ffff_fffe))

sum-checks : T (check binary64 (iv least_estimated greatest_estimated ∷ []) sum zero64 (f64 0x4340_0000_0000_0000))
unfolding check ival covers add_i mul_i con_i add mul le lt fits of_bits least most
sum-checks = tt

pub sum_number : (x : Float) → T (fits binary64 x) → T (le least_estimated x) → T (le x greatest_estimated) → T (not (is_nan (add binary64 (mul binary64 x (f64 0x4010_0000_0000_0000)) (f64 0x432f_ffff_ffff_fffe))))
unfolding eval fits of_bits
sum_number x h a b =
    real-no_nan binary64 (eval binary64 (x ∷ []) sum)
    (checked binary64 (iv least_estimated greatest_estimated ∷ []) (x ∷ []) sum zero64 (f64 0x4340_0000_0000_0000) (good-real binary64 zero64 tt) (good-real binary64 (f64 0x4340_0000_0000_0000) tt) sum-checks
    (in-of_le binary64 least_estimated greatest_estimated x (good-real binary64 least_estimated tt) (good-real binary64 greatest_estimated tt) h a b, tt)).value

-- a count of steps as an f64
pub number_fits : (n : ℕ) → n ≤ most_samples → T (in_float binary64 (pos n))
unfolding in_float
number_fits n h = subst T (sym (le-leb n (2 ^ 53) (le_trans h (lit≤ tt)))) tt
