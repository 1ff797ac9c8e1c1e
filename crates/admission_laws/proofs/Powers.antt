-- Sizes by powers of two: a result whose exact size is at most 2 ^ r units is at most that as computed, since rounding does not go past a power of two.
-- So the size of a product of a quotient by len with a u of at most 4 * len is bounded without an error being weighed. Besides: a difference and a sum of values that are not below zero.
use mathlib.Core.Path.{◌≡◌, sym, ap, ◌∙◌, subst}
use Prim.Native.Nat.{ℕ, zero, suc, ◌+◌, ◌-◌, ◌*◌, ◌^◌, ◌≤◌, ◌<◌}
use native.Mathlib.Nat.{le_trans, le_of_eq, lt_of_le_of_lt, lt_of_lt_of_le, mul-le-mul, mul-le-mul_left, mul-le-mul_right, mul-one, mul_comm, le_of_lt, pow-suc, eq-or-lt_of_le}
use native.Mathlib.Omega.{arith}
use mathlib.Core.Logic.{⊎_elim}
use mathlib.Core.Bool.{Bool, true, false, not, cond}
use lib.Dec.{T}
use lib.Pow.{pow_pos, pow-add, pow-lt, pow_mono}
use lib.Ieee.{Float, Format, prec, emax, low, lt, add, sub, mul, div}
use Rattle.float_laws.proofs.Units.{rnd, rnd-zero, rnd-mono, rnd-le, rnd-pow}
use Rattle.float_laws.proofs.Value.{mag, pl, mi, Real, mag_is, pl-le, under, lt→units, nlt→units}
use Rattle.float_laws.proofs.Operation.{differ-le, mul-differ, scale-differ, add-Is, sub-Is, mul-Is}
use Rattle.float_laws.proofs.Interval.{div-Is'}
use Rattle.float_laws.proofs.Size.{is-bounded}
use Rattle.float_laws.proofs.Exact.{fixed}
use Rattle.float_laws.proofs.Error.{is-near-le}
use Rattle.float_laws.proofs.Order.{sum_step}

-- ---- at most 2 ^ p units
pub record Small (f : Format) (x : Float) (p : ℕ) : Type 0 where
  pub value : Real f x
  pub le : mag f x ≤ 2 ^ p

module _ (f : Format) where
  pub mul_small : (x y : Float) (p q r : ℕ) → Small f x p → Small f y q → p + q ≡ r + low f → r < low f + suc (emax f) → Small f (mul f x y) r
  mul_small x y p q r v w e o =
      let d = differ-le _ _ _ (mul-differ f x y) in
      let g : 2 ^ p * 2 ^ q ≡ 2 ^ r * 2 ^ low f = sym (pow-add 2 p q) ∙ ap (λ (n : ℕ). 2 ^ n) e ∙ pow-add 2 r (low f) in
      let k : mag f x * mag f y ≤ 2 ^ r * 2 ^ low f = le_trans (mul-le-mul v.le w.le) (le_of_eq g) in
      let b = is-near-le f (mul f x y) _ _ (2 ^ low f) r (pow_pos (low f)) (mul-Is f x y v.value w.value) (le_trans d.0 k) (le_trans d.1 k) o in
      record { value = b.0; le = b.1 }

  -- by a divisor of at least 2 ^ q units
  pub div-small : (x y : Float) (p q r : ℕ) → Small f x p → Real f y → 2 ^ q ≤ pl f y → p + low f ≡ r + q → r < low f + suc (emax f) → Small f (div f x y) r
  div-small x y p q r v w h e o =
      let Y : 0 < pl f y = lt_of_lt_of_le (pow_pos q) h in
      let d = differ-le _ _ _ (scale-differ f x (2 ^ low f)) in
      let g : 2 ^ p * 2 ^ low f ≡ 2 ^ r * 2 ^ q = sym (pow-add 2 p (low f)) ∙ ap (λ (n : ℕ). 2 ^ n) e ∙ pow-add 2 r q in
      let k : mag f x * 2 ^ low f ≤ 2 ^ r * pl f y = le_trans (mul-le-mul_right (2 ^ low f) v.le) (le_trans (le_of_eq g) (mul-le-mul_left (2 ^ r) h)) in
      let b = is-near-le f (div f x y) _ _ (pl f y) r Y (div-Is' f x y v.value w Y) (le_trans d.0 k) (le_trans d.1 k) o in
      record { value = b.0; le = b.1 }

-- ---- values that are not below zero
pub record Plus (f : Format) (x : Float) (M : ℕ) : Type 0 where
  pub value : Real f x
  pub plus : mi f x ≡ 0
  pub le : pl f x ≤ M

pub none_below : (m n : ℕ) → m ≤ n → n ≡ 0 → m ≡ 0
none_below m n h z = omega arith

no-product : (m p L : ℕ) → m ≡ 0 → m * L - p * L ≡ 0
no-product m p L z = subst (λ (n : ℕ). n * L - p * L ≡ 0) (sym z) (omega arith)

module _ (f : Format) where
  pub plus-small : (x : Float) (p : ℕ) → Plus f x (2 ^ p) → Small f x p
  plus-small x p v = let g = mag_is f x in let a = v.plus in let b = v.le in record { value = v.value; le = omega arith }

  pub plus-mono : (x : Float) (M N : ℕ) → M ≤ N → Plus f x M → Plus f x N
  plus-mono x M N h v = record { value = v.value; plus = v.plus; le = le_trans v.le h }

  -- a - b for 0 ≤ b ≤ a is from 0 to a
  pub sub-plus : (a b : Float) → Real f a → mi f a ≡ 0 → Plus f b (pl f a) → Plus f (sub f a b) (pl f a)
  sub-plus a b r z v =
      let i = sub-Is f a b r v.value in
      let m = v.plus in
      let l = v.le in
      let g = mag_is f a in
      let e = fixed f a r in
      let s = is-bounded f (sub f a b) (pl f a + mi f b) (mi f a + pl f b) 1 (mag f a) (pow_pos 0) i (omega arith) (omega arith) (lt_of_le_of_lt (le_of_eq e) (under f a r)) in
      let t = i.minus s.0.finite in
      let n : mi f a + pl f b - (pl f a + mi f b) ≡ 0 = omega arith in
      let u : mi f (sub f a b) ≡ 0 = t ∙ ap (λ (k : ℕ). rnd f k 1) n ∙ rnd-zero f 1 (pow_pos 0) in
      let w = mag_is f (sub f a b) in
      let x = s.1 in
      record { value = s.0; plus = u; le = omega arith }

  -- the lesser of two
  pub lesser-plus : (x y : Float) (M N : ℕ) → Plus f x M → Plus f y N → Plus f (cond (lt x y) x y) M × Plus f (cond (lt x y) x y) N
  lesser-plus x y M N v w = go (lt x y) (lt→units f x y v.value w.value) (nlt→units f x y v.value w.value)
    where
      go : (b : Bool) → (T b → pl f x + mi f y < pl f y + mi f x) → (T (not b) → pl f y + mi f x ≤ pl f x + mi f y) → Plus f (cond b x y) M × Plus f (cond b x y) N
      go true h k = let a = h tt in let b = v.plus in let c = w.plus in let d = w.le in (v, record { value = v.value; plus = b; le = omega arith })
      go false h k = let a = k tt in let b = v.plus in let c = w.plus in let d = v.le in (record { value = w.value; plus = c; le = omega arith }, w)

  -- x / y for a y of at least 1 is at most x
  pub div-plus : (x y : Float) (M : ℕ) → Plus f x M → Real f y → 2 ^ low f ≤ pl f y → Plus f (div f x y) M
  div-plus x y M v r h =
      let Y : 0 < pl f y = lt_of_lt_of_le (pow_pos (low f)) h in
      let i = div-Is' f x y v.value r Y in
      let d = differ-le _ _ _ (scale-differ f x (2 ^ low f)) in
      let k : mag f x * 2 ^ low f ≤ mag f x * pl f y = mul-le-mul_left (mag f x) h in
      let e : rnd f (mag f x * pl f y) (pl f y) ≤ mag f x = le_trans (rnd-mono f (mag f x * pl f y) (pl f y) (mag f x) 1 Y (pow_pos 0) (le_of_eq (mul-one (mag f x * pl f y)))) (le_of_eq (fixed f x v.value)) in
      let s = is-bounded f (div f x y) (pl f x * 2 ^ low f) (mi f x * 2 ^ low f) (pl f y) (mag f x * pl f y) Y i (le_trans d.0 k) (le_trans d.1 k) (lt_of_le_of_lt e (under f x v.value)) in
      let n : mi f x * 2 ^ low f - pl f x * 2 ^ low f ≡ 0 = no-product (mi f x) (pl f x) (2 ^ low f) v.plus in
      let u : mi f (div f x y) ≡ 0 = i.minus s.0.finite ∙ ap (λ (k : ℕ). rnd f k (pl f y)) n ∙ rnd-zero f (pl f y) Y in
      let g = mag_is f x in
      let w = mag_is f (div f x y) in
      let b = v.plus in
      let c = v.le in
      let q = s.1 in
      record { value = s.0; plus = u; le = omega arith }

  -- x / y for 0 ≤ x ≤ y is from 0 to 1
  pub ratio-plus : (x y : Float) → Plus f x (pl f y) → Real f y → 0 < pl f y → Plus f (div f x y) (2 ^ low f)
  ratio-plus x y v r Y =
      let i = div-Is' f x y v.value r Y in
      let d = differ-le _ _ _ (scale-differ f x (2 ^ low f)) in
      let m = v.plus in
      let l = v.le in
      let g = mag_is f x in
      let k : mag f x * 2 ^ low f ≤ 2 ^ low f * pl f y = le_trans (mul-le-mul_right (2 ^ low f) (let o : mag f x ≤ pl f y = omega arith in o)) (le_of_eq (mul_comm (pl f y) (2 ^ low f))) in
      let s = is-near-le f (div f x y) _ _ (pl f y) (low f) Y i (le_trans d.0 k) (le_trans d.1 k) (omega arith) in
      let n : mi f x * 2 ^ low f - pl f x * 2 ^ low f ≡ 0 = no-product (mi f x) (pl f x) (2 ^ low f) m in
      let u : mi f (div f x y) ≡ 0 = i.minus s.0.finite ∙ ap (λ (k : ℕ). rnd f k (pl f y)) n ∙ rnd-zero f (pl f y) Y in
      record { value = s.0; plus = u; le = le_trans (pl-le f (div f x y)) s.1 }

  -- b - a is above zero for a < b, neither below zero
  pub sub-above : (a b : Float) (M : ℕ) → Plus f a M → Real f b → mi f b ≡ 0 → pl f a < pl f b → 0 < pl f (sub f b a)
  sub-above a b M v r z h =
      let m = v.plus in
      let q = sub-plus b a r z (record { value = v.value; plus = m; le = le_of_lt h }) in
      let i = sub-Is f b a r v.value in
      let p = i.plus q.value.finite in
      let k : 2 ^ 0 * 1 ≤ pl f b + mi f a - (mi f b + pl f a) = omega arith in
      lt_of_lt_of_le (pow_pos 0) (le_trans (le_of_eq (sym (rnd-pow f 1 0 (pow_pos 0)))) (le_trans (rnd-le f (2 ^ 0 * 1) _ 1 (pow_pos 0) k) (le_of_eq (sym p))))

  -- a sum, at most 2 ^ p where the exact one is
  pub add-plus : (x y : Float) (M N p : ℕ) → Plus f x M → Plus f y N → M + N ≤ 2 ^ p → p < low f + suc (emax f) → Plus f (add f x y) (2 ^ p)
  add-plus x y M N p v w h o =
      let i = add-Is f x y v.value w.value in
      let a = v.plus in
      let b = w.plus in
      let c = v.le in
      let d = w.le in
      let s = is-near-le f (add f x y) (pl f x + pl f y) (mi f x + mi f y) 1 p (pow_pos 0) i (omega arith) (omega arith) o in
      let n : mi f x + mi f y - (pl f x + pl f y) ≡ 0 = omega arith in
      let u : mi f (add f x y) ≡ 0 = i.minus s.0.finite ∙ ap (λ (k : ℕ). rnd f k 1) n ∙ rnd-zero f 1 (pow_pos 0) in
      let g = mag_is f (add f x y) in
      let q = s.1 in
      record { value = s.0; plus = u; le = omega arith }

  -- a running sum of terms of at most 2 ^ j units, fewer than 2 ^ 23 of them
  pub sum-next : (s x : Float) (i j : ℕ) → suc i < 2 ^ 23 → 23 < prec f → j + 23 < low f + suc (emax f) → Real f s → mag f s ≤ i * 2 ^ j → Small f x j → Real f (add f s x) × (mag f (add f s x) ≤ suc i * 2 ^ j)
  sum-next s x i j h p o r l v =
      let a : suc i * 2 ^ j ≤ 2 ^ (23 + j) = le_trans (mul-le-mul_right (2 ^ j) (less h)) (le_of_eq (sym (pow-add 2 23 j))) in
      sum_step f s x i j r v.value (lt_of_lt_of_le h (pow_mono (less p))) (lt_of_le_of_lt a (pow-lt (let q : 23 + j < low f + suc (emax f) = omega arith in q))) l v.le
    where
      less : {a b : ℕ} → a < b → a ≤ b
      less h = omega arith

-- ---- the power of two at or below a number
pub power_below : (n : ℕ) → 0 < n → (a : ℕ) × ((2 ^ a ≤ n) × (n ≤ 2 ^ suc a))
power_below zero h = absurd (omega arith)
power_below (suc zero) h = (0, (omega arith, omega arith))
power_below (suc (suc n)) h =
    let w = power_below (suc n) (omega arith) in
    let a = w.0 in
    let l = w.1.0 in
    let g = w.1.1 in
    ⊎_elim
    (λ (e : suc n ≡ 2 ^ suc a). (suc a, (let o : 2 ^ suc a ≤ suc (suc n) = omega arith in o, let p = pow-suc 2 (suc a) in let q = pow_pos (suc a) in let o : suc (suc n) ≤ 2 ^ suc (suc a) = omega arith in o)))
    (λ (k : suc n < 2 ^ suc a). (a, (let o : 2 ^ a ≤ suc (suc n) = omega arith in o, k)))
    (eq-or-lt_of_le g)
