-- Whole numbers among a format's values. Sums of small whole numbers are exact; and n = (x + c) - c, for a whole c that brings x + c among the values which the format counts in steps of 1,
-- is the whole number nearest to x. The pattern of x + c then counts them: it is that of c, plus n. Assumes nothing.
use mathlib.Core.Path.{◌≡◌, refl, sym, ap, ◌∙◌, subst}
use mathlib.Core.Logic.{◌⊎◌, inl, inr}
use Prim.Native.Nat.{ℕ, suc, ◌+◌, ◌-◌, ◌*◌, ◌/◌, ◌^◌, ◌≤◌, ◌<◌}
use native.Mathlib.Nat.{eq-zero-or-pos, zero-div, mul-lt-mul_of_pos_right, zero-add, le_refl, lt_of_lt_of_le, le_of_suc-le-suc, zero-mul, le_of_lt, le_trans, le_of_eq, lt_of_le_of_lt, mul-one, one-mul, add-sub_cancel_left, mul-le-mul_right, mul_comm, mul-sub, mul-pos, eq-or-lt_of_le, lt_of_mul-lt-mul_right, sub_self, eq_of_mul-eq-mul_right}
use native.Mathlib.Omega.{arith}
use mathlib.Core.Bool.{Bool, true, false, not, ◌&&◌, ◌||◌, beq, cond}
use lib.Dec.{T, T_not, eqb, eqb→eq, leb, ltb, lit≤, lit<, leb→le, nleb→lt}
use borrow.Author.Tests.{le-ltb}
use lib.Pow.{pow-add, pow_pos, pow-lt}
use lib.IntN.{pos}
use lib.Ieee.{Float, nan, inf, fin, Format, binary32, binary64, prec, emax, low, up, down, hid, units, round, sum, add, sub, neg, eq, fits, to_bits, of_bits}
use lib.Ieee.Exact.{HasValue, units_val}
use lib.Ieee.Fits.{down_pos, and_l, and_i, eq→eqb}
use lib.Ieee.Scale.{overflow}
use Rattle.float_laws.proofs.Units.{rnd, rnd-err, rnd-zero, rnd-exact, rnd-multiple}
use Rattle.float_laws.proofs.Value.{sign, mag, pl, mi, Real, mag_is, mag_of, or_r, units_of, sign-plus}
use Rattle.float_laws.proofs.Operation.{Is, add-Is, sub-Is, round-has}
use Rattle.float_laws.proofs.Exact.{fixed}
use Rattle.float_laws.proofs.Pattern.{bits_of, units-bits}
pub use Rattle.float_laws.proofs.Pattern.{twice_hid}
use Rattle.float_laws.proofs.Same.{own_value, same-value}

-- ---- what holds of the two formats
room : (f : Format) → prec f < suc (emax f)
room binary32 = omega arith
room binary64 = omega arith

step-one : (f : Format) → suc (prec f - 1 + low f) - prec f ≡ low f
step-one binary32 = refl
step-one binary64 = refl

-- ---- sums of few steps of 2 ^ j units are exact
-- x is p - n steps of 2 ^ j units
pub record Steps (f : Format) (j : ℕ) (x : Float) (p n : ℕ) : Type 0 where
  pub value : Real f x
  pub plus : pl f x ≡ p * 2 ^ j
  pub minus : mi f x ≡ n * 2 ^ j

-- x is the whole number p - n
abbrev pub Whole : Format → Float → ℕ → ℕ → Type 0
Whole f x p n = Steps f (low f) x p n

pub steps-under : (f : Format) (j k : ℕ) → j ≤ low f → k ≤ 2 ^ prec f → k * 2 ^ j < overflow f
steps-under f j k h l =
    let r = room f in
    let a : prec f + j < low f + suc (emax f) = omega arith in
    lt_of_le_of_lt (mul-le-mul_right (2 ^ j) l) (lt_of_le_of_lt (le_of_eq (sym (pow-add 2 (prec f) j))) (pow-lt a))

pub steps-rnd : (f : Format) (j k : ℕ) → k ≤ 2 ^ prec f → rnd f (k * 2 ^ j) 1 ≡ k * 2 ^ j
steps-rnd f j k h = elim (eq-or-lt_of_le h) [
  | inl e ↦
      let p : k * 2 ^ j ≡ 1 * 2 ^ (prec f + j) = ap (λ (z : ℕ). z * 2 ^ j) e ∙ sym (pow-add 2 (prec f) j) ∙ sym (one-mul (2 ^ (prec f + j))) in
      ap (λ (z : ℕ). rnd f z 1) (p ∙ sym (mul-one (1 * 2 ^ (prec f + j)))) ∙ rnd-exact f 1 (prec f + j) 1 (pow_pos 0) (one-lt f) ∙ sym p
  | inr l ↦ ap (λ (z : ℕ). rnd f z 1) (sym (mul-one (k * 2 ^ j))) ∙ rnd-exact f k j 1 (pow_pos 0) l
]
  where
    one-lt : (f : Format) → 1 < 2 ^ prec f
    one-lt binary32 = lit< tt
    one-lt binary64 = lit< tt

minus-mul : (a b U : ℕ) → (a - b) * U ≡ a * U - b * U
minus-mul a b U = mul_comm (a - b) U ∙ mul-sub U a b ∙ ap (λ (w : ℕ). w - U * b) (mul_comm U a) ∙ ap (λ (w : ℕ). a * U - w) (mul_comm U b)

-- a result that is P - N units, which are p - n steps
steps_of : (f : Format) (j : ℕ) (z : Float) (P N p n : ℕ) → Is f z P N 1 → j ≤ low f → P ≡ p * 2 ^ j → N ≡ n * 2 ^ j → p - n ≤ 2 ^ prec f → n - p ≤ 2 ^ prec f → Steps f j z (p - n) (n - p)
steps_of f j z P N p n i l a b h k =
    let e : P - N ≡ (p - n) * 2 ^ j = ap (λ (w : ℕ). w - N) a ∙ ap (λ (w : ℕ). p * 2 ^ j - w) b ∙ sym (minus-mul p n (2 ^ j)) in
    let d : N - P ≡ (n - p) * 2 ^ j = ap (λ (w : ℕ). N - w) a ∙ ap (λ (w : ℕ). w - p * 2 ^ j) b ∙ sym (minus-mul n p (2 ^ j)) in
    let u : rnd f (P - N) 1 ≡ (p - n) * 2 ^ j = ap (λ (w : ℕ). rnd f w 1) e ∙ steps-rnd f j (p - n) h in
    let v : rnd f (N - P) 1 ≡ (n - p) * 2 ^ j = ap (λ (w : ℕ). rnd f w 1) d ∙ steps-rnd f j (n - p) k in
    let t = i.small (lt_of_le_of_lt (le_of_eq u) (steps-under f j (p - n) l h)) (lt_of_le_of_lt (le_of_eq v) (steps-under f j (n - p) l k)) in
    record { value = record { finite = t; fits = i.fits }; plus = i.plus t ∙ u; minus = i.minus t ∙ v }

join : (a b p q U : ℕ) → a ≡ p * U → b ≡ q * U → a + b ≡ (p + q) * U
join a b p q U e g = omega arith

pub steps-add : (f : Format) (j : ℕ) (x y : Float) (p n q m : ℕ) → Steps f j x p n → Steps f j y q m → j ≤ low f → p + q - (n + m) ≤ 2 ^ prec f → n + m - (p + q) ≤ 2 ^ prec f
    → Steps f j (add f x y) (p + q - (n + m)) (n + m - (p + q))
steps-add f j x y p n q m a b l h k =
    steps_of f j (add f x y) (pl f x + pl f y) (mi f x + mi f y) (p + q) (n + m) (add-Is f x y a.value b.value) l
    (join (pl f x) (pl f y) p q (2 ^ j) a.plus b.plus) (join (mi f x) (mi f y) n m (2 ^ j) a.minus b.minus) h k

pub steps-sub : (f : Format) (j : ℕ) (x y : Float) (p n q m : ℕ) → Steps f j x p n → Steps f j y q m → j ≤ low f → p + m - (n + q) ≤ 2 ^ prec f → n + q - (p + m) ≤ 2 ^ prec f
    → Steps f j (sub f x y) (p + m - (n + q)) (n + q - (p + m))
steps-sub f j x y p n q m a b l h k =
    steps_of f j (sub f x y) (pl f x + mi f y) (mi f x + pl f y) (p + m) (n + q) (sub-Is f x y a.value b.value) l
    (join (pl f x) (mi f y) p m (2 ^ j) a.plus b.minus) (join (mi f x) (pl f y) n q (2 ^ j) a.minus b.plus) h k

-- ---- from hid f on a value is whole
pub large-whole : (f : Format) (x : Float) → Real f x → hid f * 2 ^ low f ≤ mag f x → (k : ℕ) × (mag f x ≡ k * 2 ^ low f)
large-whole f x r h =
    let j = prec f - 1 + low f in
    let m = rnd-multiple f (mag f x) 1 j (pow_pos 0) (le_trans (le_of_eq (mul-one (2 ^ j) ∙ pow-add 2 (prec f - 1) (low f))) h) in
    (m.0, sym (fixed f x r) ∙ m.1 ∙ ap (λ (z : ℕ). m.0 * 2 ^ z) (step-one f))

-- ---- a difference that is zero is +0
zero-round : (f : Format) (a c : ℕ) → 0 < c → a ≡ 0 → sign (round f false a c) ≡ false
zero-round f a c C e =
    let z : rnd f (0 * 2 ^ low f) c ≡ 0 = ap (λ (n : ℕ). rnd f n c) (zero-mul (2 ^ low f)) ∙ rnd-zero f c C in
    ap (λ (n : ℕ). sign (round f false n c)) e ∙ (mag_of f (round f false 0 c) false (rnd f (0 * 2 ^ low f) c) (round-has f false 0 c (lt_of_le_of_lt (le_of_eq z) (pow_pos (low f + suc (emax f)))))).2

pub self-sub : (f : Format) (x : Float) → Real f x → sign (sub f x x) ≡ false
unfolding sub add neg sum
self-sub f nan r = absurd r.finite
self-sub f (inf s) r = absurd r.finite
self-sub f (fin s m e) r = go s (ltb A A) (le-ltb A A (le_refl A))
  where
    A : ℕ
    A = m * up e * down e

    go : (s t : Bool) → t ≡ false → sign (cond (beq s (not s)) (round f s (A + A) (down e * down e)) (cond t (round f (not s) (A - A) (down e * down e)) (round f (s && t) (A - A) (down e * down e)))) ≡ false
    go true t h = rw h (zero-round f (A - A) (down e * down e) (mul-pos (down_pos e) (down_pos e)) (sub_self A))
    go false t h = rw h (zero-round f (A - A) (down e * down e) (mul-pos (down_pos e) (down_pos e)) (sub_self A))

-- ---- 1 is whole, and what a test for zero says
abbrev pub one : Float
one = fin false 1 (pos 0)

pub one-whole : (f : Format) → Whole f one 1 0
unfolding pl mi fits
one-whole binary32 = record { value = record { finite = tt; fits = tt }; plus = refl; minus = refl }
one-whole binary64 = record { value = record { finite = tt; fits = tt }; plus = refl; minus = refl }

pub is_zero : (f : Format) (x : Float) → T (fits f x) → T (eq x (fin false 0 (pos 0))) → Real f x × (mag f x ≡ 0)
unfolding eq mag
is_zero f nan r h = absurd h
is_zero f (inf s) r h = absurd h
is_zero f (fin s m e) r h =
    let a = m * up e * 1 in
    let b = 0 * 1 * down e in
    let t : a ≡ b = eqb→eq a b (and_l (eqb a b) (beq s false || eqb a 0) h) in
    let z : m * up e ≡ 0 = omega arith in
    (record { finite = tt; fits = r }, ap (λ (n : ℕ). n * 2 ^ low f / down e) z ∙ ap (λ (n : ℕ). n / down e) (zero-mul (2 ^ low f)) ∙ zero-div (down e))

pub not-zero : (f : Format) (x : Float) → Real f x → T (not (eq x (fin false 0 (pos 0)))) → 0 < mag f x
unfolding eq
not-zero f nan r h = absurd r.finite
not-zero f (inf s) r h = absurd r.finite
not-zero f (fin s m e) r h = elim (eq-zero-or-pos (mag f (fin s m e))) [
  | inl o ↦
      let U = 2 ^ low f in
      let k : m * up e * U ≡ 0 * U = units_of f (fin s m e) r ∙ ap (λ (n : ℕ). n * down e) o ∙ zero-mul (down e) ∙ sym (zero-mul U) in
      let z : m * up e ≡ 0 = eq_of_mul-eq-mul_right U (pow_pos (low f)) (m * up e) 0 k in
      let a = m * up e * 1 in
      let b = 0 * 1 * down e in
      let t : a ≡ b = omega arith in
      let t0 : a ≡ 0 = omega arith in
      absurd (T_not (eqb a b && (beq s false || eqb a 0)) h (and_i (eqb a b) (beq s false || eqb a 0) (eq→eqb t) (or_r (beq s false) (eqb a 0) (eq→eqb t0))))
  | inr o ↦ o
]

-- ---- the sum with a whole c
-- x + c lies among the values that the format counts in steps of 1
pub record Reach (f : Format) (x : Float) (c : ℕ) : Type 0 where
  pub least : hid f * 2 ^ low f + mi f x ≤ pl f x + c * 2 ^ low f
  pub most : pl f x + c * 2 ^ low f < 2 ^ prec f * 2 ^ low f + mi f x
  pub from : hid f ≤ c
  pub to : c ≤ 2 ^ prec f

-- y = x + c is the whole number k, and n = y - c is k - c, within 1/2 of x
pub record Nearest (f : Format) (x c : Float) (C : ℕ) : Type 0 where
  pub k : ℕ
  pub least : hid f ≤ k
  pub most : k ≤ 2 ^ prec f
  pub sum : Whole f (add f x c) k 0
  pub bits : to_bits f (add f x c) ≡ low f * hid f + k
  pub is : Whole f (sub f (add f x c) c) (k - C) (C - k)
  pub zero : k ≡ C → sign (sub f (add f x c) c) ≡ false
  pub above : (pl f (sub f (add f x c) c) + mi f x) * 2 ≤ (mi f (sub f (add f x c) c) + pl f x) * 2 + 2 ^ low f
  pub below : (mi f (sub f (add f x c) c) + pl f x) * 2 ≤ (pl f (sub f (add f x c) c) + mi f x) * 2 + 2 ^ low f

-- the pattern of a whole number of prec digits counts it
pub whole-bits : (f : Format) (y : Float) (k : ℕ) → Whole f y k 0 → hid f ≤ k → k ≤ 2 ^ prec f → to_bits f y ≡ low f * hid f + k
whole-bits f y k w lo hi =
    let a = k * 2 ^ low f in
    let U = pow_pos (low f) in
    let g = mag_is f y in
    let p = w.plus in
    let m = w.minus in
    let e : mag f y ≡ a = omega arith in
    let K : 0 < k = lt_of_lt_of_le (pow_pos (prec f - 1)) lo in
    let s : sign y ≡ false = sign-plus f y (lt_of_lt_of_le (mul-pos K U) (le_of_eq (sym p))) in
    let h : HasValue y false a (2 ^ low f) = subst (λ (b : Bool). HasValue y b a (2 ^ low f)) s (subst (λ (n : ℕ). HasValue y (sign y) n (2 ^ low f)) e (own_value f y w.value)) in
    let fine = steps-under f (low f) k (le_refl (low f)) hi in
    bits_of f y false a h ∙ sym (bits_of f (units f false k (low f)) false a (units_val f false k (low f) fine)) ∙ units-bits f false k (low f) hi (inr lo) fine ∙ ap (λ (n : ℕ). n + k) (zero-add (low f * hid f))

cap : (k P U q : ℕ) → 0 < U → P < q * U → k * U * 2 ≤ P * 2 + U → k ≤ q
cap k P U q u h e = le_of_suc-le-suc (lt_of_mul-lt-mul_right U (let g : k * U < suc q * U = omega arith in g))

floor_of_lem : (k P U q : ℕ) → 0 < U → q * U ≤ P → P * 2 ≤ k * U * 2 + U → q ≤ k
floor_of_lem k P U q u h e = le_of_suc-le-suc (lt_of_mul-lt-mul_right U (let g : q * U < suc k * U = omega arith in g))

swap0 : (r k U E : ℕ) → r ≡ k * U → r * 1 * 2 ≤ E * 2 + U * 1 → k * U * 2 ≤ E * 2 + U
swap0 r k U E e h = omega arith

swap1 : (r k U E : ℕ) → r ≡ k * U → E * 2 ≤ r * 1 * 2 + U * 1 → E * 2 ≤ k * U * 2 + U
swap1 r k U E e h = omega arith

-- k - c and c - k, of which one is 0
pub parted : (k c U : ℕ) → (k - c) * U + c * U ≡ (c - k) * U + k * U
parted k c U = let a = minus-mul k c U in let b = minus-mul c k U in let z = split k c in elim z [ inl h ↦ (let m = mul-le-mul_right U h in omega arith) | inr h ↦ (let m = mul-le-mul_right U h in omega arith) ]
  where
    split : (a b : ℕ) → (a ≤ b) ⊎ (b ≤ a)
    split a b = go (leb a b) (leb→le a b) (nleb→lt a b)
      where
        go : (t : Bool) → (T t → a ≤ b) → (T (not t) → b < a) → (a ≤ b) ⊎ (b ≤ a)
        go true h k = inl (h tt)
        go false h k = inr (le_of_lt (k tt))

balance : (p n k c U : ℕ) → p ≡ (k - c) * U → n ≡ (c - k) * U → p + c * U ≡ n + k * U
balance p n k c U a b = let d = parted k c U in omega arith

near0 : (pn mn px mx k_u c_u U P N : ℕ) → pn + c_u ≡ mn + k_u → P ≡ px + c_u → N ≡ mx → N ≤ P → k_u * 2 ≤ (P - N) * 2 + U → (pn + mx) * 2 ≤ (mn + px) * 2 + U
near0 pn mn px mx k_u c_u U P N a b c d h = omega arith

near1 : (pn mn px mx k_u c_u U P N : ℕ) → pn + c_u ≡ mn + k_u → P ≡ px + c_u → N ≡ mx → N ≤ P → (P - N) * 2 ≤ k_u * 2 + U → (mn + px) * 2 ≤ (pn + mx) * 2 + U
near1 pn mn px mx k_u c_u U P N a b c d h = omega arith

pub nearest-is : (f : Format) (x c : Float) (C : ℕ) → Real f x → Whole f c C 0 → Reach f x C → Nearest f x c C
nearest-is f x c C r w d =
    let U = 2 ^ low f in
    let u : 0 < U = pow_pos (low f) in
    let y = add f x c in
    let P = pl f x + pl f c in
    let N = mi f x + mi f c in
    let E = P - N in
    let cp = w.plus in
    let cm = w.minus in
    let lo' = d.least in
    let hi' = d.most in
    let lo : hid f * U ≤ E = omega arith in
    let hi : E < 2 ^ prec f * U = omega arith in
    let no : N ≤ P = omega arith in
    let z : N - P ≡ 0 = omega arith in
    let j = prec f - 1 + low f in
    let m = rnd-multiple f E 1 j (pow_pos 0) (le_trans (le_of_eq (mul-one (2 ^ j) ∙ pow-add 2 (prec f - 1) (low f))) lo) in
    let k = m.0 in
    let e2 : rnd f E 1 ≡ k * U = m.1 ∙ ap (λ (v : ℕ). k * 2 ^ v) (step-one f) in
    let er = rnd-err f E 1 (prec f + low f) (pow_pos 0) (lt_of_lt_of_le hi (le_of_eq (sym (mul-one (2 ^ (prec f + low f)) ∙ pow-add 2 (prec f) (low f))))) in
    let es : 2 ^ (prec f + low f - prec f) ≡ U = ap (λ (v : ℕ). 2 ^ v) (add-sub_cancel_left (prec f) (low f)) in
    let e0 : k * U * 2 ≤ E * 2 + U = swap0 (rnd f E 1) k U E e2 (subst (λ (v : ℕ). rnd f E 1 * 1 * 2 ≤ E * 2 + v * 1) es er.0) in
    let e1 : E * 2 ≤ k * U * 2 + U = swap1 (rnd f E 1) k U E e2 (subst (λ (v : ℕ). E * 2 ≤ rnd f E 1 * 1 * 2 + v * 1) es er.1) in
    let kh = cap k E U (2 ^ prec f) u hi e0 in
    let kl = floor_of_lem k E U (hid f) u lo e1 in
    let i = add-Is f x c r w.value in
    let zr : rnd f (N - P) 1 ≡ 0 = ap (λ (v : ℕ). rnd f v 1) z ∙ rnd-zero f 1 (pow_pos 0) in
    let ty = i.small (lt_of_le_of_lt (le_of_eq e2) (steps-under f (low f) k (le_refl (low f)) kh)) (lt_of_le_of_lt (le_of_eq zr) (pow_pos (low f + suc (emax f)))) in
    let wy : Whole f y k 0 = record { value = record { finite = ty; fits = i.fits }; plus = i.plus ty ∙ e2; minus = i.minus ty ∙ zr ∙ sym (zero-mul U) } in
    let wn : Whole f (sub f y c) (k + 0 - (0 + C)) (0 + C - (k + 0)) = steps-sub f (low f) y c k 0 C 0 wy w (le_refl (low f)) (let o = d.from in omega arith) (let o = d.to in omega arith) in
    let t0 : k + 0 - (0 + C) ≡ k - C = omega arith in
    let t1 : 0 + C - (k + 0) ≡ C - k = omega arith in
    let wn' : Whole f (sub f y c) (k - C) (C - k) = record { value = wn.value; plus = wn.plus ∙ ap (λ (v : ℕ). v * U) t0; minus = wn.minus ∙ ap (λ (v : ℕ). v * U) t1 } in
    let bal = balance (pl f (sub f y c)) (mi f (sub f y c)) k C U wn'.plus wn'.minus in
    let pp : P ≡ pl f x + C * U = ap (λ (v : ℕ). pl f x + v) cp in
    let nn : N ≡ mi f x = omega arith in
    record {
      k = k;
      least = kl;
      most = kh;
      sum = wy;
      bits = whole-bits f y k wy kl kh;
      is = wn';
      zero = λ e.
          let K : 0 < C = lt_of_lt_of_le (pow_pos (prec f - 1)) d.from in
          let cs : sign c ≡ false = sign-plus f c (lt_of_lt_of_le (mul-pos K u) (le_of_eq (sym cp))) in
          let yp : pl f y ≡ C * U = wy.plus ∙ ap (λ (v : ℕ). v * U) e in
          let ys : sign y ≡ false = sign-plus f y (lt_of_lt_of_le (mul-pos K u) (le_of_eq (sym yp))) in
          let gy = mag_is f y in
          let gc = mag_is f c in
          let ym = wy.minus in
          let same : y ≡ c = same-value f y c wy.value w.value (ys ∙ sym cs) (omega arith) in
          ap (λ (v : Float). sign (sub f v c)) same ∙ self-sub f c w.value;
      above = near0 (pl f (sub f y c)) (mi f (sub f y c)) (pl f x) (mi f x) (k * U) (C * U) U P N bal pp nn no e0;
      below = near1 (pl f (sub f y c)) (mi f (sub f y c)) (pl f x) (mi f x) (k * U) (C * U) U P N bal pp nn no e1;
    }

-- ---- where the sum reaches: |x| is at most a
pub reach_of : (f : Format) (x : Float) (c a : ℕ) → mag f x ≤ a * 2 ^ low f → hid f + a ≤ c → c + a < 2 ^ prec f → Reach f x c
reach_of f x c a h l m =
    let U = 2 ^ low f in
    let g = mag_is f x in
    let p : (hid f + a) * U ≤ c * U = mul-le-mul_right U l in
    let q : (c + a) * U < 2 ^ prec f * U = mul-lt-mul_of_pos_right m (pow_pos (low f)) in
    record {
      least = least (hid f) a c U (mag f x) (pl f x) (mi f x) h g p;
      most = most a c U (2 ^ prec f * U) (mag f x) (pl f x) (mi f x) h g q;
      from = omega arith;
      to = omega arith;
    }
  where
    least : (b a c U M p n : ℕ) → M ≤ a * U → M ≡ p + n → (b + a) * U ≤ c * U → b * U + n ≤ p + c * U
    least b a c U M p n h g l = omega arith

    most : (a c U T M p n : ℕ) → M ≤ a * U → M ≡ p + n → (c + a) * U < T → p + c * U < T + n
    most a c U T M p n h g l = omega arith

-- ---- at binary64, with 1 in units kept shut so that `omega` meets no number of 1,074 digits
unfoldable pub unit : ℕ
unit = 2 ^ 1074

-- 1.5 * 2 ^ 52, by which the nearest whole number is found for |x| ≤ 2 ^ 50: as an f64, and as a number
abbrev pub magic : Float
magic = of_bits binary64 0x4338_0000_0000_0000

abbrev pub magic-number : ℕ
magic-number = 3 * 2 ^ 51

pub magic-whole : Whole binary64 magic magic-number 0
unfolding of_bits fits pl mi
magic-whole = record { value = record { finite = tt; fits = tt }; plus = refl; minus = refl }

pub magic-reach : (x : Float) → mag binary64 x ≤ 2 ^ 50 * unit → Reach binary64 x magic-number
unfolding unit
magic-reach x h = reach_of binary64 x magic-number (2 ^ 50) h (lit≤ tt) (lit< tt)

-- (x + 1.5 * 2 ^ 52) - 1.5 * 2 ^ 52 is the whole number nearest to x
pub nearest-magic : (x : Float) → Real binary64 x → mag binary64 x ≤ 2 ^ 50 * unit → Nearest binary64 x magic magic-number
nearest-magic x r h = nearest-is binary64 x magic magic-number r magic-whole (magic-reach x h)
