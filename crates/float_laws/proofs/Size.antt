-- Sizes: |x| ≤ A and |y| ≤ B give |x + y| ≤ A + B, |x - y| ≤ A + B and |x * y| ≤ A * B, each sum and product rounded, wherever the right side is finite.
-- So a bound that a program computes from sizes, in its own arithmetic, bounds whatever the same operations give on smaller values. The size of a quotient is `div-within` of Order.
-- Besides: larger bounds, constants by a computed test, |x| as code has it, and a cubic and its slope against the bounds that a program tests. Assumes nothing.
use mathlib.Core.Path.{◌≡◌, refl, sym, ap, ◌∙◌, subst}
use mathlib.Core.Logic.{inl, inr}
use Prim.Native.Nat.{ℕ, zero, suc, ◌+◌, ◌-◌, ◌*◌, ◌/◌, ◌^◌, ◌≤◌, ◌<◌, zero-le}
use native.Mathlib.Nat.{le_trans, le_of_eq, lt_of_le_of_lt, mul-le-mul, add-zero, le-add_right, le_antisymm, lt_irrefl, mul_comm, mul-pos, not-le_of_lt, zero-div, zero-lt-suc, zero-mul}
use native.Mathlib.Omega.{arith}
use mathlib.Core.Bool.{Bool, true, false, not, ◌&&◌, cond, true≢false}
use lib.Dec.{T, ltb, eqb, eqb→eq, ltb→lt, nltb→le}
use lib.Pow.{pow_pos}
use lib.Ieee.{Float, nan, inf, fin, Format, prec, emax, low, up, down, unlike, odd, units, round, sum, lt, le, neg, add, sub, mul, fits}
use lib.Ieee.Exact.{HasValue}
use lib.Ieee.Order.{drop, kept}
use lib.Ieee.Fits.{and_l, and_r, round_is, up_pos, down_pos, eq→eqb}
use lib.Ieee.Scale.{finite, overflow}
use Rattle.float_laws.proofs.Units.{rnd, rnd-le, rnd-zero}
use Rattle.float_laws.proofs.Value.{sign, mag, pl, mi, Real, units_of, mag_is, under, one_side, units→le, le→units, lt→units, nlt→units, neg-real, neg-pl, neg-mi}
use Rattle.float_laws.proofs.Operation.{Is, differ-le, mul-differ, add-Is, sub-Is, mul-Is, round-has}
use Rattle.float_laws.proofs.Interval.{In, le→parts, nil, nil-real, nil-pl, nil-mi, finite-between}

-- |x| ≤ A, both finite, and A is not below zero
pub record Within (f : Format) (x A : Float) : Type 0 where
  pub value : Real f x
  pub bound : Real f A
  pub plus : mi f A ≡ 0
  pub le : mag f x ≤ pl f A

-- ---- as an order of values
pub within-of_le : (f : Format) (x A : Float) → Real f x → Real f A → T (le (neg A) x) → T (le x A) → Within f x A
within-of_le f x A r q h k =
    let a = le→units f (neg A) x (neg-real f A q) r h in
    let b = le→units f x A r q k in
    let p = neg-pl f A q in
    let m = neg-mi f A q in
    let g = mag_is f x in
    elim (one_side f A) [
      | inl z ↦ record { value = r; bound = q; plus = omega arith; le = elim (one_side f x) [ inl w ↦ omega arith | inr w ↦ omega arith ] }
      | inr z ↦ record { value = r; bound = q; plus = z; le = elim (one_side f x) [ inl w ↦ omega arith | inr w ↦ omega arith ] }
    ]

-- back to an order of values, as a contract states it
pub le_of-within : (f : Format) (x A : Float) → Within f x A → T (le (neg A) x) × T (le x A)
le_of-within f x A w =
    let p = neg-pl f A w.bound in
    let m = neg-mi f A w.bound in
    let g = mag_is f x in
    let a = w.le in
    let z = w.plus in
    (units→le f (neg A) x (neg-real f A w.bound) w.value (omega arith), units→le f x A w.value w.bound (omega arith))

-- ---- as an interval, of the negative, and under a larger bound
pub in-of-within : (f : Format) (x A : Float) → Within f x A → In f (neg A) A x
in-of-within f x A w = let g = le_of-within f x A w in record { low = neg-real f A w.bound; high = w.bound; value = w.value; above = g.0; below = g.1 }

pub neg-mag : (f : Format) (x : Float) → Real f x → mag f (neg x) ≡ mag f x
neg-mag f x r =
    let p = neg-pl f x r in
    let m = neg-mi f x r in
    let a = mag_is f x in
    let b = mag_is f (neg x) in
    omega arith

pub neg-within : (f : Format) (x A : Float) → Within f x A → Within f (neg x) A
neg-within f x A w = record { value = neg-real f x w.value; bound = w.bound; plus = w.plus; le = le_trans (le_of_eq (neg-mag f x w.value)) w.le }

pub within-trans : (f : Format) (x A B : Float) → Within f x A → Within f A B → Within f x B
within-trans f x A B v w =
    let a = mag_is f A in
    let l = v.le in
    let m = w.le in
    record { value = v.value; bound = w.bound; plus = w.plus; le = omega arith }

-- ---- the laws
-- a result whose exact value is at most S / c units in size is at most that, rounded
pub is-bounded : (f : Format) (z : Float) (P N c S : ℕ) → 0 < c → Is f z P N c → P - N ≤ S → N - P ≤ S → rnd f S c < overflow f → Real f z × (mag f z ≤ rnd f S c)
is-bounded f z P N c S C i h k b =
    let u = rnd-le f (P - N) S c C h in
    let v = rnd-le f (N - P) S c C k in
    let t = i.small (lt_of_le_of_lt u b) (lt_of_le_of_lt v b) in
    let p = i.plus t in
    let m = i.minus t in
    let g = mag_is f z in
    (record { finite = t; fits = i.fits }, elim (one_side f z) [ inl w ↦ omega arith | inr w ↦ omega arith ])

-- of a bound: it is its own positive part
pub bound_of_lem : (f : Format) (B : Float) (P N c : ℕ) → 0 < c → Is f B P N c → N ≡ 0 → T (finite B) → (rnd f P c ≡ pl f B) × (mi f B ≡ 0) × (rnd f P c < overflow f)
bound_of_lem f B P N c C i z t =
    let e : P - N ≡ P = omega arith in
    let d : N - P ≡ 0 = omega arith in
    let p : rnd f P c ≡ pl f B = sym (i.plus t ∙ ap (λ (x : ℕ). rnd f x c) e) in
    let m : mi f B ≡ 0 = i.minus t ∙ ap (λ (x : ℕ). rnd f x c) d ∙ rnd-zero f c C in
    let g = mag_is f B in
    let u = under f B (record { finite = t; fits = i.fits }) in
    (p, m, omega arith)

within : (f : Format) (z B : Float) (P N Q R c : ℕ) → 0 < c → Is f z P N c → Is f B Q R c → R ≡ 0 → T (finite B) → P - N ≤ Q → N - P ≤ Q → Within f z B
within f z B P N Q R c C i j r t h k =
    let b = bound_of_lem f B Q R c C j r t in
    let s = is-bounded f z P N c Q C i h k b.2 in
    record { value = s.0; bound = record { finite = t; fits = j.fits }; plus = b.1; le = le_trans s.1 (le_of_eq b.0) }

-- |x| ≤ A and |y| ≤ B: the bound is the sum of the bounds, or their product, as computed
pub add-within : (f : Format) (x y A B : Float) → Within f x A → Within f y B → T (finite (add f A B)) → Within f (add f x y) (add f A B)
add-within f x y A B v w t =
    let a = v.le in
    let b = w.le in
    let p = v.plus in
    let q = w.plus in
    let m = mag_is f x in
    let n = mag_is f y in
    within f (add f x y) (add f A B) (pl f x + pl f y) (mi f x + mi f y) (pl f A + pl f B) (mi f A + mi f B) 1 (pow_pos 0)
    (add-Is f x y v.value w.value) (add-Is f A B v.bound w.bound) (omega arith) t (omega arith) (omega arith)

pub sub_within : (f : Format) (x y A B : Float) → Within f x A → Within f y B → T (finite (add f A B)) → Within f (sub f x y) (add f A B)
sub_within f x y A B v w t =
    let a = v.le in
    let b = w.le in
    let p = v.plus in
    let q = w.plus in
    let m = mag_is f x in
    let n = mag_is f y in
    within f (sub f x y) (add f A B) (pl f x + mi f y) (mi f x + pl f y) (pl f A + pl f B) (mi f A + mi f B) 1 (pow_pos 0)
    (sub-Is f x y v.value w.value) (add-Is f A B v.bound w.bound) (omega arith) t (omega arith) (omega arith)

pub mul-within : (f : Format) (x y A B : Float) → Within f x A → Within f y B → T (finite (mul f A B)) → Within f (mul f x y) (mul f A B)
mul-within f x y A B v w t =
    let d = differ-le _ _ _ (mul-differ f x y) in
    let k : mag f x * mag f y ≤ pl f A * pl f B + mi f A * mi f B = le_trans (mul-le-mul v.le w.le) (le-add_right (pl f A * pl f B) (mi f A * mi f B)) in
    let r : pl f A * mi f B + mi f A * pl f B ≡ 0 = ap (λ (z : ℕ). pl f A * z + mi f A * pl f B) w.plus ∙ ap (λ (z : ℕ). pl f A * 0 + z * pl f B) v.plus ∙ zeros (pl f A) (pl f B) in
    within f (mul f x y) (mul f A B) (pl f x * pl f y + mi f x * mi f y) (pl f x * mi f y + mi f x * pl f y) (pl f A * pl f B + mi f A * mi f B) (pl f A * mi f B + mi f A * pl f B) (2 ^ low f) (pow_pos (low f))
    (mul-Is f x y v.value w.value) (mul-Is f A B v.bound w.bound) r t (le_trans d.0 k) (le_trans d.1 k)
  where
    zeros : (a b : ℕ) → a * 0 + 0 * b ≡ 0
    zeros a b = omega arith

-- ---- by a test: A ≤ B as the code compares them; and of constants, where the test computes to true
pub within-mono : (f : Format) (x A B : Float) → Within f x A → Real f B → T (le A B) → Within f x B
within-mono f x A B w r h =
    let p = le→parts f A B w.bound r h in
    record { value = w.value; bound = r; plus = le_antisymm (le_trans p.1 (le_of_eq w.plus)) zero-le; le = le_trans w.le p.0 }

-- a value that is not below zero bounds itself
pub within-self : (f : Format) (A : Float) → Real f A → mi f A ≡ 0 → Within f A A
within-self f A r z = record { value = r; bound = r; plus = z; le = le_of_eq (mag_is f A ∙ ap (λ (n : ℕ). pl f A + n) z ∙ add-zero (pl f A)) }

-- the test of `within-const`: for constants it computes, so that `tt` proves it (under `unfolding of_bits fits le neg`)
abbrev pub is_within : Format → Float → Float → Bool
is_within f c A = (finite c && fits f c) && ((finite A && fits f A) && (le (neg A) c && le c A))

pub within-const : (f : Format) (c A : Float) → T (is_within f c A) → Within f c A
within-const f c A t =
    let one = and_l (finite c && fits f c) ((finite A && fits f A) && (le (neg A) c && le c A)) t in
    let rest = and_r (finite c && fits f c) ((finite A && fits f A) && (le (neg A) c && le c A)) t in
    let two = and_l (finite A && fits f A) (le (neg A) c && le c A) rest in
    let order = and_r (finite A && fits f A) (le (neg A) c && le c A) rest in
    within-of_le f c A (record { finite = and_l (finite c) (fits f c) one; fits = and_r (finite c) (fits f c) one }) (record { finite = and_l (finite A) (fits f A) two; fits = and_r (finite A) (fits f A) two })
    (and_l (le (neg A) c) (le c A) order) (and_r (le (neg A) c) (le c A) order)

-- ---- a result that is finite has operands that are
pub add-fin : (f : Format) (x y : Float) → T (finite (add f x y)) → T (finite x) × T (finite y)
unfolding add
add-fin f nan y t = absurd t
add-fin f (inf s) nan t = absurd t
add-fin f (inf true) (inf true) t = absurd t
add-fin f (inf true) (inf false) t = absurd t
add-fin f (inf false) (inf true) t = absurd t
add-fin f (inf false) (inf false) t = absurd t
add-fin f (inf s) (fin u n d) t = absurd t
add-fin f (fin s m e) nan t = absurd t
add-fin f (fin s m e) (inf u) t = absurd t
add-fin f (fin s m e) (fin u n d) t = (tt, tt)

never : (b : Bool) (s : Bool) → T (finite (cond b nan (inf s))) → ⊥
never true s t = t
never false s t = t

pub mul-fin : (f : Format) (x y : Float) → T (finite (mul f x y)) → T (finite x) × T (finite y)
unfolding mul
mul-fin f nan y t = absurd t
mul-fin f (inf s) nan t = absurd t
mul-fin f (inf s) (inf u) t = absurd t
mul-fin f (inf s) (fin u n d) t = absurd (never (eqb n 0) (unlike s u) t)
mul-fin f (fin s m e) nan t = absurd t
mul-fin f (fin s m e) (inf u) t = absurd (never (eqb m 0) (unlike s u) t)
mul-fin f (fin s m e) (fin u n d) t = (tt, tt)

-- ---- a bound that is computed from sizes is no -∞, so that a test `B <= limit` says that it is finite
-- not below zero: a NaN, +∞, a zero of either sign, what is above zero
abbrev pub nn : Float → Bool
nn nan = true
nn (inf s) = not s
nn (fin true m e) = eqb m 0
nn (fin false m e) = true

pick-sign : (f : Format) (b : Bool) (q k : ℕ) → sign (cond b (odd (suc (prec f)) false q k (low f)) (inf false)) ≡ false
unfolding odd
pick-sign f true zero k = refl
pick-sign f true (suc q) k = refl
pick-sign f false q k = refl

units-sign : (f : Format) (q k : ℕ) → sign (units f false q k) ≡ false
unfolding units
units-sign f q k = pick-sign f (ltb (q * 2 ^ k) (overflow f)) q k

nn-round⁺ : (f : Format) (a c : ℕ) → T (nn (round f false a c))
nn-round⁺ f a c = go (round f false a c) (ap sign (round_is f false a c) ∙ units-sign f (kept (prec f) (a * 2 ^ low f) c) (drop (prec f) (a * 2 ^ low f) c))
  where
    go : (z : Float) → sign z ≡ false → T (nn z)
    go nan e = tt
    go (inf true) e = absurd (true≢false e)
    go (inf false) e = tt
    go (fin true m x) e = absurd (true≢false e)
    go (fin false m x) e = tt

factor-zero : (m u L : ℕ) → 0 < u → 0 < L → m * u * L ≡ 0 → m ≡ 0
factor-zero zero u L h k e = refl
factor-zero (suc m) u L h k e = absurd (lt_irrefl 0 (subst (λ (n : ℕ). 0 < n) e (mul-pos (mul-pos (zero-lt-suc m) h) k)))

nn-round⁻ : (f : Format) (a c : ℕ) → 0 < c → a ≡ 0 → T (nn (round f true a c))
nn-round⁻ f a c C z = go (round f true a c) (round-has f true a c (subst (λ (n : ℕ). n < overflow f) (sym w) (pow_pos (low f + suc (emax f)))))
  where
    w : rnd f (a * 2 ^ low f) c ≡ 0
    w = ap (λ (n : ℕ). rnd f n c) (ap (λ (n : ℕ). n * 2 ^ low f) z ∙ zero-mul (2 ^ low f)) ∙ rnd-zero f c C

    go : (x : Float) → HasValue x true (rnd f (a * 2 ^ low f) c) (2 ^ low f) → T (nn x)
    go nan h = absurd h
    go (inf s) h = absurd h
    go (fin false m e) h = tt
    go (fin true m e) h = eq→eqb (factor-zero m (up e) (2 ^ low f) (up_pos e) (pow_pos (low f)) (h.1 ∙ ap (λ (n : ℕ). n * down e) w ∙ zero-mul (down e)))

zero_of : (m u v : ℕ) → T (eqb m 0) → m * u * v ≡ 0
zero_of m u v t = ap (λ (n : ℕ). n * u * v) (eqb→eq m 0 t) ∙ ap (λ (n : ℕ). n * v) (zero-mul u) ∙ zero-mul v

-- the operations keep it
pub add-nn : (f : Format) (x y : Float) → T (nn x) → T (nn y) → T (nn (add f x y))
unfolding add sum
add-nn f nan y p q = tt
add-nn f (inf s) nan p q = tt
add-nn f (inf true) (inf t) p q = absurd p
add-nn f (inf false) (inf true) p q = absurd q
add-nn f (inf false) (inf false) p q = tt
add-nn f (inf s) (fin t n d) p q = p
add-nn f (fin s m e) nan p q = tt
add-nn f (fin s m e) (inf t) p q = q
add-nn f (fin false m e) (fin false n d) p q = nn-round⁺ f _ _
add-nn f (fin true m e) (fin true n d) p q = nn-round⁻ f _ _ (mul-pos (down_pos e) (down_pos d)) (let a = zero_of m (up e) (down d) p in let b = zero_of n (up d) (down e) q in omega arith)
add-nn f (fin false m e) (fin true n d) p q = go (ltb (m * up e * down d) (n * up d * down e)) (ltb→lt (m * up e * down d) (n * up d * down e)) (zero_of n (up d) (down e) q)
  where
    go : (b : Bool) → (T b → m * up e * down d < n * up d * down e) → n * up d * down e ≡ 0 → T (nn (cond b (round f true (n * up d * down e - m * up e * down d) (down e * down d)) (round f false (m * up e * down d - n * up d * down e) (down e * down d))))
    go true h z = absurd (let k = h tt in omega arith)
    go false h z = nn-round⁺ f _ _
add-nn f (fin true m e) (fin false n d) p q =
    go (ltb (m * up e * down d) (n * up d * down e)) (ltb (n * up d * down e) (m * up e * down d)) (ltb→lt (n * up d * down e) (m * up e * down d)) (zero_of m (up e) (down d) p)
  where
    go : (b c : Bool) → (T c → n * up d * down e < m * up e * down d) → m * up e * down d ≡ 0 → T (nn (cond b (round f false (n * up d * down e - m * up e * down d) (down e * down d)) (round f (true && c) (m * up e * down d - n * up d * down e) (down e * down d))))
    go true c h z = nn-round⁺ f _ _
    go false true h z = absurd (let k = h tt in omega arith)
    go false false h z = nn-round⁺ f _ _

never-minus : (n : ℕ) (s : Bool) → T (eqb n 0) → T (nn (cond (eqb n 0) nan (inf s)))
never-minus n s t = go (eqb n 0) t
  where
    go : (b : Bool) → T b → T (nn (cond b nan (inf s)))
    go true t = tt
    go false t = absurd t

plus-or-nan : (b : Bool) → T (nn (cond b nan (inf false)))
plus-or-nan true = tt
plus-or-nan false = tt

pub mul-nn : (f : Format) (x y : Float) → T (nn x) → T (nn y) → T (nn (mul f x y))
unfolding mul
mul-nn f nan y p q = tt
mul-nn f (inf s) nan p q = tt
mul-nn f (inf true) (inf t) p q = absurd p
mul-nn f (inf false) (inf true) p q = absurd q
mul-nn f (inf false) (inf false) p q = tt
mul-nn f (inf true) (fin t n d) p q = absurd p
mul-nn f (inf false) (fin true n d) p q = never-minus n true q
mul-nn f (inf false) (fin false n d) p q = plus-or-nan (eqb n 0)
mul-nn f (fin s m e) nan p q = tt
mul-nn f (fin true m e) (inf true) p q = absurd q
mul-nn f (fin true m e) (inf false) p q = never-minus m true p
mul-nn f (fin false m e) (inf true) p q = absurd q
mul-nn f (fin false m e) (inf false) p q = plus-or-nan (eqb m 0)
mul-nn f (fin true m e) (fin true n d) p q = nn-round⁺ f _ _
mul-nn f (fin true m e) (fin false n d) p q = nn-round⁻ f _ _ (mul-pos (down_pos e) (down_pos d)) (zero_of m (up e) (n * up d) p)
mul-nn f (fin false m e) (fin true n d) p q = nn-round⁻ f _ _ (mul-pos (down_pos e) (down_pos d)) (mul_comm (m * up e) (n * up d) ∙ zero_of n (up d) (m * up e) q)
mul-nn f (fin false m e) (fin false n d) p q = nn-round⁺ f _ _

-- so a bound that is at most a finite limit is finite
pub fin-of_le : (B limit : Float) → T (nn B) → T (finite limit) → T (le B limit) → T (finite B)
unfolding le
fin-of_le nan l s t h = h
fin-of_le (inf true) l s t h = s
fin-of_le (inf false) nan s t h = h
fin-of_le (inf false) (inf u) s t h = absurd t
fin-of_le (inf false) (fin u n d) s t h = h
fin-of_le (fin u m e) l s t h = tt

-- -R ≤ x ≤ R says that R is not below zero
pub nn-of_le : (f : Format) (x R : Float) → T (fits f x) → T (fits f R) → T (le (neg R) x) → T (le x R) → T (nn R)
nn-of_le f x nan a b h k = tt
nn-of_le f x (inf false) a b h k = tt
nn-of_le f x (fin false m e) a b h k = tt
nn-of_le f x (inf true) a b h k = no x h k
  where
    no : (x : Float) → T (le (neg (inf true)) x) → T (le x (inf true)) → ⊥
    no nan h k = unfold le neg in h
    no (inf true) h k = unfold le neg in h
    no (inf false) h k = unfold le neg in k
    no (fin s m e) h k = unfold le neg in h
nn-of_le f x (fin true m e) a b h k = zero-m
  where
    R : Real f (fin true m e)
    R = record { finite = tt; fits = b }

    n_r : Real f (neg (fin true m e))
    n_r = neg-real f (fin true m e) R

    X : Real f x
    X = record { finite = finite-between (neg (fin true m e)) x (fin true m e) n_r.finite tt h k; fits = a }

    zero-m : T (eqb m 0)
    zero-m =
        let w = within-of_le f x (fin true m e) X R h k in
        let z : mag f (fin true m e) ≡ 0 = unfold mi in w.plus in
        eq→eqb (factor-zero m (up e) (2 ^ low f) (up_pos e) (pow_pos (low f)) (units_of f (fin true m e) R ∙ ap (λ (n : ℕ). n * down e) z ∙ zero-mul (down e)))

-- ---- the size as code has it: `if x < 0.0 { -x } else { x }`
unfoldable pub size : Float → Float
size x = cond (lt x nil) (neg x) x

-- of the size as computed: a finite size has a finite value, it is not below zero, and it bounds the value
pub size-fin : (x : Float) → T (finite (size x)) → T (finite x)
unfolding size
size-fin x = go (lt x nil) x
  where
    go : (b : Bool) (x : Float) → T (finite (cond b (neg x) x)) → T (finite x)
    go true nan t = unfold neg in t
    go true (inf s) t = unfold neg in t
    go true (fin s m e) t = tt
    go false x t = t

pub size-nn : (f : Format) (x : Float) → T (fits f x) → T (nn (size x))
unfolding size lt neg
size-nn f nan h = tt
size-nn f (inf true) h = tt
size-nn f (inf false) h = tt
size-nn f (fin true m e) h = go (ltb 0 (m * up e * 1 + 0 * 1 * down e)) (nltb→le 0 (m * up e * 1 + 0 * 1 * down e))
  where
    first : (n d : ℕ) → n * 1 + 0 * 1 * d ≤ 0 → n * 1 ≡ 0
    first n d h = omega arith

    go : (b : Bool) → (T (not b) → m * up e * 1 + 0 * 1 * down e ≤ 0) → T (nn (cond b (fin false m e) (fin true m e)))
    go true k = tt
    go false k = eq→eqb (factor-zero m (up e) 1 (up_pos e) (pow_pos 0) (first (m * up e) (down e) (k tt)))
size-nn f (fin false m e) h = go (ltb (m * up e * 1) (0 * 1 * down e)) (ltb→lt (m * up e * 1) (0 * 1 * down e))
  where
    go : (b : Bool) → (T b → m * up e * 1 < 0 * 1 * down e) → T (nn (cond b (fin true m e) (fin false m e)))
    go true k = absurd (not-le_of_lt (k tt) (le_trans (le_of_eq (zero-mul (down e))) zero-le))
    go false k = tt

pub size-within : (f : Format) (x : Float) → T (fits f x) → T (finite (size x)) → Within f x (size x)
unfolding size
size-within f x h t = go (lt x nil) (lt→units f x nil r (nil-real f)) (nlt→units f x nil r (nil-real f))
  where
    r : Real f x
    r = record { finite = size-fin x t; fits = h }

    go : (b : Bool) → (T b → pl f x + mi f nil < pl f nil + mi f x) → (T (not b) → pl f nil + mi f x ≤ pl f x + mi f nil) → Within f x (cond b (neg x) x)
    go true u v =
        let k = u tt in
        let p = nil-pl f in
        let n = nil-mi f in
        let g = mag_is f x in
        let np = neg-pl f x r in
        let nm = neg-mi f x r in
        elim (one_side f x) [
          | inl z ↦ record { value = r; bound = neg-real f x r; plus = omega arith; le = omega arith }
          | inr z ↦ absurd (omega arith)
        ]
    go false u v =
        let k = v tt in
        let p = nil-pl f in
        let n = nil-mi f in
        let g = mag_is f x in
        elim (one_side f x) [
          | inl z ↦ record { value = r; bound = r; plus = omega arith; le = omega arith }
          | inr z ↦ record { value = r; bound = r; plus = z; le = omega arith }
        ]

-- the size as computed keeps to a bound of its value: |x| ≤ A
pub size-keeps : (f : Format) (x A : Float) → Within f x A → Within f (size x) A
unfolding size
size-keeps f x A w = go (lt x nil)
  where
    go : (b : Bool) → Within f (cond b (neg x) x) A
    go true = neg-within f x A w
    go false = w

-- ---- what a program has tested, -R ≤ s ≤ R, as a size
pub reach-within : (f : Format) (s R : Float) → T (fits f s) → T (fits f R) → T (le (neg R) s) → T (le s R) → T (finite R) → Within f s R
reach-within f s R hs h_r lo hi t =
    let r : Real f R = record { finite = t; fits = h_r } in
    within-of_le f s R (record { finite = finite-between (neg R) s R (neg-real f R r).finite t lo hi; fits = hs }) r lo hi

-- a constant that is not below zero bounds itself
pub nn-within : (f : Format) (k : Float) → T (fits f k) → T (nn k) → T (finite k) → Within f k k
nn-within f k h n t = within-self f k (record { finite = t; fits = h }) (no_minus-part k t n)
  where
    no_minus-part : (k : Float) → T (finite k) → T (nn k) → mi f k ≡ 0
    no_minus-part nan t n = absurd t
    no_minus-part (inf s) t n = absurd t
    no_minus-part (fin false m e) t n = unfold mi in refl
    no_minus-part (fin true m e) t n = unfold mi mag in ap (λ (z : ℕ). z / down e) (ap (λ (z : ℕ). z * up e * 2 ^ low f) (eqb→eq m 0 n) ∙ ap (λ (z : ℕ). z * 2 ^ low f) (zero-mul (up e)) ∙ zero-mul (2 ^ low f)) ∙ zero-div (down e)

-- ---- a cubic and its slope, against the bounds that the same operations give on the sizes. In `..-within` each operand is bounded wherever its bound is finite, which a finite result shows
-- ((a + b*s) + (c*s)*s) + ((d*s)*s)*s
unfoldable pub cubic : Format → Float → Float → Float → Float → Float → Float
cubic f a b c d s = add f (add f (add f a (mul f b s)) (mul f (mul f c s) s)) (mul f (mul f (mul f d s) s) s)

pub cubic_within_lem : (f : Format) (a b c d s A B C D R : Float) → (T (finite A) → Within f a A) → (T (finite B) → Within f b B) → (T (finite C) → Within f c C) → (T (finite D) → Within f d D) → (T (finite R) → Within f s R)
    → T (finite (cubic f A B C D R)) → Within f (cubic f a b c d s) (cubic f A B C D R)
unfolding cubic
cubic_within_lem f a b c d s A B C D R wa wb wc wd ws t =
    let t1 = add-fin f _ _ t in
    let t2 = add-fin f _ _ t1.0 in
    let t3 = add-fin f _ _ t2.0 in
    let tb = mul-fin f _ _ t3.1 in
    let tc = mul-fin f _ _ t2.1 in
    let tc' = mul-fin f _ _ tc.0 in
    let td = mul-fin f _ _ t1.1 in
    let td' = mul-fin f _ _ td.0 in
    let td'' = mul-fin f _ _ td'.0 in
    let w = ws tb.1 in
    add-within f _ _ _ _
    (add-within f _ _ _ _
    (add-within f _ _ _ _ (wa t3.0) (mul-within f _ _ _ _ (wb tb.0) w t3.1) t2.0)
    (mul-within f _ _ _ _ (mul-within f _ _ _ _ (wc tc'.0) w tc.0) w t2.1) t1.0)
    (mul-within f _ _ _ _ (mul-within f _ _ _ _ (mul-within f _ _ _ _ (wd td''.0) w td'.0) w td.0) w t1.1) t

cubic-nn : (f : Format) (a b c d s : Float) → T (nn a) → T (nn b) → T (nn c) → T (nn d) → T (nn s) → T (nn (cubic f a b c d s))
unfolding cubic
cubic-nn f a b c d s p q r u z =
    add-nn f _ _ (add-nn f _ _ (add-nn f _ _ p (mul-nn f _ _ q z)) (mul-nn f _ _ (mul-nn f _ _ r z) z)) (mul-nn f _ _ (mul-nn f _ _ (mul-nn f _ _ u z) z) z)

-- from the tests that a program makes, and nothing else: the bound is at most a limit, and -R ≤ s ≤ R. So no coefficient is a NaN or an infinity, and the value is finite and within the bound
pub cubic-admitted : (f : Format) (a b c d s R limit : Float) → T (fits f a) → T (fits f b) → T (fits f c) → T (fits f d) → T (fits f s) → T (fits f R) → T (le (neg R) s) → T (le s R) → T (finite limit)
    → T (le (cubic f (size a) (size b) (size c) (size d) R) limit) → Within f (cubic f a b c d s) (cubic f (size a) (size b) (size c) (size d) R)
cubic-admitted f a b c d s R limit ha hb hc hd hs h_r lo hi l h =
    cubic_within_lem f a b c d s (size a) (size b) (size c) (size d) R (size-within f a ha) (size-within f b hb) (size-within f c hc) (size-within f d hd) (reach-within f s R hs h_r lo hi)
    (fin-of_le (cubic f (size a) (size b) (size c) (size d) R) limit (cubic-nn f (size a) (size b) (size c) (size d) R (size-nn f a ha) (size-nn f b hb) (size-nn f c hc) (size-nn f d hd) (nn-of_le f s R hs h_r lo hi)) l h)

-- (b + (m*c)*s) + ((n*d)*s)*s, where m and n are the constants 2 and 3 of the code
unfoldable pub slope : Format → Float → Float → Float → Float → Float → Float → Float
slope f m n b c d s = add f (add f b (mul f (mul f m c) s)) (mul f (mul f (mul f n d) s) s)

pub slope_within_lem : (f : Format) (m n b c d s B C D R : Float) → (T (finite m) → Within f m m) → (T (finite n) → Within f n n) → (T (finite B) → Within f b B) → (T (finite C) → Within f c C) → (T (finite D) → Within f d D) → (T (finite R) → Within f s R)
    → T (finite (slope f m n B C D R)) → Within f (slope f m n b c d s) (slope f m n B C D R)
unfolding slope
slope_within_lem f m n b c d s B C D R wm wn wb wc wd ws t =
    let t1 = add-fin f _ _ t in
    let t2 = add-fin f _ _ t1.0 in
    let tc = mul-fin f _ _ t2.1 in
    let tc' = mul-fin f _ _ tc.0 in
    let td = mul-fin f _ _ t1.1 in
    let td' = mul-fin f _ _ td.0 in
    let td'' = mul-fin f _ _ td'.0 in
    let w = ws tc.1 in
    add-within f _ _ _ _
    (add-within f _ _ _ _ (wb t2.0) (mul-within f _ _ _ _ (mul-within f _ _ _ _ (wm tc'.0) (wc tc'.1) tc.0) w t2.1) t1.0)
    (mul-within f _ _ _ _ (mul-within f _ _ _ _ (mul-within f _ _ _ _ (wn td''.0) (wd td''.1) td'.0) w td.0) w t1.1) t

slope-nn : (f : Format) (m n b c d s : Float) → T (nn m) → T (nn n) → T (nn b) → T (nn c) → T (nn d) → T (nn s) → T (nn (slope f m n b c d s))
unfolding slope
slope-nn f m n b c d s p q r u v z =
    add-nn f _ _ (add-nn f _ _ r (mul-nn f _ _ (mul-nn f _ _ p u) z)) (mul-nn f _ _ (mul-nn f _ _ (mul-nn f _ _ q v) z) z)

pub slope-admitted : (f : Format) (m n b c d s R limit : Float) → T (fits f m) → T (nn m) → T (fits f n) → T (nn n) → T (fits f b) → T (fits f c) → T (fits f d) → T (fits f s) → T (fits f R) → T (le (neg R) s) → T (le s R) → T (finite limit)
    → T (le (slope f m n (size b) (size c) (size d) R) limit) → Within f (slope f m n b c d s) (slope f m n (size b) (size c) (size d) R)
slope-admitted f m n b c d s R limit hm pm hn pn hb hc hd hs h_r lo hi l h =
    slope_within_lem f m n b c d s (size b) (size c) (size d) R (nn-within f m hm pm) (nn-within f n hn pn) (size-within f b hb) (size-within f c hc) (size-within f d hd) (reach-within f s R hs h_r lo hi)
    (fin-of_le (slope f m n (size b) (size c) (size d) R) limit (slope-nn f m n (size b) (size c) (size d) R pm pn (size-nn f b hb) (size-nn f c hc) (size-nn f d hd) (nn-of_le f s R hs h_r lo hi)) l h)
