-- What each operation gives, in units: `Is f z P N c` says that z is (P - N) / c units, rounded once.
-- From there order, size and error of a result are facts on ℕ about `rnd`. Assumes nothing.
use mathlib.Core.Path.{◌≡◌, refl, sym, ap, ◌∙◌, subst}
use mathlib.Core.Logic.{◌⊎◌, inl, inr}
use Prim.Native.Nat.{ℕ, suc, ◌+◌, ◌-◌, ◌*◌, ◌^◌, ◌≤◌, ◌<◌}
use native.Mathlib.Nat.{le_trans, le_of_eq, le_of_lt, lt_of_le_of_lt, mul-one, mul_comm, mul_assoc, mul_left_comm, mul_right_comm, mul-le-mul_right, le_of_mul-le-mul_right, mul-pos, mul-sub, mul-mul-mul_comm}
use native.Mathlib.Omega.{arith}
use mathlib.Core.Bool.{Bool, true, false, not, ◌&&◌, cond}
use lib.Dec.{T, ltb, eqb, ltb→lt, eqb→eq, nltb→le}
use lib.Pow.{pow_pos}
use lib.Ieee.{Float, nan, inf, fin, Format, prec, low, up, down, unlike, odd, units, round, sum, le, neg, add, sub, mul, div, fits}
use lib.Ieee.Fits.{round_is, round-fits, down_pos, up_pos}
use lib.Ieee.Exact.{HasValue, units_val}
use lib.Ieee.Scale.{finite, overflow}
use lib.Ieee.Order.{drop, kept}
use lib.Ieee.Positive.{first_pos}
use Rattle.float_laws.proofs.Units.{rnd, rnd-same, rnd-mono, rnd-zero}
use Rattle.float_laws.proofs.Value.{sign, mag, sp, sn, pl, mi, Real, units_of, mag_of, mag_is, one_side, cross, cross', pl-under, mi-under, parts→le, neg-real, neg-pl, neg-mi}

-- z is (P - N) / c units, rounded once: what it fits, when it is finite, and its two parts
pub record Is (f : Format) (z : Float) (P N c : ℕ) : Type 0 where
  pub fits : T (fits f z)
  pub small : rnd f (P - N) c < overflow f → rnd f (N - P) c < overflow f → T (finite z)
  pub plus : T (finite z) → pl f z ≡ rnd f (P - N) c
  pub minus : T (finite z) → mi f z ≡ rnd f (N - P) c

-- ---- `round`
units_under : (f : Format) (s : Bool) (q k : ℕ) → T (finite (units f s q k)) → q * 2 ^ k < overflow f
unfolding units
units_under f s q k = go (ltb (q * 2 ^ k) (overflow f)) (ltb→lt (q * 2 ^ k) (overflow f))
  where
    go : (b : Bool) → (T b → q * 2 ^ k < overflow f) → T (finite (cond b (odd (suc (prec f)) s q k (low f)) (inf s))) → q * 2 ^ k < overflow f
    go true h t = h tt
    go false h t = absurd t

round_under : (f : Format) (s : Bool) (a c : ℕ) → T (finite (round f s a c)) → rnd f (a * 2 ^ low f) c < overflow f
unfolding rnd
round_under f s a c t = units_under f s (kept (prec f) (a * 2 ^ low f) c) (drop (prec f) (a * 2 ^ low f) c) (subst (λ (z : Float). T (finite z)) (round_is f s a c) t)

-- below the overflow a rounding is the value that `rnd` says
pub round-has : (f : Format) (s : Bool) (a c : ℕ) → rnd f (a * 2 ^ low f) c < overflow f → HasValue (round f s a c) s (rnd f (a * 2 ^ low f) c) (2 ^ low f)
unfolding rnd
round-has f s a c h = subst (λ (z : Float). HasValue z s (rnd f (a * 2 ^ low f) c) (2 ^ low f)) (sym (round_is f s a c)) (units_val f s (kept (prec f) (a * 2 ^ low f) c) (drop (prec f) (a * 2 ^ low f) c) h)

pick-sp : (f : Format) (s : Bool) (n c : ℕ) → 0 < c → sp s (rnd f n c) ≡ rnd f (sp s n) c
pick-sp f false n c C = refl
pick-sp f true n c C = sym (rnd-zero f c C)

pick-sn : (f : Format) (s : Bool) (n c : ℕ) → 0 < c → sn s (rnd f n c) ≡ rnd f (sn s n) c
pick-sn f false n c C = sym (rnd-zero f c C)
pick-sn f true n c C = refl

bound_of_lem : (s : Bool) (f : Format) (n c : ℕ) → 0 < c → rnd f (sp s n) c < overflow f → rnd f (sn s n) c < overflow f → rnd f n c < overflow f
bound_of_lem false f n c C h k = h
bound_of_lem true f n c C h k = k

-- `round` of a fraction a / b that is n / c units, with its sign
pub round-Is : (f : Format) (s : Bool) (a b P N c n : ℕ) → 0 < b → 0 < c → a * 2 ^ low f * c ≡ n * b → sp s n ≡ P - N → sn s n ≡ N - P → Is f (round f s a b) P N c
unfolding pl mi
round-Is f s a b P N c n B C e p q =
    let same : rnd f (a * 2 ^ low f) b ≡ rnd f n c = rnd-same f (a * 2 ^ low f) b n c B C e in
    let has : T (finite (round f s a b)) → HasValue (round f s a b) s (rnd f n c) (2 ^ low f) = λ t. subst (λ (g : ℕ). HasValue (round f s a b) s g (2 ^ low f)) same (round-has f s a b (round_under f s a b t)) in
    record {
      fits = round-fits f s a b;
      small = λ h k. (mag_of f (round f s a b) s (rnd f (a * 2 ^ low f) b) (round-has f s a b (subst (λ (g : ℕ). g < overflow f) (sym same) (bound_of_lem s f n c C (subst (λ (x : ℕ). rnd f x c < overflow f) (sym p) h) (subst (λ (x : ℕ). rnd f x c < overflow f) (sym q) k))))).0;
      plus = λ t. let m = mag_of f (round f s a b) s (rnd f n c) (has t) in
          ap (λ (z : Bool). sp z (mag f (round f s a b))) m.2 ∙ ap (sp s) m.1 ∙ pick-sp f s n c C ∙ ap (λ (x : ℕ). rnd f x c) p;
      minus = λ t. let m = mag_of f (round f s a b) s (rnd f n c) (has t) in
          ap (λ (z : Bool). sn z (mag f (round f s a b))) m.2 ∙ ap (sn s) m.1 ∙ pick-sn f s n c C ∙ ap (λ (x : ℕ). rnd f x c) q;
    }

-- ---- the sum
both : (A B M N L C : ℕ) → A * L ≡ M * C → B * L ≡ N * C → (A + B) * L * 1 ≡ (M + N) * C
both A B M N L C p q = omega arith

less : (A B M N L C : ℕ) → A * L ≡ M * C → B * L ≡ N * C → (A - B) * L * 1 ≡ (M - N) * C
less A B M N L C p q =
    mul-one ((A - B) * L) ∙ mul_comm (A - B) L ∙ mul-sub L A B ∙ ap (λ (x : ℕ). x - L * B) (mul_comm L A ∙ p ∙ mul_comm M C) ∙ ap (λ (x : ℕ). C * M - x) (mul_comm L B ∙ q ∙ mul_comm N C) ∙ sym (mul_comm (M - N) C ∙ mul-sub C M N)

order : (A B M N L C : ℕ) → A * L ≡ M * C → B * L ≡ N * C → 0 < C → A ≤ B → M ≤ N
order A B M N L C p q d h = le_of_mul-le-mul_right (le_trans (le_of_eq (sym p)) (le_trans (mul-le-mul_right L h) (le_of_eq q))) d

sum-Is : (f : Format) (s : Bool) (A : ℕ) (t : Bool) (B C M N : ℕ) → 0 < C → A * 2 ^ low f ≡ M * C → B * 2 ^ low f ≡ N * C → Is f (sum f s A t B C) (sp s M + sp t N) (sn s M + sn t N) 1
unfolding sum
sum-Is f false A false B C M N c p q = round-Is f false (A + B) C (M + N) (0 + 0) 1 (M + N) c (pow_pos 0) (both A B M N (2 ^ low f) C p q) (omega arith) (omega arith)
sum-Is f true A true B C M N c p q = round-Is f true (A + B) C (0 + 0) (M + N) 1 (M + N) c (pow_pos 0) (both A B M N (2 ^ low f) C p q) (omega arith) (omega arith)
sum-Is f false A true B C M N c p q = go (ltb A B) (ltb→lt A B) (nltb→le A B)
  where
    go : (b : Bool) → (T b → A < B) → (T (not b) → B ≤ A) → Is f (cond b (round f true (B - A) C) (round f false (A - B) C)) (M + 0) (0 + N) 1
    go true h k =
        let l : M ≤ N = order A B M N (2 ^ low f) C p q c (le_of_lt (h tt)) in
        round-Is f true (B - A) C (M + 0) (0 + N) 1 (N - M) c (pow_pos 0) (less B A N M (2 ^ low f) C q p) (omega arith) (omega arith)
    go false h k =
        let l : N ≤ M = order B A N M (2 ^ low f) C q p c (k tt) in
        round-Is f false (A - B) C (M + 0) (0 + N) 1 (M - N) c (pow_pos 0) (less A B M N (2 ^ low f) C p q) (omega arith) (omega arith)
sum-Is f true A false B C M N c p q = go (ltb A B) (ltb→lt A B) (nltb→le A B) (ltb B A) (ltb→lt B A) (nltb→le B A)
  where
    go : (b : Bool) → (T b → A < B) → (T (not b) → B ≤ A) → (a : Bool) → (T a → B < A) → (T (not a) → A ≤ B) → Is f (cond b (round f false (B - A) C) (round f (true && a) (A - B) C)) (0 + N) (M + 0) 1
    go true h k a i j =
        let l : M ≤ N = order A B M N (2 ^ low f) C p q c (le_of_lt (h tt)) in
        round-Is f false (B - A) C (0 + N) (M + 0) 1 (N - M) c (pow_pos 0) (less B A N M (2 ^ low f) C q p) (omega arith) (omega arith)
    go false h k true i j =
        let l : N ≤ M = order B A N M (2 ^ low f) C q p c (k tt) in
        round-Is f true (A - B) C (0 + N) (M + 0) 1 (M - N) c (pow_pos 0) (less A B M N (2 ^ low f) C p q) (omega arith) (omega arith)
    go false h k false i j =
        let l : N ≤ M = order B A N M (2 ^ low f) C q p c (k tt) in
        let g : M ≤ N = order A B M N (2 ^ low f) C p q c (j tt) in
        round-Is f false (A - B) C (0 + N) (M + 0) 1 (M - N) c (pow_pos 0) (less A B M N (2 ^ low f) C p q) (omega arith) (omega arith)

pub add-Is : (f : Format) (x y : Float) → Real f x → Real f y → Is f (add f x y) (pl f x + pl f y) (mi f x + mi f y) 1
unfolding add pl mi
add-Is f nan y r q = absurd r.finite
add-Is f (inf s) y r q = absurd r.finite
add-Is f (fin s m e) nan r q = absurd q.finite
add-Is f (fin s m e) (inf t) r q = absurd q.finite
add-Is f (fin s m e) (fin t n d) r q =
    sum-Is f s (m * up e * down d) t (n * up d * down e) (down e * down d) (mag f (fin s m e)) (mag f (fin t n d)) (mul-pos (down_pos e) (down_pos d))
    (cross (m * up e) (down e) (2 ^ low f) (mag f (fin s m e)) (down d) (units_of f (fin s m e) r))
    (cross' (n * up d) (down d) (2 ^ low f) (mag f (fin t n d)) (down e) (units_of f (fin t n d) q))

pub sub-Is : (f : Format) (x y : Float) → Real f x → Real f y → Is f (sub f x y) (pl f x + mi f y) (mi f x + pl f y) 1
unfolding sub
sub-Is f x y r q =
    subst (λ (n : ℕ). Is f (sub f x y) (pl f x + n) (mi f x + pl f y) 1) (neg-pl f y q)
    (subst (λ (n : ℕ). Is f (sub f x y) (pl f x + pl f (neg y)) (mi f x + n) 1) (neg-mi f y q) (add-Is f x (neg y) r (neg-real f y q)))

-- ---- the product
signs-pl : (s t : Bool) (M N : ℕ) → sp (unlike s t) (M * N) ≡ sp s M * sp t N + sn s M * sn t N - (sp s M * sn t N + sn s M * sp t N)
signs-pl false false M N = omega arith
signs-pl false true M N = omega arith
signs-pl true false M N = omega arith
signs-pl true true M N = omega arith

signs-mi : (s t : Bool) (M N : ℕ) → sn (unlike s t) (M * N) ≡ sp s M * sn t N + sn s M * sp t N - (sp s M * sp t N + sn s M * sn t N)
signs-mi false false M N = omega arith
signs-mi false true M N = omega arith
signs-mi true false M N = omega arith
signs-mi true true M N = omega arith

times : (n d m e L M N : ℕ) → n * L ≡ M * d → m * L ≡ N * e → n * m * L * L ≡ M * N * (d * e)
times n d m e L M N p q = mul_assoc (n * m) L L ∙ mul-mul-mul_comm n m L L ∙ ap (λ (x : ℕ). x * (m * L)) p ∙ ap (λ (x : ℕ). M * d * x) q ∙ mul-mul-mul_comm M d N e

pub mul-Is : (f : Format) (x y : Float) → Real f x → Real f y → Is f (mul f x y) (pl f x * pl f y + mi f x * mi f y) (pl f x * mi f y + mi f x * pl f y) (2 ^ low f)
unfolding mul pl mi
mul-Is f nan y r q = absurd r.finite
mul-Is f (inf s) y r q = absurd r.finite
mul-Is f (fin s m e) nan r q = absurd q.finite
mul-Is f (fin s m e) (inf t) r q = absurd q.finite
mul-Is f (fin s m e) (fin t n d) r q =
    let M = mag f (fin s m e) in
    let N = mag f (fin t n d) in
    round-Is f (unlike s t) (m * up e * (n * up d)) (down e * down d) (sp s M * sp t N + sn s M * sn t N) (sp s M * sn t N + sn s M * sp t N) (2 ^ low f) (M * N)
    (mul-pos (down_pos e) (down_pos d)) (pow_pos (low f))
    (times (m * up e) (down e) (n * up d) (down d) (2 ^ low f) M N (units_of f (fin s m e) r) (units_of f (fin t n d) q))
    (signs-pl s t M N) (signs-mi s t M N)

-- ---- the quotient, by a value that is not zero
over : (n d m e L M N : ℕ) → n * L ≡ M * d → m * L ≡ N * e → n * e * L * N ≡ M * L * (m * d)
over n d m e L M N p q =
    let a : n * e * L * N ≡ M * d * (N * e) = ap (λ (x : ℕ). x * N) (mul_right_comm n e L ∙ ap (λ (x : ℕ). x * e) p) ∙ mul_assoc (M * d) e N ∙ ap (λ (x : ℕ). M * d * x) (mul_comm e N) in
    let b : M * L * (m * d) ≡ M * d * (m * L) = simp (mul_assoc, mul_comm, mul_left_comm) in
    a ∙ ap (λ (x : ℕ). M * d * x) (sym q) ∙ sym b

quot-pl : (s t : Bool) (M N L : ℕ) → 0 < N → sp (unlike s t) (M * L) ≡ cond t (sn s M) (sp s M) * L - cond t (sp s M) (sn s M) * L
quot-pl false false M N L h = omega arith
quot-pl false true M N L h = omega arith
quot-pl true false M N L h = omega arith
quot-pl true true M N L h = omega arith

quot-mi : (s t : Bool) (M N L : ℕ) → 0 < N → sn (unlike s t) (M * L) ≡ cond t (sp s M) (sn s M) * L - cond t (sn s M) (sp s M) * L
quot-mi false false M N L h = omega arith
quot-mi false true M N L h = omega arith
quot-mi true false M N L h = omega arith
quot-mi true true M N L h = omega arith

no_zero : (n L N e : ℕ) → n * L ≡ N * e → 0 < N → 0 < e → 0 < n
no_zero n L N e p h k = first_pos n L (subst (λ (x : ℕ). 0 < x) (sym p) (mul-pos h k))

pub div-Is : (f : Format) (x y : Float) → Real f x → Real f y → 0 < mag f y → Is f (div f x y) (cond (sign y) (mi f x) (pl f x) * 2 ^ low f) (cond (sign y) (pl f x) (mi f x) * 2 ^ low f) (mag f y)
unfolding div pl mi
div-Is f nan y r q h = absurd r.finite
div-Is f (inf s) y r q h = absurd r.finite
div-Is f (fin s m e) nan r q h = absurd q.finite
div-Is f (fin s m e) (inf t) r q h = absurd q.finite
div-Is f (fin s m e) (fin t n d) r q h =
    let M = mag f (fin s m e) in
    let N = mag f (fin t n d) in
    let np : 0 < n = first_pos n (up d) (no_zero (n * up d) (2 ^ low f) N (down d) (units_of f (fin t n d) q) h (down_pos d)) in
    let ip = round-Is f (unlike s t) (m * up e * down d) (n * up d * down e) (cond t (sn s M) (sp s M) * 2 ^ low f) (cond t (sp s M) (sn s M) * 2 ^ low f) N (M * 2 ^ low f)
    (mul-pos (mul-pos np (up_pos d)) (down_pos e)) h
    (over (m * up e) (down e) (n * up d) (down d) (2 ^ low f) M N (units_of f (fin s m e) r) (units_of f (fin t n d) q))
    (quot-pl s t M N (2 ^ low f) h) (quot-mi s t M N (2 ^ low f) h) in
    go (eqb n 0) (eqb→eq n 0) np ip
  where
    go : (b : Bool) → (T b → n ≡ 0) → 0 < n → Is f (round f (unlike s t) (m * up e * down d) (n * up d * down e)) (cond t (sn s (mag f (fin s m e))) (sp s (mag f (fin s m e))) * 2 ^ low f) (cond t (sp s (mag f (fin s m e))) (sn s (mag f (fin s m e))) * 2 ^ low f) (mag f (fin t n d))
        → Is f (cond b (cond (eqb m 0) nan (inf (unlike s t))) (round f (unlike s t) (m * up e * down d) (n * up d * down e))) (cond t (sn s (mag f (fin s m e))) (sp s (mag f (fin s m e))) * 2 ^ low f) (cond t (sp s (mag f (fin s m e))) (sn s (mag f (fin s m e))) * 2 ^ low f) (mag f (fin t n d))
    go true z h i = let w = z tt in absurd (let o : ◌≡◌ {A = ℕ} n 0 = w in omega arith)
    go false z h i = i

-- ---- sizes: the size of a product is the rounded product of the sizes, and so for a quotient
-- |P - N| = D
abbrev pub Differ : ℕ → ℕ → ℕ → Type 0
Differ P N D = ((P - N ≡ D) × (N - P ≡ 0)) ⊎ ((N - P ≡ D) × (P - N ≡ 0))

pub differ-le : (P N D : ℕ) → Differ P N D → (P - N ≤ D) × (N - P ≤ D)
differ-le P N D (inl h) = let a = h.0 in let b = h.1 in (omega arith, omega arith)
differ-le P N D (inr h) = let a = h.0 in let b = h.1 in (omega arith, omega arith)

product-differ : (a b c d : ℕ) → (a ≡ 0) ⊎ (b ≡ 0) → (c ≡ 0) ⊎ (d ≡ 0) → Differ (a * c + b * d) (a * d + b * c) ((a + b) * (c + d))
product-differ a b c d (inl u) (inl v) = subst (λ (w : ℕ). Differ (w * c + b * d) (w * d + b * c) ((w + b) * (c + d))) (sym u) (subst (λ (w : ℕ). Differ (0 * w + b * d) (0 * d + b * w) ((0 + b) * (w + d))) (sym v) (inl (omega arith, omega arith)))
product-differ a b c d (inl u) (inr v) = subst (λ (w : ℕ). Differ (w * c + b * d) (w * d + b * c) ((w + b) * (c + d))) (sym u) (subst (λ (w : ℕ). Differ (0 * c + b * w) (0 * w + b * c) ((0 + b) * (c + w))) (sym v) (inr (omega arith, omega arith)))
product-differ a b c d (inr u) (inl v) = subst (λ (w : ℕ). Differ (a * c + w * d) (a * d + w * c) ((a + w) * (c + d))) (sym u) (subst (λ (w : ℕ). Differ (a * w + 0 * d) (a * d + 0 * w) ((a + 0) * (w + d))) (sym v) (inr (omega arith, omega arith)))
product-differ a b c d (inr u) (inr v) = subst (λ (w : ℕ). Differ (a * c + w * d) (a * d + w * c) ((a + w) * (c + d))) (sym u) (subst (λ (w : ℕ). Differ (a * c + 0 * w) (a * w + 0 * c) ((a + 0) * (c + w))) (sym v) (inl (omega arith, omega arith)))

-- of the exact product the size is the product of the sizes
pub mul-differ : (f : Format) (x y : Float) → Differ (pl f x * pl f y + mi f x * mi f y) (pl f x * mi f y + mi f x * pl f y) (mag f x * mag f y)
mul-differ f x y =
    subst (λ (w : ℕ). Differ (pl f x * pl f y + mi f x * mi f y) (pl f x * mi f y + mi f x * pl f y) w)
    (ap (λ (w : ℕ). w * (pl f y + mi f y)) (sym (mag_is f x)) ∙ ap (λ (w : ℕ). mag f x * w) (sym (mag_is f y)))
    (product-differ (pl f x) (mi f x) (pl f y) (mi f y) (one_side f x) (one_side f y))

scaled-differ : (a b l : ℕ) → (a ≡ 0) ⊎ (b ≡ 0) → Differ (a * l) (b * l) ((a + b) * l)
scaled-differ a b l (inl u) = subst (λ (w : ℕ). Differ (w * l) (b * l) ((w + b) * l)) (sym u) (inr (omega arith, omega arith))
scaled-differ a b l (inr u) = subst (λ (w : ℕ). Differ (a * l) (w * l) ((a + w) * l)) (sym u) (inl (omega arith, omega arith))

-- of the exact quotient (l = 2 ^ low) the numerator of the size
pub scale-differ : (f : Format) (x : Float) (l : ℕ) → Differ (pl f x * l) (mi f x * l) (mag f x * l)
scale-differ f x l = subst (λ (w : ℕ). Differ (pl f x * l) (mi f x * l) (w * l)) (sym (mag_is f x)) (scaled-differ (pl f x) (mi f x) l (one_side f x))

-- the size of a result is its exact size, rounded
pub is-mag : (f : Format) (z : Float) (P N c D : ℕ) → 0 < c → Is f z P N c → Differ P N D → T (finite z) → mag f z ≡ rnd f D c
is-mag f z P N c D C i h t = go h
  where
    z0 : (n : ℕ) → n ≡ 0 → rnd f n c ≡ 0
    z0 n e = ap (λ (x : ℕ). rnd f x c) e ∙ rnd-zero f c C

    go : Differ P N D → mag f z ≡ rnd f D c
    go (inl k) =
        let a : pl f z ≡ rnd f D c = i.plus t ∙ ap (λ (x : ℕ). rnd f x c) k.0 in
        let b : mi f z ≡ 0 = i.minus t ∙ z0 (N - P) k.1 in
        let g = mag_is f z in
        omega arith
    go (inr k) =
        let a : mi f z ≡ rnd f D c = i.minus t ∙ ap (λ (x : ℕ). rnd f x c) k.0 in
        let b : pl f z ≡ 0 = i.plus t ∙ z0 (P - N) k.1 in
        let g = mag_is f z in
        omega arith

pub mul-mag : (f : Format) (x y : Float) → Real f x → Real f y → T (finite (mul f x y)) → mag f (mul f x y) ≡ rnd f (mag f x * mag f y) (2 ^ low f)
mul-mag f x y r q t = is-mag f (mul f x y) _ _ (2 ^ low f) (mag f x * mag f y) (pow_pos (low f)) (mul-Is f x y r q) (mul-differ f x y) t

-- ---- two results in order: (P - N) / c ≤ (Q - R) / d
grow : (P N c Q R d : ℕ) → P * d + R * c ≤ Q * c + N * d → (P - N) * d ≤ (Q - R) * c
grow P N c Q R d h =
    let a : (P - N) * d ≡ P * d - N * d = mul_comm (P - N) d ∙ mul-sub d P N ∙ ap (λ (x : ℕ). x - d * N) (mul_comm d P) ∙ ap (λ (x : ℕ). P * d - x) (mul_comm d N) in
    let b : (Q - R) * c ≡ Q * c - R * c = mul_comm (Q - R) c ∙ mul-sub c Q R ∙ ap (λ (x : ℕ). x - c * R) (mul_comm c Q) ∙ ap (λ (x : ℕ). Q * c - x) (mul_comm c R) in
    le_trans (le_of_eq a) (le_trans (step (P * d) (N * d) (Q * c) (R * c) h) (le_of_eq (sym b)))
  where
    step : (p n q r : ℕ) → p + r ≤ q + n → p - n ≤ q - r
    step p n q r h = omega arith

-- (P - N) / c ≤ (Q - R) / d, rounded: the positive part grows and the negative part shrinks
pub rnd-order : (f : Format) (P N c Q R d : ℕ) → 0 < c → 0 < d → P * d + R * c ≤ Q * c + N * d → (rnd f (P - N) c ≤ rnd f (Q - R) d) × (rnd f (R - Q) d ≤ rnd f (N - P) c)
rnd-order f P N c Q R d C D h = (rnd-mono f (P - N) c (Q - R) d C D (grow P N c Q R d h), rnd-mono f (R - Q) d (N - P) c D C (grow R Q d N P c (omega arith)))

-- ---- a result between two finite results is finite and lies between them
pub between : (f : Format) (lo z hi : Float) (P N c Q R d S W g : ℕ) → 0 < c → 0 < d → 0 < g → Is f lo P N c → Is f z Q R d → Is f hi S W g → T (finite lo) → T (finite hi)
    → P * d + R * c ≤ Q * c + N * d → Q * g + W * d ≤ S * d + R * g → Real f z × T (le lo z) × T (le z hi)
between f lo z hi P N c Q R d S W g C D G a b e l h u v =
    let x = rnd-order f P N c Q R d C D u in
    let y = rnd-order f Q R d S W g D G v in
    let L : Real f lo = record { finite = l; fits = a.fits } in
    let H : Real f hi = record { finite = h; fits = e.fits } in
    let upper = le_trans y.0 (le_of_eq (sym (e.plus h))) in
    let lower = le_trans x.1 (le_of_eq (sym (a.minus l))) in
    let t = b.small (lt_of_le_of_lt upper (pl-under f hi H)) (lt_of_le_of_lt lower (mi-under f lo L)) in
    let Z : Real f z = record { finite = t; fits = b.fits } in
    let p = b.plus t in
    let n = b.minus t in (
      Z,
      parts→le f lo z L Z (le_trans (le_of_eq (a.plus l)) (le_trans x.0 (le_of_eq (sym p)))) (le_trans (le_of_eq n) lower),
      parts→le f z hi Z H (le_trans (le_of_eq p) upper) (le_trans (le_of_eq (e.minus h)) (le_trans y.1 (le_of_eq (sym n)))),
    )
