-- Intervals of finite values, with values of the format as ends. Each operation's interval is computed by the operation itself at the ends: rounding keeps the order, so nothing is widened.
-- Assumes nothing.
use mathlib.Core.Path.{◌≡◌, refl, sym, ap, ◌∙◌, subst}
use mathlib.Core.Logic.{◌⊎◌, inl, inr}
use Prim.Native.Nat.{ℕ, ◌+◌, ◌-◌, ◌*◌, ◌/◌, ◌^◌, ◌≤◌, ◌<◌, zero-le}
use native.Mathlib.Nat.{le_trans, le_of_eq, lt_of_le_of_lt, lt_of_lt_of_le, mul-le-mul_right, mul-le-mul_left, eq-zero-or-pos, zero-mul}
use native.Mathlib.Omega.{arith}
use mathlib.Core.Bool.{Bool, true, false, not, cond}
use lib.IntN.{pos}
use lib.Dec.{T, T_not}
use lib.Pow.{pow_pos}
use lib.Ieee.{Float, nan, inf, fin, Format, low, le, neg, add, sub, mul, div, fits}
use lib.Ieee.Fits.{add-fits, mul-fits, sub-fits, div-fits}
use lib.Ieee.Scale.{finite}
use Rattle.std.proofs.lemmas.Float.{le_trans as float_trans}
use Rattle.float_laws.proofs.Units.{rnd, rnd-zero}
use Rattle.float_laws.proofs.Value.{sign-plus, mag, pl, mi, Real, mag_is, pl-under, mi-under, parts→le, one_side, units→le, le→units, le_refl, nle→le, neg-real, neg-pl, neg-mi}
use Rattle.float_laws.proofs.Operation.{Is, add-Is, sub-Is, mul-Is, div-Is, is-mag, scale-differ, rnd-order}

-- lo ≤ x ≤ hi, all finite
pub record In (f : Format) (lo hi x : Float) : Type 0 where
  pub low : Real f lo
  pub high : Real f hi
  pub value : Real f x
  pub above : T (le lo x)
  pub below : T (le x hi)

-- ---- the order by parts
pub le→parts : (f : Format) (x y : Float) → Real f x → Real f y → T (le x y) → (pl f x ≤ pl f y) × (mi f y ≤ mi f x)
le→parts f x y r q h =
    let a = le→units f x y r q h in
    elim (one_side f x) [
      | inl z ↦ elim (one_side f y) [ inl w ↦ (omega arith, omega arith) | inr w ↦ (omega arith, omega arith) ]
      | inr z ↦ elim (one_side f y) [ inl w ↦ (omega arith, omega arith) | inr w ↦ (omega arith, omega arith) ]
    ]

-- (P - N) / c, rounded, is at most hi; and at least lo
pub record Over (f : Format) (P N c : ℕ) (hi : Float) : Type 0 where
  pub plus : rnd f (P - N) c ≤ pl f hi
  pub minus : mi f hi ≤ rnd f (N - P) c

pub record Under (f : Format) (lo : Float) (P N c : ℕ) : Type 0 where
  pub plus : pl f lo ≤ rnd f (P - N) c
  pub minus : rnd f (N - P) c ≤ mi f lo

-- a larger exact value bounds the rounded one from above, and a smaller one from below
pub over-of : (f : Format) (P N c Q R d : ℕ) (k : Float) → 0 < c → 0 < d → Is f k Q R d → T (finite k) → P * d + R * c ≤ Q * c + N * d → Over f P N c k
over-of f P N c Q R d k C D i t h =
    let o = rnd-order f P N c Q R d C D h in
    record { plus = le_trans o.0 (le_of_eq (sym (i.plus t))); minus = le_trans (le_of_eq (i.minus t)) o.1 }

pub under_of : (f : Format) (P N c Q R d : ℕ) (k : Float) → 0 < c → 0 < d → Is f k Q R d → T (finite k) → Q * c + N * d ≤ P * d + R * c → Under f k P N c
under_of f P N c Q R d k C D i t h =
    let o = rnd-order f Q R d P N c D C h in
    record { plus = le_trans (le_of_eq (i.plus t)) o.0; minus = le_trans o.1 (le_of_eq (sym (i.minus t))) }

-- and whatever is beyond that bound
pub over-trans : (f : Format) (P N c : ℕ) (k hi : Float) → Over f P N c k → Real f k → Real f hi → T (le k hi) → Over f P N c hi
over-trans f P N c k hi o r q h =
    let p = le→parts f k hi r q h in
    record { plus = le_trans o.plus p.0; minus = le_trans p.1 o.minus }

pub under-trans : (f : Format) (P N c : ℕ) (lo k : Float) → Under f k P N c → Real f lo → Real f k → T (le lo k) → Under f lo P N c
under-trans f P N c lo k u q r h =
    let p = le→parts f lo k q r h in
    record { plus = le_trans p.0 u.plus; minus = le_trans u.minus p.1 }

-- a result between two finite values is finite and lies between them: how every interval law ends
pub enclose : (f : Format) (z lo hi : Float) (P N c : ℕ) → Is f z P N c → Real f lo → Real f hi → Under f lo P N c → Over f P N c hi → In f lo hi z
enclose f z lo hi P N c i l h u o =
    let t = i.small (lt_of_le_of_lt o.plus (pl-under f hi h)) (lt_of_le_of_lt u.minus (mi-under f lo l)) in
    let Z : Real f z = record { finite = t; fits = i.fits } in
    let p = i.plus t in
    let q = i.minus t in
    record {
      low = l;
      high = h;
      value = Z;
      above = parts→le f lo z l Z (le_trans u.plus (le_of_eq (sym p))) (le_trans (le_of_eq q) u.minus);
      below = parts→le f z hi Z h (le_trans (le_of_eq p) o.plus) (le_trans o.minus (le_of_eq (sym q)));
    }

real : (f : Format) (x : Float) → T (finite x) → T (fits f x) → Real f x
real f x t u = record { finite = t; fits = u }

-- ---- sums
pub add-in : (f : Format) (a b c d x y : Float) → In f a b x → In f c d y → T (finite (add f a c)) → T (finite (add f b d)) → In f (add f a c) (add f b d) (add f x y)
add-in f a b c d x y i j l h =
    let p = le→units f a x i.low i.value i.above in
    let q = le→units f x b i.value i.high i.below in
    let r = le→units f c y j.low j.value j.above in
    let s = le→units f y d j.value j.high j.below in
    enclose f (add f x y) (add f a c) (add f b d) (pl f x + pl f y) (mi f x + mi f y) 1 (add-Is f x y i.value j.value) (real f (add f a c) l (add-fits f a c)) (real f (add f b d) h (add-fits f b d))
    (under_of f (pl f x + pl f y) (mi f x + mi f y) 1 (pl f a + pl f c) (mi f a + mi f c) 1 (add f a c) (pow_pos 0) (pow_pos 0) (add-Is f a c i.low j.low) l (omega arith))
    (over-of f (pl f x + pl f y) (mi f x + mi f y) 1 (pl f b + pl f d) (mi f b + mi f d) 1 (add f b d) (pow_pos 0) (pow_pos 0) (add-Is f b d i.high j.high) h (omega arith))

pub sub_in : (f : Format) (a b c d x y : Float) → In f a b x → In f c d y → T (finite (sub f a d)) → T (finite (sub f b c)) → In f (sub f a d) (sub f b c) (sub f x y)
sub_in f a b c d x y i j l h =
    let p = le→units f a x i.low i.value i.above in
    let q = le→units f x b i.value i.high i.below in
    let r = le→units f c y j.low j.value j.above in
    let s = le→units f y d j.value j.high j.below in
    enclose f (sub f x y) (sub f a d) (sub f b c) (pl f x + mi f y) (mi f x + pl f y) 1 (sub-Is f x y i.value j.value) (real f (sub f a d) l (sub-fits f a d)) (real f (sub f b c) h (sub-fits f b c))
    (under_of f (pl f x + mi f y) (mi f x + pl f y) 1 (pl f a + mi f d) (mi f a + pl f d) 1 (sub f a d) (pow_pos 0) (pow_pos 0) (sub-Is f a d i.low j.high) l (omega arith))
    (over-of f (pl f x + mi f y) (mi f x + pl f y) 1 (pl f b + mi f c) (mi f b + pl f c) 1 (sub f b c) (pow_pos 0) (pow_pos 0) (sub-Is f b c i.high j.low) h (omega arith))

pub neg-in : (f : Format) (a b x : Float) → In f a b x → In f (neg b) (neg a) (neg x)
neg-in f a b x i =
    let p = le→units f a x i.low i.value i.above in
    let q = le→units f x b i.value i.high i.below in
    let a1 = neg-pl f a i.low in
    let a2 = neg-mi f a i.low in
    let b1 = neg-pl f b i.high in
    let b2 = neg-mi f b i.high in
    let x1 = neg-pl f x i.value in
    let x2 = neg-mi f x i.value in
    record {
      low = neg-real f b i.high;
      high = neg-real f a i.low;
      value = neg-real f x i.value;
      above = units→le f (neg b) (neg x) (neg-real f b i.high) (neg-real f x i.value) (omega arith);
      below = units→le f (neg x) (neg a) (neg-real f x i.value) (neg-real f a i.low) (omega arith);
    }

-- ---- the least and the greatest of two
unfoldable pub least : Float → Float → Float
least x y = cond (le x y) x y

unfoldable pub most : Float → Float → Float
most x y = cond (le x y) y x

-- they are values of the format, and lie on their side of both
pub least-is : (f : Format) (x y : Float) → Real f x → Real f y → Real f (least x y) × T (le (least x y) x) × T (le (least x y) y)
unfolding least
least-is f x y r q = go (le x y) (λ (t : T (le x y)). t) (nle→le f x y r q)
  where
    go : (b : Bool) → (T b → T (le x y)) → (T (not b) → T (le y x)) → Real f (cond b x y) × T (le (cond b x y) x) × T (le (cond b x y) y)
    go true h k = (r, le_refl f x r, h tt)
    go false h k = (q, k tt, le_refl f y q)

pub most-is : (f : Format) (x y : Float) → Real f x → Real f y → Real f (most x y) × T (le x (most x y)) × T (le y (most x y))
unfolding most
most-is f x y r q = go (le x y) (λ (t : T (le x y)). t) (nle→le f x y r q)
  where
    go : (b : Bool) → (T b → T (le x y)) → (T (not b) → T (le y x)) → Real f (cond b y x) × T (le x (cond b y x)) × T (le y (cond b y x))
    go true h k = (q, h tt, le_refl f y q)
    go false h k = (r, le_refl f x r, k tt)

-- ---- products: (a - b) * (c - d) is PP - NN
abbrev PP : ℕ → ℕ → ℕ → ℕ → ℕ
PP a b c d = a * c + b * d

abbrev NN : ℕ → ℕ → ℕ → ℕ → ℕ
NN a b c d = a * d + b * c

-- one factor grows; by the sign of the other
up-l : (a b a' b' c d : ℕ) → d ≡ 0 → a + b' ≤ a' + b → PP a b c d + NN a' b' c d ≤ PP a' b' c d + NN a b c d
up-l a b a' b' c d z h = subst (λ (w : ℕ). PP a b c w + NN a' b' c w ≤ PP a' b' c w + NN a b c w) (sym z) (let k : (a + b') * c ≤ (a' + b) * c = mul-le-mul_right c h in omega arith)

down-l : (a b a' b' c d : ℕ) → c ≡ 0 → a + b' ≤ a' + b → PP a' b' c d + NN a b c d ≤ PP a b c d + NN a' b' c d
down-l a b a' b' c d z h = subst (λ (w : ℕ). PP a' b' w d + NN a b w d ≤ PP a b w d + NN a' b' w d) (sym z) (let k : (a + b') * d ≤ (a' + b) * d = mul-le-mul_right d h in omega arith)

up-r : (a b c d c' d' : ℕ) → b ≡ 0 → c + d' ≤ c' + d → PP a b c d + NN a b c' d' ≤ PP a b c' d' + NN a b c d
up-r a b c d c' d' z h = subst (λ (w : ℕ). PP a w c d + NN a w c' d' ≤ PP a w c' d' + NN a w c d) (sym z) (let k : (c + d') * a ≤ (c' + d) * a = mul-le-mul_right a h in omega arith)

down-r : (a b c d c' d' : ℕ) → a ≡ 0 → c + d' ≤ c' + d → PP a b c' d' + NN a b c d ≤ PP a b c d + NN a b c' d'
down-r a b c d c' d' z h = subst (λ (w : ℕ). PP w b c' d' + NN w b c d ≤ PP w b c d + NN w b c' d') (sym z) (let k : (c + d') * b ≤ (c' + d) * b = mul-le-mul_right b h in omega arith)

chain : (p n q m r s : ℕ) → p + m ≤ q + n → q + s ≤ r + m → p + s ≤ r + n
chain p n q m r s h k = omega arith

-- over one denominator
pub spread : (p n q r c : ℕ) → p + r ≤ q + n → p * c + r * c ≤ q * c + n * c
spread p n q r c h = let k : (p + r) * c ≤ (q + n) * c = mul-le-mul_right c h in omega arith

module _ (f : Format) (a b c d x y : Float) (i : In f a b x) (j : In f c d y) where
  mul-over : (hi : Float) → Real f hi → T (finite (mul f a c)) → T (finite (mul f a d)) → T (finite (mul f b c)) → T (finite (mul f b d))
      → T (le (mul f a c) hi) → T (le (mul f a d) hi) → T (le (mul f b c) hi) → T (le (mul f b d) hi)
      → Over f (PP (pl f x) (mi f x) (pl f y) (mi f y)) (NN (pl f x) (mi f x) (pl f y) (mi f y)) (2 ^ low f) hi
  mul-over hi H t1 t2 t3 t4 h1 h2 h3 h4 =
      let L = 2 ^ low f in
      let P = PP (pl f x) (mi f x) (pl f y) (mi f y) in
      let N = NN (pl f x) (mi f x) (pl f y) (mi f y) in
      let p = le→units f a x i.low i.value i.above in
      let q = le→units f x b i.value i.high i.below in
      let r = le→units f c y j.low j.value j.above in
      let s = le→units f y d j.value j.high j.below in
      let corner : (k u : Float) → Real f k → Real f u → T (finite (mul f k u)) → T (le (mul f k u) hi) → P + NN (pl f k) (mi f k) (pl f u) (mi f u) ≤ PP (pl f k) (mi f k) (pl f u) (mi f u) + N → Over f P N L hi =
      λ k u rk ru t h e. over-trans f P N L (mul f k u) hi (over-of f P N L (PP (pl f k) (mi f k) (pl f u) (mi f u)) (NN (pl f k) (mi f k) (pl f u) (mi f u)) L (mul f k u) (pow_pos (low f)) (pow_pos (low f)) (mul-Is f k u rk ru) t (spread P N (PP (pl f k) (mi f k) (pl f u) (mi f u)) (NN (pl f k) (mi f k) (pl f u) (mi f u)) L e)) (real f (mul f k u) t (mul-fits f k u)) H h in
      elim (one_side f y) [
        | inr yn ↦ elim (one_side f b) [
          | inr bn ↦ corner b d i.high j.high t4 h4 (chain P N (PP (pl f b) (mi f b) (pl f y) (mi f y)) (NN (pl f b) (mi f b) (pl f y) (mi f y)) (PP (pl f b) (mi f b) (pl f d) (mi f d)) (NN (pl f b) (mi f b) (pl f d) (mi f d)) (up-l (pl f x) (mi f x) (pl f b) (mi f b) (pl f y) (mi f y) yn q) (up-r (pl f b) (mi f b) (pl f y) (mi f y) (pl f d) (mi f d) bn s))
          | inl bp ↦ corner b c i.high j.low t3 h3 (chain P N (PP (pl f b) (mi f b) (pl f y) (mi f y)) (NN (pl f b) (mi f b) (pl f y) (mi f y)) (PP (pl f b) (mi f b) (pl f c) (mi f c)) (NN (pl f b) (mi f b) (pl f c) (mi f c)) (up-l (pl f x) (mi f x) (pl f b) (mi f b) (pl f y) (mi f y) yn q) (down-r (pl f b) (mi f b) (pl f c) (mi f c) (pl f y) (mi f y) bp r))
        ]
        | inl yp ↦ elim (one_side f a) [
          | inr an ↦ corner a d i.low j.high t2 h2 (chain P N (PP (pl f a) (mi f a) (pl f y) (mi f y)) (NN (pl f a) (mi f a) (pl f y) (mi f y)) (PP (pl f a) (mi f a) (pl f d) (mi f d)) (NN (pl f a) (mi f a) (pl f d) (mi f d)) (down-l (pl f a) (mi f a) (pl f x) (mi f x) (pl f y) (mi f y) yp p) (up-r (pl f a) (mi f a) (pl f y) (mi f y) (pl f d) (mi f d) an s))
          | inl ap' ↦ corner a c i.low j.low t1 h1 (chain P N (PP (pl f a) (mi f a) (pl f y) (mi f y)) (NN (pl f a) (mi f a) (pl f y) (mi f y)) (PP (pl f a) (mi f a) (pl f c) (mi f c)) (NN (pl f a) (mi f a) (pl f c) (mi f c)) (down-l (pl f a) (mi f a) (pl f x) (mi f x) (pl f y) (mi f y) yp p) (down-r (pl f a) (mi f a) (pl f c) (mi f c) (pl f y) (mi f y) ap' r))
        ]
      ]

  mul-under : (lo : Float) → Real f lo → T (finite (mul f a c)) → T (finite (mul f a d)) → T (finite (mul f b c)) → T (finite (mul f b d))
      → T (le lo (mul f a c)) → T (le lo (mul f a d)) → T (le lo (mul f b c)) → T (le lo (mul f b d))
      → Under f lo (PP (pl f x) (mi f x) (pl f y) (mi f y)) (NN (pl f x) (mi f x) (pl f y) (mi f y)) (2 ^ low f)
  mul-under lo H t1 t2 t3 t4 h1 h2 h3 h4 =
      let L = 2 ^ low f in
      let P = PP (pl f x) (mi f x) (pl f y) (mi f y) in
      let N = NN (pl f x) (mi f x) (pl f y) (mi f y) in
      let p = le→units f a x i.low i.value i.above in
      let q = le→units f x b i.value i.high i.below in
      let r = le→units f c y j.low j.value j.above in
      let s = le→units f y d j.value j.high j.below in
      let corner : (k u : Float) → Real f k → Real f u → T (finite (mul f k u)) → T (le lo (mul f k u)) → PP (pl f k) (mi f k) (pl f u) (mi f u) + N ≤ P + NN (pl f k) (mi f k) (pl f u) (mi f u) → Under f lo P N L =
      λ k u rk ru t h e. under-trans f P N L lo (mul f k u) (under_of f P N L (PP (pl f k) (mi f k) (pl f u) (mi f u)) (NN (pl f k) (mi f k) (pl f u) (mi f u)) L (mul f k u) (pow_pos (low f)) (pow_pos (low f)) (mul-Is f k u rk ru) t (spread (PP (pl f k) (mi f k) (pl f u) (mi f u)) (NN (pl f k) (mi f k) (pl f u) (mi f u)) P N L e)) H (real f (mul f k u) t (mul-fits f k u)) h in
      elim (one_side f y) [
        | inr yn ↦ elim (one_side f a) [
          | inr an ↦ corner a c i.low j.low t1 h1 (chain (PP (pl f a) (mi f a) (pl f c) (mi f c)) (NN (pl f a) (mi f a) (pl f c) (mi f c)) (PP (pl f a) (mi f a) (pl f y) (mi f y)) (NN (pl f a) (mi f a) (pl f y) (mi f y)) P N (up-r (pl f a) (mi f a) (pl f c) (mi f c) (pl f y) (mi f y) an r) (up-l (pl f a) (mi f a) (pl f x) (mi f x) (pl f y) (mi f y) yn p))
          | inl ap' ↦ corner a d i.low j.high t2 h2 (chain (PP (pl f a) (mi f a) (pl f d) (mi f d)) (NN (pl f a) (mi f a) (pl f d) (mi f d)) (PP (pl f a) (mi f a) (pl f y) (mi f y)) (NN (pl f a) (mi f a) (pl f y) (mi f y)) P N (down-r (pl f a) (mi f a) (pl f y) (mi f y) (pl f d) (mi f d) ap' s) (up-l (pl f a) (mi f a) (pl f x) (mi f x) (pl f y) (mi f y) yn p))
        ]
        | inl yp ↦ elim (one_side f b) [
          | inr bn ↦ corner b c i.high j.low t3 h3 (chain (PP (pl f b) (mi f b) (pl f c) (mi f c)) (NN (pl f b) (mi f b) (pl f c) (mi f c)) (PP (pl f b) (mi f b) (pl f y) (mi f y)) (NN (pl f b) (mi f b) (pl f y) (mi f y)) P N (up-r (pl f b) (mi f b) (pl f c) (mi f c) (pl f y) (mi f y) bn r) (down-l (pl f x) (mi f x) (pl f b) (mi f b) (pl f y) (mi f y) yp q))
          | inl bp ↦ corner b d i.high j.high t4 h4 (chain (PP (pl f b) (mi f b) (pl f d) (mi f d)) (NN (pl f b) (mi f b) (pl f d) (mi f d)) (PP (pl f b) (mi f b) (pl f y) (mi f y)) (NN (pl f b) (mi f b) (pl f y) (mi f y)) P N (down-r (pl f b) (mi f b) (pl f y) (mi f y) (pl f d) (mi f d) bp s) (down-l (pl f x) (mi f x) (pl f b) (mi f b) (pl f y) (mi f y) yp q))
        ]
      ]

  pub mul_in : T (finite (mul f a c)) → T (finite (mul f a d)) → T (finite (mul f b c)) → T (finite (mul f b d))
      → In f (least (least (mul f a c) (mul f a d)) (least (mul f b c) (mul f b d))) (most (most (mul f a c) (mul f a d)) (most (mul f b c) (mul f b d))) (mul f x y)
  mul_in t1 t2 t3 t4 =
      let r1 = real f (mul f a c) t1 (mul-fits f a c) in
      let r2 = real f (mul f a d) t2 (mul-fits f a d) in
      let r3 = real f (mul f b c) t3 (mul-fits f b c) in
      let r4 = real f (mul f b d) t4 (mul-fits f b d) in
      let l1 = least-is f (mul f a c) (mul f a d) r1 r2 in
      let l2 = least-is f (mul f b c) (mul f b d) r3 r4 in
      let m1 = most-is f (mul f a c) (mul f a d) r1 r2 in
      let m2 = most-is f (mul f b c) (mul f b d) r3 r4 in
      let l = least-is f (least (mul f a c) (mul f a d)) (least (mul f b c) (mul f b d)) l1.0 l2.0 in
      let m = most-is f (most (mul f a c) (mul f a d)) (most (mul f b c) (mul f b d)) m1.0 m2.0 in
      enclose f (mul f x y) _ _ (PP (pl f x) (mi f x) (pl f y) (mi f y)) (NN (pl f x) (mi f x) (pl f y) (mi f y)) (2 ^ low f) (mul-Is f x y i.value j.value) l.0 m.0
      (mul-under _ l.0 t1 t2 t3 t4
      (float_trans _ _ _ l.1 l1.1) (float_trans _ _ _ l.1 l1.2)
      (float_trans _ _ _ l.2 l2.1) (float_trans _ _ _ l.2 l2.2))
      (mul-over _ m.0 t1 t2 t3 t4
      (float_trans _ _ _ m1.1 m.1) (float_trans _ _ _ m1.2 m.1)
      (float_trans _ _ _ m2.1 m.2) (float_trans _ _ _ m2.2 m.2))

-- ---- squares: [a, b] not below zero, not above zero, or across it
abbrev pub nil : Float
nil = fin false 0 (pos 0)

pub nil-real : (f : Format) → Real f nil
unfolding fits
nil-real f = record { finite = tt; fits = tt }

nil-mag : (f : Format) → mag f nil ≡ 0
unfolding mag
nil-mag f = ap (λ (n : ℕ). n / 1) (zero-mul (2 ^ low f))

pub nil-pl : (f : Format) → pl f nil ≡ 0
unfolding pl
nil-pl f = nil-mag f

pub nil-mi : (f : Format) → mi f nil ≡ 0
unfolding mi
nil-mi f = refl

-- of the side on which a value stands
pub from_zero : (f : Format) (x : Float) → Real f x → T (le nil x) → mi f x ≡ 0
from_zero f x r h =
    let p = le→parts f nil x (nil-real f) r h in
    let z = nil-mi f in
    let q = p.1 in
    omega arith

pub to-zero : (f : Format) (x : Float) → Real f x → T (le x nil) → pl f x ≡ 0
to-zero f x r h =
    let p = le→parts f x nil r (nil-real f) h in
    let z = nil-pl f in
    let q = p.0 in
    omega arith

-- a square has no minus part
pub no_minus : (p n : ℕ) → (p ≡ 0) ⊎ (n ≡ 0) → p * n + n * p - (p * p + n * n) ≡ 0
no_minus p n (inl z) = subst (λ (w : ℕ). w * n + n * w - (w * w + n * n) ≡ 0) (sym z) (omega arith)
no_minus p n (inr z) = subst (λ (w : ℕ). p * w + w * p - (p * p + w * w) ≡ 0) (sym z) (omega arith)

-- the low end of a square: of the end that is nearer to zero, or zero where the interval holds it
unfoldable pub sq-low : Format → Float → Float → Float
sq-low f a b = cond (le nil a) (mul f a a) (cond (le b nil) (mul f b b) nil)

module _ (f : Format) (a b x : Float) (i : In f a b x) (ta : T (finite (mul f a a))) (tb : T (finite (mul f b b))) where
  sq-over : Over f (PP (pl f x) (mi f x) (pl f x) (mi f x)) (NN (pl f x) (mi f x) (pl f x) (mi f x)) (2 ^ low f) (most (mul f a a) (mul f b b))
  sq-over =
      let L = 2 ^ low f in
      let X = PP (pl f x) (mi f x) (pl f x) (mi f x) in
      let N = NN (pl f x) (mi f x) (pl f x) (mi f x) in
      let p = le→units f a x i.low i.value i.above in
      let q = le→units f x b i.value i.high i.below in
      let p' = le→parts f a x i.low i.value i.above in
      let q' = le→parts f x b i.value i.high i.below in
      let ra = real f (mul f a a) ta (mul-fits f a a) in
      let rb = real f (mul f b b) tb (mul-fits f b b) in
      let m = most-is f (mul f a a) (mul f b b) ra rb in
      let corner : (k : Float) → Real f k → T (finite (mul f k k)) → T (le (mul f k k) (most (mul f a a) (mul f b b))) → X + NN (pl f k) (mi f k) (pl f k) (mi f k) ≤ PP (pl f k) (mi f k) (pl f k) (mi f k) + N → Over f X N L (most (mul f a a) (mul f b b)) =
      λ k rk t h e. over-trans f X N L (mul f k k) (most (mul f a a) (mul f b b)) (over-of f X N L (PP (pl f k) (mi f k) (pl f k) (mi f k)) (NN (pl f k) (mi f k) (pl f k) (mi f k)) L (mul f k k) (pow_pos (low f)) (pow_pos (low f)) (mul-Is f k k rk rk) t (spread X N (PP (pl f k) (mi f k) (pl f k) (mi f k)) (NN (pl f k) (mi f k) (pl f k) (mi f k)) L e)) (real f (mul f k k) t (mul-fits f k k)) m.0 h in
      elim (one_side f x) [
        | inr xn ↦ corner b i.high tb m.2 (chain X N (PP (pl f x) (mi f x) (pl f b) (mi f b)) (NN (pl f x) (mi f x) (pl f b) (mi f b)) (PP (pl f b) (mi f b) (pl f b) (mi f b)) (NN (pl f b) (mi f b) (pl f b) (mi f b)) (up-r (pl f x) (mi f x) (pl f x) (mi f x) (pl f b) (mi f b) xn q) (up-l (pl f x) (mi f x) (pl f b) (mi f b) (pl f b) (mi f b) (let w = q'.1 in omega arith) q))
        | inl xp ↦ corner a i.low ta m.1 (chain X N (PP (pl f x) (mi f x) (pl f a) (mi f a)) (NN (pl f x) (mi f x) (pl f a) (mi f a)) (PP (pl f a) (mi f a) (pl f a) (mi f a)) (NN (pl f a) (mi f a) (pl f a) (mi f a)) (down-r (pl f x) (mi f x) (pl f a) (mi f a) (pl f x) (mi f x) xp p) (down-l (pl f a) (mi f a) (pl f x) (mi f x) (pl f a) (mi f a) (let w = p'.0 in omega arith) p))
      ]

  sq-under : Real f (sq-low f a b) × Under f (sq-low f a b) (PP (pl f x) (mi f x) (pl f x) (mi f x)) (NN (pl f x) (mi f x) (pl f x) (mi f x)) (2 ^ low f)
  unfolding sq-low
  sq-under = go (le nil a) (λ (t : T (le nil a)). t) (le b nil) (λ (t : T (le b nil)). t)
    where
      corner : (k : Float) → Real f k → T (finite (mul f k k)) → PP (pl f k) (mi f k) (pl f k) (mi f k) + NN (pl f x) (mi f x) (pl f x) (mi f x) ≤ PP (pl f x) (mi f x) (pl f x) (mi f x) + NN (pl f k) (mi f k) (pl f k) (mi f k) → Real f (mul f k k) × Under f (mul f k k) (PP (pl f x) (mi f x) (pl f x) (mi f x)) (NN (pl f x) (mi f x) (pl f x) (mi f x)) (2 ^ low f)
      corner k rk t e = (
        real f (mul f k k) t (mul-fits f k k),
        under_of f (PP (pl f x) (mi f x) (pl f x) (mi f x)) (NN (pl f x) (mi f x) (pl f x) (mi f x)) (2 ^ low f) (PP (pl f k) (mi f k) (pl f k) (mi f k)) (NN (pl f k) (mi f k) (pl f k) (mi f k)) (2 ^ low f) (mul f k k) (pow_pos (low f)) (pow_pos (low f)) (mul-Is f k k rk rk) t (spread (PP (pl f k) (mi f k) (pl f k) (mi f k)) (NN (pl f k) (mi f k) (pl f k) (mi f k)) (PP (pl f x) (mi f x) (pl f x) (mi f x)) (NN (pl f x) (mi f x) (pl f x) (mi f x)) (2 ^ low f) e),
      )

      go : (u : Bool) → (T u → T (le nil a)) → (v : Bool) → (T v → T (le b nil))
          → Real f (cond u (mul f a a) (cond v (mul f b b) nil)) × Under f (cond u (mul f a a) (cond v (mul f b b) nil)) (PP (pl f x) (mi f x) (pl f x) (mi f x)) (NN (pl f x) (mi f x) (pl f x) (mi f x)) (2 ^ low f)
      go true h v k =
          let z = from_zero f a i.low (h tt) in
          let p = le→units f a x i.low i.value i.above in
          let w = (le→parts f a x i.low i.value i.above).1 in
          corner a i.low ta (chain (PP (pl f a) (mi f a) (pl f a) (mi f a)) (NN (pl f a) (mi f a) (pl f a) (mi f a)) (PP (pl f a) (mi f a) (pl f x) (mi f x)) (NN (pl f a) (mi f a) (pl f x) (mi f x)) (PP (pl f x) (mi f x) (pl f x) (mi f x)) (NN (pl f x) (mi f x) (pl f x) (mi f x)) (up-r (pl f a) (mi f a) (pl f a) (mi f a) (pl f x) (mi f x) z p) (up-l (pl f a) (mi f a) (pl f x) (mi f x) (pl f x) (mi f x) (omega arith) p))
      go false h true k =
          let z = to-zero f b i.high (k tt) in
          let q = le→units f x b i.value i.high i.below in
          let w = (le→parts f x b i.value i.high i.below).0 in
          corner b i.high tb (chain (PP (pl f b) (mi f b) (pl f b) (mi f b)) (NN (pl f b) (mi f b) (pl f b) (mi f b)) (PP (pl f b) (mi f b) (pl f x) (mi f x)) (NN (pl f b) (mi f b) (pl f x) (mi f x)) (PP (pl f x) (mi f x) (pl f x) (mi f x)) (NN (pl f x) (mi f x) (pl f x) (mi f x)) (down-r (pl f b) (mi f b) (pl f x) (mi f x) (pl f b) (mi f b) z q) (down-l (pl f x) (mi f x) (pl f b) (mi f b) (pl f x) (mi f x) (omega arith) q))
      go false h false k = (
        nil-real f,
        record {
          plus = le_trans (le_of_eq (nil-pl f)) zero-le;
          minus = le_trans (le_of_eq (ap (λ (n : ℕ). rnd f n (2 ^ low f)) (no_minus (pl f x) (mi f x) (one_side f x)) ∙ rnd-zero f (2 ^ low f) (pow_pos (low f)))) zero-le;
        },
      )

  pub sq-in : In f (sq-low f a b) (most (mul f a a) (mul f b b)) (mul f x x)
  sq-in =
      enclose f (mul f x x) (sq-low f a b) (most (mul f a a) (mul f b b)) (PP (pl f x) (mi f x) (pl f x) (mi f x)) (NN (pl f x) (mi f x) (pl f x) (mi f x)) (2 ^ low f) (mul-Is f x x i.value i.value)
      sq-under.0 (most-is f (mul f a a) (mul f b b) (real f (mul f a a) ta (mul-fits f a a)) (real f (mul f b b) tb (mul-fits f b b))).0 sq-under.1 sq-over

-- ---- quotients, by what is above zero

-- by a divisor above zero, with no case on a sign
pub div-Is' : (f : Format) (x y : Float) → Real f x → Real f y → 0 < pl f y → Is f (div f x y) (pl f x * 2 ^ low f) (mi f x * 2 ^ low f) (pl f y)
div-Is' f x y r q h =
    let g = mag_is f y in
    let e : mag f y ≡ pl f y = elim (one_side f y) [ inl z ↦ omega arith | inr z ↦ omega arith ] in
    let i = div-Is f x y r q (omega arith) in
    subst (λ (n : ℕ). Is f (div f x y) (pl f x * 2 ^ low f) (mi f x * 2 ^ low f) n) e
    (subst (λ (s : Bool). Is f (div f x y) (cond s (mi f x) (pl f x) * 2 ^ low f) (cond s (pl f x) (mi f x) * 2 ^ low f) (mag f y)) (sign-plus f y h) i)

-- the size of a quotient is the rounded quotient of the sizes
pub div-mag : (f : Format) (x y : Float) → Real f x → Real f y → 0 < pl f y → T (finite (div f x y)) → mag f (div f x y) ≡ rnd f (mag f x * 2 ^ low f) (pl f y)
div-mag f x y r q h t = is-mag f (div f x y) _ _ (pl f y) (mag f x * 2 ^ low f) h (div-Is' f x y r q h) (scale-differ f x (2 ^ low f)) t

q1 : (xp xn bp bn L c y : ℕ) → bn ≡ 0 → xp + bn ≤ bp + xn → c ≤ y → xp * L * c + bn * L * y ≤ bp * L * y + xn * L * c
q1 xp xn bp bn L c y z h k = subst (λ (w : ℕ). xp * L * c + w * L * y ≤ bp * L * y + xn * L * c) (sym z) (let g : xp * (L * c) ≤ (bp + xn) * (L * c) = mul-le-mul_right (L * c) (omega arith) in let j : bp * L * c ≤ bp * L * y = mul-le-mul_left (bp * L) k in omega arith)

q2 : (xp xn bp bn L d y : ℕ) → bp ≡ 0 → xp + bn ≤ bp + xn → y ≤ d → xp * L * d + bn * L * y ≤ bp * L * y + xn * L * d
q2 xp xn bp bn L d y z h k = subst (λ (w : ℕ). xp * L * d + bn * L * y ≤ w * L * y + xn * L * d) (sym z) (let g : (xp + bn) * (L * d) ≤ xn * (L * d) = mul-le-mul_right (L * d) (omega arith) in let j : bn * L * y ≤ bn * L * d = mul-le-mul_left (bn * L) k in omega arith)

q3 : (xp xn ap' an L d y : ℕ) → an ≡ 0 → ap' + xn ≤ xp + an → y ≤ d → ap' * L * y + xn * L * d ≤ xp * L * d + an * L * y
q3 xp xn ap' an L d y z h k = subst (λ (w : ℕ). ap' * L * y + xn * L * d ≤ xp * L * d + w * L * y) (sym z) (let g : (ap' + xn) * (L * d) ≤ xp * (L * d) = mul-le-mul_right (L * d) (omega arith) in let j : ap' * L * y ≤ ap' * L * d = mul-le-mul_left (ap' * L) k in omega arith)

q4 : (xp xn ap' an L c y : ℕ) → ap' ≡ 0 → ap' + xn ≤ xp + an → c ≤ y → ap' * L * y + xn * L * c ≤ xp * L * c + an * L * y
q4 xp xn ap' an L c y z h k = subst (λ (w : ℕ). w * L * y + xn * L * c ≤ xp * L * c + an * L * y) (sym z) (let g : xn * (L * c) ≤ (xp + an) * (L * c) = mul-le-mul_right (L * c) (omega arith) in let j : an * L * c ≤ an * L * y = mul-le-mul_left (an * L) k in omega arith)

module _ (f : Format) (a b c d x y : Float) (i : In f a b x) (j : In f c d y) (C : T (not (le c nil))) where
  c_pos : 0 < pl f c
  c_pos = elim (eq-zero-or-pos (pl f c)) [
    | inl z ↦ absurd (T_not (le c nil) C (units→le f c nil j.low (nil-real f) (let u = nil-pl f in let v = nil-mi f in omega arith)))
    | inr p ↦ p
  ]

  cy : pl f c ≤ pl f y
  cy = (le→parts f c y j.low j.value j.above).0

  yd : pl f y ≤ pl f d
  yd = (le→parts f y d j.value j.high j.below).0

  y-pos : 0 < pl f y
  y-pos = lt_of_lt_of_le c_pos cy

  d-pos : 0 < pl f d
  d-pos = lt_of_lt_of_le y-pos yd

  pub div-in : T (finite (div f a c)) → T (finite (div f a d)) → T (finite (div f b c)) → T (finite (div f b d)) → In f (least (div f a c) (div f a d)) (most (div f b c) (div f b d)) (div f x y)
  div-in t1 t2 t3 t4 =
      let L = 2 ^ low f in
      let p = le→units f a x i.low i.value i.above in
      let q = le→units f x b i.value i.high i.below in
      let r1 = real f (div f a c) t1 (div-fits f a c) in
      let r2 = real f (div f a d) t2 (div-fits f a d) in
      let r3 = real f (div f b c) t3 (div-fits f b c) in
      let r4 = real f (div f b d) t4 (div-fits f b d) in
      let l = least-is f (div f a c) (div f a d) r1 r2 in
      let m = most-is f (div f b c) (div f b d) r3 r4 in
      enclose f (div f x y) _ _ (pl f x * L) (mi f x * L) (pl f y) (div-Is' f x y i.value j.value y-pos) l.0 m.0
      (elim (one_side f a) [
        | inr z ↦ under-trans f _ _ _ _ (div f a d) (under_of f (pl f x * L) (mi f x * L) (pl f y) (pl f a * L) (mi f a * L) (pl f d) (div f a d) y-pos d-pos (div-Is' f a d i.low j.high d-pos) t2 (q3 (pl f x) (mi f x) (pl f a) (mi f a) L (pl f d) (pl f y) z p yd)) l.0 r2 l.2
        | inl z ↦ under-trans f _ _ _ _ (div f a c) (under_of f (pl f x * L) (mi f x * L) (pl f y) (pl f a * L) (mi f a * L) (pl f c) (div f a c) y-pos c_pos (div-Is' f a c i.low j.low c_pos) t1 (q4 (pl f x) (mi f x) (pl f a) (mi f a) L (pl f c) (pl f y) z p cy)) l.0 r1 l.1
      ])
      (elim (one_side f b) [
        | inr z ↦ over-trans f _ _ _ (div f b c) _ (over-of f (pl f x * L) (mi f x * L) (pl f y) (pl f b * L) (mi f b * L) (pl f c) (div f b c) y-pos c_pos (div-Is' f b c i.high j.low c_pos) t3 (q1 (pl f x) (mi f x) (pl f b) (mi f b) L (pl f c) (pl f y) z q cy)) r3 m.0 m.1
        | inl z ↦ over-trans f _ _ _ (div f b d) _ (over-of f (pl f x * L) (mi f x * L) (pl f y) (pl f b * L) (mi f b * L) (pl f d) (div f b d) y-pos d-pos (div-Is' f b d i.high j.high d-pos) t4 (q2 (pl f x) (mi f x) (pl f b) (mi f b) L (pl f d) (pl f y) z q yd)) r4 m.0 m.2
      ])

-- ---- what lies between two finite values is finite
pub finite-between : (lo x hi : Float) → T (finite lo) → T (finite hi) → T (le lo x) → T (le x hi) → T (finite x)
unfolding le
finite-between nan x hi l h p q = absurd l
finite-between (inf s) x hi l h p q = absurd l
finite-between (fin s m e) nan hi l h p q = p
finite-between (fin s m e) (inf true) hi l h p q = p
finite-between (fin s m e) (inf false) nan l h p q = q
finite-between (fin s m e) (inf false) (inf u) l h p q = absurd h
finite-between (fin s m e) (inf false) (fin u k g) l h p q = q
finite-between (fin s m e) (fin t n d) hi l h p q = tt

-- from the tests of a program, with nothing said of x but that it fits
pub in-of_le : (f : Format) (lo hi x : Float) → Real f lo → Real f hi → T (fits f x) → T (le lo x) → T (le x hi) → In f lo hi x
in-of_le f lo hi x l h t p q = record { low = l; high = h; value = record { finite = finite-between lo x hi l.finite h.finite p q; fits = t }; above = p; below = q }
