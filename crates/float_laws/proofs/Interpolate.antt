-- Linear interpolation as computed, a + (b - a) * t: for |a|, |b| ≤ M and 0 ≤ t ≤ 1 it is at most M in size but for three roundings, and so for a t that lies a little outside.
-- The idea: with the exact b - a it is a * (1 - t) + b * t, a mean of a and b; each rounding adds half a unit in the last place of its own size. Assumes nothing.
use mathlib.Core.Path.{◌≡◌, sym, subst}
use mathlib.Core.Logic.{◌⊎◌, inl, inr}
use Prim.Native.Nat.{ℕ, suc, ◌+◌, ◌-◌, ◌*◌, ◌^◌, ◌≤◌, ◌<◌, zero-le}
use native.Mathlib.Nat.{le_trans, le_of_eq, mul-le-mul, mul-le-mul_right, mul-le-mul_left, le_of_mul-le-mul_right, pow-suc, add-sub_of_le, le_of_lt, mul-pos, zero-mul}
use native.Mathlib.Omega.{arith}
use mathlib.Core.Bool.{Bool, true, false, not}
use lib.Dec.{T, leb, leb→le, nleb→lt}
use lib.Pow.{pow_pos, pow_mono}
use lib.Ieee.{Float, Format, prec, emax, low, add, sub, mul}
use lib.Ieee.Fits.{two, two-le_pos}
use Rattle.float_laws.proofs.Value.{mag, pl, mi, Real, mag_is, pl-le, mi-le, one_side}
use Rattle.float_laws.proofs.Operation.{add-Is, sub-Is, mul-Is, mul-differ, differ-le}
use Rattle.float_laws.proofs.Error.{is-near-le}
use Rattle.float_laws.proofs.Size.{Within}

-- as code has it
abbrev pub interpolate : Format → Float → Float → Float → Float
interpolate f a b t = add f a (mul f (sub f b a) t)

-- ---- the exact value: a * L + (b - a) * t ≤ M * L + 2 * M * U, for -U ≤ t ≤ L + U, the numbers a, b and t as differences of two
inner : (a a' b b' t w M U : ℕ) → a ≤ M → b ≤ M → a * (t + w) + (b + a') * t ≤ a' * (t + w) + (b' + a) * t + (M * (t + w) + 2 * (M * U))
inner a a' b b' t w M U h k =
    let x : a * w ≤ M * w = mul-le-mul_right w h in
    let y : b * t ≤ M * t = mul-le-mul_right t k in
    omega arith

beyond : (a a' b b' L v M U : ℕ) → a' ≤ M → b ≤ M → v ≤ U → a * L + (b + a') * (L + v) ≤ a' * L + (b' + a) * (L + v) + (M * L + 2 * (M * U))
beyond a a' b b' L v M U h k l =
    let x : b * L ≤ M * L = mul-le-mul_right L k in
    let y : b * v ≤ M * U = mul-le-mul k l in
    let z : a' * v ≤ M * U = mul-le-mul h l in
    omega arith

before : (a a' b b' L v M U : ℕ) → a ≤ M → b' ≤ M → v ≤ U → a * L + (b' + a) * v ≤ a' * L + (b + a') * v + (M * L + 2 * (M * U))
before a a' b b' L v M U h k l =
    let x : a * L ≤ M * L = mul-le-mul_right L h in
    let y : b' * v ≤ M * U = mul-le-mul k l in
    let z : a * v ≤ M * U = mul-le-mul h l in
    omega arith

-- t not below zero
mean : (a a' b b' t L M U : ℕ) → a ≤ M → a' ≤ M → b ≤ M → t ≤ L + U → a * L + (b + a') * t ≤ a' * L + (b' + a) * t + (M * L + 2 * (M * U))
mean a a' b b' t L M U h h' k l = go (leb t L) (leb→le t L) (nleb→lt t L)
  where
    go : (c : Bool) → (T c → t ≤ L) → (T (not c) → L < t) → a * L + (b + a') * t ≤ a' * L + (b' + a) * t + (M * L + 2 * (M * U))
    go true p q = subst (λ (n : ℕ). a * n + (b + a') * t ≤ a' * n + (b' + a) * t + (M * n + 2 * (M * U))) (add-sub_of_le (p tt)) (inner a a' b b' t (L - t) M U h k)
    go false p q =
        let g = le_of_lt (q tt) in
        subst (λ (n : ℕ). a * L + (b + a') * n ≤ a' * L + (b' + a) * n + (M * L + 2 * (M * U))) (add-sub_of_le g)
        (beyond a a' b b' L (t - L) M U h' k (let o : t - L ≤ U = omega arith in o))

-- ---- with the first two roundings: d is b - a but for E / 2, p is d * t / L but for F / 2, so a + p is at most this much, twice and times L
module _ (M U L E F : ℕ) where
  up_to : (a a' b b' d d' p p' t : ℕ) → a ≤ M → a' ≤ M → b ≤ M → t ≤ L + U
      → (d * 1 + (b' + a)) * 2 ≤ (d' * 1 + (b + a')) * 2 + E * 1 → (p * L + (d * 0 + d' * t)) * 2 ≤ (p' * L + (d * t + d' * 0)) * 2 + F * L
      → (a + p) * (2 * L) ≤ (a' + p') * (2 * L) + (2 * (M * L) + 4 * (M * U) + E * t + F * L)
  up_to a a' b b' d d' p p' t h h' k l x y =
      let m = mean a a' b b' t L M U h h' k l in
      let z : (d * 1 + (b' + a)) * 2 * t ≤ ((d' * 1 + (b + a')) * 2 + E * 1) * t = mul-le-mul_right t x in
      omega arith

  down_to : (a a' b b' d d' p p' t : ℕ) → a ≤ M → b' ≤ M → t ≤ U
      → (d' * 1 + (b + a')) * 2 ≤ (d * 1 + (b' + a)) * 2 + E * 1 → (p * L + (d * t + d' * 0)) * 2 ≤ (p' * L + (d * 0 + d' * t)) * 2 + F * L
      → (a + p) * (2 * L) ≤ (a' + p') * (2 * L) + (2 * (M * L) + 4 * (M * U) + E * t + F * L)
  down_to a a' b b' d d' p p' t h k l x y =
      let m = before a a' b b' L t M U h k l in
      let z : (d' * 1 + (b + a')) * 2 * t ≤ ((d * 1 + (b' + a)) * 2 + E * 1) * t = mul-le-mul_right t x in
      omega arith

  either : (a a' b b' d d' p p' t t' s : ℕ) → a ≤ M → a' ≤ M → b ≤ M → b' ≤ M → t ≤ L + U → t' ≤ U → s ≡ t + t' → (t ≡ 0) ⊎ (t' ≡ 0)
      → (d * 1 + (b' + a)) * 2 ≤ (d' * 1 + (b + a')) * 2 + E * 1 → (d' * 1 + (b + a')) * 2 ≤ (d * 1 + (b' + a)) * 2 + E * 1
      → (p * L + (d * t' + d' * t)) * 2 ≤ (p' * L + (d * t + d' * t')) * 2 + F * L
      → (a + p) * (2 * L) ≤ (a' + p') * (2 * L) + (2 * (M * L) + 4 * (M * U) + E * s + F * L)
  either a a' b b' d d' p p' t t' s ha ha' hb hb' l l' e (inl z) x x' y =
      subst (λ (n : ℕ). (a + p) * (2 * L) ≤ (a' + p') * (2 * L) + (2 * (M * L) + 4 * (M * U) + E * n + F * L)) (let o : t' ≡ s = omega arith in o)
      (down_to a a' b b' d d' p p' t' ha hb' l' x' (subst (λ (n : ℕ). (p * L + (d * t' + d' * n)) * 2 ≤ (p' * L + (d * n + d' * t')) * 2 + F * L) z y))
  either a a' b b' d d' p p' t t' s ha ha' hb hb' l l' e (inr z) x x' y =
      subst (λ (n : ℕ). (a + p) * (2 * L) ≤ (a' + p') * (2 * L) + (2 * (M * L) + 4 * (M * U) + E * n + F * L)) (let o : t ≡ s = omega arith in o)
      (up_to a a' b b' d d' p p' t ha ha' hb l x (subst (λ (n : ℕ). (p * L + (d * n + d' * t)) * 2 ≤ (p' * L + (d * t + d' * n)) * 2 + F * L) z y))

-- ---- the three operations. The exponents k and l are what the product and the sum stay below
turned : (p p' d d' t t' L F : ℕ) → (p' * L + (d * t + d' * t')) * 2 ≤ (p * L + (d * t' + d' * t)) * 2 + F * L → (p' * L + (d' * t' + d * t)) * 2 ≤ (p * L + (d' * t + d * t')) * 2 + F * L
turned p p' d d' t t' L F h = omega arith

-- twice and times L, back to the numbers
halved : (u v X J L : ℕ) → 0 < L → u * (2 * L) ≤ v * (2 * L) + X → X ≤ J * (2 * L) → u - v ≤ J * 1
halved u v X J L l h k =
    let g : u * (2 * L) ≤ (v + J) * (2 * L) = omega arith in
    let m : u ≤ v + J = le_of_mul-le-mul_right g (mul-pos (pow_pos 1) l) in
    omega arith

-- the last rounding
closing : (r r' u v X G L : ℕ) → (r ≡ 0) ⊎ (r' ≡ 0) → (r * 1 + v) * 2 ≤ (r' * 1 + u) * 2 + G * 1 → u * (2 * L) ≤ v * (2 * L) + X → r * (2 * L) ≤ X + G * L
closing r r' u v X G L (inl z) h k = subst (λ (n : ℕ). n * (2 * L) ≤ X + G * L) (sym z) (le_trans (le_of_eq (zero-mul (2 * L))) zero-le)
closing r r' u v X G L (inr z) h k =
    let g : (r * 1 + v) * 2 ≤ (0 * 1 + u) * 2 + G * 1 = subst (λ (n : ℕ). (r * 1 + v) * 2 ≤ (n * 1 + u) * 2 + G * 1) z h in
    let m : (r * 1 + v) * 2 * L ≤ ((0 * 1 + u) * 2 + G * 1) * L = mul-le-mul_right L g in
    omega arith

module _ (f : Format) (a b t : Float) (M U j k l : ℕ) (ra : Real f a) (rb : Real f b) (rt : Real f t)
    (ha : mag f a ≤ M) (hb : mag f b ≤ M) (h_m : M ≤ 2 ^ j) (ht : pl f t ≤ 2 ^ low f + U) (ht' : mi f t ≤ U)
    (hj : suc j < low f + suc (emax f)) (hk : k < low f + suc (emax f)) (hl : l < low f + suc (emax f))
    (product : 2 ^ suc j * mag f t ≤ 2 ^ k * 2 ^ low f)
    (total : 2 * (M * 2 ^ low f) + 4 * (M * U) + 2 ^ (suc j - prec f) * mag f t + 2 ^ (k - prec f) * 2 ^ low f ≤ 2 ^ l * (2 * 2 ^ low f)) where
  by-exponents : Real f (interpolate f a b t)
      × (mag f (interpolate f a b t) * (2 * 2 ^ low f) ≤ 2 * (M * 2 ^ low f) + 4 * (M * U) + 2 ^ (suc j - prec f) * mag f t + 2 ^ (k - prec f) * 2 ^ low f + 2 ^ (l - prec f) * 2 ^ low f)
  by-exponents =
      let L = 2 ^ low f in
      let E = 2 ^ (suc j - prec f) in
      let F = 2 ^ (k - prec f) in
      let G = 2 ^ (l - prec f) in
      let d = sub f b a in
      let p = mul f d t in
      let r = add f a p in
      let X = 2 * (M * L) + 4 * (M * U) + E * mag f t + F * L in
      let ma = mag_is f a in
      let mb = mag_is f b in
      let J : 2 ^ suc j ≡ 2 ^ j * 2 = pow-suc 2 j in
      let ap = le_trans (pl-le f a) ha in
      let am = le_trans (mi-le f a) ha in
      let bp = le_trans (pl-le f b) hb in
      let bm = le_trans (mi-le f b) hb in
      let nd = is-near-le f d (pl f b + mi f a) (mi f b + pl f a) 1 (suc j) (pow_pos 0) (sub-Is f b a rb ra) (omega arith) (omega arith) hj in
      let rd = nd.0 in
      let wide : mag f d * mag f t ≤ 2 ^ k * L = le_trans (mul-le-mul_right (mag f t) nd.1) product in
      let dl = differ-le _ _ _ (mul-differ f d t) in
      let np = is-near-le f p _ _ L k (pow_pos (low f)) (mul-Is f d t rd rt) (le_trans dl.0 wide) (le_trans dl.1 wide) hk in
      let rp = np.0 in
      let hi = either M U L E F (pl f a) (mi f a) (pl f b) (mi f b) (pl f d) (mi f d) (pl f p) (mi f p) (pl f t) (mi f t) (mag f t) ap am bp bm ht ht' (mag_is f t) (one_side f t) nd.2.above nd.2.below np.2.above in
      let lo = either M U L E F (mi f a) (pl f a) (mi f b) (pl f b) (mi f d) (pl f d) (mi f p) (pl f p) (pl f t) (mi f t) (mag f t) am ap bm bp ht ht' (mag_is f t) (one_side f t) nd.2.below nd.2.above (turned (pl f p) (mi f p) (pl f d) (mi f d) (pl f t) (mi f t) L F np.2.below) in
      let nr = is-near-le f r (pl f a + pl f p) (mi f a + mi f p) 1 l (pow_pos 0) (add-Is f a p ra rp) (halved (pl f a + pl f p) (mi f a + mi f p) X (2 ^ l) L (pow_pos (low f)) hi total) (halved (mi f a + mi f p) (pl f a + pl f p) X (2 ^ l) L (pow_pos (low f)) lo total) hl in
      let cp = closing (pl f r) (mi f r) (pl f a + pl f p) (mi f a + mi f p) X G L (one_side f r) nr.2.above hi in
      let cm = closing (mi f r) (pl f r) (mi f a + mi f p) (pl f a + pl f p) X G L (swapped (one_side f r)) nr.2.below lo in
      (nr.0, joined (mag f r) (pl f r) (mi f r) L (X + G * L) (mag_is f r) (one_side f r) cp cm)
    where
      swapped : {p q : ℕ} → (p ≡ 0) ⊎ (q ≡ 0) → (q ≡ 0) ⊎ (p ≡ 0)
      swapped (inl z) = inr z
      swapped (inr z) = inl z

      joined : (m p q L X : ℕ) → m ≡ p + q → (p ≡ 0) ⊎ (q ≡ 0) → p * (2 * L) ≤ X → q * (2 * L) ≤ X → m * (2 * L) ≤ X
      joined m p q L X e (inl z) h k = subst (λ (n : ℕ). n * (2 * L) ≤ X) (let o : q ≡ m = omega arith in o) k
      joined m p q L X e (inr z) h k = subst (λ (n : ℕ). n * (2 * L) ≤ X) (let o : p ≡ m = omega arith in o) h

-- ---- the laws
-- a digit more at most doubles the last place
next_place : (j p : ℕ) → 2 ^ (suc j - p) ≤ 2 ^ (j - p) * 2
next_place j p = le_trans (pow_mono (let o : suc j - p ≤ suc (j - p) = omega arith in o)) (le_of_eq (pow-suc 2 (j - p)))

place-le : (j p : ℕ) → 0 < p → 2 ^ (suc j - p) ≤ 2 ^ j
place-le j p h = pow_mono (let o : suc j - p ≤ j = omega arith in o)

-- 0 ≤ t ≤ 1: at most M, and three units in the last place of 2 ^ j
pub interpolate-inside : (f : Format) (a b t : Float) (M j : ℕ) → Real f a → Real f b → Real f t → mag f a ≤ M → mag f b ≤ M → M ≤ 2 ^ j → mi f t ≡ 0 → pl f t ≤ 2 ^ low f → j < low f + emax f
    → Real f (interpolate f a b t) × (mag f (interpolate f a b t) ≤ M + 3 * 2 ^ (j - prec f))
interpolate-inside f a b t M j ra rb rt ha hb h_m z ht o =
    let L = 2 ^ low f in
    let m = mag_is f t in
    let g : mag f t ≤ L = omega arith in
    let E = 2 ^ (suc j - prec f) in
    let w = by-exponents f a b t M 0 j (suc j) (suc j) ra rb rt ha hb h_m (let h : pl f t ≤ L + 0 = omega arith in h) (le_of_eq z) (omega arith) (omega arith) (omega arith) (mul-le-mul_left (2 ^ suc j) g)
    (room M (2 ^ j) (2 ^ suc j) E (mag f t) L h_m (pow-suc 2 j) (place-le j (prec f) (two-le_pos (prec f) (two f))) g) in
    (w.0, small (mag f (interpolate f a b t)) M (mag f t) L E (2 ^ (j - prec f)) (pow_pos (low f)) g (next_place j (prec f)) w.1)
  where
    room : (M J J' E t L : ℕ) → M ≤ J → J' ≡ J * 2 → E ≤ J → t ≤ L → 2 * (M * L) + 4 * (M * 0) + E * t + E * L ≤ J' * (2 * L)
    room M J J' E t L h e k l =
        let x : M * L ≤ J * L = mul-le-mul_right L h in
        let y : E * t ≤ J * L = mul-le-mul k l in
        let z : E * L ≤ J * L = mul-le-mul_right L k in
        subst (λ (n : ℕ). 2 * (M * L) + 4 * (M * 0) + E * t + E * L ≤ n * (2 * L)) (sym e) (omega arith)

    small : (m M t L E e : ℕ) → 0 < L → t ≤ L → E ≤ e * 2 → m * (2 * L) ≤ 2 * (M * L) + 4 * (M * 0) + E * t + E * L + E * L → m ≤ M + 3 * e
    small m M t L E e l k g h =
        let x : E * t ≤ e * 2 * L = mul-le-mul g k in
        let y : E * L ≤ e * 2 * L = mul-le-mul_right L g in
        let c : m * (2 * L) ≤ (M + 3 * e) * (2 * L) = omega arith in
        le_of_mul-le-mul_right c (mul-pos (pow_pos 1) l)

-- -U ≤ t ≤ 1 + U, in units, for a U of 1 at most: 2 * M * U more, and eight units in the last place of 2 ^ j
pub interpolate-outside : (f : Format) (a b t : Float) (M U j : ℕ) → Real f a → Real f b → Real f t → mag f a ≤ M → mag f b ≤ M → M ≤ 2 ^ j → U ≤ 2 ^ low f → mi f t ≤ U → pl f t ≤ 2 ^ low f + U → j + 2 < low f + emax f
    → Real f (interpolate f a b t) × (mag f (interpolate f a b t) * 2 ^ low f ≤ (M + 8 * 2 ^ (j - prec f)) * 2 ^ low f + 2 * (M * U))
interpolate-outside f a b t M U j ra rb rt ha hb h_m h_u z ht o =
    let L = 2 ^ low f in
    let p = prec f in
    let P = two-le_pos p (two f) in
    let m = mag_is f t in
    let g : mag f t ≤ L + L = elim (one_side f t) [ inl e ↦ omega arith | inr e ↦ omega arith ] in
    let e1 = next_place j p in
    let e2 = next_place (suc j) p in
    let e3 = next_place (suc (suc j)) p in
    let q1 = pow-suc 2 j in
    let q2 = pow-suc 2 (suc j) in
    let q3 = pow-suc 2 (suc (suc j)) in
    let w = by-exponents f a b t M U j (suc (suc j)) (suc (suc (suc j))) ra rb rt ha hb h_m ht z (omega arith) (omega arith) (omega arith)
    (wide (2 ^ suc j) (2 ^ suc (suc j)) (mag f t) L q2 g)
    (room M U (2 ^ j) (2 ^ suc (suc (suc j))) (2 ^ (suc j - p)) (2 ^ (suc (suc j) - p)) (mag f t) L h_m h_u (let o : 2 ^ suc (suc (suc j)) ≡ 2 ^ j * 8 = omega arith in o) (place-le j p P) (let r = place-le j p P in omega arith) g) in
    (w.0, small (mag f (interpolate f a b t)) M U (mag f t) L (2 ^ (suc j - p)) (2 ^ (suc (suc j) - p)) (2 ^ (suc (suc (suc j)) - p)) (2 ^ (j - p)) g e1 (omega arith) (omega arith) w.1)
  where
    wide : (J K t L : ℕ) → K ≡ J * 2 → t ≤ L + L → J * t ≤ K * L
    wide J K t L e h = let k : J * t ≤ J * (L + L) = mul-le-mul_left J h in subst (λ (n : ℕ). J * t ≤ n * L) (sym e) (omega arith)

    room : (M U J K E F t L : ℕ) → M ≤ J → U ≤ L → K ≡ J * 8 → E ≤ J → F ≤ J * 2 → t ≤ L + L → 2 * (M * L) + 4 * (M * U) + E * t + F * L ≤ K * (2 * L)
    room M U J K E F t L h u e k g l =
        let x : M * L ≤ J * L = mul-le-mul_right L h in
        let v : M * U ≤ J * L = mul-le-mul h u in
        let y : E * t ≤ J * (L + L) = mul-le-mul k l in
        let z : F * L ≤ J * 2 * L = mul-le-mul_right L g in
        subst (λ (n : ℕ). 2 * (M * L) + 4 * (M * U) + E * t + F * L ≤ n * (2 * L)) (sym e) (omega arith)

    small : (m M U t L E F G e : ℕ) → t ≤ L + L → E ≤ e * 2 → F ≤ e * 4 → G ≤ e * 8 → m * (2 * L) ≤ 2 * (M * L) + 4 * (M * U) + E * t + F * L + G * L → m * L ≤ (M + 8 * e) * L + 2 * (M * U)
    small m M U t L E F G e k g1 g2 g3 h =
        let x : E * t ≤ e * 2 * (L + L) = mul-le-mul g1 k in
        let y : F * L ≤ e * 4 * L = mul-le-mul_right L g2 in
        let z : G * L ≤ e * 8 * L = mul-le-mul_right L g3 in
        omega arith

-- ---- the same for callers that carry sizes as `Within`: the ends are within A, and B is larger by the roundings, which is a computed test for constants
pub interpolate-within : (f : Format) (a b t A B : Float) (j : ℕ) → Within f a A → Within f b A → Real f t → mi f t ≡ 0 → pl f t ≤ 2 ^ low f → pl f A ≤ 2 ^ j → j < low f + emax f → Real f B → mi f B ≡ 0 → pl f A + 3 * 2 ^ (j - prec f) ≤ pl f B
    → Within f (interpolate f a b t) B
interpolate-within f a b t A B j wa wb rt z h hj o r_b z_b h_b =
    let r = interpolate-inside f a b t (pl f A) j wa.value wb.value rt wa.le wb.le hj z h o in
    record { value = r.0; bound = r_b; plus = z_b; le = le_trans r.1 h_b }

pub interpolate-within-outside : (f : Format) (a b t A B : Float) (U j : ℕ) → Within f a A → Within f b A → Real f t → U ≤ 2 ^ low f → mi f t ≤ U → pl f t ≤ 2 ^ low f + U → pl f A ≤ 2 ^ j → j + 2 < low f + emax f → Real f B → mi f B ≡ 0
    → (pl f A + 8 * 2 ^ (j - prec f)) * 2 ^ low f + 2 * (pl f A * U) ≤ pl f B * 2 ^ low f → Within f (interpolate f a b t) B
interpolate-within-outside f a b t A B U j wa wb rt h_u h h' hj o r_b z_b h_b =
    let r = interpolate-outside f a b t (pl f A) U j wa.value wb.value rt wa.le wb.le hj h_u h h' o in
    record { value = r.0; bound = r_b; plus = z_b; le = le_of_mul-le-mul_right (le_trans r.1 h_b) (pow_pos (low f)) }
