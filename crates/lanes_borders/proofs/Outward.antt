-- One step outward from t, by a width that is not below zero, on either side, over the format: it does not go back, and it stays within a whole bound.
-- A whole bound is a value of the format, so rounding does not go past it; a border lane's difference is rounded once before, which costs far less than 1.
use mathlib.Core.Path.{◌≡◌, sym, ap, ◌∙◌, subst}
use mathlib.Core.Logic.{inl, inr}
use mathlib.Core.Bool.{Bool, true, false, cond}
use Prim.Native.Nat.{ℕ, suc, ◌+◌, ◌-◌, ◌*◌, ◌^◌, ◌≤◌, ◌<◌}
use native.Mathlib.Nat.{le_trans, le_of_eq, le_refl, mul-one, mul-le-mul_right, pow-le-pow_right}
use native.Mathlib.Omega.{arith}
use lib.Dec.{T}
use lib.Pow.{pow_pos, pow-add}
use lib.Ieee.{Float, Format, binary32, binary64, prec, emax, low, le, lt, neg, add, sub, mul}
use lib.Ieee.Scale.{overflow}
use Rattle.float_laws.proofs.Units.{rnd, rnd-same}
use Rattle.float_laws.proofs.Value.{mag, pl, mi, Real, mag_is, one_side, under, lt→units, neg-real, neg-pl, neg-mi}
use Rattle.float_laws.proofs.Operation.{Is, add-Is, sub-Is, mul-Is}
use Rattle.float_laws.proofs.Size.{Within, is-bounded}
use Rattle.float_laws.proofs.Exact.{fixed, self-Is, is_le, add-grow-l}
use Rattle.float_laws.proofs.Order.{le_antisym}
use Rattle.float_laws.proofs.Error.{is-near-le}
use Rattle.float_laws.proofs.Whole.{Whole, steps-rnd, steps-under}

-- ---- the two sides

-- how far x lies outward, and inward; left is plus, right is minus
abbrev pub fore : Format → Bool → Float → ℕ
fore f false x = pl f x
fore f true x = mi f x

abbrev pub back : Format → Bool → Float → ℕ
back f false x = mi f x
back f true x = pl f x

-- 1 on the left, -1 on the right
abbrev pub SideSign : Format → Bool → Float → Type 0
SideSign f false o = Whole f o 1 0
SideSign f true o = Whole f o 0 1

-- y is not behind x
abbrev pub Ahead : Bool → Float → Float → Type 0
Ahead false x y = T (le x y)
Ahead true x y = T (le y x)

-- z is w, turned to its side
pub record Turned (f : Format) (right : Bool) (z w : Float) : Type 0 where
  pub value : Real f z
  pub outward : fore f right z ≡ pl f w
  pub inward : back f right z ≡ mi f w

-- a width: not below zero, and with it t comes to at most S
pub record Fitted (f : Format) (right : Bool) (t w : Float) (S : ℕ) : Type 0 where
  pub value : Real f w
  pub plus : mi f w ≡ 0
  pub ahead : fore f right t + pl f w ≤ back f right t + S * 2 ^ low f

-- ---- times 1 and times -1

-- a result whose exact value is x's is x's
same_units : (f : Format) (z x : Float) (P N : ℕ) → Real f x → Is f z P N (2 ^ low f) → P ≡ pl f x * 2 ^ low f → N ≡ mi f x * 2 ^ low f → Real f z × (pl f z ≡ pl f x) × (mi f z ≡ mi f x)
same_units f z x P N r i p n =
    let U = 2 ^ low f in
    let g = mag_is f x in
    let e : rnd f (mag f x * U) U ≡ mag f x = rnd-same f (mag f x * U) U (mag f x) 1 (pow_pos (low f)) (pow_pos 0) (mul-one (mag f x * U)) ∙ fixed f x r in
    let b = is-bounded f z P N U (mag f x * U) (pow_pos (low f)) i (most (pl f x) (mi f x) (mag f x) U P N g p) (most' (pl f x) (mi f x) (mag f x) U P N g n) (subst (λ (k : ℕ). k < overflow f) (sym e) (under f x r)) in
    let h = is_le f z x P N U (pl f x) (mi f x) 1 (pow_pos (low f)) (pow_pos 0) i (self-Is f x r) b.0.finite r.finite (even (pl f x) (mi f x) U P N p n) in
    let k = is_le f x z (pl f x) (mi f x) 1 P N U (pow_pos 0) (pow_pos (low f)) (self-Is f x r) i r.finite b.0.finite (even' (pl f x) (mi f x) U P N p n) in
    let s = le_antisym f z x b.0 r h k in
    (b.0, s.0, s.1)
  where
    most : (p n m U P N : ℕ) → m ≡ p + n → P ≡ p * U → P - N ≤ m * U
    most p n m U P N g e = let k : p * U ≤ m * U = mul-le-mul_right U (omega arith) in omega arith

    most' : (p n m U P N : ℕ) → m ≡ p + n → N ≡ n * U → N - P ≤ m * U
    most' p n m U P N g e = let k : n * U ≤ m * U = mul-le-mul_right U (omega arith) in omega arith

    even : (p n U P N : ℕ) → P ≡ p * U → N ≡ n * U → P * 1 + n * U ≤ p * U + N * 1
    even p n U P N a b = omega arith

    even' : (p n U P N : ℕ) → P ≡ p * U → N ≡ n * U → p * U + N * 1 ≤ P * 1 + n * U
    even' p n U P N a b = omega arith

scaled : (o i a b U : ℕ) → o ≡ 1 * U → i ≡ 0 * U → o * a + i * b ≡ a * U
scaled o i a b U p q = subst (λ (x : ℕ). x * a + i * b ≡ a * U) (sym p) (subst (λ (y : ℕ). 1 * U * a + y * b ≡ a * U) (sym q) (omega arith))

scaled' : (o i a b U : ℕ) → o ≡ 0 * U → i ≡ 1 * U → o * a + i * b ≡ b * U
scaled' o i a b U p q = subst (λ (x : ℕ). x * a + i * b ≡ b * U) (sym p) (subst (λ (y : ℕ). 0 * U * a + y * b ≡ b * U) (sym q) (omega arith))

pub turned : (f : Format) (right : Bool) (o w : Float) → SideSign f right o → Real f w → Turned f right (mul f o w) w
turned f false o w u r =
    let s = same_units f (mul f o w) w _ _ r (mul-Is f o w u.value r) (scaled (pl f o) (mi f o) (pl f w) (mi f w) (2 ^ low f) u.plus u.minus) (scaled (pl f o) (mi f o) (mi f w) (pl f w) (2 ^ low f) u.plus u.minus) in
    record { value = s.0; outward = s.1; inward = s.2 }
turned f true o w u r =
    let np = neg-pl f w r in
    let nm = neg-mi f w r in
    let s = same_units f (mul f o w) (neg w) _ _ (neg-real f w r) (mul-Is f o w u.value r)
    (scaled' (pl f o) (mi f o) (pl f w) (mi f w) (2 ^ low f) u.plus u.minus ∙ ap (λ (n : ℕ). n * 2 ^ low f) (sym np))
    (scaled' (pl f o) (mi f o) (mi f w) (pl f w) (2 ^ low f) u.plus u.minus ∙ ap (λ (n : ℕ). n * 2 ^ low f) (sym nm)) in
    record { value = s.0; outward = s.2 ∙ nm; inward = s.1 ∙ np }

-- ---- a width, raised to 0

raised : (f : Format) (w z : Float) → Real f w → Whole f z 0 0 → Real f (cond (lt z w) w z) × (mi f (cond (lt z w) w z) ≡ 0) × (pl f (cond (lt z w) w z) ≤ pl f w)
raised f w z r q = go (lt z w) (lt→units f z w q.value r)
  where
    go : (b : Bool) → (T b → pl f z + mi f w < pl f w + mi f z) → Real f (cond b w z) × (mi f (cond b w z) ≡ 0) × (pl f (cond b w z) ≤ pl f w)
    go true h = (r, (let k = h tt in let m = q.minus in elim (one_side f w) [ inl e ↦ absurd (omega arith) | inr e ↦ e ]), le_refl (pl f w))
    go false h =
        let p = q.plus in
        let m = q.minus in
        (q.value, omega arith, omega arith)

-- a width lane's
pub fitted-width : (f : Format) (right : Bool) (v e z t : Float) (M S : ℕ) → Within f v e → Whole f e 8 0 → Whole f z 0 0 → mag f t ≤ M * 2 ^ low f → M + 8 ≤ S → Fitted f right t (cond (lt z v) v z) S
fitted-width f right v e z t M S w E q h k =
    let x = raised f v z w.value q in
    let a = mag_is f v in
    let d = mag_is f t in
    let b : pl f (cond (lt z v) v z) ≤ 8 * 2 ^ low f = le_trans x.2 (le_trans (let l = w.le in omega arith) (le_of_eq E.plus)) in
    let l : (M + 8) * 2 ^ low f ≤ S * 2 ^ low f = mul-le-mul_right (2 ^ low f) k in
    record { value = x.0; plus = x.1; ahead = go right d b l }
  where
    go : (right : Bool) {x : ℕ} → mag f t ≡ pl f t + mi f t → x ≤ 8 * 2 ^ low f → (M + 8) * 2 ^ low f ≤ S * 2 ^ low f → fore f right t + x ≤ back f right t + S * 2 ^ low f
    go true d b l = omega arith
    go false d b l = omega arith

-- a border lane's: from t to the border b, rounded
seven : (f : Format) → (7 ≤ prec f) × (7 < suc (emax f))
seven binary32 = (omega arith, omega arith)
seven binary64 = (omega arith, omega arith)

pub fitted-border :
    (f : Format) (right : Bool) (o b e z t : Float) (M S : ℕ) → SideSign f right o → Within f b e → Whole f e 36 0 → Whole f z 0 0 → Real f t → mag f t ≤ M * 2 ^ low f → M ≤ 92 → 37 ≤ S → M ≤ S
    → Fitted f right t (cond (lt z (mul f o (sub f b t))) (mul f o (sub f b t)) z) S
fitted-border f right o b e z t M S u w E q r h m k l =
    let U = 2 ^ low f in
    let s = seven f in
    let j = low f + 7 in
    let J : 2 ^ j ≡ U * 128 = pow-add 2 (low f) 7 in
    let a = mag_is f b in
    let d = mag_is f t in
    let g : mag f b ≤ 36 * U = le_trans w.le (le_of_eq E.plus) in
    let c : M * U ≤ 92 * U = mul-le-mul_right U m in
    let N = is-near-le f (sub f b t) (pl f b + mi f t) (mi f b + pl f t) 1 j (pow_pos 0) (sub-Is f b t w.value r) (omega arith) (omega arith) (let s1 = s.1 in omega arith) in
    let tiny : 2 ^ (j - prec f) ≤ U = pow-le-pow_right {n = 2} (omega arith) (let s0 = s.0 in omega arith) in
    let v = turned f right o (sub f b t) u N.0 in
    let x = raised f (mul f o (sub f b t)) z v.value q in
    record {
      value = x.0;
      plus = x.1;
      ahead = go right v x.2 N.2.above N.2.below tiny g d a (mul-le-mul_right U k) (mul-le-mul_right U l);
    }
  where
    go : (right : Bool) {x E : ℕ} → Turned f right (mul f o (sub f b t)) (sub f b t) → x ≤ pl f (mul f o (sub f b t))
        → (pl f (sub f b t) * 1 + (mi f b + pl f t)) * 2 ≤ (mi f (sub f b t) * 1 + (pl f b + mi f t)) * 2 + E * 1
        → (mi f (sub f b t) * 1 + (pl f b + mi f t)) * 2 ≤ (pl f (sub f b t) * 1 + (mi f b + pl f t)) * 2 + E * 1
        → E ≤ 2 ^ low f → mag f b ≤ 36 * 2 ^ low f → mag f t ≡ pl f t + mi f t → mag f b ≡ pl f b + mi f b → 37 * 2 ^ low f ≤ S * 2 ^ low f → M * 2 ^ low f ≤ S * 2 ^ low f
        → fore f right t + x ≤ back f right t + S * 2 ^ low f
    go false v y A B i g d a k l =
        let p = v.outward in
        let n = v.inward in
        elim (one_side f (sub f b t)) [ inl c ↦ omega arith | inr c ↦ omega arith ]
    go true v y A B i g d a k l =
        let p = v.outward in
        let n = v.inward in
        elim (one_side f (sub f b t)) [ inl c ↦ omega arith | inr c ↦ omega arith ]

-- ---- the step

pub step-outward :
    (f : Format) (right : Bool) (o t w : Float) (M S : ℕ) → SideSign f right o → Real f t → mag f t ≤ M * 2 ^ low f → M ≤ S → S ≤ 2 ^ prec f → Fitted f right t w S
    → Real f (add f t (mul f o w)) × (mag f (add f t (mul f o w)) ≤ S * 2 ^ low f) × Ahead right t (add f t (mul f o w))
step-outward f right o t w M S u r h l k g = go right (turned f right o w u g.value) g.ahead
  where
    U : ℕ
    U = 2 ^ low f

    y : Float
    y = mul f o w

    exact : rnd f (S * U) 1 ≡ S * U
    exact = steps-rnd f (low f) S k

    fits_in : rnd f (S * U) 1 < overflow f
    fits_in = subst (λ (n : ℕ). n < overflow f) (sym exact) (steps-under f (low f) S (le_refl (low f)) k)

    within : Real f y → pl f t + pl f y - (mi f t + mi f y) ≤ S * U → mi f t + mi f y - (pl f t + pl f y) ≤ S * U → Real f (add f t y) × (mag f (add f t y) ≤ S * U)
    within ry a b =
        let x = is-bounded f (add f t y) (pl f t + pl f y) (mi f t + mi f y) 1 (S * U) (pow_pos 0) (add-Is f t y r ry) a b fits_in in
        (x.0, le_trans x.1 (le_of_eq exact))

    go : (right : Bool) → Turned f right y w → fore f right t + pl f w ≤ back f right t + S * U → Real f (add f t y) × (mag f (add f t y) ≤ S * U) × Ahead right t (add f t y)
    go false v a =
        let p = v.outward in
        let n = v.inward in
        let z = g.plus in
        let d = mag_is f t in
        let c : M * U ≤ S * U = mul-le-mul_right U l in
        let x = within v.value (omega arith) (omega arith) in
        (x.0, x.1, add-grow-l f t y r v.value (n ∙ z) x.0.finite)
    go true v a =
        let p = v.outward in
        let n = v.inward in
        let z = g.plus in
        let d = mag_is f t in
        let c : M * U ≤ S * U = mul-le-mul_right U l in
        let x = within v.value (omega arith) (omega arith) in
        (x.0, x.1, is_le f (add f t y) t (pl f t + pl f y) (mi f t + mi f y) 1 (pl f t) (mi f t) 1 (pow_pos 0) (pow_pos 0) (add-Is f t y r v.value) (self-Is f t r) x.0.finite r.finite (omega arith))
