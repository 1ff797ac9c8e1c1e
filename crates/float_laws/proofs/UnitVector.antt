-- A vector divided by the root of its sum of squares, as computed: every component is finite, and the exact sum of the squares of the three quotients is 1 but for ten parts in 2 ^ 20, so within 1/1000 of 1.
-- The vector's components are at most 2 ^ e in size and one is at least 2 ^ -e, where 2 * e + 2 ≤ emax (for e = 20, both formats); the root's square is within a part in 2 ^ 20 of the sum.
-- The idea: with L units to 1 and the sizes X, Y, Z, Q in units, S * L is G = X*X + Y*Y + Z*Z but for ten parts in 2 ^ prec, a square that underflows being small against G; U, the size of a quotient, has U * Q = X * L but for three parts in 2 ^ prec of Q * L.
-- All is carried as `Close` over the scales G and Q * L. The same for two components, of a vector in the plane. Assumes nothing.
use mathlib.Core.Path.{◌≡◌, refl, sym, ap, ◌∙◌, subst}
use mathlib.Core.Logic.{◌⊎◌, inl, inr}
use Prim.Native.Nat.{ℕ, suc, ◌+◌, ◌-◌, ◌*◌, ◌^◌, ◌≤◌, ◌<◌}
use native.Mathlib.Nat.{le_trans, le_of_eq, lt_of_lt_of_le, mul_assoc, mul_comm, mul-le-mul, mul-le-mul_right, mul-le-mul_left, le_of_mul-le-mul_right, mul-pos, add-suc, eq-zero-or-pos, le-add_left, le-add_right, le_refl, not-le_of_lt, pow-suc, sub-add_cancel, zero-lt-suc, zero-mul}
use native.Mathlib.Omega.{arith}
use mathlib.Core.Bool.{Bool, true, false, not}
use lib.Dec.{T, leb, leb→le, nleb→lt}
use lib.Pow.{pow-add, pow_pos, pow_mono}
use lib.Ieee.{Float, Format, binary32, binary64, prec, emax, low, add, mul, div}
use Rattle.float_laws.proofs.Units.{rnd, rnd-zero}
use Rattle.float_laws.proofs.Value.{mag, pl, mi, Real, mag_is}
use Rattle.float_laws.proofs.Operation.{add-Is, mul-Is, mul-differ, scale-differ, differ-le, mul-mag}
use Rattle.float_laws.proofs.Interval.{div-Is', div-mag}
use Rattle.float_laws.proofs.Exact.{sq-mi}
use Rattle.float_laws.proofs.Error.{is-near-le}
use Rattle.float_laws.proofs.Relative.{rnd-rel-any, rnd-rel-whole}
use Rattle.float_laws.proofs.Close.{Close, close-parts, close-trans, close-add, close-scale, close-unscale, close-square}

-- ---- what both formats have
digits : (f : Format) → 24 ≤ prec f
digits binary32 = omega arith
digits binary64 = omega arith

-- a part in 2 ^ 20 is sixteen in 2 ^ prec, at least
sixteen : (f : Format) → (2 ^ prec f ≡ 2 ^ 20 * 2 ^ (prec f - 20)) × (16 ≤ 2 ^ (prec f - 20))
sixteen f =
    let d = digits f in
    (ap (λ (n : ℕ). 2 ^ n) (let o : prec f ≡ 20 + (prec f - 20) = omega arith in o) ∙ pow-add 2 20 (prec f - 20), pow_mono (let o : 4 ≤ prec f - 20 = omega arith in o))

parts-of : (f : Format) {A B k S : ℕ} (l : ℕ) → k ≤ l * 16 → Close (2 ^ prec f) A B k S → Close (2 ^ 20) A B l S
parts-of f l h c = let g = sixteen f in close-parts (2 ^ 20) (2 ^ (prec f - 20)) l (pow_pos (prec f - 20)) g.0 (le_trans h (mul-le-mul_left l g.1)) c

eight : (f : Format) → 8 ≤ 2 ^ prec f
eight f = pow_mono (let d = digits f in let o : 3 ≤ prec f = omega arith in o)

wide : (f : Format) → suc (low f) < low f + suc (emax f)
wide binary32 = omega arith
wide binary64 = omega arith

deep : (f : Format) → prec f ≤ low f
deep binary32 = omega arith
deep binary64 = omega arith

-- ---- the sums of squares, as code has them
abbrev pub squares2 : Format → Float → Float → Float
squares2 f x y = add f (mul f x x) (mul f y y)

abbrev pub squares3 : Format → Float → Float → Float → Float
squares3 f x y z = add f (squares2 f x y) (mul f z z)

-- ---- a square, and a sum of two values that are not below zero
squared : (r X G K L : ℕ) → X * X ≤ G → K * L ≤ G → (r * L * 2 * K ≤ X * X * 2 * (K + 1) + K * L) × (X * X * 2 * K ≤ r * L * 2 * K + X * X * 2 + K * L) → Close K (r * L) (X * X) 2 G
squared r X G K L h k w = let a = w.0 in let b = w.1 in record { above = omega arith; below = omega arith }

summed : (r n K : ℕ) → (r * 1 * K ≤ n * (K + 1)) × (n * K ≤ r * 1 * K + n) → Close K r n 1 n
summed r n K w = let a = w.0 in let b = w.1 in record { above = omega arith; below = omega arith }

left : (a b G : ℕ) → a + b ≤ G → a ≤ G
left a b G h = omega arith

right : (a b G : ℕ) → a + b ≤ G → b ≤ G
right a b G h = omega arith

doubled : (a b l k : ℕ) → a ≤ 2 ^ (l + k) → b ≤ 2 ^ (l + k) → a + b ≤ 2 ^ (l + suc k)
doubled a b l k h g =
    let e : 2 ^ (l + suc k) ≡ 2 ^ (l + k) * 2 = ap (λ (n : ℕ). 2 ^ n) (add-suc l k) ∙ pow-suc 2 (l + k) in
    omega arith

-- s is a + b, and a * L, b * L are A, B, all but for a few parts in K
joined : (L G K : ℕ) → 8 ≤ K → (s a b A B k l : ℕ) → k + l ≤ 8 → A + B ≤ G → Close K s (a + b) 1 (a + b) → Close K (a * L) A k G → Close K (b * L) B l G → Close K (s * L) (A + B) (2 + (k + l)) G
joined L G K h s a b A B k l g w c p q =
    let r = close-add p q in
    let u = r.above in
    let v = r.below in
    let x : (k + l) * G ≤ K * G = mul-le-mul_right G (le_trans g h) in
    let y : (A + B) * K ≤ G * K = mul-le-mul_right K w in
    let z : (a + b) * L * K ≤ 2 * G * K = omega arith in
    let t : (a + b) * L ≤ 2 * G = le_of_mul-le-mul_right z (lt_of_lt_of_le (zero-lt-suc 7) h) in
    let m : s * K * L ≤ ((a + b) * K + 1 * (a + b)) * L = mul-le-mul_right L c.above in
    let n : (a + b) * K * L ≤ (s * K + 1 * (a + b)) * L = mul-le-mul_right L c.below in
    record { above = omega arith; below = omega arith }

module _ (f : Format) (x y : Float) (k : ℕ) (rx : Real f x) (ry : Real f y) (zx : mi f x ≡ 0) (zy : mi f y ≡ 0) (h : pl f x + pl f y ≤ 2 ^ k) (o : k < low f + suc (emax f)) where
  sum-close : Real f (add f x y) × (mi f (add f x y) ≡ 0) × (pl f (add f x y) ≤ 2 ^ k) × Close (2 ^ prec f) (pl f (add f x y)) (pl f x + pl f y) 1 (pl f x + pl f y)
  sum-close =
      let i = add-Is f x y rx ry in
      let n = is-near-le f (add f x y) (pl f x + pl f y) (mi f x + mi f y) 1 k (pow_pos 0) i (omega arith) (omega arith) o in
      let t = n.0.finite in
      let p : pl f (add f x y) ≡ rnd f (pl f x + pl f y) 1 = i.plus t ∙ ap (λ (m : ℕ). rnd f m 1) (let e : pl f x + pl f y - (mi f x + mi f y) ≡ pl f x + pl f y = omega arith in e) in
      let m : mi f (add f x y) ≡ 0 = i.minus t ∙ ap (λ (m : ℕ). rnd f m 1) (let e : mi f x + mi f y - (pl f x + pl f y) ≡ 0 = omega arith in e) ∙ rnd-zero f 1 (pow_pos 0) in
      let g = mag_is f (add f x y) in
      let b = n.1 in
      (n.0, m, (let q : pl f (add f x y) ≤ 2 ^ k = omega arith in q), subst (λ (r : ℕ). Close (2 ^ prec f) r (pl f x + pl f y) 1 (pl f x + pl f y)) (sym p) (summed (rnd f (pl f x + pl f y) 1) (pl f x + pl f y) (2 ^ prec f) (rnd-rel-whole f (pl f x + pl f y))))

-- the scale: G units squared is at least 2 ^ -2e, so that K * L is small against it
module _ (f : Format) (e : ℕ) (he : e * 2 + 2 ≤ emax f) (G : ℕ) (long : 2 ^ low f * 2 ^ low f ≤ G * 2 ^ (e + e)) where
  tiny : 2 ^ prec f * 2 ^ low f ≤ G
  tiny =
      let d = digits f in
      let a : 2 ^ prec f * 2 ^ (e + e) ≤ 2 ^ low f = le_trans (le_of_eq (sym (pow-add 2 (prec f) (e + e)))) (pow_mono (let o : prec f + (e + e) ≤ low f = omega arith in o)) in
      let b : 2 ^ prec f * 2 ^ (e + e) * 2 ^ low f ≤ 2 ^ low f * 2 ^ low f = mul-le-mul_right (2 ^ low f) a in
      le_of_mul-le-mul_right (under (2 ^ prec f) (2 ^ (e + e)) (2 ^ low f) G b long) (pow_pos (e + e))
    where
      under : (K E L G : ℕ) → K * E * L ≤ L * L → L * L ≤ G * E → K * L * E ≤ G * E
      under K E L G a b = omega arith

  square-close : (x : Float) → Real f x → mag f x ≤ 2 ^ (low f + e) → mag f x * mag f x ≤ G
      → Real f (mul f x x) × (mi f (mul f x x) ≡ 0) × (pl f (mul f x x) ≤ 2 ^ (low f + (e + e))) × Close (2 ^ prec f) (pl f (mul f x x) * 2 ^ low f) (mag f x * mag f x) 2 G
  square-close x r h g =
      let L = 2 ^ low f in
      let d = digits f in
      let xx = mul f x x in
      let b : mag f x * mag f x ≤ 2 ^ (low f + (e + e)) * L = le_trans (mul-le-mul h h) (le_of_eq (sym (pow-add 2 (low f + e) (low f + e)) ∙ ap (λ (n : ℕ). 2 ^ n) (let o : low f + e + (low f + e) ≡ low f + (e + e) + low f = omega arith in o) ∙ pow-add 2 (low f + (e + e)) (low f))) in
      let dl = differ-le _ _ _ (mul-differ f x x) in
      let n = is-near-le f xx _ _ L (low f + (e + e)) (pow_pos (low f)) (mul-Is f x x r r) (le_trans dl.0 b) (le_trans dl.1 b) (omega arith) in
      let t = n.0.finite in
      let z = sq-mi f x r t in
      let m = mag_is f xx in
      let c = n.1 in
      let p : pl f xx ≡ mag f xx = omega arith in (
        n.0,
        z,
        (let q : pl f xx ≤ 2 ^ (low f + (e + e)) = omega arith in q),
        subst (λ (s : ℕ). Close (2 ^ prec f) (s * L) (mag f x * mag f x) 2 G) (sym (p ∙ mul-mag f x x r r t)) (squared (rnd f (mag f x * mag f x) L) (mag f x) G (2 ^ prec f) L g tiny (rnd-rel-any f (mag f x * mag f x) L (pow_pos (low f)))),
      )

  -- two and three squares, added
  two-close : (x y : Float) → Real f x → Real f y → mag f x ≤ 2 ^ (low f + e) → mag f y ≤ 2 ^ (low f + e) → mag f x * mag f x + mag f y * mag f y ≤ G
      → Real f (squares2 f x y) × (mi f (squares2 f x y) ≡ 0) × (pl f (squares2 f x y) ≤ 2 ^ (low f + suc (e + e))) × Close (2 ^ prec f) (pl f (squares2 f x y) * 2 ^ low f) (mag f x * mag f x + mag f y * mag f y) 6 G
  two-close x y rx ry hx hy g =
      let d = digits f in
      let a = square-close x rx hx (left (mag f x * mag f x) (mag f y * mag f y) G g) in
      let b = square-close y ry hy (right (mag f x * mag f x) (mag f y * mag f y) G g) in
      let c = sum-close f (mul f x x) (mul f y y) (low f + suc (e + e)) a.0 b.0 a.1 b.1 (doubled (pl f (mul f x x)) (pl f (mul f y y)) (low f) (e + e) a.2 b.2) (omega arith) in
      (c.0, c.1, c.2, joined (2 ^ low f) G (2 ^ prec f) (eight f) (pl f (squares2 f x y)) (pl f (mul f x x)) (pl f (mul f y y)) (mag f x * mag f x) (mag f y * mag f y) 2 2 (omega arith) g c.3 a.3 b.3)

  three-close : (x y z : Float) → Real f x → Real f y → Real f z → mag f x ≤ 2 ^ (low f + e) → mag f y ≤ 2 ^ (low f + e) → mag f z ≤ 2 ^ (low f + e) → mag f x * mag f x + mag f y * mag f y + mag f z * mag f z ≤ G
      → Real f (squares3 f x y z) × (mi f (squares3 f x y z) ≡ 0) × (pl f (squares3 f x y z) ≤ 2 ^ (low f + suc (suc (e + e)))) × Close (2 ^ prec f) (pl f (squares3 f x y z) * 2 ^ low f) (mag f x * mag f x + mag f y * mag f y + mag f z * mag f z) 10 G
  three-close x y z rx ry rz hx hy hz g =
      let d = digits f in
      let a = two-close x y rx ry hx hy (left (mag f x * mag f x + mag f y * mag f y) (mag f z * mag f z) G g) in
      let b = square-close z rz hz (right (mag f x * mag f x + mag f y * mag f y) (mag f z * mag f z) G g) in
      let u = le_trans b.2 (pow_mono (let o : low f + (e + e) ≤ low f + suc (e + e) = omega arith in o)) in
      let c = sum-close f (squares2 f x y) (mul f z z) (low f + suc (suc (e + e))) a.0 b.0 a.1 b.1 (doubled (pl f (squares2 f x y)) (pl f (mul f z z)) (low f) (suc (e + e)) a.2 u) (omega arith) in
      (c.0, c.1, c.2, joined (2 ^ low f) G (2 ^ prec f) (eight f) (pl f (squares3 f x y z)) (pl f (squares2 f x y)) (pl f (mul f z z)) (mag f x * mag f x + mag f y * mag f y) (mag f z * mag f z) 6 2 (omega arith) g c.3 a.3 b.3)

-- ---- a quotient by Q, of an X that is at most 2 * Q: |U * Q - X * L| ≤ 3 * Q * L / 2 ^ prec, and so for the squares
sq-le : (a b : ℕ) → a * a ≤ b * b → a ≤ b
sq-le a b h = go (leb a b) (leb→le a b) (nleb→lt a b)
  where
    no : suc b ≤ a → a ≤ b
    no g = let k : suc b * suc b ≤ a * a = mul-le-mul g g in absurd (omega arith)

    go : (c : Bool) → (T c → a ≤ b) → (T (not c) → b < a) → a ≤ b
    go true p q = p tt
    go false p q = no (q tt)

divided : (U X Q K L : ℕ) → X ≤ 2 * Q → K ≤ L → (U * Q * 2 * K ≤ X * L * 2 * (K + 1) + K * Q) × (X * L * 2 * K ≤ U * Q * 2 * K + X * L * 2 + K * Q) → Close K (U * Q) (X * L) 3 (Q * L)
divided U X Q K L h k w =
    let a = w.0 in
    let b = w.1 in
    let x : X * L ≤ 2 * Q * L = mul-le-mul_right L h in
    let y : K * Q ≤ L * Q = mul-le-mul_right Q k in
    record { above = omega arith; below = omega arith }

at_most : (A B K S : ℕ) → 3 ≤ K → B ≤ 2 * S → Close K A B 3 S → A ≤ 3 * S
at_most A B K S h g c =
    let a = c.above in
    let x : B * K ≤ 2 * S * K = mul-le-mul_right K g in
    let y : 3 * S ≤ K * S = mul-le-mul_right S h in
    let z : A * K ≤ 3 * S * K = omega arith in
    le_of_mul-le-mul_right z (lt_of_lt_of_le (pow_pos 0) (le_trans (let o : 1 ≤ 3 = omega arith in o) h))

regroup : (U Q X L : ℕ) {K k : ℕ} → Close K (U * Q * (U * Q)) (X * L * (X * L)) k (Q * L * (Q * L)) → Close K (U * U * (Q * Q)) (X * X * (L * L)) k (Q * Q * (L * L))
regroup U Q X L c = let a = c.above in let b = c.below in record { above = omega arith; below = omega arith }

module _ (f : Format) (q : Float) (rq : Real f q) (pos : 0 < pl f q) where
  quotient-close : (x : Float) → Real f x → mag f x * mag f x ≤ 2 * (pl f q * pl f q)
      → Real f (div f x q) × Close (2 ^ prec f) (mag f (div f x q) * mag f (div f x q) * (pl f q * pl f q)) (mag f x * mag f x * (2 ^ low f * 2 ^ low f)) 18 (pl f q * pl f q * (2 ^ low f * 2 ^ low f))
  quotient-close x r h =
      let L = 2 ^ low f in
      let K = 2 ^ prec f in
      let Q = pl f q in
      let X = mag f x in
      let d = digits f in
      let w : X ≤ 2 * Q = sq-le X (2 * Q) (omega arith) in
      let b : X * L ≤ 2 ^ suc (low f) * Q = le_trans (mul-le-mul_right L w) (le_of_eq (turn (2 ^ suc (low f)) L Q (pow-suc 2 (low f)))) in
      let dl = differ-le _ _ _ (scale-differ f x L) in
      let n = is-near-le f (div f x q) _ _ Q (suc (low f)) pos (div-Is' f x q r rq pos) (le_trans dl.0 b) (le_trans dl.1 b) (let o : suc (low f) < low f + suc (emax f) = wide f in o) in
      let m = div-mag f x q r rq pos n.0.finite in
      let kl : K ≤ L = pow_mono (let o : prec f ≤ low f = deep f in o) in
      let c : Close K (mag f (div f x q) * Q) (X * L) 3 (Q * L) = subst (λ (u : ℕ). Close K (u * Q) (X * L) 3 (Q * L)) (sym m) (divided (rnd f (X * L) Q) X Q K L w kl (rnd-rel-any f (X * L) Q pos)) in
      let xl : X * L ≤ 2 * (Q * L) = le_trans (mul-le-mul_right L w) (le_of_eq (mul_assoc 2 Q L)) in
      let ul = at_most (mag f (div f x q) * Q) (X * L) K (Q * L) (le_trans (let o : 3 ≤ 8 = omega arith in o) (eight f)) xl c in
      (n.0, regroup (mag f (div f x q)) Q X L (close-square 3 ul (le_trans xl (let o : 2 * (Q * L) ≤ 3 * (Q * L) = omega arith in o)) c))
    where
      turn : (E L Q : ℕ) → E ≡ L * 2 → 2 * Q * L ≡ E * Q
      turn E L Q e = subst (λ (n : ℕ). 2 * Q * L ≡ n * Q) (sym e) (omega arith)

-- ---- the laws
-- s is the sum of squares G, in units squared, but for a part in 2 ^ 20
pub record Norm (f : Format) (s : Float) (G : ℕ) : Type 0 where
  pub value : Real f s
  pub plus : mi f s ≡ 0
  pub close : Close (2 ^ 20) (pl f s * 2 ^ low f) G 1 G

-- one component of at least 2 ^ -e makes the sum of squares at least 2 ^ -2e
long-enough : (f : Format) (e X G : ℕ) → e ≤ low f → 2 ^ (low f - e) ≤ X → X * X ≤ G → 2 ^ low f * 2 ^ low f ≤ G * 2 ^ (e + e)
long-enough f e X G h g k =
    let a : 2 ^ low f ≡ 2 ^ (low f - e) * 2 ^ e = ap (λ (n : ℕ). 2 ^ n) (sym (sub-add_cancel h)) ∙ pow-add 2 (low f - e) e in
    let b : 2 ^ low f ≤ X * 2 ^ e = le_trans (le_of_eq a) (mul-le-mul_right (2 ^ e) g) in
    let c : 2 ^ low f * 2 ^ low f ≤ X * 2 ^ e * (X * 2 ^ e) = mul-le-mul b b in
    let d : X * X * (2 ^ e * 2 ^ e) ≤ G * (2 ^ e * 2 ^ e) = mul-le-mul_right (2 ^ e * 2 ^ e) k in
    le_trans (group (2 ^ low f * 2 ^ low f) X (2 ^ e) (G * (2 ^ e * 2 ^ e)) c d) (le_of_eq (ap (λ (n : ℕ). G * n) (sym (pow-add 2 e e))))
  where
    group : (l X E g : ℕ) → l ≤ X * E * (X * E) → X * X * (E * E) ≤ g → l ≤ g
    group l X E g h k = omega arith

low-room : (f : Format) (e : ℕ) → e * 2 + 2 ≤ emax f → e ≤ low f
low-room f e h = let d = digits f in omega arith

pub long2 : (f : Format) (e X Y : ℕ) → e * 2 + 2 ≤ emax f → (2 ^ (low f - e) ≤ X) ⊎ (2 ^ (low f - e) ≤ Y) → 2 ^ low f * 2 ^ low f ≤ (X * X + Y * Y) * 2 ^ (e + e)
long2 f e X Y h (inl g) = long-enough f e X (X * X + Y * Y) (low-room f e h) g (left (X * X) (Y * Y) (X * X + Y * Y) (le_refl (X * X + Y * Y)))
long2 f e X Y h (inr g) = long-enough f e Y (X * X + Y * Y) (low-room f e h) g (right (X * X) (Y * Y) (X * X + Y * Y) (le_refl (X * X + Y * Y)))

pub long3 : (f : Format) (e X Y Z : ℕ) → e * 2 + 2 ≤ emax f → (2 ^ (low f - e) ≤ X) ⊎ (2 ^ (low f - e) ≤ Y) ⊎ (2 ^ (low f - e) ≤ Z) → 2 ^ low f * 2 ^ low f ≤ (X * X + Y * Y + Z * Z) * 2 ^ (e + e)
long3 f e X Y Z h (inl g) = le_trans (long2 f e X Y h (inl g)) (mul-le-mul_right (2 ^ (e + e)) (le-add_right (X * X + Y * Y) (Z * Z)))
long3 f e X Y Z h (inr (inl g)) = le_trans (long2 f e X Y h (inr g)) (mul-le-mul_right (2 ^ (e + e)) (le-add_right (X * X + Y * Y) (Z * Z)))
long3 f e X Y Z h (inr (inr g)) = long-enough f e Z (X * X + Y * Y + Z * Z) (low-room f e h) g (le-add_left (Z * Z) (X * X + Y * Y))

-- such a vector is not zero
pub long-some : (f : Format) (e G : ℕ) → 2 ^ low f * 2 ^ low f ≤ G * 2 ^ (e + e) → 0 < G
long-some f e G h = elim (eq-zero-or-pos G) [
  | inl z ↦ absurd (not-le_of_lt (mul-pos (pow_pos (low f)) (pow_pos (low f))) (le_trans h (le_of_eq (ap (λ (n : ℕ). n * 2 ^ (e + e)) z ∙ zero-mul (2 ^ (e + e))))))
  | inr p ↦ p
]

-- the sums of squares are finite, close to the exact ones, and at most 2 ^ (2 * e + 1) and 2 ^ (2 * e + 2)
pub squares2-norm : (f : Format) (e : ℕ) → e * 2 + 2 ≤ emax f → (x y : Float) → Real f x → Real f y → mag f x ≤ 2 ^ (low f + e) → mag f y ≤ 2 ^ (low f + e)
    → 2 ^ low f * 2 ^ low f ≤ (mag f x * mag f x + mag f y * mag f y) * 2 ^ (e + e) → Norm f (squares2 f x y) (mag f x * mag f x + mag f y * mag f y) × (pl f (squares2 f x y) ≤ 2 ^ (low f + suc (e + e)))
squares2-norm f e he x y rx ry hx hy long =
    let c = two-close f e he (mag f x * mag f x + mag f y * mag f y) long x y rx ry hx hy (le_refl (mag f x * mag f x + mag f y * mag f y)) in
    (record { value = c.0; plus = c.1; close = parts-of f 1 (omega arith) c.3 }, c.2)

pub squares3-norm : (f : Format) (e : ℕ) → e * 2 + 2 ≤ emax f → (x y z : Float) → Real f x → Real f y → Real f z → mag f x ≤ 2 ^ (low f + e) → mag f y ≤ 2 ^ (low f + e) → mag f z ≤ 2 ^ (low f + e)
    → 2 ^ low f * 2 ^ low f ≤ (mag f x * mag f x + mag f y * mag f y + mag f z * mag f z) * 2 ^ (e + e)
    → Norm f (squares3 f x y z) (mag f x * mag f x + mag f y * mag f y + mag f z * mag f z) × (pl f (squares3 f x y z) ≤ 2 ^ (low f + suc (suc (e + e))))
squares3-norm f e he x y z rx ry rz hx hy hz long =
    let c = three-close f e he (mag f x * mag f x + mag f y * mag f y + mag f z * mag f z) long x y z rx ry rz hx hy hz (le_refl (mag f x * mag f x + mag f y * mag f y + mag f z * mag f z)) in
    (record { value = c.0; plus = c.1; close = parts-of f 1 (omega arith) c.3 }, c.2)

-- a vector with a component of at least 2 ^ -e: the sum of squares is at least 2 ^ -(2 * e + 1)
pub norm-least : (f : Format) (s : Float) (G e : ℕ) → Norm f s G → 2 ^ low f * 2 ^ low f ≤ G * 2 ^ (e + e) → 2 ^ low f ≤ pl f s * 2 ^ suc (e + e)
norm-least f s G e n h =
    let L = 2 ^ low f in
    let E = 2 ^ (e + e) in
    let b = n.close.below in
    let g : G ≤ 2 * (pl f s * L) = omega arith in
    let k : G * E ≤ 2 * (pl f s * L) * E = mul-le-mul_right E g in
    le_of_mul-le-mul_right (last L (pl f s) E (2 ^ suc (e + e)) (pow-suc 2 (e + e)) (le_trans h k)) (pow_pos (low f))
  where
    last : (L S E F : ℕ) → F ≡ E * 2 → L * L ≤ 2 * (S * L) * E → L * L ≤ S * F * L
    last L S E F e h = subst (λ (n : ℕ). L * L ≤ S * n * L) (sym e) (omega arith)

rooted : (Q S L G : ℕ) → Close (2 ^ 20) (S * L) G 1 G → Q * Q * 2 ^ 20 ≤ S * L * (2 ^ 20 + 1) → S * L * 2 ^ 20 ≤ Q * Q * (2 ^ 20 + 1) → Close (2 ^ 20) G (Q * Q) 6 (Q * Q) × (G ≤ 2 * (Q * Q))
rooted Q S L G c h k = let a = c.above in let b = c.below in (record { above = omega arith; below = omega arith }, omega arith)

-- ten parts in 2 ^ 20 are less than 1/1000
pub within-thousandth : (A B : ℕ) → Close (2 ^ 20) A B 10 B → (999 * B ≤ 1000 * A) × (1000 * A ≤ 1001 * B)
within-thousandth A B c = let a = c.above in let b = c.below in (omega arith, omega arith)

-- a component of what is within 1/1000 of 1 is itself at most 1.001
pub component-most : (U L : ℕ) → 1000 * (U * U) ≤ 1001 * (L * L) → 1000 * U ≤ 1001 * L
component-most U L h = sq-le (1000 * U) (1001 * L) (omega arith)

-- three parts in 2 ^ prec, by which a rounded root's square is off, are less than one in 2 ^ 20
pub coarser : (f : Format) (a b : ℕ) → a * 2 ^ prec f ≤ b * (2 ^ prec f + 3) → a * 2 ^ 20 ≤ b * (2 ^ 20 + 1)
coarser f a b h =
    let g = sixteen f in
    le_of_mul-le-mul_right (cleared a b (2 ^ (prec f - 20)) g.1 (subst (λ (K : ℕ). a * K ≤ b * (K + 3)) g.0 h)) (pow_pos (prec f - 20))
  where
    cleared : (a b m : ℕ) → 16 ≤ m → a * (2 ^ 20 * m) ≤ b * (2 ^ 20 * m + 3) → a * 2 ^ 20 * m ≤ b * (2 ^ 20 + 1) * m
    cleared a b m g h = let k : b * 16 ≤ b * m = mul-le-mul_left b g in omega arith

-- q is a root of s: its square is s but for a part in 2 ^ 20
module _ (f : Format) (s q : Float) (G : ℕ) (n : Norm f s G) (some : 0 < G) (rq : Real f q)
    (above : pl f q * pl f q * 2 ^ 20 ≤ pl f s * 2 ^ low f * (2 ^ 20 + 1)) (below : pl f s * 2 ^ low f * 2 ^ 20 ≤ pl f q * pl f q * (2 ^ 20 + 1)) where
  root-facts : Close (2 ^ 20) G (pl f q * pl f q) 6 (pl f q * pl f q) × (G ≤ 2 * (pl f q * pl f q))
  root-facts = rooted (pl f q) (pl f s) (2 ^ low f) G n.close above below

  -- so the quotients exist
  pub root-positive : 0 < pl f q
  root-positive = elim (eq-zero-or-pos (pl f q)) [
    | inl z ↦ absurd (none (pl f q) G z some root-facts.1)
    | inr p ↦ p
  ]
    where
      none : (Q G : ℕ) → Q ≡ 0 → 0 < G → G ≤ 2 * (Q * Q) → ⊥
      none Q G z h k = let g : G ≤ 2 * (0 * 0) = subst (λ (n : ℕ). G ≤ 2 * (n * n)) z k in omega arith

  quotient : (x : Float) → Real f x → mag f x * mag f x ≤ G
      → Real f (div f x q) × Close (2 ^ prec f) (mag f (div f x q) * mag f (div f x q) * (pl f q * pl f q)) (mag f x * mag f x * (2 ^ low f * 2 ^ low f)) 18 (pl f q * pl f q * (2 ^ low f * 2 ^ low f))
  quotient x r h = quotient-close f q rq root-positive x r (le_trans h root-facts.1)

  -- the quotients' squares, of which A is the sum, against G
  collected : (A k : ℕ) → k ≤ 64 → Close (2 ^ prec f) (A * (pl f q * pl f q)) (G * (2 ^ low f * 2 ^ low f)) k (pl f q * pl f q * (2 ^ low f * 2 ^ low f)) → Close (2 ^ 20) A (2 ^ low f * 2 ^ low f) 10 (2 ^ low f * 2 ^ low f)
  collected A k h c =
      let QQ = pl f q * pl f q in
      let LL = 2 ^ low f * 2 ^ low f in
      let a : Close (2 ^ 20) (A * QQ) (G * LL) 4 (QQ * LL) = parts-of f 4 h c in
      let b : Close (2 ^ 20) (G * LL) (QQ * LL) 6 (QQ * LL) = close-scale LL root-facts.0 in
      let d : Close (2 ^ 20) (A * QQ) (QQ * LL) 10 (QQ * LL) = close-trans a b in
      close-unscale QQ (mul-pos root-positive root-positive) (subst (λ (m : ℕ). Close (2 ^ 20) (A * QQ) m 10 m) (mul_comm QQ LL) d)

  -- the quotients are finite, and their squares add up to 1 but for ten parts in 2 ^ 20
  pub unit2 : (x y : Float) → Real f x → Real f y → G ≡ mag f x * mag f x + mag f y * mag f y
      → Real f (div f x q) × Real f (div f y q) × Close (2 ^ 20) (mag f (div f x q) * mag f (div f x q) + mag f (div f y q) * mag f (div f y q)) (2 ^ low f * 2 ^ low f) 10 (2 ^ low f * 2 ^ low f)
  unit2 x y rx ry e =
      let X = mag f x * mag f x in
      let Y = mag f y * mag f y in
      let a = quotient x rx (left X Y G (le_of_eq (sym e))) in
      let b = quotient y ry (right X Y G (le_of_eq (sym e))) in
      (a.0, b.0, collected _ 36 (omega arith) (summed2 (mag f (div f x q) * mag f (div f x q)) (mag f (div f y q) * mag f (div f y q)) X Y G (pl f q * pl f q) (2 ^ low f * 2 ^ low f) e (close-add a.1 b.1)))
    where
      summed2 : {K k S : ℕ} (u v x y G Q L : ℕ) → G ≡ x + y → Close K (u * Q + v * Q) (x * L + y * L) k S → Close K ((u + v) * Q) (G * L) k S
      summed2 {K} {k} {S} u v x y G Q L e c = let a = c.above in let b = c.below in subst (λ (g : ℕ). Close K ((u + v) * Q) (g * L) k S) (sym e) (record { above = omega arith; below = omega arith })

  pub unit3 : (x y z : Float) → Real f x → Real f y → Real f z → G ≡ mag f x * mag f x + mag f y * mag f y + mag f z * mag f z
      → Real f (div f x q) × Real f (div f y q) × Real f (div f z q)
      × Close (2 ^ 20) (mag f (div f x q) * mag f (div f x q) + mag f (div f y q) * mag f (div f y q) + mag f (div f z q) * mag f (div f z q)) (2 ^ low f * 2 ^ low f) 10 (2 ^ low f * 2 ^ low f)
  unit3 x y z rx ry rz e =
      let X = mag f x * mag f x in
      let Y = mag f y * mag f y in
      let Z = mag f z * mag f z in
      let xy = left (X + Y) Z G (le_of_eq (sym e)) in
      let a = quotient x rx (left X Y G xy) in
      let b = quotient y ry (right X Y G xy) in
      let c = quotient z rz (right (X + Y) Z G (le_of_eq (sym e))) in
      (a.0, b.0, c.0, collected _ 54 (omega arith) (summed3 (mag f (div f x q) * mag f (div f x q)) (mag f (div f y q) * mag f (div f y q)) (mag f (div f z q) * mag f (div f z q)) X Y Z G (pl f q * pl f q) (2 ^ low f * 2 ^ low f) e (close-add (close-add a.1 b.1) c.1)))
    where
      summed3 : {K k S : ℕ} (u v w x y z G Q L : ℕ) → G ≡ x + y + z → Close K (u * Q + v * Q + w * Q) (x * L + y * L + z * L) k S → Close K ((u + v + w) * Q) (G * L) k S
      summed3 {K} {k} {S} u v w x y z G Q L e c = let a = c.above in let b = c.below in subst (λ (g : ℕ). Close K ((u + v + w) * Q) (g * L) k S) (sym e) (record { above = omega arith; below = omega arith })

-- ---- all in one, from the vector's sizes: q is a root of the sum of squares as computed, one component is at least 2 ^ -e, and none is more than 2 ^ e
module _ (f : Format) (e : ℕ) (he : e * 2 + 2 ≤ emax f) (x y q : Float) (rx : Real f x) (ry : Real f y) (rq : Real f q) (hx : mag f x ≤ 2 ^ (low f + e)) (hy : mag f y ≤ 2 ^ (low f + e)) where
  -- for a vector in the plane, and for one in space: the quotients are finite, and their squares add up to 0.999 .. 1.001
  pub normalised2 : (2 ^ (low f - e) ≤ mag f x) ⊎ (2 ^ (low f - e) ≤ mag f y)
      → pl f q * pl f q * 2 ^ 20 ≤ pl f (squares2 f x y) * 2 ^ low f * (2 ^ 20 + 1) → pl f (squares2 f x y) * 2 ^ low f * 2 ^ 20 ≤ pl f q * pl f q * (2 ^ 20 + 1)
      → Real f (div f x q) × Real f (div f y q)
      × (999 * (2 ^ low f * 2 ^ low f) ≤ 1000 * (mag f (div f x q) * mag f (div f x q) + mag f (div f y q) * mag f (div f y q)))
      × (1000 * (mag f (div f x q) * mag f (div f x q) + mag f (div f y q) * mag f (div f y q)) ≤ 1001 * (2 ^ low f * 2 ^ low f))
  normalised2 big above below =
      let G = mag f x * mag f x + mag f y * mag f y in
      let l = long2 f e (mag f x) (mag f y) he big in
      let u = unit2 f (squares2 f x y) q G (squares2-norm f e he x y rx ry hx hy l).0 (long-some f e G l) rq above below x y rx ry refl in
      let w = within-thousandth _ _ u.2 in
      (u.0, u.1, w.0, w.1)

  pub normalised3 : (z : Float) → Real f z → mag f z ≤ 2 ^ (low f + e) → (2 ^ (low f - e) ≤ mag f x) ⊎ (2 ^ (low f - e) ≤ mag f y) ⊎ (2 ^ (low f - e) ≤ mag f z)
      → pl f q * pl f q * 2 ^ 20 ≤ pl f (squares3 f x y z) * 2 ^ low f * (2 ^ 20 + 1) → pl f (squares3 f x y z) * 2 ^ low f * 2 ^ 20 ≤ pl f q * pl f q * (2 ^ 20 + 1)
      → Real f (div f x q) × Real f (div f y q) × Real f (div f z q)
      × (999 * (2 ^ low f * 2 ^ low f) ≤ 1000 * (mag f (div f x q) * mag f (div f x q) + mag f (div f y q) * mag f (div f y q) + mag f (div f z q) * mag f (div f z q)))
      × (1000 * (mag f (div f x q) * mag f (div f x q) + mag f (div f y q) * mag f (div f y q) + mag f (div f z q) * mag f (div f z q)) ≤ 1001 * (2 ^ low f * 2 ^ low f))
  normalised3 z rz hz big above below =
      let G = mag f x * mag f x + mag f y * mag f y + mag f z * mag f z in
      let l = long3 f e (mag f x) (mag f y) (mag f z) he big in
      let u = unit3 f (squares3 f x y z) q G (squares3-norm f e he x y z rx ry rz hx hy hz l).0 (long-some f e G l) rq above below x y z rx ry rz refl in
      let w = within-thousandth _ _ u.3 in
      (u.0, u.1, u.2, w.0, w.1)
