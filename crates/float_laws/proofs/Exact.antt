-- A value that the format holds is its own rounding, so it can be compared with a result by the laws on results: a ≤ a + b for b not below zero; and from a bound on x*x + y*y + z*z, as computed, bounds on |x|, |y| and |z|.
-- Assumes nothing.
use mathlib.Core.Path.{◌≡◌, sym, ap, ◌∙◌, subst}
use mathlib.Core.Logic.{◌⊎◌, inl, inr}
use Prim.Native.Nat.{ℕ, zero, suc, ◌+◌, ◌-◌, ◌*◌, ◌/◌, ◌%◌, ◌^◌, ◌≤◌, ◌<◌}
use native.Mathlib.Nat.{le_trans, le_of_eq, not-le_of_lt, mul-one, mul_assoc, zero-mul, zero-div, div-one, mul-div_cancel, sub-add_cancel, mul-le-mul, mul-le-mul_right}
use native.Mathlib.Omega.{arith}
use mathlib.Core.Bool.{Bool, true, false, not, ◌&&◌}
use lib.IntN.{ℤ, pos, negsuc}
use lib.Dec.{T, leb, ltb, eqb, leb→le, ltb→lt, nleb→lt, T_not}
use lib.Pow.{pow-add, pow_pos, pow-lt}
use lib.Ieee.{Float, nan, inf, fin, Format, prec, emax, low, up, down, le, add, mul, fits}
use lib.Ieee.Fits.{and_l, and_r, add-fits, mul-fits}
use lib.Ieee.Scale.{finite}
use Rattle.std.proofs.lemmas.Float.{le_trans as float_trans}
use Rattle.float_laws.proofs.Units.{rnd, rnd-exact, rnd-zero}
use Rattle.float_laws.proofs.Value.{mag, pl, mi, Real, mag_is, one_side, parts→le, le→units}
use Rattle.float_laws.proofs.Operation.{Is, add-Is, mul-Is, rnd-order}
use Rattle.float_laws.proofs.Size.{Within, add-fin}
use Rattle.float_laws.proofs.Interval.{no_minus}

-- ---- the units of a value are m * 2 ^ j
pub exponent : (k l : ℕ) → 2 ^ k ≤ 2 ^ l → k ≤ l
exponent k l h = go (leb k l) (leb→le k l) (nleb→lt k l)
  where
    go : (b : Bool) → (T b → k ≤ l) → (T (not b) → l < k) → k ≤ l
    go true a c = a tt
    go false a c = absurd (not-le_of_lt (pow-lt (c tt)) h)

units-pow : (f : Format) (s : Bool) (m : ℕ) (e : ℤ) → down e ≤ 2 ^ low f → (j : ℕ) × (mag f (fin s m e) ≡ m * 2 ^ j)
unfolding mag
units-pow f s m (pos k) h = (k + low f, div-one (m * 2 ^ k * 2 ^ low f) ∙ mul_assoc m (2 ^ k) (2 ^ low f) ∙ ap (λ (x : ℕ). m * x) (sym (pow-add 2 k (low f))))
units-pow f s m (negsuc k) h =
    let j = low f - suc k in
    let e : 2 ^ low f ≡ 2 ^ j * 2 ^ suc k = ap (λ (x : ℕ). 2 ^ x) (sym (sub-add_cancel (exponent (suc k) (low f) h))) ∙ pow-add 2 j (suc k) in
    (j, ap (λ (x : ℕ). x / 2 ^ suc k) (ap (λ (x : ℕ). x * 2 ^ low f) (mul-one m) ∙ ap (λ (x : ℕ). m * x) e ∙ sym (mul_assoc m (2 ^ j) (2 ^ suc k))) ∙ mul-div_cancel (m * 2 ^ j) (pow_pos (suc k)))

-- a value is its own rounding, as a size
pub fixed : (f : Format) (x : Float) → Real f x → rnd f (mag f x) 1 ≡ mag f x
unfolding fits
fixed f nan r = absurd r.finite
fixed f (inf s) r = absurd r.finite
fixed f (fin s zero e) r =
    let z : mag f (fin s zero e) ≡ 0 = unfold mag in ap (λ (x : ℕ). x / down e) (ap (λ (x : ℕ). x * 2 ^ low f) (zero-mul (up e)) ∙ zero-mul (2 ^ low f)) ∙ zero-div (down e) in
    ap (λ (x : ℕ). rnd f x 1) z ∙ rnd-zero f 1 (pow_pos 0) ∙ sym z
fixed f (fin s (suc m) e) r =
    let t1 = and_l (eqb (suc m % 2) 1 && ltb (suc m) (2 ^ prec f) && leb (down e) (2 ^ low f)) (ltb (suc m * up e) (2 ^ suc (emax f) * down e)) r.fits in
    let d = leb→le (down e) (2 ^ low f) (and_r (eqb (suc m % 2) 1 && ltb (suc m) (2 ^ prec f)) (leb (down e) (2 ^ low f)) t1) in
    let p = ltb→lt (suc m) (2 ^ prec f) (and_r (eqb (suc m % 2) 1) (ltb (suc m) (2 ^ prec f)) (and_l (eqb (suc m % 2) 1 && ltb (suc m) (2 ^ prec f)) (leb (down e) (2 ^ low f)) t1)) in
    let u = units-pow f s (suc m) e d in
    let j = u.0 in
    ap (λ (x : ℕ). rnd f x 1) (u.1 ∙ sym (mul-one (suc m * 2 ^ j))) ∙ rnd-exact f (suc m) j 1 (pow_pos 0) p ∙ sym u.1

-- x is x, rounded
pub self-Is : (f : Format) (x : Float) → Real f x → Is f x (pl f x) (mi f x) 1
self-Is f x r =
    let g = mag_is f x in
    let e = fixed f x r in
    let z = rnd-zero f 1 (pow_pos 0) in
    elim (one_side f x) [
      | inl p ↦ record {
        fits = r.fits;
        small = λ a b. r.finite;
        plus = λ t. sym (ap (λ (n : ℕ). rnd f n 1) (let o : pl f x - mi f x ≡ 0 = omega arith in o) ∙ z ∙ sym p);
        minus = λ t. sym (ap (λ (n : ℕ). rnd f n 1) (let o : mi f x - pl f x ≡ mag f x = omega arith in o) ∙ e ∙ (let o : mag f x ≡ mi f x = omega arith in o));
      }
      | inr p ↦ record {
        fits = r.fits;
        small = λ a b. r.finite;
        plus = λ t. sym (ap (λ (n : ℕ). rnd f n 1) (let o : pl f x - mi f x ≡ mag f x = omega arith in o) ∙ e ∙ (let o : mag f x ≡ pl f x = omega arith in o));
        minus = λ t. sym (ap (λ (n : ℕ). rnd f n 1) (let o : mi f x - pl f x ≡ 0 = omega arith in o) ∙ z ∙ sym p);
      }
    ]

-- ---- two results in order
pub is_le : (f : Format) (x y : Float) (P N c Q R d : ℕ) → 0 < c → 0 < d → Is f x P N c → Is f y Q R d → T (finite x) → T (finite y) → P * d + R * c ≤ Q * c + N * d → T (le x y)
is_le f x y P N c Q R d C D i j t u h =
    let o = rnd-order f P N c Q R d C D h in
    parts→le f x y (record { finite = t; fits = i.fits }) (record { finite = u; fits = j.fits })
    (le_trans (le_of_eq (i.plus t)) (le_trans o.0 (le_of_eq (sym (j.plus u))))) (le_trans (le_of_eq (j.minus u)) (le_trans o.1 (le_of_eq (sym (i.minus t)))))

-- ---- a ≤ a + b for b not below zero, and b ≤ a + b for a not below zero
pub add-grow-l : (f : Format) (a b : Float) → Real f a → Real f b → mi f b ≡ 0 → T (finite (add f a b)) → T (le a (add f a b))
add-grow-l f a b r q z t = is_le f a (add f a b) (pl f a) (mi f a) 1 (pl f a + pl f b) (mi f a + mi f b) 1 (pow_pos 0) (pow_pos 0) (self-Is f a r) (add-Is f a b r q) r.finite t (omega arith)

pub add-grow-r : (f : Format) (a b : Float) → Real f a → Real f b → mi f a ≡ 0 → T (finite (add f a b)) → T (le b (add f a b))
add-grow-r f a b r q z t = is_le f b (add f a b) (pl f b) (mi f b) 1 (pl f a + pl f b) (mi f a + mi f b) 1 (pow_pos 0) (pow_pos 0) (self-Is f b q) (add-Is f a b r q) q.finite t (omega arith)

-- ---- squares
none : (p n : ℕ) → (p ≡ 0) ⊎ (n ≡ 0) → p * n + n * p ≡ 0
none p n (inl z) = subst (λ (w : ℕ). w * n + n * w ≡ 0) (sym z) (omega arith)
none p n (inr z) = subst (λ (w : ℕ). p * w + w * p ≡ 0) (sym z) (omega arith)

-- a square is not below zero
pub sq-mi : (f : Format) (x : Float) → Real f x → T (finite (mul f x x)) → mi f (mul f x x) ≡ 0
sq-mi f x r t =
    (mul-Is f x x r r).minus t ∙ ap (λ (n : ℕ). rnd f n (2 ^ low f)) (no_minus (pl f x) (mi f x) (one_side f x)) ∙ rnd-zero f (2 ^ low f) (pow_pos (low f))

square : (p n : ℕ) → (p ≡ 0) ⊎ (n ≡ 0) → p * p + n * n ≡ (p + n) * (p + n)
square p n (inl z) = subst (λ (w : ℕ). w * w + n * n ≡ (w + n) * (w + n)) (sym z) (omega arith)
square p n (inr z) = subst (λ (w : ℕ). p * p + w * w ≡ (p + w) * (p + w)) (sym z) (omega arith)

-- c * c is more than B, and x * x is not: so |x| ≤ c
pub root-within : (f : Format) (x c B : Float) → Real f x → Real f c → Real f B → mi f c ≡ 0 → T (finite (mul f x x)) → T (finite (mul f c c)) → T (le (mul f x x) B) → T (not (le (mul f c c) B)) → Within f x c
root-within f x c B r q b z t u h k = record { value = r; bound = q; plus = z; le = size (leb (mag f x) (pl f c)) (leb→le (mag f x) (pl f c)) (nleb→lt (mag f x) (pl f c)) }
  where
    larger : pl f c < mag f x → T (le (mul f c c) (mul f x x))
    larger g =
        let ec = square (pl f c) (mi f c) (one_side f c) in
        let ex = square (pl f x) (mi f x) (one_side f x) in
        let m = mag_is f x in
        let s : pl f c + mi f c ≤ pl f x + mi f x = omega arith in
        let l : pl f c * pl f c + mi f c * mi f c ≤ pl f x * pl f x + mi f x * mi f x = le_trans (le_of_eq ec) (le_trans (mul-le-mul s s) (le_of_eq (sym ex))) in
        let nc = none (pl f c) (mi f c) (one_side f c) in
        let nx = none (pl f x) (mi f x) (one_side f x) in
        is_le f (mul f c c) (mul f x x) (pl f c * pl f c + mi f c * mi f c) (pl f c * mi f c + mi f c * pl f c) (2 ^ low f) (pl f x * pl f x + mi f x * mi f x) (pl f x * mi f x + mi f x * pl f x) (2 ^ low f) (pow_pos (low f)) (pow_pos (low f)) (mul-Is f c c q q) (mul-Is f x x r r) u t
        (both (pl f c * pl f c + mi f c * mi f c) (pl f x * pl f x + mi f x * mi f x) (pl f c * mi f c + mi f c * pl f c) (pl f x * mi f x + mi f x * pl f x) (2 ^ low f) l nx)
      where
        both : (A S N M L : ℕ) → A ≤ S → M ≡ 0 → A * L + M * L ≤ S * L + N * L
        both A S N M L h z = let k = mul-le-mul_right L h in subst (λ (n : ℕ). A * L + n * L ≤ S * L + N * L) (sym z) (omega arith)

    size : (v : Bool) → (T v → mag f x ≤ pl f c) → (T (not v) → pl f c < mag f x) → mag f x ≤ pl f c
    size true a d = a tt
    size false a d = absurd (T_not (le (mul f c c) B) k (float_trans (mul f c c) (mul f x x) B (larger (d tt)) h))

-- x*x + y*y + z*z, as computed, is at most B, and c*c is more: so |x|, |y| and |z| are at most c
pub norm-within : (f : Format) (x y z c B : Float) → Real f x → Real f y → Real f z → Real f c → Real f B → mi f c ≡ 0 → T (finite (mul f c c)) → T (not (le (mul f c c) B))
    → T (finite (add f (add f (mul f x x) (mul f y y)) (mul f z z))) → T (le (add f (add f (mul f x x) (mul f y y)) (mul f z z)) B) → Within f x c × Within f y c × Within f z c
norm-within f x y z c B rx ry rz rc r_b m u k t h =
    let xx = mul f x x in
    let yy = mul f y y in
    let zz = mul f z z in
    let a = add-fin f (add f xx yy) zz t in
    let b = add-fin f xx yy a.0 in
    let rxx : Real f xx = record { finite = b.0; fits = mul-fits f x x } in
    let ryy : Real f yy = record { finite = b.1; fits = mul-fits f y y } in
    let rzz : Real f zz = record { finite = a.1; fits = mul-fits f z z } in
    let rs : Real f (add f xx yy) = record { finite = a.0; fits = add-fits f xx yy } in
    let rt : Real f (add f (add f xx yy) zz) = record { finite = t; fits = add-fits f (add f xx yy) zz } in
    let ly = add-grow-r f xx yy rxx ryy (sq-mi f x rx b.0) a.0 in
    let lx = add-grow-l f xx yy rxx ryy (sq-mi f y ry b.1) a.0 in
    let ls = add-grow-l f (add f xx yy) zz rs rzz (sq-mi f z rz a.1) t in
    let ms : mi f (add f xx yy) ≡ 0 = low-zero (pl f xx) (mi f xx) (pl f (add f xx yy)) (mi f (add f xx yy)) (le→units f xx (add f xx yy) rxx rs lx) (sq-mi f x rx b.0) (one_side f (add f xx yy)) in
    let lz = add-grow-r f (add f xx yy) zz rs rzz ms t in (
      root-within f x c B rx rc r_b m b.0 u (float_trans xx _ B lx (float_trans _ _ B ls h)) k,
      root-within f y c B ry rc r_b m b.1 u (float_trans yy _ B ly (float_trans _ _ B ls h)) k,
      root-within f z c B rz rc r_b m a.1 u (float_trans zz _ B lz h) k,
    )
  where
    low-zero : (p n q m : ℕ) → p + m ≤ q + n → n ≡ 0 → (q ≡ 0) ⊎ (m ≡ 0) → m ≡ 0
    low-zero p n q m h z (inl w) = omega arith
    low-zero p n q m h z (inr w) = w
