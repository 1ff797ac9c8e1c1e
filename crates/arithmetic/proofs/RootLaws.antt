-- What callers use of a root, over the format: the root of a value not below 0 is finite and not below 0 (`root-real`, `root-not-negative`), grows with its argument (`root-mono`, `root-between`), and its square is near it (`root-square`).
-- All rest on `root-Is`: the root is one rounding of a fraction of halves of smallest values, which grows with the argument (`halves-mono`).
use mathlib.Core.Path.{◌≡◌, refl, sym, ap, ◌∙◌, subst}
use mathlib.Core.Bool.{Bool, true, false, cond}
use mathlib.Core.Logic.{◌⊎◌, inl, inr, ⊎_elim}
use Prim.Native.Nat.{ℕ, zero, suc, ◌+◌, ◌-◌, ◌*◌, ◌/◌, ◌^◌, ◌≤◌, ◌<◌}
use native.Mathlib.Nat.{le_trans, lt_of_le_of_lt, le_of_suc-le-suc, lt_irrefl, eq-or-lt_of_le, mul-pos, mul-le-mul_right, le_antisymm, zero-mul, zero-div, zero-lt-suc}
use native.Mathlib.Omega.{arith}
use lib.IntN.{ℤ}
use lib.Dec.{T, eqb, lt→ltb}
use lib.Pow.{pow_pos}
use lib.Ieee.{Float, nan, inf, fin, Format, prec, low, up, down, size, le}
use lib.Ieee.Digits.{size-lt}
use lib.Ieee.Fits.{up_pos}
use lib.Ieee.Scale.{finite}
use lib.Ieee.Positive.{positive, positive-finite, first_pos}
use borrow.Author.Tests.{eqb-true, eqb-false}
use Rattle.float_laws.proofs.Units.{rnd, rnd-zero}
use Rattle.float_laws.proofs.Value.{mag, pl, mi, Real, units_of, mag_is}
use Rattle.float_laws.proofs.Operation.{Is, round-Is}
use Rattle.float_laws.proofs.Exact.{is_le}
use Rattle.float_laws.proofs.Interval.{In, le→parts}
use Rattle.float_laws.proofs.UnitVector.{coarser}
use Rattle.arithmetic.specs.Root.{whole_root, root_units, root_of}
use Rattle.arithmetic.proofs.RootRounded.{WholePart, sq-lt, whole_is, sticky, sticky-le}
pub use Rattle.arithmetic.proofs.RootValues.{root-fits}
use Rattle.arithmetic.proofs.RootNearest.{root-positive, root-squared, SquareNear}

-- ---- the fraction that is rounded

-- twice the whole part of the root of n, and one more where the root is not whole
abbrev doubled : ℕ → ℕ → ℕ
doubled n r = 2 * r + sticky n r

doubled-mono : (n n' r r' : ℕ) → WholePart n r → WholePart n' r' → n ≤ n' → doubled n r ≤ doubled n' r'
doubled-mono n n' r r' F G h =
    ⊎_elim same more (eq-or-lt_of_le le)
  where
    le : r ≤ r'
    le = le_of_suc-le-suc (sq-lt r (suc r') (lt_of_le_of_lt (le_trans F.at_most h) G.above))

    more : r < r' → doubled n r ≤ doubled n' r'
    more l = let a = sticky-le n r in omega arith

    go : (b c : Bool) → (b ≡ false → r * r ≡ n → ⊥) → (c ≡ true → r' * r' ≡ n') → r ≡ r' → 2 * r + cond b 0 1 ≤ 2 * r' + cond c 0 1
    go true c p q e = omega arith
    go false false p q e = omega arith
    go false true p q e =
        let v : r * r ≡ n' = ap (λ (z : ℕ). z * z) e ∙ q refl in
        absurd (p refl (le_antisymm F.at_most (le_trans h (omega arith))))

    same : r ≡ r' → doubled n r ≤ doubled n' r'
    same e = go (eqb (r * r) n) (eqb (r' * r') n') (eqb-false (r * r) n) (eqb-true (r' * r') n') e

doubled-none : (r : ℕ) → WholePart 0 r → doubled 0 r ≡ 0
doubled-none zero F = refl
doubled-none (suc r) F = let a = F.at_most in absurd (omega arith)

-- the root of `a` smallest values, in halves of them, cut to a whole number and a half
unfoldable pub halves : Format → ℕ → ℕ
unfolding whole_root size
halves f a =
    let n = a * 2 ^ low f in
    let r = whole_root (size n) n in
    doubled n r

pub halves-mono : (f : Format) (a b : ℕ) → a ≤ b → halves f a ≤ halves f b
unfolding halves
halves-mono f a b h =
    let n = a * 2 ^ low f in
    let m = b * 2 ^ low f in
    doubled-mono n m (whole_root (size n) n) (whole_root (size m) m) (whole_is (size n) n (size-lt n)) (whole_is (size m) m (size-lt m)) (mul-le-mul_right (2 ^ low f) h)

halves-none : (f : Format) → halves f 0 ≡ 0
unfolding halves
halves-none f = ap (λ (n : ℕ). doubled n (whole_root (size n) n)) (zero-mul (2 ^ low f)) ∙ doubled-none (whole_root (size 0) 0) (whole_is (size 0) 0 (size-lt 0))

-- ---- one rounding

scaled : (h L : ℕ) → h * L * 2 ≡ h * (2 * L)
scaled h L = omega arith

round-halves : (f : Format) (a : ℕ) → Is f (root_units f a) (halves f a) 0 2
unfolding root_units halves
round-halves f a =
    round-Is f false (halves f a) (2 * 2 ^ low f) (halves f a) 0 2 (halves f a) (mul-pos (omega arith) (pow_pos (low f))) (omega arith) (scaled (halves f a) (2 ^ low f)) (omega arith) (omega arith)

above_zero : (f : Format) (s : Bool) (m : ℕ) (e : ℤ) → Real f (fin s (suc m) e) → 0 < mag f (fin s (suc m) e)
above_zero f s m e r =
    first_pos (mag f (fin s (suc m) e)) (down e) (subst (λ (z : ℕ). 0 < z) (units_of f (fin s (suc m) e) r) (mul-pos (mul-pos (zero-lt-suc m) (up_pos e)) (pow_pos (low f))))

zero-mag : (f : Format) (s : Bool) (e : ℤ) → mag f (fin s zero e) ≡ 0
unfolding mag
zero-mag f s e = ap (λ (z : ℕ). z / down e) (ap (λ (z : ℕ). z * 2 ^ low f) (zero-mul (up e)) ∙ zero-mul (2 ^ low f)) ∙ zero-div (down e)

zero-Is : (f : Format) (x : Float) → Real f x → mag f x ≡ 0 → Is f x (halves f (pl f x)) 0 2
zero-Is f x r z =
    let m = mag_is f x in
    let p : pl f x ≡ 0 = omega arith in
    let q : mi f x ≡ 0 = omega arith in
    let h : halves f (pl f x) ≡ 0 = ap (halves f) p ∙ halves-none f in
    let i : halves f (pl f x) - 0 ≡ 0 = omega arith in
    let j : 0 - halves f (pl f x) ≡ 0 = omega arith in
    let o : rnd f 0 2 ≡ 0 = rnd-zero f 2 (omega arith) in
    record { fits = r.fits; small = λ _ _. r.finite; plus = λ _. p ∙ sym (ap (λ (n : ℕ). rnd f n 2) i ∙ o); minus = λ _. q ∙ sym (ap (λ (n : ℕ). rnd f n 2) j ∙ o) }

-- the root of a value not below 0 is its exact root in halves of smallest values, rounded once
pub root-Is : (f : Format) (x : Float) → Real f x → mi f x ≡ 0 → Is f (root_of f x) (halves f (pl f x)) 0 2
unfolding root_of pl mi
root-Is f nan r z = absurd r.finite
root-Is f (inf s) r z = absurd r.finite
root-Is f (fin s zero e) r z = zero-Is f (fin s zero e) r (zero-mag f s e)
root-Is f (fin true (suc m) e) r z = absurd (lt_irrefl 0 (subst (λ (y : ℕ). 0 < y) z (above_zero f true m e r)))
root-Is f (fin false (suc m) e) r z = unfold mag in round-halves f (mag f (fin false (suc m) e))

-- ---- the laws

positive-or-zero : (f : Format) (x : Float) → Real f x → mi f x ≡ 0 → T (positive x) ⊎ ((mag f x ≡ 0) × T (finite (root_of f x)))
unfolding mi root_of
positive-or-zero f nan r z = absurd r.finite
positive-or-zero f (inf s) r z = absurd r.finite
positive-or-zero f (fin s zero e) r z = inr (zero-mag f s e, tt)
positive-or-zero f (fin true (suc m) e) r z = absurd (lt_irrefl 0 (subst (λ (y : ℕ). 0 < y) z (above_zero f true m e r)))
positive-or-zero f (fin false (suc m) e) r z = inl (lt→ltb 0 (suc m) (zero-lt-suc m))

-- finite, for a value not below 0; both zeros are such values
pub root-real : (f : Format) (x : Float) → Real f x → mi f x ≡ 0 → Real f (root_of f x)
root-real f x r z =
    record {
      finite = ⊎_elim (λ p. positive-finite (root_of f x) (root-positive f x r.fits p)) (λ (q : (mag f x ≡ 0) × T (finite (root_of f x))). q.1) (positive-or-zero f x r z);
      fits = root-fits f x r.fits;
    }

-- no root is below 0
pub root-not-negative : (f : Format) (x : Float) → Real f x → mi f x ≡ 0 → Real f (root_of f x) × (mi f (root_of f x) ≡ 0)
root-not-negative f x r z =
    let t = root-real f x r z in
    let i : 0 - halves f (pl f x) ≡ 0 = omega arith in
    (t, (root-Is f x r z).minus t.finite ∙ ap (λ (n : ℕ). rnd f n 2) i ∙ rnd-zero f 2 (omega arith))

not-below : (f : Format) (a x : Float) → Real f a → Real f x → mi f a ≡ 0 → T (le a x) → mi f x ≡ 0
not-below f a x p q z h = let k = (le→parts f a x p q h).1 in omega arith

in_halves : (P Q : ℕ) → P ≤ Q → P * 2 + 0 * 2 ≤ Q * 2 + 0 * 2
in_halves P Q h = omega arith

-- so a bound on x gives one on its root: the root of a constant is computed
pub root-mono : (f : Format) (x y : Float) → Real f x → Real f y → mi f x ≡ 0 → T (le x y) → T (le (root_of f x) (root_of f y))
root-mono f x y p q z h =
    let w = not-below f x y p q z h in
    let k : pl f x ≤ pl f y = (le→parts f x y p q h).0 in
    is_le f (root_of f x) (root_of f y) (halves f (pl f x)) 0 2 (halves f (pl f y)) 0 2 (omega arith) (omega arith) (root-Is f x p z) (root-Is f y q w) (root-real f x p z).finite (root-real f y q w).finite
    (in_halves (halves f (pl f x)) (halves f (pl f y)) (halves-mono f (pl f x) (pl f y) k))

-- a root between two roots; `In` holds that all three are finite
pub root-between : (f : Format) (a x b : Float) → Real f a → Real f x → Real f b → mi f a ≡ 0 → T (le a x) → T (le x b) → In f (root_of f a) (root_of f b) (root_of f x)
root-between f a x b p q s z h k =
    let w = not-below f a x p q z h in
    record {
      low = root-real f a p z;
      high = root-real f b s (not-below f x b q s w k);
      value = root-real f x q w;
      above = root-mono f a x p q z h;
      below = root-mono f x b q s w k;
    }

-- ---- the square of the root

none-near : (P L : ℕ) → SquareNear P (0 * L) 0
none-near P L = record { above = omega arith; below = omega arith }

-- The squares of the root and of the exact root, in units. The root is off by less than one part in 2 ^ prec, so the squares by two parts and a little, for which 3 stands. No x is too small: no root is subnormal.
pub root-square-near : (f : Format) (x : Float) → Real f x → mi f x ≡ 0 → SquareNear (2 ^ prec f) (pl f x * 2 ^ low f) (pl f (root_of f x))
root-square-near f x r z = ⊎_elim more none (positive-or-zero f x r z)
  where
    u : mag f x ≡ pl f x
    u = let m = mag_is f x in omega arith

    v : mag f (root_of f x) ≡ pl f (root_of f x)
    v = let m = mag_is f (root_of f x) in let n = (root-not-negative f x r z).1 in omega arith

    more : T (positive x) → SquareNear (2 ^ prec f) (pl f x * 2 ^ low f) (pl f (root_of f x))
    more p = subst (λ (y : ℕ). SquareNear (2 ^ prec f) (pl f x * 2 ^ low f) y) v (subst (λ (y : ℕ). SquareNear (2 ^ prec f) (y * 2 ^ low f) (mag f (root_of f x))) u (root-squared f x r.fits p))

    none : (mag f x ≡ 0) × T (finite (root_of f x)) → SquareNear (2 ^ prec f) (pl f x * 2 ^ low f) (pl f (root_of f x))
    none q =
        let a : pl f x ≡ 0 = sym u ∙ q.0 in
        let b : pl f (root_of f x) ≡ 0 = (root-Is f x r z).plus q.1 ∙ ap (λ (y : ℕ). rnd f (halves f y - 0) 2) a ∙ ap (λ (y : ℕ). rnd f (y - 0) 2) (halves-none f) ∙ rnd-zero f 2 (omega arith) in
        subst (λ (y : ℕ). SquareNear (2 ^ prec f) (pl f x * 2 ^ low f) y) (sym b) (subst (λ (y : ℕ). SquareNear (2 ^ prec f) (y * 2 ^ low f) 0) (sym a) (none-near (2 ^ prec f) (2 ^ low f)))

-- to one part in 2 ^ 20, at any format
pub root-square : (f : Format) (x : Float) → Real f x → mi f x ≡ 0
    → (pl f (root_of f x) * pl f (root_of f x) * 2 ^ 20 ≤ pl f x * 2 ^ low f * (2 ^ 20 + 1)) × (pl f x * 2 ^ low f * 2 ^ 20 ≤ pl f (root_of f x) * pl f (root_of f x) * (2 ^ 20 + 1))
root-square f x r z =
    let n = root-square-near f x r z in
    let Q = pl f (root_of f x) in
    let X = pl f x * 2 ^ low f in
    (coarser f (Q * Q) X n.above, coarser f X (Q * Q) n.below)
