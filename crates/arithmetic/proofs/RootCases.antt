-- What `places` and `pattern` need, at any format: the places to the leading digit, and the pattern.
use mathlib.Core.Path.{◌≡◌, refl, sym, ap, ◌∙◌, subst}
use Prim.Native.Nat.{ℕ, zero, suc, ◌+◌, ◌-◌, ◌*◌, ◌/◌, ◌%◌, ◌^◌, ◌≤◌, ◌<◌}
use native.Mathlib.Nat.{le_trans, le_of_eq, lt_of_lt_of_le, lt_of_not-le, not-le_of_lt, mul-le-mul_right, mul-lt-mul_of_pos_right, mul_assoc, pow-suc}
use native.Mathlib.Numerals.{add-one}
use native.Mathlib.Omega.{arith}
use lib.Pow.{pow-add, pow_pos, pow_mono}
use lib.Ieee.{Format, binary32, binary64, prec, emax, of_bits, low, hid, ones}
use Rattle.arithmetic.specs.RootSteps.{RootsTo}
use Rattle.arithmetic.proofs.RootRounded.{RootOf, root-pattern, pattern_lt}

-- ---- the places from the leading digit of m up to the p-th, by the zeros of a word of v digits that stand before it

module _ (p v m j z : ℕ) (Q : p ≤ v) (e : z + suc j ≡ v) (lo : 2 ^ j ≤ m) (hi : m < 2 ^ suc j) (h : m < 2 ^ p) where
  place-le : suc j ≤ p
  place-le = lt_of_not-le (λ (g : p ≤ j). not-le_of_lt h (le_trans (pow_mono g) lo))

  -- v - p zeros stand before any number of p digits
  pub enough : v - p ≤ z
  enough = let l = place-le in omega arith

  -- and the others move m's leading digit to its place
  pub placed : (z - (v - p) < p) × (2 ^ (p - 1) ≤ m * 2 ^ (z - (v - p))) × (m * 2 ^ (z - (v - p)) < 2 ^ p)
  placed =
      let l = place-le in
      let k = z - (v - p) in
      let a : j + k ≡ p - 1 = omega arith in
      let b : suc j + k ≡ p = omega arith in (
        omega arith,
        subst (λ (x : ℕ). 2 ^ x ≤ m * 2 ^ k) a (le_trans (le_of_eq (pow-add 2 j k)) (mul-le-mul_right (2 ^ k) lo)),
        subst (λ (x : ℕ). m * 2 ^ k < 2 ^ x) b (lt_of_lt_of_le (mul-lt-mul_of_pos_right hi (pow_pos k)) (le_of_eq (sym (pow-add 2 (suc j) k)))),
      )

-- ---- the pattern

-- 1 + o is 2 ^ o for a digit o
digit-power : (o : ℕ) → o < 2 → 1 + o ≡ 2 ^ o
digit-power zero h = refl
digit-power (suc zero) h = refl
digit-power (suc (suc o)) h = absurd (omega arith)

-- one digit more, where the exponent is odd
pub doubled : (p M o : ℕ) → o < 2 → M < 2 ^ p → (M ≤ M * (1 + o)) × (M * (1 + o) < 2 ^ suc p)
doubled p M zero h l = let s = pow-suc 2 p in (omega arith, omega arith)
doubled p M (suc zero) h l = let s = pow-suc 2 p in (omega arith, omega arith)
doubled p M (suc (suc o)) h l = absurd (omega arith)

-- what is used of the formats' numbers
pub wide : (f : Format) → (2 * prec f ≤ low f) × (2 < emax f) × (emax f + prec f ≡ low f + 2)
wide binary32 = (omega arith, omega arith, refl)
wide binary64 = (omega arith, omega arith, refl)

-- the digits of m * 2 ^ j * 2 ^ low beyond those of the root's radicand
abbrev pub above : Format → ℕ → ℕ → ℕ
above f j z = j + (low f - suc (prec f)) - z

-- m * 2 ^ j smallest values, times 2 ^ low, in fours
in-fours : (f : Format) (m j z : ℕ) → z < prec f → m * 2 ^ j * 2 ^ low f ≡ m * 2 ^ z * (1 + above f j z % 2) * 2 ^ suc (prec f) * 2 ^ (2 * (above f j z / 2))
in-fours f m j z h =
    let e = above f j z in
    let o = e % 2 in
    let t = 2 * (e / 2) in
    let p = suc (prec f) in
    let wd = wide f in
    let s : j + low f ≡ z + o + p + t = omega arith in
    mul_assoc m (2 ^ j) (2 ^ low f)
    ∙ ap (λ (x : ℕ). m * x) (sym (pow-add 2 j (low f)) ∙ ap (λ (x : ℕ). 2 ^ x) s ∙ pow-add 2 (z + o + p) t ∙ ap (λ (x : ℕ). x * 2 ^ t) (pow-add 2 (z + o) p ∙ ap (λ (x : ℕ). x * 2 ^ p) (pow-add 2 z o ∙ ap (λ (x : ℕ). 2 ^ z * x) (sym (digit-power o (omega arith))))))
    ∙ sym (mul_assoc m (2 ^ z * (1 + o) * 2 ^ p) (2 ^ t))
    ∙ ap (λ (x : ℕ). x * 2 ^ t) (sym (mul_assoc m (2 ^ z * (1 + o)) (2 ^ p)) ∙ ap (λ (x : ℕ). x * 2 ^ p) (sym (mul_assoc m (2 ^ z) (1 + o))))

-- the pattern that `pattern` makes, from the leading digit in its place and prec + 1 digits of the root
pub pattern-is : (f : Format) (m j z w r q : ℕ) → j < 2 * emax f → z < prec f → w ≡ 2 ^ z → hid f ≤ m * 2 ^ z → m * 2 ^ z < 2 ^ prec f
    → RootOf (m * w * (1 + above f j z % 2) * 2 ^ suc (prec f)) r q
    → RootsTo f m j ((above f j z / 2 + 1) * hid f + (r + 1) / 2)
pattern-is f m j z w r q J Z E lo hi R =
    let e = above f j z in
    let t = e / 2 in
    let M = m * 2 ^ z * (1 + e % 2) in
    let wd = wide f in
    let d = doubled (prec f) (m * 2 ^ z) (e % 2) (omega arith) hi in
    let R' : RootOf (M * 2 ^ suc (prec f)) r q = rw E at R in
    let fine : prec f + t < low f + emax f = omega arith in
    let a = root-pattern f M t (m * 2 ^ j) r q R' (le_trans lo d.0) d.1 (in-fours f m j z Z) fine in
    let b = pattern_lt f M t (m * 2 ^ j) r q R' (le_trans lo d.0) d.1 (in-fours f m j z Z) fine in
    record {
      small = rw (add-one t) b;
      is = ap (λ (x : ℕ). of_bits f (x * hid f + (r + 1) / 2)) (add-one t) ∙ a;
    }

-- the exponent's offset by the infinity's field, and the base's square by the number of digits
offset : (f : Format) → ones f / 2 - 3 ≡ low f - suc (prec f)
offset binary32 = refl
offset binary64 = refl

base : (f : Format) → (2 - prec f % 2) * (2 * 2 ^ (prec f - (prec f / 2 + 1)) * (2 * 2 ^ (prec f - (prec f / 2 + 1)))) ≡ 2 ^ suc (prec f)
base binary32 = refl
base binary64 = refl

-- the same by the numbers that the code has: p digits, the field o of ones, and l for 2 ^ (p - 1)
module _ (f : Format) (p o l m j z w h r q : ℕ) (P : p ≡ prec f) (O : o ≡ ones f) (L : l ≡ 2 ^ (p - 1)) (H : h ≡ 2 ^ (p - (p / 2 + 1))) where
  abbrev places-off : ℕ
  places-off = j + (o / 2 - 3) - z

  pub pattern-by : j + 1 < o → z < p → w ≡ 2 ^ z → 2 ^ (p - 1) ≤ m * 2 ^ z → m * 2 ^ z < 2 ^ p
      → RootOf (m * w * (1 + places-off % 2) * (2 - p % 2) * (2 * h * (2 * h))) r q
      → RootsTo f m j ((places-off / 2 + 1) * l + (r + 1) / 2)
  pattern-by J Z E lo hi R =
      let e : above f j z ≡ places-off = rw (O, offset f) refl in
      let b : (2 - p % 2) * (2 * h * (2 * h)) ≡ 2 ^ suc (prec f) = rw (H, P) (base f) in
      let n : ℕ → ℕ = λ x. m * w * (1 + x % 2) in
      let k : n places-off * (2 - p % 2) * (2 * h * (2 * h)) ≡ n (above f j z) * 2 ^ suc (prec f) = mul_assoc (n places-off) (2 - p % 2) (2 * h * (2 * h)) ∙ ap (λ x. n places-off * x) b ∙ ap (λ x. n x * 2 ^ suc (prec f)) (sym e) in
      let lead : l ≡ hid f = L ∙ ap (λ x. 2 ^ (x - 1)) P in
      let t = pattern-is f m j z w r q (omega arith) (rw P at Z) E (rw P at lo) (rw P at hi) (subst (λ x. RootOf x r q) k R) in
      subst (λ x. RootsTo f m j ((x / 2 + 1) * l + (r + 1) / 2)) e (rw lead t)
