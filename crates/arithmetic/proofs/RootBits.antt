-- The answers of `root_bits`, at any format: each is the root of the value that the pattern stands for. A pattern is its sign, the exponent's field and the fraction.
use mathlib.Core.Path.{◌≡◌, refl, sym, ap, ◌∙◌}
use mathlib.Core.Bool.{Bool, true, false, cond, true≢false}
use mathlib.Core.Logic.{inl, inr}
use Prim.Native.Nat.{ℕ, zero, suc, ◌+◌, ◌-◌, ◌*◌, ◌/◌, ◌%◌, ◌^◌, ◌≤◌, ◌<◌}
use native.Mathlib.Nat.{mod-eq_of_lt, zero-div, zero-mod, zero-add, div-add-mod', mul-one, mul-pos, zero-mul, add_comm, eq-zero-or-pos}
use native.Mathlib.Omega.{arith}
use lib.Dec.{T, leb, eqb}
use lib.Pow.{pow_pos}
use lib.Ieee.{Float, nan, inf, fin, Format, binary32, binary64, of_fields, of_bits, to_bits, fits, low, odd, prec, hid, ones, top}
use lib.Ieee.Bits.{of_bits-to_bits}
use lib.Ieee.Exact.{HasValue}
use lib.Ieee.Fits.{down_pos}
use lib.Ieee.Positive.{positive_of_value}
use borrow.Author.Tests.{leb-false, lt-leb, ne_eqb, eqb-false}
use Rattle.float_laws.proofs.Pattern.{infinite}
use Rattle.arithmetic.specs.Root.{root_units, root_of}
use Rattle.arithmetic.specs.RootSteps.{RootsTo, Width, format_of}
use Rattle.arithmetic.proofs.Fields.{value-fields, value_low}
use Rattle.arithmetic.proofs.RootValues.{root_of-value}

-- ---- a pattern as its parts

-- the infinity's pattern and one step of the field more are the sign's bit
pub top-is : (f : Format) → ones f * hid f + hid f ≡ top f
top-is binary32 = refl
top-is binary64 = refl

fraction_same : (f : Format) (b : ℕ) → b % top f ≡ 0 → b % hid f ≡ 0
fraction_same binary32 b h = omega arith
fraction_same binary64 b h = omega arith

of-plain : (f : Format) (b : ℕ) → b < top f → of_bits f b ≡ of_fields f false (b / hid f) (b % hid f)
unfolding of_bits
of-plain f b h = rw (lt-leb (top f) b h, mod-eq_of_lt h)

-- ---- below 0, and no number

root-minus : (f : Format) (x : Float) (a c : ℕ) → 0 < a → HasValue x true a c → root_of f x ≡ nan
unfolding root_of
root-minus f nan a c p h = absurd h
root-minus f (inf s) a c p h = absurd h
root-minus f (fin false m e) a c p h = absurd (true≢false (sym h.0))
root-minus f (fin true (suc m) e) a c p h = refl
root-minus f (fin true zero e) a c p h = let d = mul-pos p (down_pos e) in let z = h.1 in absurd (omega arith)

minus-fields : (f : Format) (x t : ℕ) → 0 < x + t → root_of f (of_fields f true x t) ≡ nan
unfolding root_of of_fields
minus-fields f zero t h = root-minus f _ (t * 2 ^ 0) (2 ^ low f) (omega arith) (value_low f true t)
minus-fields f (suc x) t h = go (eqb (suc x) (ones f)) refl
  where
    other : (b : Bool) → root_of f (cond b (inf true) nan) ≡ nan
    other true = refl
    other false = refl

    more : 0 < (hid f + t) * 2 ^ x
    more = let p = pow_pos (prec f - 1) in mul-pos (let o : 0 < hid f + t = omega arith in o) (pow_pos x)

    go : (b : Bool) → eqb (suc x) (ones f) ≡ b → root_of f (of_fields f true (suc x) t) ≡ nan
    go true e = rw e (other (eqb t 0))
    go false e = root-minus f _ ((hid f + t) * 2 ^ x) (2 ^ low f) more (value-fields f true x t (eqb-false (suc x) (ones f) e))

none : (f : Format) (t : ℕ) → 0 < t → root_of f (of_fields f false (ones f) t) ≡ nan
unfolding of_fields root_of
none binary32 t h = rw (ne_eqb t 0 (λ (e : t ≡ 0). omega arith)) refl
none binary64 t h = rw (ne_eqb t 0 (λ (e : t ≡ 0). omega arith)) refl

-- above the infinity's pattern there are NaNs, and from the sign's bit on what is below 0
root-over : (f : Format) (b : ℕ) → 0 < b % top f → ones f * hid f < b → root_of f (of_bits f b) ≡ nan
unfolding of_bits
root-over f b z h = go (leb (top f) b) refl
  where
    parts : (f : Format) (b : ℕ) → 0 < b % top f → 0 < b % top f / hid f + b % hid f
    parts binary32 b z = omega arith
    parts binary64 b z = omega arith

    ends : (f : Format) (b : ℕ) → ones f * hid f < b → b < top f → (b % top f / hid f ≡ ones f) × (0 < b % hid f)
    ends binary32 b h k = (omega arith, omega arith)
    ends binary64 b h k = (omega arith, omega arith)

    go : (s : Bool) → leb (top f) b ≡ s → root_of f (of_fields f s (b % top f / hid f) (b % hid f)) ≡ nan
    go true e = minus-fields f _ _ (parts f b z)
    go false e = let k = ends f b h (leb-false (top f) b e) in rw k.0 (none f (b % hid f) k.1)

zero-root : (f : Format) (b : ℕ) → b % top f ≡ 0 → of_bits f b ≡ root_of f (of_bits f b)
unfolding of_bits of_fields root_of odd
zero-root f b z = let y = fraction_same f b z in rw (z, y, zero-div (hid f)) refl

quiet : (f : Format) → of_bits f (ones f * hid f + 1) ≡ nan
unfolding of_bits
quiet binary32 = refl
quiet binary64 = refl

-- ---- by what the code tests, with p for the width's digits, o for its field of ones and l for 2 ^ (p - 1)

module _ (p o l b : ℕ) (W : Width p o) (P : l ≡ 2 ^ (p - 1)) where
  abbrev f : Format
  f = format_of p

  L : l ≡ hid f
  L = P ∙ ap (λ (k : ℕ). 2 ^ (k - 1)) W.0

  infinity-is : o * l ≡ ones f * hid f
  infinity-is = rw (L, W.1) refl

  step-is : o * l + l ≡ top f
  step-is = ap (λ (k : ℕ). k + l) infinity-is ∙ ap (λ (k : ℕ). ones f * hid f + k) L ∙ top-is f

  pub zero_bits : b % (o * l + l) ≡ 0 → of_bits f b ≡ root_of f (of_bits f b)
  zero_bits h = zero-root f b (rw step-is at h)

  pub over_bits : (r : ℕ) → (b % (o * l + l) ≡ 0 → ⊥) → o * l < b → r ≡ o * l + 1 → of_bits f r ≡ root_of f (of_bits f b)
  over_bits r n h e =
      let z : 0 < b % (o * l + l) = omega arith in
      ap (of_bits f) (e ∙ ap (λ (i : ℕ). i + 1) infinity-is) ∙ quiet f ∙ sym (root-over f b (rw step-is at z) (rw infinity-is at h))

  pub infinite_bits : b ≡ o * l → of_bits f b ≡ root_of f (of_bits f b)
  unfolding root_of
  infinite_bits e = let i : of_bits f b ≡ inf false = ap (of_bits f) (e ∙ infinity-is ∙ sym (zero-add (ones f * hid f))) ∙ infinite f false in rw i refl

  -- above 0 and below the infinity: the value by its fields
  module _ (h : b ≤ o * l) (n : b ≡ o * l → ⊥) (z : b % (o * l + l) ≡ 0 → ⊥) where
    some : 0 < b
    some = elim (eq-zero-or-pos b) [ inl e ↦ absurd (z (rw e (zero-mod (o * l + l)))) | inr p ↦ p ]

    plain : of_bits f b ≡ of_fields f false (b / hid f) (b % hid f)
    plain =
        let t = top-is f in
        let i = infinity-is in
        let p : 0 < hid f = pow_pos (prec f - 1) in
        of-plain f b (omega arith)

    parted : b / hid f * hid f + b % hid f ≡ b
    parted = div-add-mod' b (hid f)

    pub low-fraction : b / l ≡ 0 → 0 < b % l
    low-fraction e = let q : b / l * l + b % l ≡ b = div-add-mod' b l in let s = some in let k : b / l * l ≡ 0 = rw e (zero-mul l) in omega arith

    -- a subnormal
    pub low_bits : (r : ℕ) → b / l ≡ 0 → RootsTo f (b % l) 0 r → of_bits f r ≡ root_of f (of_bits f b)
    low_bits r e R =
        let t = b % hid f in
        let a = t * 2 ^ 0 in
        let q : 0 < a = rw (mul-one t) (rw L at (low-fraction e)) in
        let v : HasValue (of_bits f b) false a (2 ^ low f) = rw (plain, rw L at e) (value_low f false t) in
        rw L at R.is ∙ sym (root_of-value f (of_bits f b) a (positive_of_value (of_bits f b) a (2 ^ low f) v q) v)

    -- a normal value
    pub high_bits : (r : ℕ) → (b / l ≡ 0 → ⊥) → RootsTo f (b % l + l) (b / l - 1) r → of_bits f r ≡ root_of f (of_bits f b)
    high_bits r e R = go (b / hid f) refl
      where
        t : ℕ
        t = b % hid f

        go : (y : ℕ) → b / hid f ≡ y → of_bits f r ≡ root_of f (of_bits f b)
        go zero k = absurd (e (rw L k))
        go (suc y) k =
            let a = (hid f + t) * 2 ^ y in
            let p : 0 < hid f = pow_pos (prec f - 1) in
            let q : 0 < a = mul-pos (let o : 0 < hid f + t = omega arith in o) (pow_pos y) in
            let u : suc y ≡ ones f → ⊥ = λ i. let m : b / hid f * hid f ≡ ones f * hid f = rw (k, i) refl in let d = parted in let s = infinity-is in n (omega arith) in
            let v : HasValue (of_bits f b) false a (2 ^ low f) = rw (plain, k) (value-fields f false y t u) in
            let j : b / hid f - 1 ≡ y = rw k (omega arith) in
            let w : (t + hid f) * 2 ^ (b / hid f - 1) ≡ a = rw (j, add_comm t (hid f)) refl in
            rw L at R.is ∙ ap (root_units f) w ∙ sym (root_of-value f (of_bits f b) a (positive_of_value (of_bits f b) a (2 ^ low f) v q) v)

-- ---- the root of a value, read off the pattern v that `root_bits` makes of the value's own pattern b
pub root_read : (f : Format) (x y : Float) (b v : ℕ) → T (fits f x) → b ≡ to_bits f x → of_bits f v ≡ root_of f (of_bits f b) → y ≡ of_bits f v → y ≡ root_of f x
root_read f x y b v fit e h i = i ∙ h ∙ ap (root_of f) (ap (of_bits f) e ∙ of_bits-to_bits f x fit)

pub ruleset answers = (zero_bits, over_bits, infinite_bits, low_bits, high_bits)
