-- The floor of a value, over the format. Uniqueness is the heart: a whole n with n ≤ x < n + 1, and x's sign where n is zero, is `floor_of f x`.
-- From it follow what the floor is of a value that is whole, and that every finite value has a floor of this kind. Assumes nothing.
use mathlib.Core.Path.{◌≡◌, refl, sym, ap, ◌∙◌, subst}
use mathlib.Core.Logic.{◌⊎◌, inl, inr}
use Prim.Native.Nat.{ℕ, suc, ◌+◌, ◌-◌, ◌*◌, ◌/◌, ◌%◌, ◌^◌, ◌≤◌, ◌<◌}
use native.Mathlib.Nat.{eq_of_mul-eq-mul_right, div-mul-le_self, lt-div-mul-add, zero-mul, le_refl, le_of_eq, lt_of_le_of_lt, mul-le-mul_right, mul-lt-mul_of_pos_right, le_of_mul-le-mul_right, lt_of_mul-lt-mul_right, div-eq_of_lt-le, eq-zero-or-pos}
use native.Mathlib.Omega.{arith}
use mathlib.Core.Bool.{Bool, true, false, not}
use lib.Dec.{T, leb, leb→le, nleb→lt}
use lib.Pow.{pow_pos}
use lib.Ieee.{Float, nan, inf, fin, Format, prec, low, up, down, hid, round, add, sub, lt, le}
use lib.Ieee.Fits.{down_pos, round-fits}
use Rattle.std.specs.Float.{floor, round_with}
use Rattle.float_laws.proofs.Units.{rnd}
use Rattle.float_laws.proofs.Value.{sign, sp, sn, mag, pl, mi, Real, mag_is, mag_of, one_side, under, units_of, le→units, units→le, lt→units, nlt→units, sign-plus, sign-minus}
use Rattle.float_laws.proofs.Value.{le_refl as le-refl'}
use Rattle.float_laws.proofs.Operation.{round-has}
use Rattle.float_laws.proofs.Exact.{fixed}
use Rattle.float_laws.proofs.Same.{same-value}
use Rattle.float_laws.proofs.Whole.{Whole, Nearest, large-whole, twice_hid, steps-rnd, steps-under, steps-sub, one, one-whole, self-sub, parted}
use Rattle.arithmetic_sine.specs.Floor.{floor_of, quarter_of}

-- ---- the library's floor, which has the same cases
pub floor_is : (f : Format) (x : Float) → floor f x ≡ floor_of f x
unfolding round_with floor_of
floor_is f nan = refl
floor_is f (inf s) = refl
floor_is f (fin false m e) = refl
floor_is f (fin true m e) = let d = down_pos e in ap (λ (k : ℕ). round f true (k / down e) 1) (let o : m * up e + down e - 1 ≡ m * up e + (down e - 1) = omega arith in o)

-- ---- the whole part of num / d, which is M / U
pub cut-plus : (num d M U k : ℕ) → 0 < U → num * U ≡ M * d → 0 < d → k * U ≤ M → M < k * U + U → num / d ≡ k
cut-plus num d M U k u e D h l =
    let a : k * d * U ≤ num * U = let b = mul-le-mul_right d h in omega arith in
    let c : num * U < (k + 1) * d * U = let b = mul-lt-mul_of_pos_right l D in omega arith in
    div-eq_of_lt-le d (le_of_mul-le-mul_right a u) (lt_of_mul-lt-mul_right U c)

cut-minus : (num d M U k : ℕ) → 0 < U → num * U ≡ M * d → 0 < d → M ≤ k * U → k * U < M + U → (num + (d - 1)) / d ≡ k
cut-minus num d M U k u e D h l =
    let a : num * U ≤ k * d * U = let b = mul-le-mul_right d h in omega arith in
    let c : k * d * U < (num + d) * U = let b = mul-lt-mul_of_pos_right l D in omega arith in
    let a' : num ≤ k * d = le_of_mul-le-mul_right a u in
    let c' : k * d < num + d = lt_of_mul-lt-mul_right U c in
    div-eq_of_lt-le d (omega arith) (omega arith)

none : (q U : ℕ) → q * U < U → q ≡ 0
none q U h = let g : q < 1 = lt_of_mul-lt-mul_right U (let o : q * U < 1 * U = omega arith in o) in omega arith

-- n is on x's side of zero
side-plus : (q U M p n : ℕ) → n ≡ q * U → (p ≡ 0) ⊎ (n ≡ 0) → M + n < p + U → n ≡ 0
side-plus q U M p n e (inl z) h = let w = none q U (let o : q * U < U = omega arith in o) in e ∙ ap (λ (v : ℕ). v * U) w ∙ zero-mul U
side-plus q U M p n e (inr z) h = z

side-minus : (M p n : ℕ) → (p ≡ 0) ⊎ (n ≡ 0) → p + M ≤ n → p ≡ 0
side-minus M p n (inl z) h = z
side-minus M p n (inr z) h = omega arith

-- ---- a value that is w whole, rounded from w
round_whole : (f : Format) (s : Bool) (w : ℕ) (n : Float) → Real f n → sign n ≡ s → w * 2 ^ low f ≡ mag f n → n ≡ round f s w 1
round_whole f s w n r g e =
    let k : rnd f (w * 2 ^ low f) 1 ≡ mag f n = ap (λ (z : ℕ). rnd f z 1) e ∙ fixed f n r in
    let v = mag_of f (round f s w 1) s (rnd f (w * 2 ^ low f) 1) (round-has f s w 1 (lt_of_le_of_lt (le_of_eq k) (under f n r))) in
    same-value f n (round f s w 1) r (record { finite = v.0; fits = round-fits f s w 1 }) (g ∙ sym v.2) (sym (v.1 ∙ k))

plus-pl : (f : Format) (m : ℕ) (e : lib.IntN.ℤ) → pl f (fin false m e) ≡ mag f (fin false m e)
unfolding pl
plus-pl f m e = refl

plus-mi : (f : Format) (m : ℕ) (e : lib.IntN.ℤ) → mi f (fin false m e) ≡ 0
unfolding mi
plus-mi f m e = refl

minus-pl : (f : Format) (m : ℕ) (e : lib.IntN.ℤ) → pl f (fin true m e) ≡ 0
unfolding pl
minus-pl f m e = refl

minus-mi : (f : Format) (m : ℕ) (e : lib.IntN.ℤ) → mi f (fin true m e) ≡ mag f (fin true m e)
unfolding mi
minus-mi f m e = refl

-- ---- uniqueness: n is whole, n ≤ x < n + 1, and where n is zero it has x's sign
pub floor-unique : (f : Format) (x n : Float) (p q : ℕ) → Real f x → Whole f n p q → T (le n x) → pl f x + mi f n < pl f n + mi f x + 2 ^ low f → (mag f n ≡ 0 → sign n ≡ sign x) → n ≡ floor_of f x
unfolding floor_of
floor-unique f nan n p q r w b a z = absurd r.finite
floor-unique f (inf s) n p q r w b a z = absurd r.finite
floor-unique f (fin false m e) n p q r w b a z =
    let x = fin false m e in
    let U = 2 ^ low f in
    let u : 0 < U = pow_pos (low f) in
    let M = mag f x in
    let xp : pl f x ≡ M = plus-pl f m e in
    let xm : mi f x ≡ 0 = plus-mi f m e in
    let np = w.plus in
    let g = mag_is f n in
    let h = le→units f n x w.value r b in
    let nm : mi f n ≡ 0 = side-plus q U M (pl f n) (mi f n) w.minus (one_side f n) (omega arith) in
    let c : m * up e / down e ≡ p = cut-plus (m * up e) (down e) M U p u (units_of f x r) (down_pos e) (omega arith) (omega arith) in
    let v : p * U ≡ mag f n = omega arith in
    let s : sign n ≡ false = elim (eq-zero-or-pos (mag f n)) [ inl o ↦ z o | inr o ↦ sign-plus f n (let t : 0 < pl f n = omega arith in t) ] in
    round_whole f false (m * up e / down e) n w.value s (ap (λ (k : ℕ). k * U) c ∙ v)
floor-unique f (fin true m e) n p q r w b a z =
    let x = fin true m e in
    let U = 2 ^ low f in
    let u : 0 < U = pow_pos (low f) in
    let M = mag f x in
    let xp : pl f x ≡ 0 = minus-pl f m e in
    let xm : mi f x ≡ M = minus-mi f m e in
    let nq = w.minus in
    let g = mag_is f n in
    let h = le→units f n x w.value r b in
    let np : pl f n ≡ 0 = side-minus M (pl f n) (mi f n) (one_side f n) (omega arith) in
    let c : (m * up e + (down e - 1)) / down e ≡ q = cut-minus (m * up e) (down e) M U q u (units_of f x r) (down_pos e) (omega arith) (omega arith) in
    let v : q * U ≡ mag f n = omega arith in
    let s : sign n ≡ true = elim (eq-zero-or-pos (mag f n)) [ inl o ↦ z o | inr o ↦ sign-minus f n (let t : 0 < mi f n = omega arith in t) ] in
    round_whole f true ((m * up e + (down e - 1)) / down e) n w.value s (ap (λ (k : ℕ). k * U) c ∙ v)

-- ---- a value that is whole is its own floor: a zero, and all from hid f on
self-whole : (f : Format) (x : Float) (k : ℕ) → Real f x → mag f x ≡ k * 2 ^ low f → (p : ℕ) × (q : ℕ) × Whole f x p q
self-whole f x k r e =
    let g = mag_is f x in
    elim (one_side f x) [
      | inl z ↦ (0, k, record { value = r; plus = z ∙ sym (zero-mul (2 ^ low f)); minus = let o : mi f x ≡ k * 2 ^ low f = omega arith in o })
      | inr z ↦ (k, 0, record { value = r; plus = let o : pl f x ≡ k * 2 ^ low f = omega arith in o; minus = z ∙ sym (zero-mul (2 ^ low f)) })
    ]

pub floor-whole : (f : Format) (x : Float) (k : ℕ) → Real f x → mag f x ≡ k * 2 ^ low f → x ≡ floor_of f x
floor-whole f x k r e =
    let w = self-whole f x k r e in
    let u = pow_pos (low f) in
    floor-unique f x x w.0 w.1 r w.2 (le-refl' f x r) (omega arith) (λ z. refl)

pub floor-zero : (f : Format) (x : Float) → Real f x → mag f x ≡ 0 → x ≡ floor_of f x
floor-zero f x r z = floor-whole f x 0 r (z ∙ sym (zero-mul (2 ^ low f)))

pub floor-large : (f : Format) (x : Float) → Real f x → hid f * 2 ^ low f ≤ mag f x → x ≡ floor_of f x
floor-large f x r h = let k = large-whole f x r h in floor-whole f x k.0 r k.1

-- ---- every finite value has its floor: whole, at most x, and x is less than 1 above it
pub record Floored (f : Format) (x n : Float) : Type 0 where
  pub p : ℕ
  pub q : ℕ
  pub whole : Whole f n p q
  pub below : T (le n x)
  pub above : pl f x + mi f n < pl f n + mi f x + 2 ^ low f

own-floor : (f : Format) (x : Float) → Real f x → hid f * 2 ^ low f ≤ mag f x → Floored f x x
own-floor f x r h =
    let k = large-whole f x r h in
    let w = self-whole f x k.0 r k.1 in
    let u = pow_pos (low f) in
    record { p = w.0; q = w.1; whole = w.2; below = le-refl' f x r; above = omega arith }

-- ---- n = (x + c) - c, and one less where n lies above x
positive-side : (p n M : ℕ) → (p ≡ 0) ⊎ (n ≡ 0) → M ≡ p + n → 0 < M → n ≤ p → 0 < p
positive-side p n M (inl z) g h k = omega arith
positive-side p n M (inr z) g h k = omega arith

none_left : (k U : ℕ) → 0 < U → k * U ≡ 0 → k ≡ 0
none_left k U u e = eq_of_mul-eq-mul_right U u k 0 (e ∙ sym (zero-mul U))

-- (x + c) - c
abbrev pub nearby : Format → Float → Float → Float
nearby f x c = sub f (add f x c) c

balance : (vp vq np nq a b U : ℕ) → vp ≡ (a + 0 - (b + 1)) * U → vq ≡ (b + 1 - (a + 0)) * U → np ≡ a * U → nq ≡ b * U → vp + nq + U ≡ np + vq
balance vp vq np nq a b U e1 e2 e3 e4 = let d = parted (a + 0) (b + 1) U in omega arith

is_one : (f : Format) (a : Float) (p q : ℕ) → Whole f a p q → p ≡ 1 → q ≡ 0 → a ≡ one
is_one f a p q v e g =
    let w = one-whole f in
    let u = pow_pos (low f) in
    let ap' : pl f a ≡ 1 * 2 ^ low f = v.plus ∙ ap (λ (k : ℕ). k * 2 ^ low f) e in
    let am : mi f a ≡ 0 * 2 ^ low f = v.minus ∙ ap (λ (k : ℕ). k * 2 ^ low f) g in
    let op = w.plus in
    let om = w.minus in
    let ga = mag_is f a in
    let go = mag_is f one in
    same-value f a one v.value w.value (sign-plus f a (let o : 0 < pl f a = omega arith in o) ∙ sym (sign-plus f one (let o : 0 < pl f one = omega arith in o))) (omega arith)

module _ (f : Format) (x c : Float) (C : ℕ) (r : Real f x) (some : 0 < mag f x) (i : Nearest f x c C) (to : C ≤ 2 ^ prec f) where
  abbrev n : Float
  n = nearby f x c

  -- n is at most x: it is the floor
  pub stays : T (not (lt x (nearby f x c))) → nearby f x c ≡ floor_of f x
  stays h =
      let U = 2 ^ low f in
      let u : 0 < U = pow_pos (low f) in
      let a = nlt→units f x n r i.is.value h in
      let b = i.below in
      let g = mag_is f x in
      let gn = mag_is f n in
      let k = i.k in
      let np = i.is.plus in
      let nq = i.is.minus in
      floor-unique f x n (k - C) (C - k) r i.is (units→le f n x i.is.value r a) (omega arith)
      (λ z.
      let zp : k - C ≡ 0 = none_left (k - C) U u (let o : (k - C) * U ≡ 0 = omega arith in o) in
      let zq : C - k ≡ 0 = none_left (C - k) U u (let o : (C - k) * U ≡ 0 = omega arith in o) in
      i.zero (omega arith) ∙ sym (sign-plus f x (positive-side (pl f x) (mi f x) (mag f x) (one_side f x) g some (omega arith))))

  -- n - 1 is exact
  pub less_one : Whole f (sub f (nearby f x c) one) (i.k - C + 0 - (C - i.k + 1)) (C - i.k + 1 - (i.k - C + 0))
  less_one =
      let t = twice_hid f in
      let h = pow_pos (prec f - 1) in
      let lo = i.least in
      let hi = i.most in
      steps-sub f (low f) n one (i.k - C) (C - i.k) 1 0 i.is (one-whole f) (le_refl (low f)) (omega arith) (omega arith)

  -- n is above x: n - 1 is the floor
  pub falls : T (lt x (nearby f x c)) → sub f (nearby f x c) one ≡ floor_of f x
  falls h =
      let U = 2 ^ low f in
      let u : 0 < U = pow_pos (low f) in
      let a = lt→units f x n r i.is.value h in
      let b = i.above in
      let w = less_one in
      let v = sub f n one in
      let g = mag_is f x in
      let gv = mag_is f v in
      let k = i.k in
      let np = i.is.plus in
      let nq = i.is.minus in
      let vp = w.plus in
      let vq = w.minus in
      let bal : pl f v + mi f n + U ≡ pl f n + mi f v = balance (pl f v) (mi f v) (pl f n) (mi f n) (k - C) (C - k) U vp vq np nq in
      let le' : pl f v + mi f x ≤ pl f x + mi f v = omega arith in
      floor-unique f x v _ _ r w (units→le f v x w.value r le') (omega arith)
      (λ z.
      let zp : k - C + 0 - (C - k + 1) ≡ 0 = none_left (k - C + 0 - (C - k + 1)) U u (let o : (k - C + 0 - (C - k + 1)) * U ≡ 0 = omega arith in o) in
      let zq : C - k + 1 - (k - C + 0) ≡ 0 = none_left (C - k + 1 - (k - C + 0)) U u (let o : (C - k + 1 - (k - C + 0)) * U ≡ 0 = omega arith in o) in
      let e : k - C ≡ 1 = omega arith in
      let e' : C - k ≡ 0 = omega arith in
      let o = one-whole f in
      let same : n ≡ one = is_one f n (k - C) (C - k) i.is e e' in
      ap (λ (m : Float). sign (sub f m one)) same ∙ self-sub f one o.value ∙ sym (sign-plus f x (positive-side (pl f x) (mi f x) (mag f x) (one_side f x) g some (omega arith))))

rounded : (f : Format) (s : Bool) (w : ℕ) → w ≤ 2 ^ prec f → Real f (round f s w 1) × (mag f (round f s w 1) ≡ w * 2 ^ low f) × (sign (round f s w 1) ≡ s)
rounded f s w h =
    let e = steps-rnd f (low f) w h in
    let v = mag_of f (round f s w 1) s (rnd f (w * 2 ^ low f) 1) (round-has f s w 1 (lt_of_le_of_lt (le_of_eq e) (steps-under f (low f) w (le_refl (low f)) h))) in
    (record { finite = v.0; fits = round-fits f s w 1 }, v.1 ∙ e, v.2)

sided-plus : (f : Format) (n : Float) → sign n ≡ false → (pl f n ≡ mag f n) × (mi f n ≡ 0)
unfolding pl mi
sided-plus f n e = (ap (λ (b : Bool). sp b (mag f n)) e, ap (λ (b : Bool). sn b (mag f n)) e)

sided-minus : (f : Format) (n : Float) → sign n ≡ true → (pl f n ≡ 0) × (mi f n ≡ mag f n)
unfolding pl mi
sided-minus f n e = (ap (λ (b : Bool). sp b (mag f n)) e, ap (λ (b : Bool). sn b (mag f n)) e)

-- num / d against w, and M / U against w, where the two fractions are one
scale-ge : (num d M U w : ℕ) → num * U ≡ M * d → 0 < d → w * d ≤ num → w * U ≤ M
scale-ge num d M U w e D h = le_of_mul-le-mul_right (let a = mul-le-mul_right U h in let o : w * U * d ≤ M * d = omega arith in o) D

scale-lt : (num d M U w : ℕ) → num * U ≡ M * d → 0 < U → num < w * d → M < w * U
scale-lt num d M U w e u h = lt_of_mul-lt-mul_right d (let a = mul-lt-mul_of_pos_right h u in let o : M * d < w * U * d = omega arith in o)

scale-le : (num d M U w : ℕ) → num * U ≡ M * d → 0 < d → num ≤ w * d → M ≤ w * U
scale-le num d M U w e D h = le_of_mul-le-mul_right (let a = mul-le-mul_right U h in let o : M * d ≤ w * U * d = omega arith in o) D

scale-gt : (num d M U w : ℕ) → num * U ≡ M * d → 0 < U → w * d < num + d → w * U < M + U
scale-gt num d M U w e u h = lt_of_mul-lt-mul_right d (let a = mul-lt-mul_of_pos_right h u in let o : w * U * d < (M + U) * d = omega arith in o)

part-plus : (num d M U : ℕ) → num * U ≡ M * d → 0 < d → 0 < U → (num / d * U ≤ M) × (M < num / d * U + U)
part-plus num d M U e D u =
    let b : num < num / d * d + d = lt-div-mul-add D in
    let l = scale-lt num d M U (num / d + 1) e u (more (num / d) d num b) in
    (scale-ge num d M U (num / d) e D (div-mul-le_self num d), more' (num / d) U M l)
  where
    more : (w d n : ℕ) → n < w * d + d → n < (w + 1) * d
    more w d n h = omega arith

    more' : (w U M : ℕ) → M < (w + 1) * U → M < w * U + U
    more' w U M h = omega arith

part-minus : (num d M U : ℕ) → num * U ≡ M * d → 0 < d → 0 < U → (M ≤ (num + (d - 1)) / d * U) × ((num + (d - 1)) / d * U < M + U)
part-minus num d M U e D u =
    let t = num + (d - 1) in
    let a = div-mul-le_self t d in
    let b : t < t / d * d + d = lt-div-mul-add D in
    (scale-le num d M U (t / d) e D (least num d (t / d * d) D b), scale-gt num d M U (t / d) e u (most num d (t / d * d) D a))
  where
    least : (n d k : ℕ) → 0 < d → n + (d - 1) < k + d → n ≤ k
    least n d k D h = omega arith

    most : (n d k : ℕ) → 0 < d → k ≤ n + (d - 1) → k < n + d
    most n d k D h = omega arith

small-floor : (f : Format) (x : Float) → Real f x → mag f x < hid f * 2 ^ low f → Floored f x (floor_of f x)
unfolding floor_of
small-floor f nan r h = absurd r.finite
small-floor f (inf s) r h = absurd r.finite
small-floor f (fin false m e) r h =
    let U = 2 ^ low f in
    let x = fin false m e in
    let w = m * up e / down e in
    let c = part-plus (m * up e) (down e) (mag f x) U (units_of f x r) (down_pos e) (pow_pos (low f)) in
    let b : w < hid f = lt_of_mul-lt-mul_right U (lt_of_le_of_lt c.0 h) in
    let t = twice_hid f in
    let v = rounded f false w (omega arith) in
    let n = round f false w 1 in
    let s = sided-plus f n v.2 in
    let xp : pl f x ≡ mag f x = plus-pl f m e in
    let xm : mi f x ≡ 0 = plus-mi f m e in
    let np : pl f n ≡ w * U = s.0 ∙ v.1 in
    let nm = s.1 in
    let c0 = c.0 in
    let c1 = c.1 in
    record { p = w; q = 0; whole = record { value = v.0; plus = np; minus = nm ∙ sym (zero-mul U) }; below = units→le f n x v.0 r (omega arith); above = omega arith }
small-floor f (fin true m e) r h =
    let U = 2 ^ low f in
    let x = fin true m e in
    let w = (m * up e + (down e - 1)) / down e in
    let c = part-minus (m * up e) (down e) (mag f x) U (units_of f x r) (down_pos e) (pow_pos (low f)) in
    let b : w < suc (hid f) = lt_of_mul-lt-mul_right U (let c1 = c.1 in let o : w * U < suc (hid f) * U = omega arith in o) in
    let t = twice_hid f in
    let v = rounded f true w (omega arith) in
    let n = round f true w 1 in
    let s = sided-minus f n v.2 in
    let xp : pl f x ≡ 0 = minus-pl f m e in
    let xm : mi f x ≡ mag f x = minus-mi f m e in
    let np = s.0 in
    let nm : mi f n ≡ w * U = s.1 ∙ v.1 in
    let c0 = c.0 in
    let c1 = c.1 in
    record { p = 0; q = w; whole = record { value = v.0; plus = np ∙ sym (zero-mul U); minus = nm }; below = units→le f n x v.0 r (omega arith); above = omega arith }

-- for every finite x
pub floor-below : (f : Format) (x : Float) → Real f x → Floored f x (floor_of f x)
floor-below f x r = go (leb (hid f * 2 ^ low f) (mag f x)) (leb→le (hid f * 2 ^ low f) (mag f x)) (nleb→lt (hid f * 2 ^ low f) (mag f x))
  where
    go : (b : Bool) → (T b → hid f * 2 ^ low f ≤ mag f x) → (T (not b) → mag f x < hid f * 2 ^ low f) → Floored f x (floor_of f x)
    go true h k = subst (λ (n : Float). Floored f x n) (floor-large f x r (h tt)) (own-floor f x r (h tt))
    go false h k = small-floor f x r (k tt)

-- ---- n mod 4 of the whole number p - q, of which one is 0
pub quarter-whole : (f : Format) (n : Float) (p q : ℕ) → Whole f n p q → quarter_of n ≡ (p + (4 - q % 4)) % 4
unfolding quarter_of
quarter-whole f nan p q w = absurd w.value.finite
quarter-whole f (inf s) p q w = absurd w.value.finite
quarter-whole f (fin false m e) p q w =
    let U = 2 ^ low f in
    let u : 0 < U = pow_pos (low f) in
    let n = fin false m e in
    let z : q ≡ 0 = none_left q U u (sym w.minus ∙ plus-mi f m e) in
    let c : m * up e / down e ≡ p = cut-plus (m * up e) (down e) (mag f n) U p u (units_of f n w.value) (down_pos e) (let o = w.plus in let o' = plus-pl f m e in omega arith) (let o = w.plus in let o' = plus-pl f m e in omega arith) in
    ap (λ (k : ℕ). k % 4) c ∙ plain p q z
  where
    plain : (p q : ℕ) → q ≡ 0 → p % 4 ≡ (p + (4 - q % 4)) % 4
    plain p q z = omega arith
quarter-whole f (fin true m e) p q w =
    let U = 2 ^ low f in
    let u : 0 < U = pow_pos (low f) in
    let n = fin true m e in
    let z : p ≡ 0 = none_left p U u (sym w.plus ∙ minus-pl f m e) in
    let c : m * up e / down e ≡ q = cut-plus (m * up e) (down e) (mag f n) U q u (units_of f n w.value) (down_pos e) (let o = w.minus in let o' = minus-mi f m e in omega arith) (let o = w.minus in let o' = minus-mi f m e in omega arith) in
    ap (λ (k : ℕ). (4 - k % 4) % 4) c ∙ plain p q z
  where
    plain : (p q : ℕ) → p ≡ 0 → (4 - q % 4) % 4 ≡ (p + (4 - q % 4)) % 4
    plain p q z = omega arith
