-- The greatest of a list's bounds bounds the list's value; and four values within theirs, by Horner at a place of at most 88, keep to what the same steps give on the bounds.
use Prim.Native.Nat.{ℕ, zero, suc, ◌+◌, ◌-◌, ◌<◌, ◌≤◌, zero-le}
use native.Mathlib.Omega.{arith}
use native.Mathlib.Nat.{le_trans, le_of_eq, le_of_lt, lt-suc_self, lt_of_le_of_lt, le_of_suc-le-suc, not-suc-le-zero, eq-or-lt_of_le}
use mathlib.Core.Path.{◌≡◌, refl, sym, subst}
use mathlib.Core.Bool.{Bool, true, false, not, cond}
use mathlib.Core.List.{List}
use mathlib.Core.Logic.{⊎_elim}
use lib.ListN.{length}
use lib.Dec.{T}
use lib.Pow.{pow_pos}
use lib.Ieee.{Float, binary64, of_bits, le, lt, mul}
use lib.Ieee.Scale.{finite}
use Rattle.std.proofs.lemmas.Float.{le_trans as float_trans}
use Rattle.float_laws.specs.Binary64.{◌⊕◌, ◌⊗◌, zero64}
use Rattle.float_laws.proofs.Units.{rnd}
use Rattle.float_laws.proofs.Value.{mag, pl, mi, Real, mag_is, le_refl, lt→units, nlt→units, units→le, under}
use Rattle.float_laws.proofs.Operation.{add-Is}
use Rattle.float_laws.proofs.Size.{Within, within-mono, add-within, mul-within, is-bounded, add-nn, mul-nn, add-fin, mul-fin, fin-of_le}
use Rattle.float_laws.proofs.Exact.{fixed}
use Rattle.records_cubic.specs.declared.cubics.Cubic.{Cubic}
use Rattle.std.specs.declared.option.Option.{Option}
use Rattle.std.specs.declared.option.Option.TheVariants.{Some, None}
use Rattle.records.specs.Active.{active_in, value_in}
use Rattle.records.proofs.CubicLaws.{value_none}
use Rattle.admission_bounds.specs.Bounds.{bound_at, greatest, greatest_bound}
use Rattle.admission.specs.Limits.{farthest_across, times_farthest}
use Rattle.admission_laws.proofs.Constants.{const-plus, const-real}
use Rattle.admission_laws.proofs.ActiveRecord.{active-at}
use Rattle.admission_laws.proofs.CubicBounds.{Ready, zero-own, nn-of-mi, active-within, bound_real}

zero-mag : mag binary64 zero64 ≡ 0
unfolding of_bits mag
zero-mag = refl

zero-within : (G : Float) → Within binary64 G G → Within binary64 zero64 G
zero-within G g = record { value = zero-own.value; bound = g.bound; plus = g.plus; le = le_trans (le_of_eq zero-mag) zero-le }

-- ---- the greater of two, and the greatest of the first n

module _ (a b : Float) (wa : Within binary64 a a) (wb : Within binary64 b b) where
  step-own : Within binary64 (cond (lt a b) b a) (cond (lt a b) b a)
  step-own = go (lt a b)
    where
      go : (c : Bool) → Within binary64 (cond c b a) (cond c b a)
      go true = wb
      go false = wa

  step-over : T (le a (cond (lt a b) b a)) × T (le b (cond (lt a b) b a))
  step-over = go (lt a b) (lt→units binary64 a b wa.value wb.value) (nlt→units binary64 a b wa.value wb.value)
    where
      go :
          (c : Bool) → (T c → pl binary64 a + mi binary64 b < pl binary64 b + mi binary64 a) → (T (not c) → pl binary64 b + mi binary64 a ≤ pl binary64 a + mi binary64 b)
          → T (le a (cond c b a)) × T (le b (cond c b a))
      go true h k = (units→le binary64 a b wa.value wb.value (le_of_lt (h tt)), le_refl binary64 b wb.value)
      go false h k = (le_refl binary64 a wa.value, units→le binary64 b a wb.value wa.value (k tt))

greatest-own : (f : ℕ → Float) (n : ℕ) → ((i : ℕ) → i < n → Within binary64 (f i) (f i)) → Within binary64 (greatest f n) (greatest f n)
unfolding greatest
greatest-own f zero h = zero-own
greatest-own f (suc n) h = step-own (greatest f n) (f n) (greatest-own f n (λ i l. h i (omega arith))) (h n (lt-suc_self n))

greatest-over : (f : ℕ → Float) (n : ℕ) → ((i : ℕ) → i < n → Within binary64 (f i) (f i)) → (i : ℕ) → i < n → T (le (f i) (greatest f n))
unfolding greatest
greatest-over f zero h i l = absurd (not-suc-le-zero l)
greatest-over f (suc n) h i l =
    let wg = greatest-own f n (λ i l. h i (omega arith)) in
    let wn = h n (lt-suc_self n) in
    let o = step-over (greatest f n) (f n) wg wn in
    ⊎_elim (λ (e : i ≡ n). subst (λ (k : ℕ). T (le (f k) (greatest f (suc n)))) (sym e) o.1)
    (λ (m : i < n). float_trans (f i) (greatest f n) (greatest f (suc n)) (greatest-over f n (λ i l. h i (omega arith)) i m) o.0)
    (eq-or-lt_of_le (le_of_suc-le-suc l))

-- ---- the value of a list

module _ {cs : List Cubic} {lo hi end limit s : Float} (r : Ready cs lo hi end limit s) where
  pub greatest-real : Within binary64 (greatest_bound cs end) (greatest_bound cs end)
  unfolding greatest_bound
  greatest-real = greatest-own (bound_at cs end) (length cs) (bound_real r)

  bound-under : (i : ℕ) → i < length cs → T (le (bound_at cs end i) (greatest_bound cs end))
  unfolding greatest_bound
  bound-under i h = greatest-over (bound_at cs end) (length cs) (bound_real r) i h

  pub greatest-within : Within binary64 (value_in cs s) (greatest_bound cs end)
  greatest-within = go (active_in cs s) refl
    where
      go : (x : Option ℕ) → active_in cs s ≡ x → Within binary64 (value_in cs s) (greatest_bound cs end)
      go (Some i) e = within-mono binary64 (value_in cs s) (bound_at cs end i) (greatest_bound cs end) (active-within r i e) greatest-real.bound (bound-under i (active-at cs s i e).below)
      go None e = subst (λ (v : Float). Within binary64 v (greatest_bound cs end)) (sym (value_none cs s e)) (zero-within (greatest_bound cs end) greatest-real)

-- ---- Horner

add_nothing : (z c G : Float) → Real binary64 z → mag binary64 z ≡ 0 → Within binary64 c G → Within binary64 (z ⊕ c) G
add_nothing z c G r e w =
    let b = is-bounded binary64 (z ⊕ c) (pl binary64 z + pl binary64 c) (mi binary64 z + mi binary64 c) 1 (mag binary64 c) (pow_pos 0) (add-Is binary64 z c r w.value) (plus (mag_is binary64 z) (mag_is binary64 c)) (minus (mag_is binary64 z) (mag_is binary64 c)) (lt_of_le_of_lt (le_of_eq f) (under binary64 c w.value)) in
    record { value = b.0; bound = w.bound; plus = w.plus; le = le_trans b.1 (le_trans (le_of_eq f) w.le) }
  where
    f : rnd binary64 (mag binary64 c) 1 ≡ mag binary64 c
    f = fixed binary64 c w.value

    plus : mag binary64 z ≡ pl binary64 z + mi binary64 z → mag binary64 c ≡ pl binary64 c + mi binary64 c → pl binary64 z + pl binary64 c - (mi binary64 z + mi binary64 c) ≤ mag binary64 c
    plus m n = omega arith

    minus : mag binary64 z ≡ pl binary64 z + mi binary64 z → mag binary64 c ≡ pl binary64 c + mi binary64 c → mi binary64 z + mi binary64 c - (pl binary64 z + pl binary64 c) ≤ mag binary64 c
    minus m n = omega arith

nothing-finite : T (finite (zero64 ⊗ farthest_across))
unfolding of_bits mul
nothing-finite = tt

nothing_is : pl binary64 (zero64 ⊗ farthest_across) ≡ 0
unfolding of_bits mul pl
nothing_is = refl

none : (m p : ℕ) → m ≤ p → p ≡ 0 → m ≡ 0
none m p h e = omega arith

-- from the test that a program makes on the bounds G0 to G3, as `strip_limited` does
pub horner-within :
    (c0 c1 c2 c3 G0 G1 G2 G3 u limit : Float) → Within binary64 c0 G0 → Within binary64 c1 G1 → Within binary64 c2 G2 → Within binary64 c3 G3 → Within binary64 u farthest_across
    → Real binary64 limit → T (le (times_farthest (times_farthest (times_farthest G3 ⊕ G2) ⊕ G1) ⊕ G0) limit)
    → Within binary64 ((((zero64 ⊗ u ⊕ c3) ⊗ u ⊕ c2) ⊗ u ⊕ c1) ⊗ u ⊕ c0) limit
horner-within c0 c1 c2 c3 G0 G1 G2 G3 u limit w0 w1 w2 w3 wu r h =
    let P2 = times_farthest G3 ⊕ G2 in
    let P1 = times_farthest P2 ⊕ G1 in
    let P0 = times_farthest P1 ⊕ G0 in
    let k = nn-of-mi farthest_across (const-real _ tt) (const-plus _ tt) in
    let n2 = add-nn binary64 (times_farthest G3) G2 (mul-nn binary64 G3 farthest_across (nn-of-mi G3 w3.bound w3.plus) k) (nn-of-mi G2 w2.bound w2.plus) in
    let n1 = add-nn binary64 (times_farthest P2) G1 (mul-nn binary64 P2 farthest_across n2 k) (nn-of-mi G1 w1.bound w1.plus) in
    let n0 = add-nn binary64 (times_farthest P1) G0 (mul-nn binary64 P1 farthest_across n1 k) (nn-of-mi G0 w0.bound w0.plus) in
    let t0 = fin-of_le P0 limit n0 r.finite h in
    let f1 = (add-fin binary64 (times_farthest P1) G0 t0).0 in
    let t1 = (mul-fin binary64 P1 farthest_across f1).0 in
    let f2 = (add-fin binary64 (times_farthest P2) G1 t1).0 in
    let t2 = (mul-fin binary64 P2 farthest_across f2).0 in
    let f3 = (add-fin binary64 (times_farthest G3) G2 t2).0 in
    let z = mul-within binary64 zero64 u zero64 farthest_across zero-own wu nothing-finite in
    let h3 = zero64 ⊗ u ⊕ c3 in
    let h2 = h3 ⊗ u ⊕ c2 in
    let h1 = h2 ⊗ u ⊕ c1 in
    let v3 = add_nothing (zero64 ⊗ u) c3 G3 z.value (none (mag binary64 (zero64 ⊗ u)) (pl binary64 (zero64 ⊗ farthest_across)) z.le nothing_is) w3 in
    let v2 = add-within binary64 (h3 ⊗ u) c2 (times_farthest G3) G2 (mul-within binary64 h3 u G3 farthest_across v3 wu f3) w2 t2 in
    let v1 = add-within binary64 (h2 ⊗ u) c1 (times_farthest P2) G1 (mul-within binary64 h2 u P2 farthest_across v2 wu f2) w1 t1 in
    let v0 = add-within binary64 (h1 ⊗ u) c0 (times_farthest P1) G0 (mul-within binary64 h1 u P1 farthest_across v1 wu f1) w0 t0 in
    within-mono binary64 (h1 ⊗ u ⊕ c0) P0 limit v0 r h
