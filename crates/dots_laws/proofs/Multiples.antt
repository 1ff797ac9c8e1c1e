-- The multiples of a spacing: each is an f32 from 0 on, and they never fall, with no bound on k: past the largest f32 stands +∞. So those that are at most a length are the leading ones, all of them (`multiples-are`).
use Prim.Native.Nat.{ℕ, ◌≤◌, ◌<◌}
use native.Mathlib.Nat.{lt_irrefl, zero-add}
use native.Mathlib.Omega.{arith}
use mathlib.Core.Path.{◌≡◌, refl, sym, ap, ◌∙◌, subst}
use mathlib.Core.Logic.{inl, inr}
use mathlib.Core.Bool.{Bool, true, false, cond}
use lib.IntN.{pos}
use lib.Dec.{T, ltb, eqb, eqb→eq, not_T}
use lib.Pow.{pow_pos}
use lib.Ieee.{Float, nan, inf, fin, binary32, le, lt, eq, mul, of_int}
use lib.Ieee.Bits.{is_false}
use lib.Ieee.Fits.{mul-fits, of_int-fits}
use lib.Ieee.Order.{round_mono}
use lib.Ieee.Scale.{finite}
use borrow.Author.Tests.{ltb-true, ltb-false}
use Rattle.std.proofs.lemmas.Float.{le_trans as float_trans}
use Rattle.float_laws.specs.Binary32.{◌⊗◌}
use Rattle.float_laws.proofs.Value.{pl, mi, Real}
use Rattle.float_laws.proofs.Size.{mul-fin}
use Rattle.float_laws.proofs.Interval.{nil, from_zero, finite-between}
use Rattle.tracks.specs.Poses.{leading_from}
use Rattle.tracks_laws.specs.TrackLaws.{IsF32}
use Rattle.tracks_laws.proofs.Leading.{lead-below, lead-at, parts_at-lead}
use Rattle.dots.specs.Dots.{multiple, most_multiples, multiples}
use Rattle.dots_laws.proofs.Orders.{Counted, counted_le, round-counted, digits, mul-counted, mul_order, mul_plus}

-- ---- a whole number as an f32

abbrev whole : ℕ → Float
whole k = of_int binary32 (pos k)

whole-counted : (k : ℕ) → Counted (whole k)
unfolding of_int
whole-counted k = round-counted binary32 k 1

whole_rise : (k l : ℕ) → k ≤ l → T (le (whole k) (whole l))
unfolding of_int
whole_rise k l h = round_mono binary32 k 1 l 1 (pow_pos 0) (pow_pos 0) (omega arith)

whole-none : whole 0 ≡ nil
unfolding of_int
whole-none = refl

whole-plus : (k : ℕ) → T (le nil (whole k))
whole-plus k = subst (λ (x : Float). T (le x (whole k))) whole-none (whole_rise 0 k (omega arith))

-- ---- times the spacing, which is above zero

infinite : (s : Float) → T (finite s) → 0 < pl binary32 s → inf false ⊗ s ≡ inf false
unfolding mul pl
infinite nan t o = absurd t
infinite (inf s) t o = absurd t
infinite (fin true n d) t o = absurd (lt_irrefl 0 o)
infinite (fin false n d) t o = go (eqb n 0) (eqb→eq n 0)
  where
    go : (b : Bool) → (T b → n ≡ 0) → cond b nan (inf false) ≡ inf false
    go true h = absurd (digits binary32 n d o (h tt))
    go false h = refl

module _ (s : Float) (rs : Real binary32 s) (o : 0 < pl binary32 s) (z : mi binary32 s ≡ 0) where
  real : (x : Float) → IsF32 x → T (finite x) → Real binary32 x
  real x f t = record { finite = t; fits = f }

  times-counted : (x : Float) → IsF32 x → Counted x → T (le nil x) → Counted (x ⊗ s)
  times-counted x f (inr e) h = subst (λ (w : Float). Counted (w ⊗ s)) (sym e) (inr (infinite s rs.finite o))
  times-counted x f (inl t) h = let r = real x f t in mul-counted binary32 x s r (from_zero binary32 x r h) rs o

  times-plus : (x : Float) → IsF32 x → Counted (x ⊗ s) → T (le nil x) → T (le nil (x ⊗ s))
  unfolding le lt eq
  times-plus x f (inr e) h = subst (λ (w : Float). T (le nil w)) (sym e) tt
  times-plus x f (inl t) h = let r = real x f (mul-fin binary32 x s t).0 in mul_plus binary32 x s r (from_zero binary32 x r h) rs z t

  times_rise : (x y : Float) → IsF32 x → IsF32 y → Counted (x ⊗ s) → Counted (y ⊗ s) → T (le nil x) → T (le x y) → T (le (x ⊗ s) (y ⊗ s))
  times_rise x y f g c (inr e) h k = subst (λ (w : Float). T (le (x ⊗ s) w)) (sym e) (counted_le (x ⊗ s) c)
  times_rise x y f g c (inl t) h k =
      let u = (mul-fin binary32 y s t).0 in
      let r = real x f (finite-between nil x y tt u h k) in
      mul_order binary32 x y s r (from_zero binary32 x r h) (real y g u) rs z k t

  fits-whole : (k : ℕ) → IsF32 (whole k)
  fits-whole k = of_int-fits binary32 (pos k)

  counted : (k : ℕ) → Counted (multiple s k)
  counted k = times-counted (whole k) (fits-whole k) (whole-counted k) (whole-plus k)

  pub multiple-fits : (k : ℕ) → IsF32 (multiple s k)
  multiple-fits k = mul-fits binary32 (whole k) s

  pub multiple-plus : (k : ℕ) → T (le nil (multiple s k))
  multiple-plus k = times-plus (whole k) (fits-whole k) (counted k) (whole-plus k)

  pub multiple_rise : (k l : ℕ) → k ≤ l → T (le (multiple s k) (multiple s l))
  multiple_rise k l h = times_rise (whole k) (whole l) (fits-whole k) (fits-whole l) (counted k) (counted l) (whole-plus k) (whole_rise k l h)

  -- ---- those up to a length

  -- up to the 65,537th, whether or not there are more
  pub multiples-first : (len : Float) (k : ℕ) → k ≤ most_multiples → le (multiple s k) len ≡ ltb k (multiples s len)
  unfolding multiples
  multiples-first len k h = parts_at-lead (multiple s) 65537 (λ i j g l. multiple_rise i j g) len k (omega arith)

  -- all
  pub multiples-are : (len : Float) → multiples s len ≤ most_multiples → (k : ℕ) → le (multiple s k) len ≡ ltb k (multiples s len)
  unfolding multiples
  multiples-are len few k = go (ltb k (leading_from (multiple s) len 0 65537)) refl
    where
      go : (b : Bool) → ltb k (leading_from (multiple s) len 0 65537) ≡ b → le (multiple s k) len ≡ b
      go true e = ap (λ (i : ℕ). le (multiple s i) len) (sym (zero-add k)) ∙ lead-below (multiple s) len 0 65537 k (ltb-true k (leading_from (multiple s) len 0 65537) e)
      go false e =
          let L = leading_from (multiple s) len 0 65537 in
          let m = multiple_rise L k (ltb-false k L e) in
          is_false (le (multiple s k) len) (not_T (le (multiple s k) len) (λ t. subst T (ap (λ (i : ℕ). le (multiple s i) len) (sym (zero-add L)) ∙ lead-at (multiple s) len 0 65537 (omega arith)) (float_trans (multiple s L) (multiple s k) len m t)))
