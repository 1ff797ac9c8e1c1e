-- How large a cross section's height can be: a strip's by Horner's rule over the sizes of its terms, and past the inner strip's width the sum of two strips'.
-- The idea of the second: where the outer strip counts, the inner one's edge lies between the ridge and t, so each strip is asked for no farther out than t. Over the format where no definition is named.
use mathlib.Core.Path.{◌≡◌, refl, sym, subst}
use mathlib.Core.Logic.{◌⊎◌, inl, inr}
use Prim.Native.Nat.{ℕ, ◌+◌, ◌*◌, ◌^◌, ◌≤◌, ◌<◌, zero-le}
use native.Mathlib.Nat.{le_trans, le_of_eq, mul-le-mul_right}
use native.Mathlib.Omega.{arith}
use mathlib.Core.Bool.{Bool, true, false, cond}
use lib.Dec.{T}
use lib.Pow.{pow_pos}
use lib.Ieee.{Float, nan, inf, fin, Format, binary64, low, lt, le, add, sub, mul, fits, of_bits}
use lib.Ieee.Fits.{add-fits}
use lib.Ieee.Scale.{finite, overflow}
use Rattle.float_laws.specs.Binary64.{◌⊕◌, ◌⊖◌, ◌⊗◌, zero64}
use Rattle.float_laws.proofs.Units.{rnd-zero}
use Rattle.float_laws.proofs.Value.{mag, pl, mi, Real, mag_is, one_side, under, lt→units}
use Rattle.float_laws.proofs.Operation.{differ-le, mul-differ, add-Is, sub-Is, mul-Is}
use Rattle.float_laws.proofs.Size.{Within, is-bounded, add-within, mul-within, le_of-within, within-mono, add-fin, mul-fin, nn, nn-of_le, add-nn, mul-nn, fin-of_le}
use Rattle.float_laws.proofs.Exact.{fixed, add-grow-l}
use Rattle.float_laws.proofs.Checker.{good-real}
use Rattle.std.specs.declared.option.Option.{Option}
use Rattle.std.specs.declared.option.Option.TheVariants.{Some, None}
use Rattle.records_cubic.specs.Cubics.{cubic_at, eval_at}
use Rattle.records.specs.Active.{active_in, value_in}
use Rattle.records.specs.Roads.{Road, Strip, StripDef, absent, present, strip_at}
use Rattle.arithmetic_ranges.specs.Ranges.{width_or_zero}
use Rattle.lanes.specs.Lateral.{term_at, strip_height, outer_height, past_width, by_width, by_side, is_left, cross_by, cross_height}
use Rattle.lanes.specs.Sides.{sign_of}
use Rattle.lanes_borders.proofs.Outward.{fore, back, SideSign, turned}
use Rattle.lanes_borders.proofs.BorderLaws.{sign-whole}
use Rattle.lanes_laws.proofs.StationBounds.{zero-within}

-- ---- a strip by its terms

-- nothing times x is nothing, and nothing more than y is no larger than y
zero-times : (f : Format) (z x : Float) → Real f z → mag f z ≤ 0 → Real f x → Real f (mul f z x) × (mag f (mul f z x) ≤ 0)
zero-times f z x rz h rx =
    let L = 2 ^ low f in
    let d = differ-le _ _ _ (mul-differ f z x) in
    let g : mag f z * mag f x ≤ 0 = le_trans (mul-le-mul_right (mag f x) h) (let o : 0 * mag f x ≤ 0 = omega arith in o) in
    let e = rnd-zero f L (pow_pos (low f)) in
    let u = under f z rz in
    let b = is-bounded f (mul f z x) _ _ L 0 (pow_pos (low f)) (mul-Is f z x rz rx) (le_trans d.0 g) (le_trans d.1 g) (subst (λ (k : ℕ). k < overflow f) (sym e) (let o : 0 < overflow f = omega arith in o)) in
    (b.0, le_trans b.1 (le_of_eq e))

nothing-more : (f : Format) (x y A : Float) → Real f x → mag f x ≤ 0 → Within f y A → Within f (add f x y) A
nothing-more f x y A r z w =
    let m = mag_is f x in
    let n = mag_is f y in
    let e = fixed f y w.value in
    let b = is-bounded f (add f x y) (pl f x + pl f y) (mi f x + mi f y) 1 (mag f y) (pow_pos 0) (add-Is f x y r w.value) (omega arith) (omega arith) (subst (λ (k : ℕ). k < overflow f) (sym e) (under f y w.value)) in
    record { value = b.0; bound = w.bound; plus = w.plus; le = le_trans b.1 (le_trans (le_of_eq e) w.le) }

-- the sum of the terms' sizes, dt at most R
abbrev pub horner : Float → Float → Float → Float → Float → Float
horner c3 c2 c1 c0 R = ((c3 ⊗ R ⊕ c2) ⊗ R ⊕ c1) ⊗ R ⊕ c0

zero-real : Real binary64 zero64 × (mag binary64 zero64 ≤ 0)
unfolding of_bits fits mag
zero-real = (good-real binary64 zero64 tt, zero-le)

-- a strip whose terms are within T3, T2, T1 and T0, dt across it
pub strip-within :
    (d : StripDef) (s dt T3 T2 T1 T0 R : Float) → Within binary64 (term_at d s 3) T3 → Within binary64 (term_at d s 2) T2 → Within binary64 (term_at d s 1) T1 → Within binary64 (term_at d s 0) T0
    → Within binary64 dt R → T (finite (horner T3 T2 T1 T0 R)) → Within binary64 (strip_height d s dt) (horner T3 T2 T1 T0 R)
unfolding strip_height
strip-within d s dt T3 T2 T1 T0 R w3 w2 w1 w0 wd t =
    let z = zero-times binary64 zero64 dt zero-real.0 zero-real.1 wd.value in
    let t1 = (add-fin binary64 _ T0 t).0 in
    let t2 = (mul-fin binary64 _ R t1).0 in
    let t3 = (add-fin binary64 _ T1 t2).0 in
    let t4 = (mul-fin binary64 _ R t3).0 in
    let t5 = (add-fin binary64 _ T2 t4).0 in
    let h3 = nothing-more binary64 (zero64 ⊗ dt) (term_at d s 3) T3 z.0 z.1 w3 in
    let h2 = add-within binary64 _ _ _ _ (mul-within binary64 _ _ _ _ h3 wd t5) w2 t4 in
    let h1 = add-within binary64 _ _ _ _ (mul-within binary64 _ _ _ _ h2 wd t3) w1 t2 in
    add-within binary64 _ _ _ _ (mul-within binary64 _ _ _ _ h1 wd t1) w0 t

-- what bounds a strip's term, or how far out it is asked for, has no minus
pub nn-of : (x A : Float) → Within binary64 x A → T (nn A)
nn-of x A w = let l = le_of-within binary64 x A w in nn-of_le binary64 x A w.value.fits w.bound.fits l.0 l.1

-- the same by the test of admission: that sum is at most H
pub strip-admitted :
    (d : StripDef) (s dt T3 T2 T1 T0 R H : Float) → Within binary64 (term_at d s 3) T3 → Within binary64 (term_at d s 2) T2 → Within binary64 (term_at d s 1) T1 → Within binary64 (term_at d s 0) T0
    → Within binary64 dt R → Real binary64 H → T (le (horner T3 T2 T1 T0 R) H) → Within binary64 (strip_height d s dt) H
strip-admitted d s dt T3 T2 T1 T0 R H w3 w2 w1 w0 wd r h =
    let times : (x : Float) → T (nn x) → T (nn (x ⊗ R)) = λ x n. mul-nn binary64 x R n (nn-of dt R wd) in
    let n2 = add-nn binary64 _ _ (times T3 (nn-of _ _ w3)) (nn-of _ _ w2) in
    let n1 = add-nn binary64 _ _ (times (T3 ⊗ R ⊕ T2) n2) (nn-of _ _ w1) in
    let n0 = add-nn binary64 _ _ (times ((T3 ⊗ R ⊕ T2) ⊗ R ⊕ T1) n1) (nn-of _ _ w0) in
    let t = fin-of_le (horner T3 T2 T1 T0 R) H n0 r.finite h in
    within-mono binary64 (strip_height d s dt) (horner T3 T2 T1 T0 R) H (strip-within d s dt T3 T2 T1 T0 R w3 w2 w1 w0 wd t) r h

-- ---- the edge o * w between 0 and t, and the way from it to t, where o is 1 or -1
module _ (f : Format) where
  rest-within : (t e R : Float) → Within f t R → Real f e → pl f e ≤ pl f t → mi f e ≤ mi f t → Within f (sub f t e) R
  rest-within t e R w r h k =
      let m = mag_is f t in
      let a = fixed f t w.value in
      let b = is-bounded f (sub f t e) (pl f t + mi f e) (mi f t + pl f e) 1 (mag f t) (pow_pos 0) (sub-Is f t e w.value r) (omega arith) (omega arith) (subst (λ (n : ℕ). n < overflow f) (sym a) (under f t w.value)) in
      record { value = b.0; bound = w.bound; plus = w.plus; le = le_trans b.1 (le_trans (le_of_eq a) w.le) }

  smaller : (t e R : Float) → Within f t R → Real f e → pl f e ≤ pl f t → mi f e ≤ mi f t → Within f e R
  smaller t e R w r h k =
      let m = mag_is f t in
      let n = mag_is f e in
      let l = w.le in
      record { value = r; bound = w.bound; plus = w.plus; le = omega arith }

  edge-within : (right : Bool) (o t w R : Float) → SideSign f right o → Within f t R → Real f w → mi f w ≡ 0 → T (lt w (mul f o t)) → Within f (mul f o w) R × Within f (sub f t (mul f o w)) R
  edge-within right o t w R so wt rw zw h =
      let x = turned f right o t so wt.value in
      let y = turned f right o w so rw in
      let b = no-farther right x.outward x.inward y.outward y.inward (lt→units f w (mul f o t) rw x.value h) in
      (smaller t (mul f o w) R wt y.value b.0 b.1, rest-within t (mul f o w) R wt y.value b.0 b.1)
    where
      no-farther :
          (right : Bool) → fore f right (mul f o t) ≡ pl f t → back f right (mul f o t) ≡ mi f t → fore f right (mul f o w) ≡ pl f w → back f right (mul f o w) ≡ mi f w
          → pl f w + mi f (mul f o t) < pl f (mul f o t) + mi f w → (pl f (mul f o w) ≤ pl f t) × (mi f (mul f o w) ≤ mi f t)
      no-farther false a b c d l = (omega arith, omega arith)
      no-farther true a b c d l = (omega arith, omega arith)

-- ---- the inner strip's width, where t lies past it
finite-lt : (x v y : Float) → T (finite x) → T (finite y) → T (lt x v) → T (lt v y) → T (finite v)
unfolding lt
finite-lt nan v y a b h k = absurd a
finite-lt (inf s) v y a b h k = absurd a
finite-lt (fin s m e) nan y a b h k = absurd k
finite-lt (fin s m e) (inf true) y a b h k = absurd h
finite-lt (fin s m e) (inf false) nan a b h k = absurd b
finite-lt (fin s m e) (inf false) (inf t) a b h k = absurd b
finite-lt (fin s m e) (inf false) (fin t n d) a b h k = absurd k
finite-lt (fin s m e) (fin q n d) y a b h k = tt

zero-parts : (pl binary64 zero64 ≡ 0) × (mi binary64 zero64 ≡ 0)
unfolding of_bits pl mi
zero-parts = (refl, refl)

-- what is above zero has no minus part
above_zero : (p n z z' : ℕ) → z ≡ 0 → z' ≡ 0 → (p ≡ 0) ⊎ (n ≡ 0) → z + n < p + z' → n ≡ 0
above_zero p n z z' e e' (inl q) h = absurd (omega arith)
above_zero p n z z' e e' (inr q) h = q

width-real : (v y : Float) → T (fits binary64 v) → T (finite y) → T (lt (width_or_zero v) y) → Real binary64 (width_or_zero v) × (mi binary64 (width_or_zero v) ≡ 0)
width-real v y g t = go (lt zero64 v) (λ h. h)
  where
    go : (b : Bool) → (T b → T (lt zero64 v)) → T (lt (cond b v zero64) y) → Real binary64 (cond b v zero64) × (mi binary64 (cond b v zero64) ≡ 0)
    go true h k =
        let r : Real binary64 v = record { finite = finite-lt zero64 v y zero-real.0.finite t (h tt) k; fits = g } in
        let l = lt→units binary64 zero64 v zero-real.0 r (h tt) in
        (r, above_zero (pl binary64 v) (mi binary64 v) (pl binary64 zero64) (mi binary64 zero64) zero-parts.0 zero-parts.1 (one_side binary64 v) l)
    go false h k = (zero-real.0, zero-parts.1)

-- ---- the cross section
-- the strip d is within H at s, as far out as R
abbrev pub StripWithin : Float → Float → Float → StripDef → Type 0
StripWithin s R H d = (dt : Float) → Within binary64 dt R → Within binary64 (strip_height d s dt) H

module _ (s t R H : Float) (wt : Within binary64 t R) (r_h : Real binary64 H) (z_h : mi binary64 H ≡ 0) (total : T (finite (H ⊕ H))) where
  twice : (x : Float) → Within binary64 x H → Within binary64 x (H ⊕ H)
  twice x w = within-mono binary64 x H (H ⊕ H) w (record { finite = total; fits = add-fits binary64 H H }) (add-grow-l binary64 H H r_h r_h z_h total)

  outer-within : (inner outer : StripDef) (o w : Float) → StripWithin s R H inner → StripWithin s R H outer → Within binary64 (o ⊗ w) R → Within binary64 (t ⊖ o ⊗ w) R → Within binary64 (outer_height inner outer s t o w) (H ⊕ H)
  outer-within inner outer o w ki ko we wr = add-within binary64 _ _ _ _ (base outer.relative) (ko (t ⊖ o ⊗ w) wr) total
    where
      base : (b : Bool) → Within binary64 (cond b (strip_height inner s (o ⊗ w)) zero64) H
      base true = ki (o ⊗ w) we
      base false = zero-within H r_h z_h

  past-within : (inner : StripDef) (outer : Strip) (right : Bool) (v : Float) → T (fits binary64 v) → StripWithin s R H inner → ((d : StripDef) → outer ≡ present d → StripWithin s R H d)
      → Within binary64 (past_width inner outer s t (sign_of right) (width_or_zero v)) (H ⊕ H)
  past-within inner absent right v g ki ko = twice (strip_height inner s t) (ki t wt)
  past-within inner (present d) right v g ki ko = go (lt (width_or_zero v) (o ⊗ t)) (λ h. h)
    where
      o : Float
      o = sign_of right

      go : (b : Bool) → (T b → T (lt (width_or_zero v) (o ⊗ t))) → Within binary64 (cond b (outer_height inner d s t o (width_or_zero v)) (strip_height inner s t)) (H ⊕ H)
      go true h =
          let r = width-real v (o ⊗ t) g (turned binary64 right o t (sign-whole right) wt.value).value.finite (h tt) in
          let e = edge-within binary64 right o t (width_or_zero v) R (sign-whole right) wt r.0 r.1 (h tt) in
          outer-within inner d o (width_or_zero v) ki (ko d refl) e.0 e.1
      go false h = twice (strip_height inner s t) (ki t wt)

  width-within : (inner : StripDef) (outer : Strip) (right : Bool) (f : Option ℕ) → StripWithin s R H inner → ((d : StripDef) → outer ≡ present d → StripWithin s R H d)
      → Within binary64 (by_width inner outer s t (sign_of right) f) (H ⊕ H)
  width-within inner outer right (Some k) ki ko = past-within inner outer right (eval_at (cubic_at inner.width k) s) (add-fits binary64 _ _) ki ko
  width-within inner outer right None ki ko = twice (strip_height inner s t) (ki t wt)

  side-within : (inner outer : Strip) (right : Bool) → ((d : StripDef) → inner ≡ present d → StripWithin s R H d) → ((d : StripDef) → outer ≡ present d → StripWithin s R H d)
      → Within binary64 (by_side inner outer s t (sign_of right)) (H ⊕ H)
  side-within absent outer right ki ko = twice zero64 (zero-within H r_h z_h)
  side-within (present d) outer right ki ko = width-within d outer right (active_in d.width s) (ki d refl) ko

  pub cross_by-within : (road : Road) (left : Bool) → ((i : ℕ) (d : StripDef) → strip_at road i ≡ present d → StripWithin s R H d) → Within binary64 (cross_by road s t left) (H ⊕ H)
  cross_by-within road true k = side-within (strip_at road 0) (strip_at road 1) false (k 0) (k 1)
  cross_by-within road false k = side-within (strip_at road 2) (strip_at road 3) true (k 2) (k 3)

-- strips within H as far out as R, and t so far off the ridge: within H and H
pub cross-within :
    (road : Road) (s t toward R H : Float) → Within binary64 (t ⊖ value_in road.tshifts s) R → Real binary64 H → mi binary64 H ≡ 0 → T (finite (H ⊕ H))
    → ((i : ℕ) (d : StripDef) → strip_at road i ≡ present d → StripWithin s R H d) → Within binary64 (cross_height road s t toward) (H ⊕ H)
unfolding cross_height
cross-within road s t toward R H w r z f k =
    let shifted = t ⊖ value_in road.tshifts s in cross_by-within s shifted R H w r z f road (is_left shifted toward) k
