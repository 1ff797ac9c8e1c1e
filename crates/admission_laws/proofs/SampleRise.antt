-- The distances of an admitted spiral's samples rise strictly, from 0 on, and the spiral is at most 500 long.
-- Before the end more than 2 ^ -31 is left, since 1e-9 is more than that and the error of taking it away; so a step is at least 2 ^ -31, and a distance below 512 changes by it.
-- After the last step the test of going on fails, so the length less 1e-9 is at most the last distance, 499.75.
use mathlib.Core.Path.{◌≡◌, refl, sym, ap, ◌∙◌, subst}
use Prim.Native.Nat.{ℕ, zero, suc, ◌+◌, ◌-◌, ◌*◌, ◌^◌, ◌≤◌, ◌<◌}
use native.Mathlib.Nat.{le_trans, le_of_eq, lt_of_le_of_lt, not-suc-le-zero, le_of_suc-le-suc}
use native.Mathlib.Omega.{arith}
use mathlib.Core.Bool.{Bool, true, false, not, cond}
use mathlib.Core.List.{List, ◌∷◌}
use lib.ListN.{get_or}
use lib.Dec.{T, T_not, lit<, lit≤}
use lib.Pow.{pow_pos}
use lib.Ieee.{Float, Format, prec, binary64, of_bits, fits, le, lt, add, sub}
use lib.Ieee.Scale.{finite}
use Rattle.std.proofs.lemmas.Float.{le_trans as float_trans}
use Rattle.float_laws.specs.Binary64.{◌⊕◌, ◌⊖◌, zero64}
use Rattle.float_laws.proofs.Units.{rnd, rnd-err, rnd-le, rnd-pow, rnd-zero}
use Rattle.float_laws.proofs.Value.{Real, pl, mi, nle→le, units→le, lt→units, nlt→units, units→lt}
use Rattle.float_laws.proofs.Operation.{add-Is, sub-Is}
use Rattle.float_laws.proofs.Interval.{le→parts}
use Rattle.float_laws.proofs.Size.{Within}
use Rattle.float_laws.proofs.Order.{sub-mono}
use Rattle.float_laws.proofs.Checker.{good-real}
use Rattle.arithmetic_sine.specs.Sine.{one}
use Rattle.records.specs.declared.points.GeomRec.{GeomRec}
use Rattle.records.specs.declared.points.GeomShape.TheVariants.{Spiral}
use Rattle.line_samples.specs.declared.points.Sample.{Sample}
use Rattle.line_samples.specs.Samples.{end_margin, goes_on, whole_step, step_at, steps_from, most_steps, spiral_steps, first_sample, next_sample, later_samples, geom_samples}
use Rattle.line_samples.proofs.SpiralLaws.{samples-are, samples-next}
use Rattle.admission_laws.proofs.Constants.{const-at_least, const-real}
use Rattle.admission_laws.proofs.RoadBounds.{GeomWithin}
use Rattle.admission_laws.proofs.Powers.{Plus, sub-plus}
use Rattle.admission.specs.Limits.{greatest_geom_length}
use Rattle.admission_laws.proofs.SampleBounds.{quarter-plus, nano-plus, not_below_zero_lem, length-plus, nano-below, sample-end, five-hundred, SampleWithin, sample-within}

-- ---- one step, in any format: what is left is at least 2 ^ s units, and the distance changes by it
gap : (u r n l v S E : ℕ) → u < r → r * 1 * 2 ≤ n * 2 + E * 1 → n ≡ l - v → v ≤ l → E + 2 * S ≤ 2 * v → u + S ≤ l
gap u r n l v S E h k e g c = omega arith

moves : (u S r E : ℕ) → (u + S) * 2 ≤ r * 1 * 2 + E * 1 → E < 2 * S → u < r
moves u S r E h c = omega arith

module _ (f : Format) (len u v q : Float) (s J K : ℕ) (rl : Real f len) (zl : mi f len ≡ 0) (ru : Real f u) (zu : mi f u ≡ 0) (pv : Plus f v (pl f len)) (rq : Real f q) (zq : mi f q ≡ 0) (hq : 2 ^ s ≤ pl f q)
    (long : pl f len < 2 ^ J) (near : pl f u + 2 ^ s < 2 ^ K) (more : 2 ^ (J - prec f) + 2 * 2 ^ s ≤ 2 * pl f v) (fine : 2 ^ (K - prec f) < 2 * 2 ^ s) where
  left : T (lt u (sub f len v)) → pl f u + 2 ^ s ≤ pl f len
  left t =
      let d = sub-plus f len v rl zl pv in
      let i = sub-Is f len v rl pv.value in
      let n = pl f len + mi f v - (mi f len + pl f v) in
      let zv = pv.plus in
      let lv = pv.le in
      let e : n ≡ pl f len - pl f v = omega arith in
      let p = i.plus d.value.finite in
      let w = rnd-err f n 1 J (pow_pos 0) (let o : n < 2 ^ J * 1 = omega arith in o) in
      let h = lt→units f u (sub f len v) ru d.value t in
      let z = d.plus in
      gap (pl f u) (rnd f n 1) n (pl f len) (pl f v) (2 ^ s) (2 ^ (J - prec f)) (let o : pl f u < rnd f n 1 = omega arith in o) w.0 e lv more

  step-large : pl f u + 2 ^ s ≤ pl f len → Real f (cond (lt (sub f len u) q) (sub f len u) q) × (mi f (cond (lt (sub f len u) q) (sub f len u) q) ≡ 0) × (2 ^ s ≤ pl f (cond (lt (sub f len u) q) (sub f len u) q))
  step-large h =
      let d = sub-plus f len u rl zl (record { value = ru; plus = zu; le = (let o : pl f u ≤ pl f len = omega arith in o) }) in
      let i = sub-Is f len u rl ru in
      let p = i.plus d.value.finite in
      let n = pl f len + mi f u - (mi f len + pl f u) in
      let k : 2 ^ s * 1 ≤ n = omega arith in
      let l : 2 ^ s ≤ pl f (sub f len u) = le_trans (le_of_eq (sym (rnd-pow f 1 s (pow_pos 0)))) (le_trans (rnd-le f (2 ^ s * 1) n 1 (pow_pos 0) k) (le_of_eq (sym p))) in
      go (lt (sub f len u) q) d.value d.plus l
    where
      go : (b : Bool) → Real f (sub f len u) → mi f (sub f len u) ≡ 0 → 2 ^ s ≤ pl f (sub f len u) → Real f (cond b (sub f len u) q) × (mi f (cond b (sub f len u) q) ≡ 0) × (2 ^ s ≤ pl f (cond b (sub f len u) q))
      go true r z l = (r, z, l)
      go false r z l = (rq, zq, hq)

  risen : (w : Float) → Real f w → mi f w ≡ 0 → 2 ^ s ≤ pl f w → Real f (add f u w) → T (lt u (add f u w))
  risen w rw zw hw r =
      let i = add-Is f u w ru rw in
      let n = pl f u + pl f w - (mi f u + mi f w) in
      let p = i.plus r.finite in
      let e : mi f u + mi f w - (pl f u + pl f w) ≡ 0 = omega arith in
      let m : mi f (add f u w) ≡ 0 = i.minus r.finite ∙ ap (λ (k : ℕ). rnd f k 1) e ∙ rnd-zero f 1 (pow_pos 0) in
      let k = rnd-le f (pl f u + 2 ^ s) n 1 (pow_pos 0) (let o : pl f u + 2 ^ s ≤ n = omega arith in o) in
      let b = rnd-err f (pl f u + 2 ^ s) 1 K (pow_pos 0) (let o : pl f u + 2 ^ s < 2 ^ K * 1 = omega arith in o) in
      let g = moves (pl f u) (2 ^ s) (rnd f (pl f u + 2 ^ s) 1) (2 ^ (K - prec f)) b.1 fine in
      units→lt f u (add f u w) ru r (let o : pl f u + mi f (add f u w) < pl f (add f u w) + mi f u = omega arith in o)

  rises : T (lt u (sub f len v)) → Real f (add f u (cond (lt (sub f len u) q) (sub f len u) q)) → T (lt u (add f u (cond (lt (sub f len u) q) (sub f len u) q)))
  rises t r = let w = step-large (left t) in risen (cond (lt (sub f len u) q) (sub f len u) q) w.0 w.1 w.2 r

-- ---- the constants
nano-large : 2 ^ (1088 - 53) + 2 * 2 ^ 1043 ≤ 2 * pl binary64 end_margin
unfolding of_bits pl
nano-large = lit≤ tt

ten-thousand-small : pl binary64 greatest_geom_length < 2 ^ 1088
unfolding of_bits pl
ten-thousand-small = lit< tt

end-small : pl binary64 sample-end + 2 ^ 1043 < 2 ^ 1083
unfolding of_bits pl
end-small = lit< tt

under : (a b c d : ℕ) → a ≤ b → b + c < d → a + c < d
under a b c d h k = omega arith

-- ---- where a step is made the test of going on has passed, and after the last it has not
module _ (g : GeomRec) (k0 k1 : Float) where
  goes : (m : ℕ) (more : Bool) (p : Sample) (i : ℕ) (d : Sample) → more ≡ goes_on g.length p.distance → i < steps_from m more g.length p.distance
      → T (goes_on g.length (get_or (p ∷ later_samples g k0 k1 (steps_from m more g.length p.distance) p) i d).distance)
  unfolding steps_from later_samples next_sample
  goes zero more p i d e h = absurd (not-suc-le-zero h)
  goes (suc m) false p i d e h = absurd (not-suc-le-zero h)
  goes (suc m) true p zero d e h = subst T e tt
  goes (suc m) true p (suc i) d e h = let q = next_sample g k0 k1 p in goes m (goes_on g.length q.distance) q i d refl (le_of_suc-le-suc h)

  ends : (m : ℕ) (more : Bool) (p : Sample) (d : Sample) → more ≡ goes_on g.length p.distance → steps_from m more g.length p.distance < m
      → T (not (goes_on g.length (get_or (p ∷ later_samples g k0 k1 (steps_from m more g.length p.distance) p) (steps_from m more g.length p.distance) d).distance))
  unfolding steps_from later_samples next_sample
  ends zero more p d e h = absurd (not-suc-le-zero h)
  ends (suc m) false p d e h = subst (λ (b : Bool). T (not b)) e tt
  ends (suc m) true p d e h = let q = next_sample g k0 k1 p in ends m (goes_on g.length q.distance) q d refl (le_of_suc-le-suc h)

  pub goes_at : (i : ℕ) (d : Sample) → g.shape ≡ Spiral k0 k1 → i < spiral_steps g.length → T (goes_on g.length (get_or (geom_samples g) i d).distance)
  unfolding spiral_steps
  goes_at i d e h = subst (λ (ps : List Sample). T (goes_on g.length (get_or ps i d).distance)) (sym (samples-are g e)) (goes most_steps (goes_on g.length zero64) (first_sample g) i d refl h)

  -- a spiral of fewer steps than the most ends at its last sample: from there it goes on no further
  pub ends_at : (d : Sample) → g.shape ≡ Spiral k0 k1 → spiral_steps g.length < most_steps → T (not (goes_on g.length (get_or (geom_samples g) (spiral_steps g.length) d).distance))
  unfolding spiral_steps
  ends_at d e h = subst (λ (ps : List Sample). T (not (goes_on g.length (get_or ps (spiral_steps g.length) d).distance))) (sym (samples-are g e)) (ends most_steps (goes_on g.length zero64) (first_sample g) d refl h)

-- ---- 500 less the margin at the end: finite, a value of the format, and above the last distance
pub less-finite : T (finite (five-hundred ⊖ end_margin))
unfolding of_bits sub
less-finite = tt

pub less-real : Real binary64 (five-hundred ⊖ end_margin)
unfolding of_bits sub fits
less-real = good-real binary64 (five-hundred ⊖ end_margin) tt

pub less-order : T (not (le (five-hundred ⊖ end_margin) sample-end))
unfolding of_bits sub le
less-order = tt

module _ (g : GeomRec) (k0 k1 : Float)
    (own : GeomWithin g) (w0 : Within binary64 k0 one) (w1 : Within binary64 k1 one)
    (e : g.shape ≡ Spiral k0 k1) (few : spiral_steps g.length ≤ 1999) (d : Sample) where
  at : (k : ℕ) → k ≤ spiral_steps g.length → SampleWithin (get_or (geom_samples g) k d)
  at k h = sample-within g k0 k1 own w0 w1 k d e few h

  -- each distance is below the next
  pub samples-rise : (k : ℕ) → k < spiral_steps g.length → T (lt (get_or (geom_samples g) k d).distance (get_or (geom_samples g) (suc k) d).distance)
  unfolding goes_on next_sample
  samples-rise k h =
      let f = binary64 in
      let u = (get_or (geom_samples g) k d).distance in
      let a = (at k (let o : k ≤ spiral_steps g.length = omega arith in o)).distance in
      let zu = not_below_zero_lem u a.value a.above in
      let n = samples-next g d k e h in
      let r : Real f (u ⊕ step_at g.length u) = subst (λ (p : Sample). Real f p.distance) n (at (suc k) h).distance.value in
      subst (λ (p : Sample). T (lt u p.distance)) (sym n)
      (rises f g.length u end_margin whole_step 1043 1088 1083 own.length.value (length-plus g.length own.length) a.value zu (nano-below g.length own.length) quarter-plus.value quarter-plus.plus (const-at_least _ _ tt)
      (lt_of_le_of_lt (le→parts f g.length greatest_geom_length own.length.value own.length.high own.length.below).0 ten-thousand-small)
      (under (pl f u) (pl f sample-end) (2 ^ 1043) (2 ^ 1083) (le→parts f u sample-end a.value a.high a.below).0 end-small) nano-large (lit< tt)
      (goes_at g k0 k1 k d e h) r)

  -- the length is at most 500
  pub spiral-length : T (le g.length five-hundred)
  unfolding goes_on
  spiral-length = go (le g.length five-hundred) (nle→le binary64 g.length five-hundred own.length.value (const-real _ tt))
    where
      end : SampleWithin (get_or (geom_samples g) (spiral_steps g.length) d)
      end = at (spiral_steps g.length) (le_of_eq refl)

      short : Plus binary64 (g.length ⊖ end_margin) (pl binary64 g.length)
      short = sub-plus binary64 g.length end_margin own.length.value (length-plus g.length own.length) (nano-below g.length own.length)

      over : T (not (lt (get_or (geom_samples g) (spiral_steps g.length) d).distance (g.length ⊖ end_margin)))
      over = ends_at g k0 k1 d e (below few)
        where
          below : {n : ℕ} → n ≤ 1999 → n < 2001
          below h = omega arith

      reached : T (le (g.length ⊖ end_margin) sample-end)
      reached =
          let u = (get_or (geom_samples g) (spiral_steps g.length) d).distance in
          let a = end.distance in
          float_trans (g.length ⊖ end_margin) u sample-end (units→le binary64 (g.length ⊖ end_margin) u short.value a.value (nlt→units binary64 u (g.length ⊖ end_margin) a.value short.value over)) a.below

      go : (b : Bool) → (T (not b) → T (le five-hundred g.length)) → T b
      go true h = tt
      go false h =
          absurd (T_not (le (five-hundred ⊖ end_margin) sample-end) less-order
          (float_trans (five-hundred ⊖ end_margin) (g.length ⊖ end_margin) sample-end
          (sub-mono binary64 five-hundred g.length end_margin end_margin (const-real _ tt) own.length.value nano-plus.value nano-plus.value (h tt) (units→le binary64 end_margin end_margin nano-plus.value nano-plus.value (le_of_eq refl)) less-finite short.value.finite) reached))
