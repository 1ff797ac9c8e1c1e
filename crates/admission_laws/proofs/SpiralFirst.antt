-- A spiral of an admitted length, 0.01 to 10,000, makes a step: it has two samples at least, so the Rust's second sample for a spiral without steps is never needed.
use Prim.Native.Nat.{ℕ, ◌+◌, ◌≤◌, ◌<◌}
use native.Mathlib.Omega.{arith}
use mathlib.Core.Path.{◌≡◌, refl}
use lib.Dec.{T}
use lib.Ieee.{Float, binary64, of_bits, sub, lt, le, fits}
use lib.Ieee.Scale.{finite}
use Rattle.float_laws.specs.Binary64.{◌⊖◌, zero64}
use Rattle.float_laws.proofs.Value.{Real, pl, mi, le_refl, lt→units, le→units, units→lt}
use Rattle.float_laws.proofs.Interval.{In, in-of_le, sub_in}
use Rattle.records.specs.declared.points.GeomRec.{GeomRec}
use Rattle.records.specs.declared.points.GeomShape.TheVariants.{Spiral}
use Rattle.line_samples.specs.Samples.{end_margin, goes_on, spiral_steps, sample_count}
use Rattle.line_samples.proofs.SpiralLaws.{steps-some, count-spiral}
use Rattle.admission.specs.Limits.{least_geom_length, greatest_geom_length}
use Rattle.admission_laws.proofs.Constants.{const-real}

near-in : In binary64 end_margin end_margin end_margin
near-in =
    let r : Real binary64 end_margin = const-real _ tt in
    let same = le_refl binary64 end_margin r in
    record { low = r; high = r; value = r; above = same; below = same }

low-finite : T (finite (least_geom_length ⊖ end_margin))
unfolding sub of_bits
low-finite = tt

high-finite : T (finite (greatest_geom_length ⊖ end_margin))
unfolding sub of_bits
high-finite = tt

above_zero : T (lt zero64 (least_geom_length ⊖ end_margin))
unfolding sub lt of_bits
above_zero = tt

-- the order in units, carried on
chain : (zp zm ap am bp bm : ℕ) → zp + am < ap + zm → ap + bm ≤ bp + am → zp + bm < bp + zm
chain zp zm ap am bp bm h k = omega arith

module _ (len : Float) (f : T (fits binary64 len)) (l : T (le least_geom_length len)) (h : T (le len greatest_geom_length)) where
  left : In binary64 (least_geom_length ⊖ end_margin) (greatest_geom_length ⊖ end_margin) (len ⊖ end_margin)
  left = sub_in binary64 least_geom_length greatest_geom_length end_margin end_margin len end_margin (in-of_le binary64 least_geom_length greatest_geom_length len (const-real _ tt) (const-real _ tt) f l h) near-in low-finite high-finite

  goes : T (lt zero64 (len ⊖ end_margin))
  goes =
      let i = left in
      let a = lt→units binary64 zero64 (least_geom_length ⊖ end_margin) (const-real _ tt) i.low above_zero in
      let b = le→units binary64 (least_geom_length ⊖ end_margin) (len ⊖ end_margin) i.low i.value i.above in
      units→lt binary64 zero64 (len ⊖ end_margin) (const-real _ tt) i.value (chain (pl binary64 zero64) (mi binary64 zero64) (pl binary64 (least_geom_length ⊖ end_margin)) (mi binary64 (least_geom_length ⊖ end_margin)) (pl binary64 (len ⊖ end_margin)) (mi binary64 (len ⊖ end_margin)) a b)

  pub admitted-steps : 1 ≤ spiral_steps len
  unfolding goes_on
  admitted-steps = steps-some len goes

-- an admitted spiral has at least two samples
pub admitted-count : (g : GeomRec) {k0 k1 : Float} → g.shape ≡ Spiral k0 k1 → T (fits binary64 g.length) → T (le least_geom_length g.length) → T (le g.length greatest_geom_length) → 2 ≤ sample_count g
admitted-count g e f l h =
    let a = admitted-steps g.length f l h in
    let b = count-spiral g e refl in
    omega arith
