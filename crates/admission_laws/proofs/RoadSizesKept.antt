-- `RoadSizes` holds: each clause is a law of RoadBounds or of PoseBounds at the road that was admitted, its bound turned from an f64 to a whole number or a fraction.
use Prim.Native.Nat.{ℕ, suc, ◌+◌, ◌*◌, ◌^◌, ◌≤◌, ◌<◌}
use native.Mathlib.Omega.{arith}
use mathlib.Core.Path.{◌≡◌, refl, sym, ◌∙◌, subst}
use mathlib.Core.Bool.{true}
use mathlib.Core.List.{List, ◌++◌}
use lib.Dec.{lit≤}
use lib.Ieee.{Float, binary64, low, of_bits, fits}
use lib.ListN.{length, drop}
use Rattle.float_laws.specs.Binary64.{f64, zero64}
use Rattle.float_laws.proofs.Value.{mag, pl, mi, Real, mag_is}
use Rattle.float_laws.proofs.Interval.{In, le→parts}
use Rattle.arithmetic_sine.specs.Sine.{sine_range}
use Rattle.records_cubic.specs.Cubics.{cubic_at}
use Rattle.records.specs.declared.points.GeomShape.{GeomShape}
use Rattle.records.specs.declared.points.GeomShape.TheVariants.{Line, Arc, Spiral}
use Rattle.records.specs.Active.{value_in, slope_in}
use Rattle.records.specs.Roads.{Road, road_of, geom_at, geom_index, profile_at, strip_at, column_of}
use Rattle.admission.specs.Limits.{farthest_across, limited}
use Rattle.admission_laws.proofs.Constants.{const-at_most}
use Rattle.admission_laws.specs.Fractions.{IsF64, AllF64, AtMost}
use Rattle.admission_laws.proofs.FractionLaws.{at_most-part, within-at_most, within-at_most-part, at_most-within, lt_under, below_none}
use Rattle.admission_laws.proofs.Fitting.{RoadFits, ShapeFits, road-fits}
use Rattle.admission_laws.proofs.Places.{on_road_lem, across_of_lem}
use Rattle.admission_laws.proofs.RoadBounds.{OnRoad, Across, length-within, elevation-within, grade-within, superelevation-within, offset-within, tshift-within, shape-within, shape-constant-within, strip-width-within, strip_height-within}
use Rattle.admission.specs.Admission.{admitted}
use Rattle.admission.proofs.AdmissionLaws.{admitted-limited, admitted-samples}
use Rattle.line_calls.proofs.SampleCalls.{samples_written_lem}
use Rattle.line_samples.specs.declared.points.Sample.{Sample}
use Rattle.line_samples.specs.declared.points.Pose.{Pose}
use Rattle.line_samples.specs.Samples.{sample_count, samples_before, samples_needed, samples_of, sample_at}
use Rattle.line_pose.specs.Poses.{pose_of}
use Rattle.line_samples.proofs.SpiralLaws.{count-arc, count-line}
use Rattle.admission_laws.specs.RoadSizes.{terms_across, AlongKept, SampleKept, SamplesKept, PoseKept, RoadKept, RoadSizes}
use Rattle.admission_laws.proofs.Geometry.{PoseWithin}
use Rattle.admission_laws.proofs.SampleBounds.{SampleWithin, sample-end, sample-turn, sample-far, not_below_zero_lem}
use Rattle.admission_laws.proofs.PoseBounds.{pose-far, held-within, first-zero, held-rise}
use Rattle.admission_laws.proofs.Admitted.{pose-kept}

-- ---- the bounds in units of the least f64

three_quarters-units : pl binary64 (f64 0x3fe8_0000_0000_0000) * 4 ≤ 3 * 2 ^ low binary64
unfolding of_bits pl
three_quarters-units = lit≤ tt

farthest-is : Real binary64 farthest_across × (pl binary64 farthest_across ≡ 88 * 2 ^ low binary64) × (mi binary64 farthest_across ≡ 0)
unfolding of_bits fits pl mi
farthest-is = (record { finite = tt; fits = tt }, refl, refl)

end-units : pl binary64 sample-end * 4 ≤ 1999 * 2 ^ low binary64
unfolding of_bits pl
end-units = lit≤ tt

-- ---- samples and poses

end-size : (x : Float) → In binary64 zero64 sample-end x → mag binary64 x * 4 ≤ 1999 * 2 ^ low binary64
end-size x i =
    let m = mag_is binary64 x in
    let z = not_below_zero_lem x i.value i.above in
    let p = (le→parts binary64 x sample-end i.value i.high i.below).0 in
    least (mag binary64 x) (pl binary64 x) (mi binary64 x) (pl binary64 sample-end) (1999 * 2 ^ low binary64) m z p end-units
  where
    least : (g a b c d : ℕ) → g ≡ a + b → b ≡ 0 → a ≤ c → c * 4 ≤ d → g * 4 ≤ d
    least g a b c d m z p h = omega arith

sample-of : (p : Sample) → SampleWithin p → SampleKept p
sample-of p w =
    record {
      from = below_none p.distance w.distance.value (not_below_zero_lem p.distance w.distance.value w.distance.above);
      to = at_most-part binary64 p.distance w.distance.value 1999 4 (end-size p.distance w.distance);
      x_size = within-at_most p.x sample-far w.x 1000500 (const-at_most _ _ tt);
      y_size = within-at_most p.y sample-far w.y 1000500 (const-at_most _ _ tt);
      turn = within-at_most p.heading sample-turn w.heading 3500 (const-at_most _ _ tt);
    }

pose_of_lem : (p : Pose) → PoseWithin p pose-far sine_range → PoseKept p
pose_of_lem p w =
    record {
      x_size = within-at_most p.x pose-far w.x 1300000 (const-at_most _ _ tt);
      y_size = within-at_most p.y pose-far w.y 1300000 (const-at_most _ _ tt);
      turn = within-at_most p.heading sine_range w.heading 12000 (const-at_most _ _ tt);
    }

-- ---- an admitted road

module _ (words : List ℕ) (numbers : List Float) (fitting : AllF64 numbers) (ok : admitted words numbers ≡ true) where
  abbrev road : Road
  road = road_of words numbers

  fit : RoadFits road
  fit = road-fits words numbers fitting

  limits : limited road ≡ true
  limits = admitted-limited words numbers ok

  along-kept : (s : Float) → OnRoad road s → AlongKept road s
  along-kept s o =
      record {
        elevation = within-at_most (value_in road.elevations s) (f64 0x40c3_8800_0000_0000) (elevation-within road fit limits s o) 10000 (const-at_most _ _ tt);
        grade = within-at_most (slope_in road.elevations s) (f64 0x3ff0_0000_0000_0000) (grade-within road fit limits s o) 1 (const-at_most _ _ tt);
        bank = within-at_most-part (value_in road.superelevations s) (f64 0x3fe8_0000_0000_0000) (superelevation-within road fit limits s o) 3 4 three_quarters-units;
        offset = within-at_most (value_in road.offsets s) (f64 0x4020_0000_0000_0000) (offset-within road fit limits s o) 8 (const-at_most _ _ tt);
        shift = within-at_most (value_in road.tshifts s) (f64 0x4020_0000_0000_0000) (tshift-within road fit limits s o) 8 (const-at_most _ _ tt);
        strip_width = λ i l. within-at_most (value_in (column_of (strip_at road i) 0) s) (f64 0x4059_0000_0000_0000) (strip-width-within road fit limits i l s o) 100 (const-at_most _ _ tt);
        of_strip_height = λ i l u f m. within-at_most (terms_across (strip_at road i) s u) (f64 0x4044_0000_0000_0000) (strip_height-within road fit limits i l s o u (at_most-within u farthest_across f 88 farthest-is m)) 40 (const-at_most _ _ tt);
      }

  shape-kept : (i : ℕ) → i < length road.profiles → (t : Float) → Across t → AtMost 40 (value_in (profile_at road i).shapes t)
  shape-kept i l t a = within-at_most (value_in (profile_at road i).shapes t) (f64 0x4044_0000_0000_0000) (shape-within road fit limits i l t a) 40 (const-at_most _ _ tt)

  -- with anything after the samples
  module _ (rest : List Float) (i : ℕ) (below : i < length road.geoms) where
    abbrev held : ℕ → Sample
    held k = sample_at (samples_of road ++ rest) (samples_before road i) k

    module _ {k0 k1 : Float} (e : (geom_at road i).shape ≡ Spiral k0 k1) (f0 : IsF64 k0) (f1 : IsF64 k1) where
      each_within : (k : ℕ) → k < sample_count (geom_at road i) → SampleWithin (held k)
      each_within = held-within road fit limits (admitted-samples words numbers ok) rest i below e f0 f1

      spiral-kept : SamplesKept road (samples_of road ++ rest) i
      spiral-kept =
          record {
            each = λ k l. sample-of (held k) (each_within k l);
            first = λ l. first-zero road fit limits (admitted-samples words numbers ok) rest i below e f0 f1;
            rise = λ k l. lt_under (held k).distance (held (suc k)).distance (each_within k (let o : k < sample_count (geom_at road i) = omega arith in o)).distance.value (each_within (suc k) l).distance.value
                (held-rise road fit limits (admitted-samples words numbers ok) rest i below e f0 f1 k l);
          }

    none_kept : 0 ≡ sample_count (geom_at road i) → SamplesKept road (samples_of road ++ rest) i
    none_kept e =
        record {
          each = λ k l. absurd (let h = e in let o : ⊥ = omega arith in o);
          first = λ l. absurd (let h = e in let o : ⊥ = omega arith in o);
          rise = λ k l. absurd (let h = e in let o : ⊥ = omega arith in o);
        }

    by_shape : (shape : GeomShape) → (geom_at road i).shape ≡ shape → ShapeFits shape → SamplesKept road (samples_of road ++ rest) i
    by_shape Line e f = none_kept (count-line (geom_at road i) e)
    by_shape (Arc k) e f = none_kept (count-arc (geom_at road i) e)
    by_shape (Spiral k0 k1) e f = spiral-kept e f.0 f.1

  kept-before : (rest : List Float) → RoadKept road (samples_of road ++ rest)
  kept-before rest =
      record {
        length_size = within-at_most road.length (f64 0x40c3_8800_0000_0000) (length-within road fit limits) 10000 (const-at_most _ _ tt);
        along = λ s f on. along-kept s (on_road_lem road s f on);
        shapes = λ i l t f in-t. shape-kept i l t (across_of_lem t f in-t);
        constants = λ i l j b. within-at_most (cubic_at (profile_at road i).shapes j).a (f64 0x4044_0000_0000_0000) (shape-constant-within road fit limits i l j b) 40 (const-at_most _ _ tt);
        sampled = λ i l. by_shape rest i l (geom_at road i).shape refl (fit.geoms i).shape;
        pose = λ s f on. pose_of_lem (pose_of road (samples_of road ++ rest) (geom_index road s) s) (pose-kept words numbers fitting ok rest s (on_road_lem road s f on));
      }

pub road-sizes : RoadSizes
road-sizes words numbers samples fitting ok made =
    subst (λ (l : List Float). RoadKept (road_of words numbers) l) (sym (made.written ∙ samples_written_lem words numbers ok made.lent made.room))
    (kept-before words numbers fitting ok (drop (4 * samples_needed (road_of words numbers)) made.lent))
