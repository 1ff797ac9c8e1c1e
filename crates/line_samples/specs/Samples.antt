-- Document 01, "Values": "Spiral samples by `bake_spiral`: steps of 0.25, the last shorter, while u < length - 1e-9", grouped as in src/road.rs, with the stand-ins for sine and cosine.
-- A spiral's samples are its start and one for each step. An admitted spiral is at least 0.01 long, so there is at least one step.
use Rattle.std.specs.Prelude.{ℕ, zero, suc, ◌+◌, ◌*◌, Bool, true, false, cond, List, [], ◌∷◌, ◌++◌, length, get_or, Float}
use Rattle.std.specs.Float.{nan}
use Rattle.std.specs.Float.Ieee.{lt}
use Rattle.float_laws.specs.Binary64.{◌⊕◌, ◌⊖◌, ◌⊗◌, ◌⊘◌, f64, zero64}
use Rattle.arithmetic_sine.specs.Sine.{sine_of, cosine_of}
use Rattle.records.specs.declared.points.GeomRec.{GeomRec}
use Rattle.records.specs.declared.points.GeomShape.{GeomShape}
use Rattle.records.specs.declared.points.GeomShape.TheVariants.{Line, Arc, Spiral}
use Rattle.records.specs.Roads.{Road, geom_at}
use Rattle.line_samples.specs.declared.points.Sample.{Sample}

-- ---- how many steps

-- "while u < length - 1e-9"
abbrev pub end_margin : Float
end_margin = f64 0x3e11_2e0b_e826_d695

unfoldable pub goes_on : Float → Float → Bool
goes_on len u = lt u (len ⊖ end_margin)

-- "steps of 0.25, the last shorter": the smaller of 0.25 and what is left
abbrev pub whole_step : Float
whole_step = f64 0x3fd0_0000_0000_0000

abbrev pub step_at : Float → Float → Float
step_at len u = cond (lt (len ⊖ u) whole_step) (len ⊖ u) whole_step

-- the steps from u on, at most as many as the first number says; the test of going on is an argument, so that the recursion stops with it
unfoldable pub steps_from : ℕ → Bool → Float → Float → ℕ
unfolding goes_on
steps_from zero more len u = 0
steps_from (suc n) false len u = 0
steps_from (suc n) true len u = suc (steps_from n (goes_on len (u ⊕ step_at len u)) len (u ⊕ step_at len u))

-- "spirals need over 2,000 samples" is row 5
abbrev pub most_samples : ℕ
most_samples = 2000

-- Row 5 refuses a road that needs more samples, so no more than 2,001 steps are ever counted.
abbrev pub most_steps : ℕ
most_steps = suc most_samples

-- the steps of a spiral of some length
unfoldable pub spiral_steps : Float → ℕ
unfolding steps_from goes_on
spiral_steps len = steps_from most_steps (goes_on len zero64) len zero64

-- n steps make n + 1 samples; a line or an arc has none
abbrev pub count_by : GeomShape → ℕ → ℕ
count_by Line n = 0
count_by (Arc k) n = 0
count_by (Spiral k0 k1) n = suc n

-- so of one geometry at most so many samples are counted, and of all the geometries of a road fewer than 2^28
abbrev pub most_counted : ℕ
most_counted = 2002

abbrev pub counted_end : ℕ
counted_end = 268435456

-- the samples of one geometry, and those of all before the i-th
unfoldable pub sample_count : GeomRec → ℕ
unfolding spiral_steps
sample_count g = count_by g.shape (spiral_steps g.length)

unfoldable pub samples_before : Road → ℕ → ℕ
unfolding sample_count
samples_before road zero = 0
samples_before road (suc i) = samples_before road i + sample_count (geom_at road i)

-- what rows 5 and 6 count: "spirals need over 2,000 samples", "fewer samples than the road needs"
unfoldable pub samples_needed : Road → ℕ
unfolding samples_before
samples_needed road = samples_before road (length road.geoms)

-- ---- the samples

-- `c_dot` of `bake_spiral`: (k1 - k0) / length, 0 where the length is 1e-9 or less
abbrev pub no_turn_length : Float
no_turn_length = f64 0x3e11_2e0b_e826_d695

abbrev pub turn_rate : Float → Float → Float → Float
turn_rate len k0 k1 = cond (lt no_turn_length len) ((k1 ⊖ k0) ⊘ len) zero64

-- `heading` of `bake_spiral`: (hdg + k0×u) + ((0.5×c_dot)×u)×u
abbrev pub heading_at : GeomRec → Float → Float → Float → Float
heading_at g k0 k1 u = (g.hdg ⊕ k0 ⊗ u) ⊕ f64 0x3fe0_0000_0000_0000 ⊗ turn_rate g.length k0 k1 ⊗ u ⊗ u

-- the first sample, and the next from the last: the midpoint rule
abbrev pub first_sample : GeomRec → Sample
first_sample g = record { distance = zero64; x = g.x; y = g.y; heading = g.hdg }

unfoldable pub next_sample : GeomRec → Float → Float → Sample → Sample
next_sample g k0 k1 p =
    let step = step_at g.length p.distance in
    let middle = heading_at g k0 k1 (p.distance ⊕ step ⊘ f64 0x4000_0000_0000_0000) in
    record {
      distance = p.distance ⊕ step;
      x = p.x ⊕ cosine_of middle ⊗ step;
      y = p.y ⊕ sine_of middle ⊗ step;
      heading = heading_at g k0 k1 (p.distance ⊕ step);
    }

-- the n samples after p
unfoldable pub later_samples : GeomRec → Float → Float → ℕ → Sample → List Sample
unfolding next_sample
later_samples g k0 k1 zero p = []
later_samples g k0 k1 (suc n) p = next_sample g k0 k1 p ∷ later_samples g k0 k1 n (next_sample g k0 k1 p)

-- the samples of one geometry
abbrev pub samples_by : GeomRec → GeomShape → List Sample
samples_by g Line = []
samples_by g (Arc k) = []
samples_by g (Spiral k0 k1) = first_sample g ∷ later_samples g k0 k1 (spiral_steps g.length) (first_sample g)

unfoldable pub geom_samples : GeomRec → List Sample
unfolding spiral_steps later_samples
geom_samples g = samples_by g g.shape

-- "geometries in order", those before the i-th
unfoldable pub samples_up_to : Road → ℕ → List Sample
unfolding geom_samples
samples_up_to road zero = []
samples_up_to road (suc i) = samples_up_to road i ++ geom_samples (geom_at road i)

-- "four f64 each (distance, x, y, heading; ..)"
unfoldable pub flat : List Sample → List Float
flat [] = []
flat (p ∷ ps) = p.distance ∷ p.x ∷ p.y ∷ p.heading ∷ flat ps

-- "the samples made from it", as the caller's slice holds them
unfoldable pub samples_of : Road → List Float
unfolding samples_up_to flat
samples_of road = flat (samples_up_to road (length road.geoms))

-- "four f64 each": the numbers that a sample takes in the slice
abbrev pub sample_stride : ℕ
sample_stride = 4

-- the k-th sample from place `first` of a lent slice on; what the slice does not hold is NaN
abbrev pub sample_at : List Float → ℕ → ℕ → Sample
sample_at samples first k =
    record {
      distance = get_or samples ((first + k) * sample_stride) nan;
      x = get_or samples ((first + k) * sample_stride + 1) nan;
      y = get_or samples ((first + k) * sample_stride + 2) nan;
      heading = get_or samples ((first + k) * sample_stride + 3) nan;
    }
