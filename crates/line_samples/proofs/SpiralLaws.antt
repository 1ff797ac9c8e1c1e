-- How many samples a spiral and a road have, where they stand in the slice, and the steps as a loop counts them. By induction on the count of steps, of geometries or of samples.
use Prim.Native.Nat.{ℕ, zero, suc, ◌+◌, ◌-◌, ◌*◌, ◌≤◌, ◌<◌, min, zero-le, suc-le-suc}
use native.Mathlib.Omega.{arith}
use native.Mathlib.Numerals.{add-one}
use native.Mathlib.Nat.{le_of_suc-le-suc, not-suc-le-zero, eq-or-lt_of_le, zero-add}
use mathlib.Core.Path.{◌≡◌, refl, ap, ◌∙◌, sym, subst}
use mathlib.Core.Bool.{Bool, true, false, not}
use mathlib.Core.List.{List, [], ◌∷◌, ◌++◌}
use mathlib.Core.Logic.{⊎_elim}
use lib.Dec.{T, leb, leb→le, nleb→lt, ltb, ltb→lt, nltb→le}
use borrow.Author.Tests.{le-leb, lt-leb}
use lib.ListN.{length, get_or, length-append, get_or-append, get_or-eq_default}
use lib.Seq.{get_or-append-add}
use lib.Ieee.{Float, nan}
use Rattle.std.specs.List.{sum_by, range_with_len}
use Rattle.std.proofs.lemmas.List.Sums.{sum_by-cons}
use Rattle.float_laws.specs.Binary64.{◌⊕◌, zero64}
use Rattle.records.specs.declared.points.GeomRec.{GeomRec}
use Rattle.records.specs.declared.points.GeomShape.{GeomShape}
use Rattle.records.specs.declared.points.GeomShape.TheVariants.{Line, Arc, Spiral}
use Rattle.records.specs.Roads.{Road, geom_at, no_geom}
use Rattle.line_samples.specs.declared.points.Sample.{Sample}
use Rattle.line_samples.specs.Samples.{goes_on, step_at, steps_from, most_steps, spiral_steps, count_by, sample_count, samples_before, samples_needed, first_sample, next_sample, later_samples, samples_by, geom_samples, samples_up_to, flat, samples_of, sample_at, most_samples, counted_end}

-- ---- steps

pub steps-le : (n : ℕ) (more : Bool) (len u : Float) → steps_from n more len u ≤ n
unfolding steps_from
steps-le zero more len u = zero-le
steps-le (suc n) false len u = zero-le
steps-le (suc n) true len u = suc-le-suc (steps-le n (goes_on len (u ⊕ step_at len u)) len (u ⊕ step_at len u))

module _ (len u : Float) where
  steps-one : (m : ℕ) (more : Bool) → more ≡ true → steps_from (suc m) more len u ≡ suc (steps_from m (goes_on len (u ⊕ step_at len u)) len (u ⊕ step_at len u))
  unfolding steps_from
  steps-one m more e = rw e

  -- a loop that has counted n steps: one more, none more, as many as are counted
  pub steps_next : (n : ℕ) (more : Bool) (step : Float) → n < most_steps → more ≡ true → step ≡ step_at len u
      → n + steps_from (most_steps - n) more len u ≡ n + 1 + steps_from (most_steps - (n + 1)) (goes_on len (u ⊕ step)) len (u ⊕ step)
  steps_next n more step h e f =
      let p : most_steps - n ≡ suc (most_steps - (n + 1)) = omega arith in
      let q = steps-one (most_steps - (n + 1)) more e in
      rw (f, p, q) (omega arith)

  pub steps-stop : (m : ℕ) (more : Bool) → more ≡ false → steps_from m more len u ≡ 0
  unfolding steps_from
  steps-stop zero more e = refl
  steps-stop (suc m) more e = rw e

  pub steps-full : (n : ℕ) (more : Bool) → n ≤ most_steps → most_steps ≤ n → n + steps_from (most_steps - n) more len u ≡ n
  steps-full n more h k = let l = steps-le (most_steps - n) more len u in omega arith

pub steps-start : (len : Float) → spiral_steps len ≡ 0 + steps_from (most_steps - 0) (goes_on len zero64) len zero64
unfolding spiral_steps
steps-start len = sym (zero-add (spiral_steps len))

pub spiral_steps-le : (len : Float) → spiral_steps len ≤ most_steps
unfolding spiral_steps
spiral_steps-le len = steps-le most_steps (goes_on len zero64) len zero64

some : (n : ℕ) (more : Bool) (len u : Float) → T more → 1 ≤ steps_from (suc n) more len u
unfolding steps_from
some n true len u h = suc-le-suc zero-le
some n false len u h = elim h [ ]

-- a step is made where the loop starts at all
pub steps-some : (len : Float) → T (goes_on len zero64) → 1 ≤ spiral_steps len
unfolding spiral_steps
steps-some len h = some most_samples (goes_on len zero64) len zero64 h

-- ---- how many samples

count_by-le : (shape : GeomShape) (n : ℕ) → count_by shape n ≤ suc n
count_by-le Line n = zero-le
count_by-le (Arc k) n = zero-le
count_by-le (Spiral k0 k1) n = omega arith

pub count-le : (g : GeomRec) → sample_count g ≤ 2002
unfolding sample_count
count-le g =
    let a = count_by-le g.shape (spiral_steps g.length) in
    let b = spiral_steps-le g.length in
    omega arith

-- a spiral has one more than its steps, an arc and a line have none
pub count-spiral : (g : GeomRec) {k0 k1 : Float} {n : ℕ} → g.shape ≡ Spiral k0 k1 → n ≡ spiral_steps g.length → n + 1 ≡ sample_count g
unfolding sample_count
count-spiral g e h = rw (e, h) (add-one (spiral_steps g.length))

pub count-arc : (g : GeomRec) {k : Float} → g.shape ≡ Arc k → 0 ≡ sample_count g
unfolding sample_count
count-arc g e = rw e

pub count-line : (g : GeomRec) → g.shape ≡ Line → 0 ≡ sample_count g
unfolding sample_count
count-line g e = rw e

module _ (road : Road) where
  pub before-none : samples_before road 0 ≡ 0
  unfolding samples_before
  before-none = refl

  pub before-next : (i : ℕ) → samples_before road (suc i) ≡ samples_before road i + sample_count (geom_at road i)
  unfolding samples_before
  before-next i = refl

  pub before-mono : (i j : ℕ) → i ≤ j → samples_before road i ≤ samples_before road j
  before-mono i zero h = let e : i ≡ 0 = omega arith in rw e (omega arith)
  before-mono i (suc j) h =
      ⊎_elim
      (λ e. rw e (omega arith))
      (λ l. let a = before-mono i j (le_of_suc-le-suc l) in let b = before-next j in omega arith)
      (eq-or-lt_of_le h)

  pub before-le : (i : ℕ) → samples_before road i ≤ i * 2002
  before-le zero = let e = before-none in omega arith
  before-le (suc i) =
      let a = before-le i in
      let b = before-next i in
      let c = count-le (geom_at road i) in
      omega arith

  -- past the last geometry there is a line, which has no samples
  pub none-past : (i : ℕ) → length road.geoms ≤ i → sample_count (geom_at road i) ≡ 0
  unfolding sample_count
  none-past i h = rw (get_or-eq_default road.geoms no_geom h)

  -- so no sample stands past the last geometry's
  pub before-past : (i : ℕ) → length road.geoms ≤ i → samples_before road i ≡ samples_needed road
  unfolding samples_needed
  before-past zero h = let e : length road.geoms ≡ 0 = omega arith in rw e
  before-past (suc i) h =
      ⊎_elim
      (λ e. rw e)
      (λ l. before-next i ∙ (rw (none-past i (le_of_suc-le-suc l), before-past i (le_of_suc-le-suc l)) (omega arith)))
      (eq-or-lt_of_le h)

  -- a sum over the geometries from one on
  summed : (i n : ℕ) → samples_before road i + sum_by (λ k. sample_count (geom_at road k)) (range_with_len i n) ≡ samples_before road (i + n)
  summed i zero = let e : i + 0 ≡ i = omega arith in rw e (omega arith)
  summed i (suc n) =
      let counts : ℕ → ℕ = λ k. sample_count (geom_at road k) in
      let p : i + suc n ≡ i + 1 + n = omega arith in
      let q = before-next i in
      let s = summed (i + 1) n in
      let t : samples_before road (i + 1) ≡ samples_before road (suc i) = ap (samples_before road) (add-one i) in
      rw (p, sum_by-cons counts i (range_with_len (i + 1) n)) (omega arith)

  before-done : (i k : ℕ) → k ≡ min i (length road.geoms) → samples_before road k ≡ samples_before road i
  before-done i k h = go (leb i (length road.geoms)) (leb→le i (length road.geoms)) (nleb→lt i (length road.geoms))
    where
      go : (b : Bool) → (T b → i ≤ length road.geoms) → (T (not b) → length road.geoms < i) → samples_before road k ≡ samples_before road i
      go true p q = let l = p tt in let s : k ≡ i = omega arith in ap (samples_before road) s
      go false p q =
          let l = q tt in
          let a : length road.geoms ≤ k = omega arith in
          let b : length road.geoms ≤ i = omega arith in
          before-past k a ∙ sym (before-past i b)

  -- up to the lesser of i and the number of geometries: all before the i-th, and not many
  pub before-summed : (i k : ℕ) → k ≡ min i (length road.geoms) → sum_by (λ k. sample_count (geom_at road k)) (range_with_len 0 k) ≡ samples_before road i
  before-summed i k h =
      let n = before-none in
      let t = summed 0 k in
      let e : samples_before road (0 + k) ≡ samples_before road k = ap (samples_before road) (zero-add k) in
      let s : sum_by (λ k. sample_count (geom_at road k)) (range_with_len 0 k) ≡ samples_before road k = omega arith in
      s ∙ before-done i k h

  pub before-few : (i : ℕ) → length road.geoms < 65536 → samples_before road i < counted_end
  before-few i few = let d = before-done i (min i (length road.geoms)) refl in let l = before-le (min i (length road.geoms)) in omega arith

  -- a loop over the geometries: a turn
  pub before_more : (i : ℕ) {sum n : ℕ} {g : GeomRec} → sum ≡ samples_before road i → g ≡ geom_at road i → n ≡ sample_count g → sum + n ≡ samples_before road (i + 1)
  before_more i e f h = rw (e, h, f, add-one) (sym (before-next i))

  -- a loop that leaves with the sample that is one too many, or counts them all
  pub fit-over : (k most : ℕ) {sum : ℕ} → k < length road.geoms → sum ≡ samples_before road (k + 1) → most < sum → false ≡ leb (samples_needed road) most
  unfolding samples_needed
  fit-over k most h e l =
      let a : k + 1 ≤ length road.geoms = omega arith in
      let m = before-mono (k + 1) (length road.geoms) a in
      sym (lt-leb (samples_before road (length road.geoms)) most (omega arith))

  pub fit_all : (k most : ℕ) {sum : ℕ} → length road.geoms ≤ k → sum ≡ samples_before road k → sum ≤ most → true ≡ leb (samples_needed road) most
  fit_all k most h e l = let p = before-past k h in sym (le-leb (samples_needed road) most (omega arith))

-- ---- the samples

pub length-after : (g : GeomRec) (k0 k1 : Float) (n : ℕ) (p : Sample) → length (later_samples g k0 k1 n p) ≡ n
unfolding later_samples
length-after g k0 k1 zero p = refl
length-after g k0 k1 (suc n) p = ap suc (length-after g k0 k1 n (next_sample g k0 k1 p))

length_by_lem : (g : GeomRec) (shape : GeomShape) → length (samples_by g shape) ≡ count_by shape (spiral_steps g.length)
length_by_lem g Line = refl
length_by_lem g (Arc k) = refl
length_by_lem g (Spiral k0 k1) = ap suc (length-after g k0 k1 (spiral_steps g.length) (first_sample g))

pub length-samples : (g : GeomRec) → length (geom_samples g) ≡ sample_count g
unfolding geom_samples sample_count
length-samples g = length_by_lem g g.shape

-- the samples of a spiral: the first is its start, and each of the others is made from the one before
pub samples-are : (g : GeomRec) {k0 k1 : Float} → g.shape ≡ Spiral k0 k1 → geom_samples g ≡ first_sample g ∷ later_samples g k0 k1 (spiral_steps g.length) (first_sample g)
unfolding geom_samples
samples-are g e = rw e

pub first-distance : (g : GeomRec) {k0 k1 : Float} (d : Sample) → g.shape ≡ Spiral k0 k1 → (get_or (geom_samples g) 0 d).distance ≡ zero64
first-distance g d e = rw (samples-are g e)

chained : (g : GeomRec) (k0 k1 : Float) (n : ℕ) (p d : Sample) (k : ℕ)
    → k < n → get_or (p ∷ later_samples g k0 k1 n p) (suc k) d ≡ next_sample g k0 k1 (get_or (p ∷ later_samples g k0 k1 n p) k d)
unfolding later_samples
chained g k0 k1 zero p d k h = absurd (not-suc-le-zero h)
chained g k0 k1 (suc n) p d zero h = refl
chained g k0 k1 (suc n) p d (suc k) h = chained g k0 k1 n (next_sample g k0 k1 p) d k (le_of_suc-le-suc h)

pub samples-next : (g : GeomRec) {k0 k1 : Float} (d : Sample) (k : ℕ) → g.shape ≡ Spiral k0 k1 → k < spiral_steps g.length
    → get_or (geom_samples g) (suc k) d ≡ next_sample g k0 k1 (get_or (geom_samples g) k d)
samples-next g {k0} {k1} d k e h = rw (samples-are g e) (chained g k0 k1 (spiral_steps g.length) (first_sample g) d k h)

module _ (road : Road) where
  pub up_to-next : (i : ℕ) → samples_up_to road (suc i) ≡ samples_up_to road i ++ geom_samples (geom_at road i)
  unfolding samples_up_to
  up_to-next i = refl

  pub length-up_to : (i : ℕ) → length (samples_up_to road i) ≡ samples_before road i
  unfolding samples_up_to samples_before
  length-up_to zero = refl
  length-up_to (suc i) =
      length-append (samples_up_to road i) (geom_samples (geom_at road i)) ∙ rw (length-up_to i, length-samples (geom_at road i))

  -- the samples of the i-th geometry stand from samples_before road i on
  pub up_to-at : (i k n : ℕ) (d : Sample) → i < n → k < sample_count (geom_at road i)
      → get_or (samples_up_to road n) (samples_before road i + k) d ≡ get_or (geom_samples (geom_at road i)) k d
  up_to-at i k zero d h l = absurd (not-suc-le-zero h)
  up_to-at i k (suc n) d h l =
      ⊎_elim
      (λ e. rw (up_to-next n, ← e, ← length-up_to i) (get_or-append-add (samples_up_to road i) (geom_samples (geom_at road i)) k d))
      (λ lt.
      let a = before-mono road (suc i) n lt in
      let b = before-next road i in
      let w = length-up_to n in
      rw (up_to-next n)
      (get_or-append (samples_up_to road n) (geom_samples (geom_at road n)) d (samples_before road i + k) (omega arith) ∙ up_to-at i k n d lt l))
      (eq-or-lt_of_le (le_of_suc-le-suc h))

-- ---- the slice: four numbers a sample

pub length-flat : (ps : List Sample) → length (flat ps) ≡ 4 * length ps
unfolding flat
length-flat [] = refl
length-flat (p ∷ ps) = let e = length-flat ps in omega arith

pub flat_append : (ps qs : List Sample) → flat (ps ++ qs) ≡ flat ps ++ flat qs
unfolding flat
flat_append [] qs = refl
flat_append (p ∷ ps) qs = ap (λ (r : List Float). p.distance ∷ p.x ∷ p.y ∷ p.heading ∷ r) (flat_append ps qs)

-- the sample that starts at a place of the slice
abbrev from : List Float → ℕ → Sample
from xs m = record { distance = get_or xs m nan; x = get_or xs (m + 1) nan; y = get_or xs (m + 2) nan; heading = get_or xs (m + 3) nan }

from_at : (ps : List Sample) (rest : List Float) (j m : ℕ) (d : Sample) → m ≡ j * 4 → j < length ps → from (flat ps ++ rest) m ≡ get_or ps j d
unfolding flat
from_at [] rest j m d e h = absurd (not-suc-le-zero h)
from_at (p ∷ ps) rest zero m d e h = rw e
from_at (p ∷ ps) rest (suc j) m d e h =
    let up : m ≡ suc (suc (suc (suc (j * 4)))) = omega arith in
    let one : m + 1 ≡ suc (suc (suc (suc (j * 4 + 1)))) = omega arith in
    let two : m + 2 ≡ suc (suc (suc (suc (j * 4 + 2)))) = omega arith in
    let three : m + 3 ≡ suc (suc (suc (suc (j * 4 + 3)))) = omega arith in
    rw (one, two, three, up) (from_at ps rest j (j * 4) d refl (le_of_suc-le-suc h))

-- the k-th of the samples from place first on is that of the list
pub flat-at : (ps : List Sample) (rest : List Float) (first k : ℕ) (d : Sample) → first + k < length ps
    → sample_at (flat ps ++ rest) first k ≡ get_or ps (first + k) d
flat-at ps rest first k d h = from_at ps rest (first + k) ((first + k) * 4) d refl h

pub length-samples_of : (road : Road) → length (samples_of road) ≡ 4 * samples_needed road
unfolding samples_of samples_needed
length-samples_of road = length-flat (samples_up_to road (length road.geoms)) ∙ rw (length-up_to road (length road.geoms))

held_in : (road : Road) (rest : List Float) (i k n : ℕ) (d : Sample) → i < n → k < sample_count (geom_at road i)
    → sample_at (flat (samples_up_to road n) ++ rest) (samples_before road i) k ≡ get_or (geom_samples (geom_at road i)) k d
held_in road rest i k n d h l =
    let a = before-mono road (suc i) n h in
    let b = before-next road i in
    let w = length-up_to road n in
    flat-at (samples_up_to road n) rest (samples_before road i) k d (omega arith) ∙ up_to-at road i k n d h l

-- with the samples made from a road, the k-th that the i-th geometry reads is the k-th of its own
pub samples-held : (road : Road) (rest : List Float) (i k : ℕ) (d : Sample) → k < sample_count (geom_at road i)
    → sample_at (samples_of road ++ rest) (samples_before road i) k ≡ get_or (geom_samples (geom_at road i)) k d
unfolding samples_of
samples-held road rest i k d h = go (ltb i n) (ltb→lt i n) (nltb→le i n)
  where
    n : ℕ
    n = length road.geoms

    go : (b : Bool) → (T b → i < n) → (T (not b) → n ≤ i) → sample_at (samples_of road ++ rest) (samples_before road i) k ≡ get_or (geom_samples (geom_at road i)) k d
    go true p q = held_in road rest i k n d (p tt) h
    go false p q = let e = none-past road i (q tt) in absurd (not-suc-le-zero (subst (λ (m : ℕ). k < m) e h))
