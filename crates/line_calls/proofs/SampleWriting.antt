-- Samples stored one after the other are the stores of the joined list: a sample, a geometry and a road at a time.
use Prim.Native.Nat.{ℕ, suc, ◌+◌, ◌*◌, ◌-◌, ◌≤◌, ◌<◌}
use native.Mathlib.Omega.{arith}
use native.Mathlib.Nat.{add-zero}
use native.Mathlib.Numerals.{add-one}
use mathlib.Core.Path.{◌≡◌, refl, sym, ◌∙◌, ap}
use mathlib.Core.List.{List, [], ◌∷◌, ◌++◌, append-nil, append_assoc}
use lib.ListN.{length, take, drop, set}
use lib.Seq.{sets, sets-eq, drop-drop, drop-length}
use lib.Ieee.{Float}
use Rattle.records.specs.declared.points.GeomRec.{GeomRec}
use Rattle.records.specs.declared.points.GeomShape.{GeomShape}
use Rattle.records.specs.declared.points.GeomShape.TheVariants.{Line, Arc, Spiral}
use Rattle.records.specs.Roads.{Road, geom_at}
use Rattle.line_samples.specs.declared.points.Sample.{Sample}
use Rattle.line_samples.specs.Samples.{spiral_steps, sample_count, samples_before, samples_needed, first_sample, next_sample, later_samples, geom_samples, samples_up_to, flat, samples_of}
use Rattle.line_samples.proofs.SpiralLaws.{count-spiral, count-arc, count-line, before-next, before-mono, length-after, length-samples, samples-are, up_to-next, length-up_to, length-flat, flat_append, length-samples_of}

pub sets-append : {A : Type 0} (vs ws l : List A) (i : ℕ) → sets l i (vs ++ ws) ≡ sets (sets l i vs) (i + length vs) ws
sets-append [] ws l i = ap (λ (k : ℕ). sets l k ws) (sym (add-zero i))
sets-append (a ∷ vs) ws l i =
    let e : suc i + length vs ≡ i + suc (length vs) = omega arith in
    sets-append vs ws (set l i a) (suc i) ∙ ap (λ (k : ℕ). sets (sets (set l i a) (suc i) vs) k ws) e

-- some stored from i on, and then others right after them
sets-after : (vs ws l : List Float) {xs ys : List Float} (i k : ℕ) → i + length vs ≡ k → xs ≡ sets l i vs → ys ≡ sets xs k ws → ys ≡ sets l i (vs ++ ws)
sets-after vs ws l i k e f h =
    h
    ∙ ap (λ (x : List Float). sets x k ws) f
    ∙ ap (λ (m : ℕ). sets (sets l i vs) m ws) (sym e)
    ∙ sym (sets-append vs ws l i)

-- a part lent and given back is a run of stores
part_is : (xs ys : List Float) (at k : ℕ) → length ys ≡ k → at + k ≤ length xs → take at xs ++ (ys ++ drop k (drop at xs)) ≡ sets xs at ys
part_is xs ys at k n h =
    let e : at + length ys ≡ at + k = omega arith in
    let l : at + length ys ≤ length xs = omega arith in
    sym (append_assoc (take at xs) ys (drop k (drop at xs))) ∙ ap (λ (r : List Float). take at xs ++ ys ++ r) (drop-drop k at xs ∙ ap (λ (m : ℕ). drop m xs) (sym e)) ∙ sym (sets-eq ys xs at l)

-- a run of stores that takes the whole list
sets-whole : (xs ys : List Float) → length ys ≡ length xs → sets xs 0 ys ≡ ys
sets-whole xs ys n =
    let l : 0 + length ys ≤ length xs = omega arith in
    let e : 0 + length ys ≡ length xs = omega arith in
    sets-eq ys xs 0 l ∙ ap (λ (m : ℕ). ys ++ drop m xs) e ∙ ap (λ (r : List Float). ys ++ r) (drop-length xs) ∙ append-nil ys

-- a sample before others
flat-cons : (p : Sample) (ps : List Sample) → flat (p ∷ ps) ≡ flat (p ∷ []) ++ flat ps
unfolding flat
flat-cons p ps = refl

length-one : (p : Sample) → length (flat (p ∷ [])) ≡ 4
unfolding flat
length-one p = refl

sets-cons : (p : Sample) (ps : List Sample) (xs : List Float) {ys zs : List Float} (i k : ℕ) → i + 4 ≡ k → ys ≡ sets xs i (flat (p ∷ [])) → zs ≡ sets ys k (flat ps) → zs ≡ sets xs i (flat (p ∷ ps))
sets-cons p ps xs i k e f h =
    let n = length-one p in
    sets-after (flat (p ∷ [])) (flat ps) xs i k (omega arith) f h ∙ ap (sets xs i) (sym (flat-cons p ps))

-- a sample's part, lent by its two ends
pub put-part : (p : Sample) (xs : List Float) (at : ℕ) {ys : List Float} → ys ≡ flat (p ∷ []) → at + 4 ≤ length xs → take at xs ++ (ys ++ drop (at + 4 - at) (drop at xs)) ≡ sets xs at (flat (p ∷ []))
put-part p xs at {ys} e h =
    let n = length-one p in
    let m : length ys ≡ length (flat (p ∷ [])) = ap length e in
    let k : length ys ≡ at + 4 - at = omega arith in
    let l : at + (at + 4 - at) ≤ length xs = omega arith in
    part_is xs ys at (at + 4 - at) k l ∙ ap (sets xs at) e

-- ---- the samples of a spiral after a first

module _ (g : GeomRec) (k0 k1 : Float) where
  after_next : (n : ℕ) (p : Sample) → later_samples g k0 k1 (suc n) p ≡ next_sample g k0 k1 p ∷ later_samples g k0 k1 n (next_sample g k0 k1 p)
  unfolding later_samples
  after_next n p = refl

  after_none : (p : Sample) → flat (later_samples g k0 k1 0 p) ≡ []
  unfolding later_samples flat
  after_none p = refl

  -- the loop: a turn, its end
  pub steps-turn : (n i : ℕ) (p : Sample) (xs : List Float) {q : Sample} {ys : List Float} → i < n → q ≡ next_sample g k0 k1 p → ys ≡ sets xs (i * 4) (flat (q ∷ []))
      → sets ys ((i + 1) * 4) (flat (later_samples g k0 k1 (n - (i + 1)) q)) ≡ sets xs (i * 4) (flat (later_samples g k0 k1 (n - i) p))
  steps-turn n i p xs {q} {ys} h e f =
      let m : suc (n - (i + 1)) ≡ n - i = omega arith in
      let k : i * 4 + 4 ≡ (i + 1) * 4 = omega arith in
      sets-cons q (later_samples g k0 k1 (n - (i + 1)) q) xs (i * 4) ((i + 1) * 4) k f refl
      ∙ ap (λ (s : Sample). sets xs (i * 4) (flat (s ∷ later_samples g k0 k1 (n - (i + 1)) s))) e
      ∙ ap (λ (s : List Sample). sets xs (i * 4) (flat s)) (sym (after_next (n - (i + 1)) p))
      ∙ ap (λ (s : ℕ). sets xs (i * 4) (flat (later_samples g k0 k1 s p))) m

  pub steps-end : (n i : ℕ) (p q : Sample) (l xs : List Float) → n ≤ i → length l ≡ n * 4
      → sets xs (i * 4) (flat (later_samples g k0 k1 (n - i) q)) ≡ sets l 0 (flat (later_samples g k0 k1 n p)) → xs ≡ flat (later_samples g k0 k1 n p)
  steps-end n i p q l xs h e f =
      let m : n - i ≡ 0 = omega arith in
      let a = length-flat (later_samples g k0 k1 n p) in
      let b = length-after g k0 k1 n p in
      let w : length (flat (later_samples g k0 k1 n p)) ≡ length l = omega arith in
      sym (ap (λ (s : ℕ). sets xs (i * 4) (flat (later_samples g k0 k1 s q))) m ∙ ap (λ (s : List Float). sets xs (i * 4) s) (after_none q))
      ∙ f
      ∙ sets-whole l (flat (later_samples g k0 k1 n p)) w

-- ---- one geometry

pub geom-spiral : (g : GeomRec) {k0 k1 : Float} (n : ℕ) {p : Sample} {ys zs : List Float}
    → g.shape ≡ Spiral k0 k1
    → suc n ≡ sample_count g
    → p ≡ first_sample g
    → ys ≡ flat (p ∷ [])
    → zs ≡ flat (later_samples g k0 k1 n p)
    → ys ++ zs ≡ flat (geom_samples g)
geom-spiral g {k0} {k1} n {p} {ys} {zs} s e f h k =
    let w = count-spiral g s refl in
    let m : n ≡ spiral_steps g.length = omega arith in
    ap (λ (l : List Float). l ++ zs) h
    ∙ ap (λ (l : List Float). flat (p ∷ []) ++ l) k
    ∙ sym (flat-cons p (later_samples g k0 k1 n p))
    ∙ ap (λ (q : Sample). flat (q ∷ later_samples g k0 k1 n q)) f
    ∙ ap (λ (j : ℕ). flat (first_sample g ∷ later_samples g k0 k1 j (first_sample g))) m
    ∙ ap flat (sym (samples-are g s))

-- a spiral has at least one sample
pub geom-some : (g : GeomRec) {k0 k1 : Float} → g.shape ≡ Spiral k0 k1 → 1 ≤ sample_count g
geom-some g s = let w = count-spiral g s refl in omega arith

-- an arc and a line have none, and no room
empty : (xs : List Float) → length xs ≡ 0 → xs ≡ []
empty [] h = refl
empty (x ∷ xs) h = absurd (omega (arith, h))

geom-arc : (g : GeomRec) {k : Float} (xs : List Float) → g.shape ≡ Arc k → length xs ≡ sample_count g * 4 → xs ≡ flat (geom_samples g)
unfolding geom_samples flat
geom-arc g xs s e =
    let w = count-arc g s in
    let z : length xs ≡ 0 = omega arith in
    empty xs z ∙ rw s

geom-line : (g : GeomRec) (xs : List Float) → g.shape ≡ Line → length xs ≡ sample_count g * 4 → xs ≡ flat (geom_samples g)
unfolding geom_samples flat
geom-line g xs s e =
    let w = count-line g s in
    let z : length xs ≡ 0 = omega arith in
    empty xs z ∙ rw s

pub geom-other : (g : GeomRec) (xs : List Float) → ((k0 k1 : Float) → g.shape ≡ Spiral k0 k1 → ⊥) → length xs ≡ sample_count g * 4 → xs ≡ flat (geom_samples g)
geom-other g xs other e = go g.shape refl
  where
    go : (s : GeomShape) → g.shape ≡ s → xs ≡ flat (geom_samples g)
    go Line w = geom-line g xs w e
    go (Arc k) w = geom-arc g xs w e
    go (Spiral k0 k1) w = absurd (other k0 k1 w)

-- ---- all geometries

module _ (road : Road) where
  pub all_none : (l : List Float) → l ≡ sets l 0 (flat (samples_up_to road 0))
  unfolding samples_up_to flat
  all_none l = refl

  pub all_start : 0 ≡ samples_before road 0 * 4
  unfolding samples_before
  all_start = refl

  -- a geometry's samples have room, and the next ones' place
  pub turn-room : (i len : ℕ) {at count : ℕ} {g : GeomRec} → i < length road.geoms → at ≡ samples_before road i * 4 → g ≡ geom_at road i → count ≡ sample_count g
      → samples_needed road * 4 ≤ len → at + count * 4 ≤ len
  unfolding samples_needed
  turn-room i len h e f k l =
      let w : _ ≡ sample_count (geom_at road i) = k ∙ ap sample_count f in
      let a = before-mono road (suc i) (length road.geoms) h in
      let b = before-next road i in
      omega arith

  pub turn-place : (i : ℕ) {at count : ℕ} {g : GeomRec} → at ≡ samples_before road i * 4 → g ≡ geom_at road i → count ≡ sample_count g → at + count * 4 ≡ samples_before road (i + 1) * 4
  turn-place i e f k =
      let w : _ ≡ sample_count (geom_at road i) = k ∙ ap sample_count f in
      let b = before-next road i in
      let c : samples_before road (i + 1) ≡ samples_before road (suc i) = ap (samples_before road) (add-one i) in
      omega arith

  pub all-turn : (i : ℕ) (l : List Float) {at count : ℕ} {xs ys : List Float} {g : GeomRec} → at ≡ samples_before road i * 4 → g ≡ geom_at road i → count ≡ sample_count g → at + count * 4 ≤ length xs
      → xs ≡ sets l 0 (flat (samples_up_to road i)) → ys ≡ flat (geom_samples g)
      → take at xs ++ (ys ++ drop (at + count * 4 - at) (drop at xs)) ≡ sets l 0 (flat (samples_up_to road (i + 1)))
  all-turn i l {at} {count} {xs} {ys} {g} e f c r h k =
      let a = length-flat (samples_up_to road i) in
      let b = length-up_to road i in
      let p : 0 + length (flat (samples_up_to road i)) ≡ at = omega arith in
      let own : ys ≡ flat (geom_samples (geom_at road i)) = k ∙ ap (λ (s : GeomRec). flat (geom_samples s)) f in
      let n = length-flat (geom_samples g) in
      let m = length-samples g in
      let w : length ys ≡ length (flat (geom_samples g)) = ap length k in
      let o : length ys ≡ at + count * 4 - at = omega arith in
      let v : at + (at + count * 4 - at) ≤ length xs = omega arith in
      sets-after (flat (samples_up_to road i)) (flat (geom_samples (geom_at road i))) l 0 at p h (part_is xs ys at (at + count * 4 - at) o v ∙ ap (sets xs at) own)
      ∙ ap (sets l 0) (sym (flat_append (samples_up_to road i) (geom_samples (geom_at road i))))
      ∙ ap (λ (s : List Sample). sets l 0 (flat s)) (sym (up_to-next road i))
      ∙ ap (λ (s : ℕ). sets l 0 (flat (samples_up_to road s))) (sym (add-one i))

  pub all_end : (i : ℕ) (l : List Float) {xs : List Float} → i ≡ length road.geoms → samples_needed road * 4 ≤ length l → xs ≡ sets l 0 (flat (samples_up_to road i))
      → xs ≡ samples_of road ++ drop (4 * samples_needed road) l
  unfolding samples_of
  all_end i l e h f =
      let n = length-samples_of road in
      let m : 0 + length (samples_of road) ≡ 4 * samples_needed road = omega arith in
      f
      ∙ ap (λ (s : ℕ). sets l 0 (flat (samples_up_to road s))) e
      ∙ sets-eq (samples_of road) l 0 (omega arith)
      ∙ ap (λ (s : ℕ). samples_of road ++ drop s l) m
