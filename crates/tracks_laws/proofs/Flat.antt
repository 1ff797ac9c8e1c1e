-- Tangents and headings lie in plan: their z is 0, of either sign. At most 0 in size is `Within` 0, and each operation on the way keeps that: the bounds are computed.
use Prim.Native.Nat.{ℕ, zero, suc, zero-le, ◌+◌, ◌*◌, ◌^◌, ◌<◌}
use native.Mathlib.Nat.{le_antisymm, le_trans, le_of_eq, zero-mul, mul-pos}
use native.Mathlib.Omega.{arith}
use mathlib.Core.Path.{◌≡◌, refl, ap, ◌∙◌}
use mathlib.Core.Bool.{Bool, true, false, cond, ◌&&◌}
use lib.Dec.{T, ltb}
use lib.Pow.{pow_pos}
use lib.Ieee.{Float, binary32, low, of_bits, le, lt, eq, add, mul, div}
use lib.Ieee.Scale.{finite}
use lib.Ieee.Positive.{num, den}
use borrow.Author.Tests.{ltb-true}
use Rattle.std.proofs.lemmas.Float.{T_from_true}
use Rattle.float_laws.specs.Binary32.{◌⊕◌, ◌⊗◌, ◌⊘◌, zero32, one32, largest32}
use Rattle.float_laws.proofs.Value.{mag, units_of}
use Rattle.float_laws.proofs.Size.{Within, within-mono, within-self, add-within, mul-within}
use Rattle.float_laws.proofs.Interval.{In, nil, nil-real, nil-pl, nil-mi}
use Rattle.records_lent.proofs.TestLaws.{and-fst, and-snd}
use Rattle.records.specs.declared.points.Point.{Point}
use Rattle.coordinates.specs.declared.vectors.Vector.{Vector}
use Rattle.coordinates.specs.Vectors.{from_to, horizontal_of, scaled_by, sum_of, vector_between, length_of, unit_of, zero_vector}
use Rattle.tracks.specs.Tangents.{direction_of, incoming_of, outgoing_of, tangent_of}
use Rattle.tracks.specs.Poses.{heading_at}
use Rattle.tracks_laws.proofs.Admitted.{Placed}
use Rattle.tracks_laws.proofs.UnitVectors.{Bounded, Roomy, most-quotient, quotient-any, length-real}
use Rattle.tracks_laws.proofs.Finite.{blend, blend-within, fraction-within, small-unit, small-room, unit-bound, unit-room, large-unit, large-room, flat-bounded, pair-bounded, turn-bounded}

-- at most 0 in size
abbrev Nil : Float → Type 0
Nil x = Within binary32 x nil

nil-own : Nil nil
nil-own = within-self binary32 nil (nil-real binary32) (nil-mi binary32)

none : (a b : ℕ) → 0 < b → a * b ≡ 0 → a ≡ 0
none zero b h e = refl
none (suc a) b h e = let p : 0 < suc a * b = mul-pos (omega arith) h in absurd (omega arith)

pub nil-num : (x : Float) → Nil x → num x ≡ 0
nil-num x w =
    let m : mag binary32 x ≡ 0 = le_antisymm (le_trans w.le (le_of_eq (nil-pl binary32))) zero-le in
    let e : num x * 2 ^ low binary32 ≡ 0 = units_of binary32 x w.value ∙ ap (λ (k : ℕ). k * den x) m ∙ zero-mul (den x) in
    none (num x) (2 ^ low binary32) (pow_pos (low binary32)) e

-- ---- the unit

scaled-fin : T (finite (nil ⊗ most-quotient))
unfolding of_bits mul div
scaled-fin = tt

scaled-le : T (le (nil ⊗ most-quotient) nil)
unfolding of_bits mul div le lt eq
scaled-le = tt

scaled-nil : (x k : Float) → Nil x → Within binary32 k most-quotient → Nil (x ⊗ k)
scaled-nil x k h q = within-mono binary32 (x ⊗ k) (nil ⊗ most-quotient) nil (mul-within binary32 x k nil most-quotient h q scaled-fin) (nil-real binary32) scaled-le

unit-flat : (A : Float) → Roomy A → (v : Vector) → Bounded v A → Nil v.z → Nil (unit_of v).z
unfolding unit_of of_bits
unit-flat A room v b h = go (lt zero32 (length_of v) && le (length_of v) largest32) refl
  where
    go : (c : Bool) → lt zero32 (length_of v) && le (length_of v) largest32 ≡ c → Nil (cond c (scaled_by v (one32 ⊘ length_of v)) zero_vector).z
    go false e = nil-own
    go true e =
        let above = T_from_true (lt zero32 (length_of v)) (and-fst (lt zero32 (length_of v)) (le (length_of v) largest32) e) in
        let below = T_from_true (le (length_of v) largest32) (and-snd (lt zero32 (length_of v)) (le (length_of v) largest32) e) in
        scaled-nil v.z (one32 ⊘ length_of v) h (quotient-any v b.x.value b.y.value b.z.value (length-real A room v above below) above)

-- ---- tangents

zero-flat : Nil zero_vector.z
unfolding of_bits
zero-flat = nil-own

sum-fin : T (finite (nil ⊕ nil))
unfolding add
sum-fin = tt

sum-le : T (le (nil ⊕ nil) nil)
unfolding add le lt eq
sum-le = tt

module _ (p : ℕ → Point) (n : ℕ) (placed : (i : ℕ) → i < n → Placed (p i)) where
  direction-flat : (i j : ℕ) → i < n → j < n → Nil (direction_of (p i) (p j)).z
  direction-flat i j h l = unit-flat small-unit small-room (horizontal_of (from_to (p i) (p j))) (flat-bounded (p i) (p j) (placed i h) (placed j l)) zero-flat

  incoming-flat : (i : ℕ) → i < n → Nil (incoming_of p i).z
  incoming-flat zero h = zero-flat
  incoming-flat (suc i) h = direction-flat i (suc i) (omega arith) h

  outgoing-flat : (i : ℕ) → i < n → Nil (outgoing_of p n i).z
  outgoing-flat i h = go (ltb (i + 1) n) refl
    where
      go : (c : Bool) → ltb (i + 1) n ≡ c → Nil (cond c (direction_of (p i) (p (i + 1))) zero_vector).z
      go true e = direction-flat i (i + 1) h (ltb-true (i + 1) n e)
      go false e = zero-flat

  pub tangent-flat : (i : ℕ) → i < n → Nil (tangent_of p n i).z
  unfolding tangent_of
  tangent-flat i h =
      let u = incoming_of p i in
      let w = outgoing_of p n i in
      unit-flat unit-bound unit-room (sum_of u w) (pair-bounded p n placed i h)
      (within-mono binary32 (u.z ⊕ w.z) (nil ⊕ nil) nil (add-within binary32 u.z w.z nil nil (incoming-flat i h) (outgoing-flat i h) sum-fin) (nil-real binary32) sum-le)

-- ---- headings

steep-fin : T (finite ((nil ⊕ nil) ⊗ one32))
unfolding add mul of_bits
steep-fin = tt

blend-fin : T (finite (blend nil))
unfolding add mul of_bits
blend-fin = tt

blend-le : T (le (blend nil) nil)
unfolding add mul of_bits le lt eq
blend-le = tt

pub heading-flat : (p : ℕ → Point) (n : ℕ) (placed : (i : ℕ) → i < n → Placed (p i)) (i : ℕ) → i + 1 < n → (t : Float) → In binary32 nil one32 t → Nil (heading_at p n i t).z
unfolding heading_at
heading-flat p n placed i h t ht =
    let u = tangent_of p n i in
    let v = tangent_of p n (i + 1) in
    unit-flat large-unit large-room (vector_between u v t) (turn-bounded p n placed i h t ht)
    (within-mono binary32 (vector_between u v t).z (blend nil) nil
    (blend-within nil u.z v.z t sum-fin steep-fin blend-fin (tangent-flat p n placed i (omega arith)) (tangent-flat p n placed (i + 1) h) (fraction-within t ht)) (nil-real binary32) blend-le)
