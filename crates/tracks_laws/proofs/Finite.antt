-- Every number that a track answers with is finite, but for a NaN s: the sizes of `Within` carried through the operations, with bounds that are computed. They are crude where nothing finer is owed (a unit vector is at most 2^77 here).
use Prim.Native.Nat.{ℕ, zero, suc, ◌+◌, ◌≤◌, ◌<◌}
use native.Mathlib.Omega.{arith}
use mathlib.Core.Path.{◌≡◌, refl}
use mathlib.Core.Bool.{Bool, true, false, cond}
use mathlib.Core.List.{[], ◌∷◌}
use lib.Dec.{T, ltb}
use lib.Ieee.{Float, nan, inf, fin, binary32, is_nan, of_bits, fits, neg, le, lt, eq, add, sub, mul, div}
use lib.Ieee.Scale.{finite}
use borrow.Author.Tests.{ltb-true}
use Rattle.std.proofs.lemmas.Float.{T_from_true}
use Rattle.float_laws.specs.Binary32.{◌⊕◌, ◌⊖◌, ◌⊗◌, ◌⊘◌, f32, zero32, one32, clamp_of}
use Rattle.float_laws.proofs.Value.{mag, pl, mi, Real, mag_is, lt→units, le_refl as float-refl}
use Rattle.float_laws.proofs.Size.{Within, within-of_le, within-mono, within-self, add-within, sub_within, mul-within}
use Rattle.float_laws.proofs.Order.{div-within}
use Rattle.float_laws.proofs.Interval.{In, nil, nil-real, from_zero, le→parts, least, most}
use Rattle.float_laws.proofs.Checker.{Ex, var, plus, minus, times, eval, iv, Iv, ival, covers, check, checked, good-real, add_i, sub_i, mul_i}
use Rattle.records.specs.declared.points.Point.{Point}
use Rattle.coordinates.specs.declared.vectors.Vector.{Vector}
use Rattle.coordinates.specs.Vectors.{from_to, sum_of, dot_of, unit_of, horizontal_of, vector_between, zero_vector}
use Rattle.tracks.specs.Tangents.{direction_of, incoming_of, outgoing_of, tangent_of}
use Rattle.tracks.specs.Poses.{position_at, heading_at}
use Rattle.tracks.specs.Projections.{least_square, foot_of}
use Rattle.tracks_calls.specs.TrackCalls.{greatest_coordinate}
use Rattle.tracks_laws.proofs.Admitted.{greatest-real, Coordinate, Placed}
use Rattle.tracks_laws.proofs.Fractions.{one-real, clamp-in}
use Rattle.tracks_laws.proofs.UnitVectors.{Bounded, Roomy, nil-within, unit-in}

-- ---- bounds

-- 2^77, 2^78 and 2^80
abbrev pub small-unit : Float
small-unit = f32 0x6600_0000

abbrev pub unit-bound : Float
unit-bound = f32 0x6680_0000

abbrev pub large-unit : Float
large-unit = f32 0x6780_0000

pub small-room : Roomy small-unit
unfolding of_bits fits mi mul div le lt eq
small-room = record { real = good-real binary32 small-unit tt; plus = refl; own = tt; same = tt; holds = tt }

pub unit-room : Roomy unit-bound
unfolding of_bits fits mi mul div le lt eq
unit-room = record { real = good-real binary32 unit-bound tt; plus = refl; own = tt; same = tt; holds = tt }

pub large-room : Roomy large-unit
unfolding of_bits fits mi mul div le lt eq
large-room = record { real = good-real binary32 large-unit tt; plus = refl; own = tt; same = tt; holds = tt }

pub one-within : Within binary32 one32 one32
unfolding of_bits mi
one-within = within-self binary32 one32 one-real refl

pub coordinate-within : (x : Float) → Coordinate x → Within binary32 x greatest_coordinate
coordinate-within x c = within-of_le binary32 x greatest_coordinate c.value greatest-real c.above c.below

-- from 0 to A
pub up-within : (A x : Float) → mi binary32 A ≡ 0 → In binary32 nil A x → Within binary32 x A
up-within A x z i =
    let m = from_zero binary32 x i.value i.above in
    let q = (le→parts binary32 x A i.value i.high i.below).0 in
    let s = mag_is binary32 x in
    record { value = i.value; bound = i.high; plus = z; le = omega arith }

pub fraction-within : (t : Float) → In binary32 nil one32 t → Within binary32 t one32
unfolding of_bits mi
fraction-within t i = up-within one32 t refl i

-- ---- a mean of two numbers

-- a + (b - a) * t, of sizes up to A
abbrev pub blend : Float → Float
blend A = A ⊕ (A ⊕ A) ⊗ one32

pub blend-within : (A a b t : Float) → T (finite (A ⊕ A)) → T (finite ((A ⊕ A) ⊗ one32)) → T (finite (blend A)) → Within binary32 a A → Within binary32 b A → Within binary32 t one32 → Within binary32 (a ⊕ (b ⊖ a) ⊗ t) (blend A)
blend-within A a b t u v w ha hb ht =
    let d = sub_within binary32 b a A A hb ha u in
    add-within binary32 a ((b ⊖ a) ⊗ t) A ((A ⊕ A) ⊗ one32) ha (mul-within binary32 (b ⊖ a) t (A ⊕ A) one32 d ht v) w

-- ---- tangents

-- 4,000,000
twice-fin : T (finite (greatest_coordinate ⊕ greatest_coordinate))
unfolding of_bits add
twice-fin = tt

twice-small : T (le (greatest_coordinate ⊕ greatest_coordinate) small-unit)
unfolding of_bits add le lt eq
twice-small = tt

side-within : (a b : Float) → Coordinate a → Coordinate b → Within binary32 (b ⊖ a) small-unit
side-within a b ca cb =
    within-mono binary32 (b ⊖ a) (greatest_coordinate ⊕ greatest_coordinate) small-unit (sub_within binary32 b a greatest_coordinate greatest_coordinate (coordinate-within b cb) (coordinate-within a ca) twice-fin) small-room.real twice-small

zero-bounded : Bounded zero_vector small-unit
unfolding of_bits
zero-bounded = let z = nil-within small-unit small-room in record { x = z; y = z; z = z }

pub flat-bounded : (a b : Point) → Placed a → Placed b → Bounded (horizontal_of (from_to a b)) small-unit
unfolding of_bits
flat-bounded a b p q = record { x = side-within a.x b.x p.x q.x; y = side-within a.y b.y p.y q.y; z = nil-within small-unit small-room }

pub direction-in : (a b : Point) → Placed a → Placed b → Bounded (direction_of a b) small-unit
direction-in a b p q = unit-in small-unit small-room (horizontal_of (from_to a b)) (flat-bounded a b p q)

pair-fin : T (finite (small-unit ⊕ small-unit))
unfolding of_bits add
pair-fin = tt

pair-le : T (le (small-unit ⊕ small-unit) unit-bound)
unfolding of_bits add le lt eq
pair-le = tt

pair-within : (x y : Float) → Within binary32 x small-unit → Within binary32 y small-unit → Within binary32 (x ⊕ y) unit-bound
pair-within x y h k = within-mono binary32 (x ⊕ y) (small-unit ⊕ small-unit) unit-bound (add-within binary32 x y small-unit small-unit h k pair-fin) unit-room.real pair-le

module _ (p : ℕ → Point) (n : ℕ) (placed : (i : ℕ) → i < n → Placed (p i)) where
  incoming-in : (i : ℕ) → i < n → Bounded (incoming_of p i) small-unit
  incoming-in zero h = zero-bounded
  incoming-in (suc i) h = direction-in (p i) (p (suc i)) (placed i (omega arith)) (placed (suc i) h)

  outgoing-in : (i : ℕ) → i < n → Bounded (outgoing_of p n i) small-unit
  outgoing-in i h = go (ltb (i + 1) n) refl
    where
      go : (b : Bool) → ltb (i + 1) n ≡ b → Bounded (cond b (direction_of (p i) (p (i + 1))) zero_vector) small-unit
      go true e = direction-in (p i) (p (i + 1)) (placed i h) (placed (i + 1) (ltb-true (i + 1) n e))
      go false e = zero-bounded

  pub pair-bounded : (i : ℕ) → i < n → Bounded (sum_of (incoming_of p i) (outgoing_of p n i)) unit-bound
  pair-bounded i h =
      let a = incoming-in i h in
      let b = outgoing-in i h in
      let u = incoming_of p i in
      let w = outgoing_of p n i in
      record { x = pair-within u.x w.x a.x b.x; y = pair-within u.y w.y a.y b.y; z = pair-within u.z w.z a.z b.z }

  pub tangent-in : (i : ℕ) → i < n → Bounded (tangent_of p n i) unit-bound
  unfolding tangent_of
  tangent-in i h = unit-in unit-bound unit-room (sum_of (incoming_of p i) (outgoing_of p n i)) (pair-bounded i h)

-- ---- a pose

pub record RealPoint (p : Point) : Type 0 where
  pub x : Real binary32 p.x
  pub y : Real binary32 p.y
  pub z : Real binary32 p.z

pub record RealVector (v : Vector) : Type 0 where
  pub x : Real binary32 v.x
  pub y : Real binary32 v.y
  pub z : Real binary32 v.z

pub bounded-real : (v : Vector) (A : Float) → Bounded v A → RealVector v
bounded-real v A b = record { x = b.x.value; y = b.y.value; z = b.z.value }

steep-fin : T (finite ((greatest_coordinate ⊕ greatest_coordinate) ⊗ one32))
unfolding of_bits add mul
steep-fin = tt

blend-fin : T (finite (blend greatest_coordinate))
unfolding of_bits add mul
blend-fin = tt

-- a place of a segment, a coordinate at a time: at most 6,000,000
pub mean-within : (a b t : Float) → Coordinate a → Coordinate b → Within binary32 t one32 → Within binary32 (a ⊕ (b ⊖ a) ⊗ t) (blend greatest_coordinate)
mean-within a b t p q h = blend-within greatest_coordinate a b t twice-fin steep-fin blend-fin (coordinate-within a p) (coordinate-within b q) h

unit-twice-fin : T (finite (unit-bound ⊕ unit-bound))
unfolding of_bits add
unit-twice-fin = tt

unit-steep-fin : T (finite ((unit-bound ⊕ unit-bound) ⊗ one32))
unfolding of_bits add mul
unit-steep-fin = tt

unit-blend-fin : T (finite (blend unit-bound))
unfolding of_bits add mul
unit-blend-fin = tt

unit-blend-le : T (le (blend unit-bound) large-unit)
unfolding of_bits add mul le lt eq
unit-blend-le = tt

turn-within : (a b t : Float) → Within binary32 a unit-bound → Within binary32 b unit-bound → Within binary32 t one32 → Within binary32 (a ⊕ (b ⊖ a) ⊗ t) large-unit
turn-within a b t p q h = within-mono binary32 (a ⊕ (b ⊖ a) ⊗ t) (blend unit-bound) large-unit (blend-within unit-bound a b t unit-twice-fin unit-steep-fin unit-blend-fin p q h) large-room.real unit-blend-le

module _ (p : ℕ → Point) (n : ℕ) (placed : (i : ℕ) → i < n → Placed (p i)) (i : ℕ) (inside : i + 1 < n) (t : Float) (ht : In binary32 nil one32 t) where
  pub position-real : RealPoint (position_at p i t)
  position-real =
      let a = placed i (omega arith) in
      let b = placed (i + 1) inside in
      let w = fraction-within t ht in
      record { x = (mean-within (p i).x (p (i + 1)).x t a.x b.x w).value; y = (mean-within (p i).y (p (i + 1)).y t a.y b.y w).value; z = (mean-within (p i).z (p (i + 1)).z t a.z b.z w).value }

  pub turn-bounded : Bounded (vector_between (tangent_of p n i) (tangent_of p n (i + 1)) t) large-unit
  turn-bounded =
      let u = tangent_of p n i in
      let v = tangent_of p n (i + 1) in
      let a = tangent-in p n placed i (omega arith) in
      let b = tangent-in p n placed (i + 1) inside in
      let w = fraction-within t ht in
      record { x = turn-within u.x v.x t a.x b.x w; y = turn-within u.y v.y t a.y b.y w; z = turn-within u.z v.z t a.z b.z w }

  pub heading-real : RealVector (heading_at p n i t)
  unfolding heading_at
  heading-real =
      let m = vector_between (tangent_of p n i) (tangent_of p n (i + 1)) t in
      bounded-real (unit_of m) large-unit (unit-in large-unit large-room m turn-bounded)

-- ---- a projection

side : Iv
side = iv (neg greatest_coordinate) greatest_coordinate

-- the product of two ways from a place (variables 0, 1, 2), to 3, 4, 5 and to 6, 7, 8
product : Ex
product = plus (plus (times (minus (var 3) (var 0)) (minus (var 6) (var 0))) (times (minus (var 4) (var 1)) (minus (var 7) (var 1)))) (times (minus (var 5) (var 2)) (minus (var 8) (var 2)))

-- 2^47
abbrev most-product : Float
most-product = f32 0x5700_0000

product-real : Real binary32 most-product
unfolding of_bits fits
product-real = good-real binary32 most-product tt

minus-real : Real binary32 (neg most-product)
unfolding of_bits fits neg
minus-real = good-real binary32 (neg most-product) tt

product-passes : T (check binary32 (side ∷ side ∷ side ∷ side ∷ side ∷ side ∷ side ∷ side ∷ side ∷ []) product (neg most-product) most-product)
unfolding side product check covers ival add_i sub_i mul_i least most add sub mul neg le lt eq fits of_bits
product-passes = tt

product-within : (a b c : Point) → Placed a → Placed b → Placed c → Within binary32 (dot_of (from_to a b) (from_to a c)) most-product
unfolding eval product dot_of side
product-within a b c p q r =
    let i = checked binary32 (side ∷ side ∷ side ∷ side ∷ side ∷ side ∷ side ∷ side ∷ side ∷ []) (a.x ∷ a.y ∷ a.z ∷ b.x ∷ b.y ∷ b.z ∷ c.x ∷ c.y ∷ c.z ∷ []) product (neg most-product) most-product minus-real product-real product-passes
    (p.x, (p.y, (p.z, (q.x, (q.y, (q.z, (r.x, (r.y, (r.z, tt))))))))) in
    within-of_le binary32 (dot_of (from_to a b) (from_to a c)) most-product i.value product-real i.above i.below

square-real : Real binary32 least_square
unfolding of_bits fits
square-real = good-real binary32 least_square tt

square-pl : 0 < pl binary32 least_square
unfolding of_bits pl
square-pl = omega arith

square-mi : mi binary32 least_square ≡ 0
unfolding of_bits mi
square-mi = refl

steepest : T (finite (most-product ⊘ least_square))
unfolding of_bits div
steepest = tt

more : (a b c d m : ℕ) → b ≡ 0 → a + d < c + b → m ≡ c + d → a ≤ m
more a b c d m z h e = omega arith

real-no_nan : (x : Float) → Real binary32 x → is_nan x ≡ false
unfolding is_nan
real-no_nan nan r = absurd r.finite
real-no_nan (inf s) r = absurd r.finite
real-no_nan (fin s m e) r = refl

zero_one : T (le nil one32)
unfolding of_bits le lt eq
zero_one = tt

-- the foot is held to 0..1
pub foot-in : (a b at : Point) → Placed a → Placed b → Placed at → In binary32 nil one32 (foot_of (from_to a b) (from_to a at))
unfolding foot_of of_bits
foot-in a b at p q r = go (lt least_square (dot_of (from_to a b) (from_to a b))) refl
  where
    square : Within binary32 (dot_of (from_to a b) (from_to a b)) most-product
    square = product-within a b b p q q

    some : lt least_square (dot_of (from_to a b) (from_to a b)) ≡ true → In binary32 nil one32 (clamp_of zero32 one32 (dot_of (from_to a at) (from_to a b) ⊘ dot_of (from_to a b) (from_to a b)))
    some e =
        let y = dot_of (from_to a b) (from_to a b) in
        let x = dot_of (from_to a at) (from_to a b) in
        let u = lt→units binary32 least_square y square-real square.value (T_from_true (lt least_square y) e) in
        let w = div-within binary32 x y most-product least_square (product-within a at b p r q) square.value square-real square-pl (more (pl binary32 least_square) (mi binary32 least_square) (pl binary32 y) (mi binary32 y) (mag binary32 y) square-mi u (mag_is binary32 y)) steepest in
        clamp-in nil one32 (x ⊘ y) (nil-real binary32) one-real zero_one w.value.fits (real-no_nan (x ⊘ y) w.value)

    go : (c : Bool) → lt least_square (dot_of (from_to a b) (from_to a b)) ≡ c → In binary32 nil one32 (cond c (clamp_of zero32 one32 (dot_of (from_to a at) (from_to a b) ⊘ dot_of (from_to a b) (from_to a b))) zero32)
    go true e = some e
    go false e = record { low = nil-real binary32; high = one-real; value = nil-real binary32; above = float-refl binary32 nil (nil-real binary32); below = zero_one }
