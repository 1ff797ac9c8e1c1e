-- The projection's numbers are finite, and the first segment always takes the place of the infinite distance that the search starts from, so that `project` always finds a segment.
use Prim.Native.Nat.{ℕ, zero, suc, ◌-◌, ◌≤◌, ◌<◌}
use native.Mathlib.Omega.{arith}
use mathlib.Core.Path.{◌≡◌, refl}
use mathlib.Core.Bool.{Bool, true, false, cond}
use lib.Dec.{T}
use lib.Ieee.{Float, nan, inf, fin, binary32, of_bits, fits, neg, le, lt, eq, add, mul}
use lib.Ieee.Scale.{finite}
use Rattle.float_laws.specs.Binary32.{◌⊕◌, ◌⊖◌, ◌⊗◌, zero32, one32, infinity32}
use Rattle.float_laws.proofs.Value.{mi, Real}
use Rattle.float_laws.proofs.Size.{Within, within-mono, within-const, add-within, sub_within, mul-within}
use Rattle.float_laws.proofs.Interval.{In, nil, nil-real}
use Rattle.float_laws.proofs.Checker.{good-real}
use Rattle.records.specs.declared.points.Point.{Point}
use Rattle.coordinates.specs.declared.vectors.Vector.{Vector}
use Rattle.coordinates.specs.Vectors.{from_to, dot_of, cross_of, length_of, horizontal_of, left_normal_of, vector}
use Rattle.tracks.specs.Lengths.{length_to}
use Rattle.tracks.specs.Tangents.{direction_of}
use Rattle.tracks.specs.declared.projections.Projection.{Projection}
use Rattle.tracks.specs.Projections.{Nearest, foot_of, candidate_of, closest_of, square_to, nearer_of, nearest_of, project_of}
use Rattle.tracks_calls.specs.TrackCalls.{greatest_coordinate}
use Rattle.tracks_laws.proofs.Admitted.{Coordinate, Placed}
use Rattle.tracks_laws.proofs.ArcLengths.{reach, distance-in}
use Rattle.tracks_laws.proofs.Fractions.{top32, length-in}
use Rattle.tracks_laws.proofs.UnitVectors.{Bounded, nil-within, unit-in}
use Rattle.tracks_laws.proofs.Finite.{small-unit, unit-bound, unit-room, small-room, blend, coordinate-within, up-within, fraction-within, one-within, direction-in, mean-within, foot-in, RealPoint}

-- ---- the closest place, and the way from it

module _ (a b at : Point) (p : Placed a) (q : Placed b) (r : Placed at) where
  abbrev t : Float
  t = foot_of (from_to a b) (from_to a at)

  t_within : Within binary32 t one32
  t_within = fraction-within t (foot-in a b at p q r)

  pub closest-real : RealPoint (closest_of a b at)
  closest-real = record { x = (mean-within a.x b.x t p.x q.x t_within).value; y = (mean-within a.y b.y t p.y q.y t_within).value; z = (mean-within a.z b.z t p.z q.z t_within).value }

-- 8,000,000
apart-fin : T (finite (greatest_coordinate ⊕ blend greatest_coordinate))
unfolding of_bits add mul
apart-fin = tt

reach-real : Real binary32 reach
unfolding of_bits fits
reach-real = good-real binary32 reach tt

reach-mi : mi binary32 reach ≡ 0
unfolding of_bits mi
reach-mi = refl

apart-le : T (le (greatest_coordinate ⊕ blend greatest_coordinate) reach)
unfolding of_bits add mul le lt eq
apart-le = tt

apart-within : (c a b t : Float) → Coordinate c → Coordinate a → Coordinate b → Within binary32 t one32 → Within binary32 (c ⊖ (a ⊕ (b ⊖ a) ⊗ t)) reach
apart-within c a b t hc ha hb ht =
    within-mono binary32 (c ⊖ (a ⊕ (b ⊖ a) ⊗ t)) (greatest_coordinate ⊕ blend greatest_coordinate) reach (sub_within binary32 c (a ⊕ (b ⊖ a) ⊗ t) greatest_coordinate (blend greatest_coordinate) (coordinate-within c hc) (mean-within a b t ha hb ht) apart-fin) reach-real apart-le

-- ---- the squared distance

square-fin : T (finite (reach ⊗ reach))
unfolding of_bits mul
square-fin = tt

two-fin : T (finite (reach ⊗ reach ⊕ reach ⊗ reach))
unfolding of_bits mul add
two-fin = tt

three-fin : T (finite (reach ⊗ reach ⊕ reach ⊗ reach ⊕ reach ⊗ reach))
unfolding of_bits mul add
three-fin = tt

pub square-real : (a b at : Point) → Placed a → Placed b → Placed at → Real binary32 (square_to (closest_of a b at) at)
unfolding dot_of
square-real a b at p q r =
    let t = foot_of (from_to a b) (from_to a at) in
    let w = fraction-within t (foot-in a b at p q r) in
    let v = from_to (closest_of a b at) at in
    let x = apart-within at.x a.x b.x t r.x p.x q.x w in
    let y = apart-within at.y a.y b.y t r.y p.y q.y w in
    let z = apart-within at.z a.z b.z t r.z p.z q.z w in
    let xx = mul-within binary32 v.x v.x reach reach x x square-fin in
    let yy = mul-within binary32 v.y v.y reach reach y y square-fin in
    let zz = mul-within binary32 v.z v.z reach reach z z square-fin in
    (add-within binary32 (v.x ⊗ v.x ⊕ v.y ⊗ v.y) (v.z ⊗ v.z) (reach ⊗ reach ⊕ reach ⊗ reach) (reach ⊗ reach)
    (add-within binary32 (v.x ⊗ v.x) (v.y ⊗ v.y) (reach ⊗ reach) (reach ⊗ reach) xx yy two-fin) zz three-fin).value

-- ---- the left normal

zero_one : Within binary32 zero32 one32
unfolding of_bits fits neg le
zero_one = within-const binary32 zero32 one32 tt

turn-fin : T (finite (one32 ⊗ small-unit))
unfolding of_bits mul
turn-fin = tt

turns-fin : T (finite (one32 ⊗ small-unit ⊕ one32 ⊗ small-unit))
unfolding of_bits mul add
turns-fin = tt

turns-le : T (le (one32 ⊗ small-unit ⊕ one32 ⊗ small-unit) unit-bound)
unfolding of_bits mul add le lt eq
turns-le = tt

-- a * x - b * y, where a and b are at most 1
turn-within : (a b x y : Float) → Within binary32 a one32 → Within binary32 b one32 → Within binary32 x small-unit → Within binary32 y small-unit → Within binary32 (a ⊗ x ⊖ b ⊗ y) unit-bound
turn-within a b x y ha hb hx hy =
    within-mono binary32 (a ⊗ x ⊖ b ⊗ y) (one32 ⊗ small-unit ⊕ one32 ⊗ small-unit) unit-bound
    (sub_within binary32 (a ⊗ x) (b ⊗ y) (one32 ⊗ small-unit) (one32 ⊗ small-unit) (mul-within binary32 a x one32 small-unit ha hx turn-fin) (mul-within binary32 b y one32 small-unit hb hy turn-fin) turns-fin)
    unit-room.real turns-le

pub normal-in : (h : Vector) → Bounded h small-unit → Bounded (left_normal_of h) unit-bound
unfolding left_normal_of
normal-in h b =
    let z = zero_one in
    let o = one-within in
    let n : Within binary32 zero32 small-unit = unfold of_bits in nil-within small-unit small-room in
    unit-in unit-bound unit-room (cross_of (vector zero32 zero32 one32) (horizontal_of h))
    (record {
      x = turn-within zero32 one32 zero32 h.y z o n b.y;
      y = turn-within one32 zero32 h.x zero32 o z b.x n;
      z = turn-within zero32 zero32 h.y h.x z z b.y b.x;
    })

-- ---- the projection on one segment

side-fin : T (finite (reach ⊗ unit-bound))
unfolding of_bits mul
side-fin = tt

sides-fin : T (finite (reach ⊗ unit-bound ⊕ reach ⊗ unit-bound))
unfolding of_bits mul add
sides-fin = tt

all-fin : T (finite (reach ⊗ unit-bound ⊕ reach ⊗ unit-bound ⊕ reach ⊗ unit-bound))
unfolding of_bits mul add
all-fin = tt

zero-reach : Within binary32 zero32 reach
unfolding of_bits fits neg le
zero-reach = within-const binary32 zero32 reach tt

part : (x y : Float) → Within binary32 x reach → Within binary32 y unit-bound → Within binary32 (x ⊗ y) (reach ⊗ unit-bound)
part x y h k = mul-within binary32 x y reach unit-bound h k side-fin

flat-real : (v n : Vector) → Within binary32 v.x reach → Within binary32 v.y reach → Bounded n unit-bound → Real binary32 (dot_of (horizontal_of v) n)
unfolding dot_of
flat-real v n hx hy b =
    (add-within binary32 (v.x ⊗ n.x ⊕ v.y ⊗ n.y) (zero32 ⊗ n.z) (reach ⊗ unit-bound ⊕ reach ⊗ unit-bound) (reach ⊗ unit-bound)
    (add-within binary32 (v.x ⊗ n.x) (v.y ⊗ n.y) (reach ⊗ unit-bound) (reach ⊗ unit-bound) (part v.x n.x hx b.x) (part v.y n.y hy b.y) sides-fin)
    (part zero32 n.z zero-reach b.z) all-fin).value

pub record RealProjection (r : Projection) : Type 0 where
  pub s : Real binary32 r.s
  pub point : RealPoint r.point
  pub offset : Real binary32 r.offset

along-fin : T (finite (reach ⊗ one32))
unfolding of_bits mul
along-fin = tt

arc-fin : T (finite (top32 ⊕ reach ⊗ one32))
unfolding of_bits mul add
arc-fin = tt

top-mi : mi binary32 top32 ≡ 0
unfolding of_bits mi
top-mi = refl

module _ (a b at : Point) (p : Placed a) (q : Placed b) (r : Placed at) (from : Float) (hf : In binary32 nil top32 from) where
  pub candidate-real : RealProjection (candidate_of (from_to a b) (foot_of (from_to a b) (from_to a at)) (closest_of a b at) (from_to (closest_of a b at) at) from)
  unfolding candidate_of
  candidate-real =
      let f = foot_of (from_to a b) (from_to a at) in
      let w = fraction-within f (foot-in a b at p q r) in
      let l = up-within reach (length_of (from_to a b)) reach-mi (distance-in a b p q) in
      record {
        s = (add-within binary32 from (length_of (from_to a b) ⊗ f) top32 (reach ⊗ one32) (up-within top32 from top-mi hf) (mul-within binary32 (length_of (from_to a b)) f reach one32 l w along-fin) arc-fin).value;
        point = closest-real a b at p q r;
        offset = flat-real (from_to (closest_of a b at) at) (left_normal_of (direction_of a b)) (apart-within at.x a.x b.x f r.x p.x q.x w) (apart-within at.y a.y b.y f r.y p.y q.y w) (normal-in (direction_of a b) (direction-in a b p q));
      }

  nearer-real : (best : Nearest) → RealProjection best.projection → RealProjection (nearer_of best a b at from).projection
  unfolding nearer_of
  nearer-real best h = go (lt (square_to (closest_of a b at) at) best.square)
    where
      go : (c : Bool) → RealProjection (cond c (record { square = square_to (closest_of a b at) at; projection = candidate_of (from_to a b) (foot_of (from_to a b) (from_to a at)) (closest_of a b at) (from_to (closest_of a b at) at) from }) best).projection
      go true = candidate-real
      go false = h

-- ---- over the track

pub under-infinity : (x : Float) → Real binary32 x → lt x infinity32 ≡ true
unfolding lt of_bits
under-infinity nan r = absurd r.finite
under-infinity (inf s) r = absurd r.finite
under-infinity (fin s m e) r = refl

module _ (p : ℕ → Point) (n : ℕ) (placed : (i : ℕ) → i < n → Placed (p i)) (small : n ≤ 512) (two : 2 ≤ n) (at : Point) (r : Placed at) where
  nearest-real : (k : ℕ) → k < n → RealProjection (nearest_of p at k).projection
  unfolding nearest_of of_bits
  nearest-real zero h =
      let a = placed 0 h in
      record { s = nil-real binary32; point = record { x = a.x.value; y = a.y.value; z = a.z.value }; offset = nil-real binary32 }
  nearest-real (suc k) h =
      nearer-real (p k) (p (suc k)) at (placed k (omega arith)) (placed (suc k) h) r (length_to p k) (length-in p n placed small two k (omega arith)) (nearest_of p at k) (nearest-real k (omega arith))

  pub project-real : RealProjection (project_of p n at)
  unfolding project_of
  project-real = nearest-real (n - 1) (omega arith)

  -- the first segment is nearer than the infinity
  pub project-finds : (nearest_of p at 1).square ≡ square_to (closest_of (p 0) (p 1) at) at
  unfolding nearest_of nearer_of
  project-finds = rw (under-infinity (square_to (closest_of (p 0) (p 1) at) at) (square-real (p 0) (p 1) at (placed 0 (omega arith)) (placed 1 (omega arith)) r))
