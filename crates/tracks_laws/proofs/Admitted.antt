-- What rows 13 and 14 say of a track's points: 2 to 512 of them, each coordinate a finite f32 of at most 2,000,000 in size.
-- Every number of a lent slice is a value of its format; `AllF32` says it.
use Prim.Native.Nat.{ℕ, zero, suc, ◌+◌, ◌*◌, ◌/◌, ◌%◌, ◌≤◌, ◌<◌}
use native.Mathlib.Omega.{arith}
use mathlib.Core.Path.{◌≡◌}
use mathlib.Core.Bool.{Bool, true, ◌&&◌}
use mathlib.Core.List.{List, [], ◌∷◌}
use lib.ListN.{length, get_or}
use Rattle.std.specs.List.{list_all}
use Rattle.std.proofs.lemmas.Float.{T_from_true}
use lib.Dec.{leb, eqb}
use borrow.Author.Tests.{leb-true, eqb-true}
use lib.Ieee.{Float, nan, binary32, of_bits, fits, neg, le}
use Rattle.float_laws.proofs.Value.{Real}
use Rattle.float_laws.proofs.Interval.{In, in-of_le}
use Rattle.float_laws.proofs.Checker.{good-real}
use Rattle.records_lent.proofs.TestLaws.{and-fst, and-snd}
use Rattle.records.specs.declared.points.Point.{Point}
use Rattle.coordinates.specs.Points.{point_at}
use Rattle.tracks_calls.specs.TrackCalls.{greatest_coordinate, track_counted, inside_size, all_inside, point_inside}
use Rattle.tracks_laws.specs.TrackLaws.{IsF32, AllF32, PointIsF32}

-- finite, and at most 2,000,000 in size
abbrev pub Coordinate : Float → Type 0
Coordinate x = In binary32 (neg greatest_coordinate) greatest_coordinate x

pub record Placed (p : Point) : Type 0 where
  pub x : Coordinate p.x
  pub y : Coordinate p.y
  pub z : Coordinate p.z

-- ---- a coordinate

pub greatest-real : Real binary32 greatest_coordinate
unfolding of_bits fits
greatest-real = good-real binary32 greatest_coordinate tt

pub least-real : Real binary32 (neg greatest_coordinate)
unfolding of_bits fits neg
least-real = good-real binary32 (neg greatest_coordinate) tt

pub inside_is : (x : Float) → IsF32 x → inside_size x ≡ true → Coordinate x
inside_is x f e =
    let a = le (neg greatest_coordinate) x in
    let b = le x greatest_coordinate in
    in-of_le binary32 (neg greatest_coordinate) greatest_coordinate x least-real greatest-real f (T_from_true a (and-fst a b e)) (T_from_true b (and-snd a b e))

-- ---- the points

passes-at : (p : Float → Bool) (xs : List Float) → list_all p xs ≡ true → (k : ℕ) → k < length xs → p (get_or xs k nan) ≡ true
passes-at p [] e k h = absurd (omega arith)
passes-at p (x ∷ xs) e zero h = and-fst (p x) (list_all p xs) e
passes-at p (x ∷ xs) e (suc k) h = passes-at p xs (and-snd (p x) (list_all p xs) e) k (omega arith)

module _ (xs : List Float) (fitting : AllF32 xs) (ok : all_inside xs ≡ true) where
  coordinate-at : (k : ℕ) → k < length xs → Coordinate (get_or xs k nan)
  unfolding all_inside
  coordinate-at k h = inside_is (get_or xs k nan) (fitting k) (passes-at inside_size xs ok k h)

  pub placed : (i : ℕ) → i < length xs / 3 → Placed (point_at xs i)
  placed i h = record { x = coordinate-at (i * 3) (omega arith); y = coordinate-at (i * 3 + 1) (omega arith); z = coordinate-at (i * 3 + 2) (omega arith) }

-- the projected point
pub point-placed : (p : Point) → PointIsF32 p → point_inside p ≡ true → Placed p
point-placed p f e =
    let a = inside_size p.x in
    let b = inside_size p.y in
    let c = inside_size p.z in
    let ab = and-fst (a && b) c e in
    record { x = inside_is p.x f.x (and-fst a b ab); y = inside_is p.y f.y (and-snd a b ab); z = inside_is p.z f.z (and-snd (a && b) c e) }

-- the count
pub counted_is : (len : ℕ) → track_counted len ≡ true → (len % 3 ≡ 0) × (2 ≤ len / 3) × (len / 3 ≤ 512)
counted_is len e =
    let a = eqb (len % 3) 0 in
    let b = leb 2 (len / 3) in
    let c = leb (len / 3) 512 in
    let ab = and-fst (a && b) c e in
    (eqb-true (len % 3) 0 (and-fst a b ab), leb-true 2 (len / 3) (and-snd a b ab), leb-true (len / 3) 512 (and-snd (a && b) c e))
