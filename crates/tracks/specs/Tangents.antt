-- Document 02, Point 1: `vertex_tangents` of src/geometry.rs, "no end tangents given".
use Rattle.std.specs.Prelude.{ℕ, zero, suc, ◌+◌, ◌*◌, cond, Option, Some, None, List, [], ◌∷◌, ◌++◌, drop, leb, ltb, Float}
use Rattle.records.specs.declared.points.Point.{Point}
use Rattle.coordinates.specs.declared.vectors.Vector.{Vector}
use Rattle.coordinates.specs.Vectors.{from_to, horizontal_of, unit_of, sum_of, zero_vector}

-- the direction from a to b in plan, zero where there is none
abbrev pub direction_of : Point → Point → Vector
direction_of a b = unit_of (horizontal_of (from_to a b))

-- of the segment that ends at point i, zero at the first point
abbrev pub incoming_of : (ℕ → Point) → ℕ → Vector
incoming_of p zero = zero_vector
incoming_of p (suc i) = direction_of (p i) (p (suc i))

-- of the segment that starts at point i, zero at the last of n points
abbrev pub outgoing_of : (ℕ → Point) → ℕ → ℕ → Vector
outgoing_of p n i = cond (ltb (i + 1) n) (direction_of (p i) (p (i + 1))) zero_vector

-- the tangent at point i of n: the unit of the two directions' sum, at the ends too
unfoldable pub tangent_of : (ℕ → Point) → ℕ → ℕ → Vector
unfolding unit_of
tangent_of p n i = unit_of (sum_of (incoming_of p i) (outgoing_of p n i))

-- three f32 a point, the first k of n points
unfoldable pub tangent_numbers : (ℕ → Point) → ℕ → ℕ → List Float
unfolding tangent_of
tangent_numbers p n zero = []
tangent_numbers p n (suc k) = tangent_numbers p n k ++ ((tangent_of p n k).x ∷ (tangent_of p n k).y ∷ (tangent_of p n k).z ∷ [])

-- how many points' tangents are written into a list with room for `room`; none where there is no room for all n
abbrev pub tangents_listed : ℕ → ℕ → Option ℕ
tangents_listed n room = cond (leb n room) (Some n) None

-- the lent list afterwards: "Lists lent here .. stay as they were past what is written"; all of it stays where there is no room
abbrev pub tangents_left : Option ℕ → (ℕ → Point) → ℕ → List Float → List Float
tangents_left (Some k) p n xs = tangent_numbers p n n ++ drop (n * 3) xs
tangents_left None p n xs = xs
