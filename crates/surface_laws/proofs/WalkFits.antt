-- Every s and t on the way is an f64, as the road's length, the guess and the results of f64 operations are. By induction on the moves left.
use Prim.Native.Nat.{ℕ, zero, suc}
use mathlib.Core.Bool.{Bool, true, false, cond}
use mathlib.Core.List.{List}
use lib.Ieee.{Float, binary64, fits, lt, of_bits}
use lib.Ieee.Fits.{add-fits, div-fits}
use Rattle.float_laws.specs.Binary64.{◌⊕◌, ◌⊖◌, ◌⊗◌, ◌⊘◌, zero64, abs_of}
use Rattle.records.specs.Roads.{Road}
use Rattle.line_pose.specs.Poses.{held}
use Rattle.admission_laws.proofs.Fitting.{Fits64}
use Rattle.surface_points.specs.declared.points.PlanVector.{PlanVector}
use Rattle.surface_locate.specs.declared.points.Place.{Place}
use Rattle.surface_locate.specs.declared.points.Move.{Move}
use Rattle.surface_locate.specs.declared.points.Move.TheVariants.{Stay, Last, On}
use Rattle.surface_locate.specs.Locating.{place, miss_at, size_of, tolerance, least_determinant, along_rate, across_rate, det_of, move_by, newton_move, move_at, walk_by, walk_from, first_t, start_of}

abbrev pub PlaceFits : Place → Type 0
PlaceFits p = Fits64 p.s × Fits64 p.t

abbrev MoveFits : Move → Type 0
MoveFits Stay = Unit {0}
MoveFits (Last p) = PlaceFits p
MoveFits (On p) = PlaceFits p

-- ---- one of two numbers, and a station kept to the road

picks : (b : Bool) (x y : Float) → Fits64 x → Fits64 y → Fits64 (cond b x y)
picks true x y f g = f
picks false x y f g = g

zero-fits : Fits64 zero64
unfolding fits of_bits
zero-fits = tt

pub held_fits : (length s : Float) → Fits64 length → Fits64 s → Fits64 (held length s)
held_fits length s f g =
    let up = cond (lt s zero64) zero64 s in
    picks (lt length up) length up f (picks (lt s zero64) zero64 s zero-fits g)

-- ---- one move

either : (b : Bool) (m n : Move) → MoveFits m → MoveFits n → MoveFits (cond b m n)
either true m n f g = f
either false m n f g = g

move_by-fits : (s next dt t : Float) → Fits64 next → MoveFits (move_by s next dt t)
move_by-fits s next dt t f =
    let p = place next (t ⊕ dt) in
    either (lt (abs_of (next ⊖ s) ⊕ abs_of dt) tolerance) (Last p) (On p) (f, add-fits binary64 t dt) (f, add-fits binary64 t dt)

newton-fits : (length : Float) (at : Place) (r along across : PlanVector) → Fits64 length → MoveFits (newton_move length at r along across)
unfolding newton_move
newton-fits length at r along across f =
    let det = det_of along across in
    let ds = (r.y ⊗ across.x ⊖ r.x ⊗ across.y) ⊘ det in
    let dt = (r.x ⊗ along.y ⊖ r.y ⊗ along.x) ⊘ det in
    let next = held length (at.s ⊕ ds) in
    either (lt (abs_of det) least_determinant) Stay (move_by at.s next dt at.t) tt (move_by-fits at.s next dt at.t (held_fits length (at.s ⊕ ds) f (add-fits binary64 at.s ds)))

module _ (road : Road) (samples : List Float) (target : PlanVector) (f : Fits64 road.length) where
  move-fits : (at : Place) → MoveFits (move_at road samples target at)
  unfolding move_at
  move-fits at =
      let r = miss_at road samples target at in
      let along = along_rate road samples target at in
      let across = across_rate road samples target at in
      either (lt (size_of r) tolerance) Stay (newton_move road.length at r along across) tt (newton-fits road.length at r along across f)

  -- ---- the walk
  pub walk-fits : (n : ℕ) (at : Place) (k : ℕ) → PlaceFits at → PlaceFits (walk_from road samples target n at k).place
  unfolding walk_from
  walk-fits zero at k g = g
  walk-fits (suc n) at k g = go (move_at road samples target at) (move-fits at) (λ (p : Place) (h : PlaceFits p). walk-fits n p (suc k) h)
    where
      go : (m : Move) → MoveFits m → ((p : Place) → PlaceFits p → PlaceFits (walk_from road samples target n p (suc k)).place)
          → PlaceFits (walk_by road samples target (λ (p : Place). walk_from road samples target n p (suc k)) at k m).place
      go Stay h more = g
      go (Last p) h more = h
      go (On p) h more = more p h

  pub start_fits : (guess : Float) → Fits64 guess → PlaceFits (start_of road samples target guess)
  unfolding start_of first_t
  start_fits guess g = (held_fits road.length guess f g, div-fits binary64 _ _)
