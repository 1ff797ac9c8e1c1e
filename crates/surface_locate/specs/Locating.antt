-- Document 01, "Locate: `locate`'s pair, the count of moves made (0..24), and (added) met or astray", grouped as in src/road.rs. Every comparison with a NaN is false, so a NaN ends no walk and never meets.
-- Read `locate_of` last: the guess kept to 0..length, the first t, at most 24 moves (`walk_from`), and the mark (`met_at`), worked out afresh at the pair. One move is `move_at`, by cases.
use Rattle.std.specs.Prelude.{ℕ, zero, suc, Bool, ◌&&◌, cond, List, Float}
use Rattle.std.specs.Float.Ieee.{neg, lt, le}
use Rattle.float_laws.specs.Binary64.{◌⊕◌, ◌⊖◌, ◌⊗◌, ◌⊘◌, f64, abs_of}
use Rattle.arithmetic.specs.Root.{hypot_of}
use Rattle.surface_locate.specs.Meeting.{meeting}
use Rattle.arithmetic_sine.specs.Sine.{sine_of, cosine_of}
use Rattle.records.specs.Active.{value_in}
use Rattle.records.specs.Roads.{Road, geom_index}
use Rattle.line_pose.specs.Poses.{held, pose_of}
use Rattle.admission.specs.Limits.{on_road}
use Rattle.admission_arguments.specs.Arguments.{across_road}
use Rattle.surface_points.specs.declared.points.PlanVector.{PlanVector}
use Rattle.surface_points.specs.Surfaces.{surface_at}
use Rattle.surface_points.specs.Plan.{difference_of, plan_of}
use Rattle.surface_locate.specs.declared.points.Place.{Place}
use Rattle.surface_locate.specs.declared.points.Walk.{Walk}
use Rattle.surface_locate.specs.declared.points.Position.{Position}
use Rattle.surface_locate.specs.declared.points.Move.{Move}
use Rattle.surface_locate.specs.declared.points.Move.TheVariants.{Stay, Last, On}

-- 1e-4: how far from a place the rates there are measured
abbrev pub rate_step : Float
rate_step = f64 0x3f1a_36e2_eb1c_432d

-- 1e-9: a miss, and a move, below which it stops
abbrev pub tolerance : Float
tolerance = f64 0x3e11_2e0b_e826_d695

-- 1e-12: a determinant below which the two rates don't span the plane
abbrev pub least_determinant : Float
least_determinant = f64 0x3d71_9799_812d_ea11

-- "the count of moves made (0..24)"
abbrev pub most_moves : ℕ
most_moves = 24

abbrev pub place : Float → Float → Place
place s t = record { s = s; t = t }

-- ---- the miss, and how fast it changes

-- of a point seen from above
abbrev pub miss_on : PlanVector → PlanVector → PlanVector
miss_on target p = difference_of p target

-- of `surface` before it narrows
unfoldable pub miss_at : Road → List Float → PlanVector → Place → PlanVector
miss_at road samples target at = miss_on target (plan_of (surface_at road samples at.s at.t))

-- "hypot: root of a×a + b×b"
abbrev pub size_of : PlanVector → Float
size_of r = hypot_of r.x r.y

-- from r to a, h metres on
unfoldable pub rate_of : PlanVector → PlanVector → Float → PlanVector
rate_of a r h = let change = difference_of a r in record { x = change.x ⊘ h; y = change.y ⊘ h }

-- ahead, or back where that would pass the road's end
unfoldable pub ahead_of : Float → Float → Float
ahead_of length s = cond (le (s ⊕ rate_step) length) rate_step (neg rate_step)

-- ---- one move

abbrev pub det_of : PlanVector → PlanVector → Float
det_of along across = along.x ⊗ across.y ⊖ along.y ⊗ across.x

-- to the next pair, which is the last where |next s - s| + |dt| is below 1e-9
abbrev pub move_by : Float → Float → Float → Float → Move
move_by s next dt t = cond (lt (abs_of (next ⊖ s) ⊕ abs_of dt) tolerance) (Last (place next (t ⊕ dt))) (On (place next (t ⊕ dt)))

-- none where |det| < 1e-12; else by ds and dt, s kept to 0..length
unfoldable pub newton_move : Float → Place → PlanVector → PlanVector → PlanVector → Move
newton_move length at r along across =
    let det = det_of along across in
    let ds = (r.y ⊗ across.x ⊖ r.x ⊗ across.y) ⊘ det in
    let dt = (r.x ⊗ along.y ⊖ r.y ⊗ along.x) ⊘ det in
    cond (lt (abs_of det) least_determinant) Stay (move_by at.s (held length (at.s ⊕ ds)) dt at.t)

module _ (road : Road) (samples : List Float) (target : PlanVector) where
  abbrev pub along_rate : Place → PlanVector
  along_rate at =
      let h = ahead_of road.length at.s in
      rate_of (miss_at road samples target (place (at.s ⊕ h) at.t)) (miss_at road samples target at) h

  abbrev pub across_rate : Place → PlanVector
  across_rate at = rate_of (miss_at road samples target (place at.s (at.t ⊕ rate_step))) (miss_at road samples target at) rate_step

  -- none where the miss is below 1e-9
  unfoldable pub move_at : Place → Move
  move_at at =
      cond (lt (size_of (miss_at road samples target at)) tolerance) Stay
      (newton_move road.length at (miss_at road samples target at) (along_rate at) (across_rate at))

  -- ---- the moves

  -- where they ended after k
  abbrev pub ended : Place → ℕ → Walk
  ended at k = record { place = at; moves = k }

  -- a move's ways: none, counted not; the last, and one with more to come, counted
  abbrev pub walk_by : (Place → Walk) → Place → ℕ → Move → Walk
  walk_by again at k Stay = ended at k
  walk_by again at k (Last p) = ended p (suc k)
  walk_by again at k (On p) = again p

  -- at most n more from a place, after k. The recursion waits under its λ for the move, so the definition computes
  unfoldable pub walk_from : ℕ → Place → ℕ → Walk
  walk_from zero at k = ended at k
  walk_from (suc n) at k = walk_by (λ p. walk_from n p (suc k)) at k (move_at at)

  -- ---- the answer

  -- the first t: ((y - ry) cos hdg - (x - rx) sin hdg) / cos phi
  unfoldable pub first_t : Float → Float
  first_t s =
      let p = pose_of road samples (geom_index road s) s in
      ((target.y ⊖ p.y) ⊗ cosine_of p.heading ⊖ (target.x ⊖ p.x) ⊗ sine_of p.heading) ⊘ cosine_of (value_in road.superelevations s)

  -- "met exactly when s lies in 0..length, |t| ≤ 80 and the miss at the pair, worked out afresh as in `locate`, is under 0.0000009"
  unfoldable pub met_at : Place → Bool
  met_at at = on_road road at.s && across_road at.t && lt (size_of (miss_at road samples target at)) meeting

  -- the guess kept to 0..length, as f64::clamp does: a NaN stays, and so does -0
  unfoldable pub start_of : Float → Place
  start_of guess = let s = held road.length guess in place s (first_t s)

  abbrev pub position_of : Walk → Position
  position_of w = record { s = w.place.s; t = w.place.t; moves = w.moves; converged = met_at w.place }

  unfoldable pub locate_of : Float → Position
  locate_of guess = position_of (walk_from most_moves (start_of guess) 0)
