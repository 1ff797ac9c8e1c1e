-- The nearest place as the code finds it: a turn of the loop over the segments, and that the segment chosen by it is the one of the definition.
use Prim.Native.Nat.{ℕ, zero, suc, ◌+◌, ◌-◌}
use native.Mathlib.Numerals.{add-one}
use mathlib.Core.Path.{◌≡◌, refl, sym, ap, ◌∙◌}
use mathlib.Core.Bool.{Bool, true, false, cond}
use lib.Ieee.{Float, lt}
use Rattle.std.specs.declared.option.Option.{Option}
use Rattle.std.specs.declared.option.Option.TheVariants.{None, Some}
use Rattle.float_laws.specs.Binary32.{zero32, infinity32}
use Rattle.records.specs.declared.points.Point.{Point}
use Rattle.coordinates.specs.Vectors.{from_to}
use Rattle.tracks.specs.declared.segments.Segment.{Segment}
use Rattle.tracks.specs.declared.projections.Projection.{Projection}
use Rattle.tracks.specs.declared.projections.Chosen.{Chosen}
use Rattle.tracks.specs.declared.projections.Closest.{Closest}
use Rattle.tracks.specs.Lines.{segment_at}
use Rattle.tracks.specs.Lengths.{length_to}
use Rattle.tracks.specs.Projections.{Nearest, foot_of, candidate_of, closest_of, square_to, nearer_of, nearest_none, nearest_of, project_of}
use Rattle.tracks.specs.ProjectionChoice.{closest_on, better_of, chosen_of}

module _ (p : ℕ → Point) (at : Point) where
  -- ---- the loop

  pub chosen_none : ◌≡◌ {A = Chosen} (record { square = infinity32; segment = None }) (chosen_of p at 0)
  unfolding chosen_of
  chosen_none = refl

  pub chosen_next : (i : ℕ) {best next : Chosen} {on : Segment} → best ≡ chosen_of p at i → on ≡ segment_at p i → next ≡ better_of best on at i → next ≡ chosen_of p at (i + 1)
  unfolding chosen_of
  chosen_next i h e g = rw (add-one i, g, e, h)

  -- ---- what the choice stands for: the nearest place of the definition, its projection not worked out until the end

  -- the projection on a segment; the first point where there is none
  abbrev projection_on : Option ℕ → Projection
  projection_on None = (nearest_none p).projection
  projection_on (Some i) =
      candidate_of (from_to (p i) (p (suc i))) (foot_of (from_to (p i) (p (suc i))) (from_to (p i) at)) (closest_of (p i) (p (suc i)) at) (from_to (closest_of (p i) (p (suc i)) at) at) (length_to p i)

  abbrev stands_for : Chosen → Nearest
  stands_for c = record { square = c.square; projection = projection_on c.segment }

  step : (k : ℕ) (c : Chosen) → nearer_of (stands_for c) (p k) (p (suc k)) at (length_to p k) ≡ stands_for (better_of c (segment_at p k) at k)
  unfolding nearer_of better_of
  step k c = go (lt (square_to (closest_of (p k) (p (suc k)) at) at) c.square)
    where
      taken : Chosen
      taken = record { square = square_to (closest_of (p k) (p (suc k)) at) at; segment = Some k }

      go : (b : Bool) → cond b (stands_for taken) (stands_for c) ≡ stands_for (cond b taken c)
      go true = refl
      go false = refl

  nearest-is : (k : ℕ) → nearest_of p at k ≡ stands_for (chosen_of p at k)
  unfolding nearest_of chosen_of
  nearest-is zero = refl
  nearest-is (suc k) = rw (nearest-is k) (step k (chosen_of p at k))

  project-is : (n : ℕ) {c : Chosen} → c ≡ chosen_of p at (n - 1) → projection_on c.segment ≡ project_of p n at
  unfolding project_of
  project-is n h = ap (λ (x : Chosen). projection_on x.segment) h ∙ ap (λ (x : Nearest). x.projection) (sym (nearest-is (n - 1)))

  pub project_first : (n : ℕ) {c : Chosen} {a : Point} → c ≡ chosen_of p at (n - 1) → c.segment ≡ None → a ≡ p 0 → ◌≡◌ {A = Projection} (record { s = zero32; point = a; offset = zero32 }) (project_of p n at)
  project_first n h e f = rw (← project-is n h, e, f)

  pub project_on_segment : (n : ℕ) {i : ℕ} {c : Chosen} {on : Segment} {closest : Closest} {from : Float} {r : Projection}
      → c ≡ chosen_of p at (n - 1) → c.segment ≡ Some i → on ≡ segment_at p i → closest ≡ closest_on on at → from ≡ length_to p i
      → r ≡ candidate_of (from_to on.from on.to) closest.t closest.point closest.apart from → r ≡ project_of p n at
  unfolding closest_on
  project_on_segment n h e ho hc hf hr = rw (← project-is n h, e, hr, hf, hc, ho)

pub ruleset choices = (chosen_none, chosen_next)

pub ruleset projections = (project_first, project_on_segment)
