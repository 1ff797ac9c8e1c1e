-- The line's numbers written into a slice, and the stations compared one after another.
use Prim.Native.Nat.{ℕ, zero, suc, ◌+◌, ◌-◌, ◌*◌}
use native.Mathlib.Omega.{arith}
use native.Mathlib.Numerals.{add-one}
use mathlib.Core.Path.{◌≡◌, refl, sym, ap, ◌∙◌}
use mathlib.Core.Bool.{Bool, true, ◌&&◌}
use mathlib.Core.List.{List, [], ◌∷◌, ◌++◌}
use lib.ListN.{length, take, drop, length-append}
use lib.Ieee.{Float, lt}
use Rattle.records.specs.declared.points.Point.{Point}
use Rattle.records.specs.declared.points.LanePlace.{LanePlace}
use Rattle.records.specs.Roads.{Road}
use Rattle.tracks.proofs.StoreLaws.{part_written}
use Rattle.dots_calls.specs.DotsCall.{rising, border_point, line_numbers}

-- ---- the stations

module _ (c : ℕ → Float) where
  pub rising_none : true ≡ rising c 0
  unfolding rising
  rising_none = refl

  pub rising_next : (k : ℕ) {ok less : Bool} {x y : Float} → ok ≡ rising c k → x ≡ c k → y ≡ c (k + 1) → less ≡ lt x y → ok && less ≡ rising c (k + 1)
  unfolding rising
  rising_next k h hx hy hl = rw (h, hl, hx, hy, add-one k)

-- ---- the line

module _ (road : Road) (samples : List Float) (place : LanePlace) (c : ℕ → Float) where
  abbrev numbers : ℕ → List Float
  numbers k = line_numbers road samples place c k

  abbrev point : ℕ → Point
  point k = border_point road samples place (c k)

  pub line_none : (old : List Float) → old ≡ numbers 0 ++ drop (0 * 3) old
  unfolding line_numbers
  line_none old = refl

  pub line-length : (k : ℕ) → length (numbers k) ≡ k * 3
  unfolding line_numbers
  line-length zero = refl
  line-length (suc k) = length-append (numbers k) ((point k).x ∷ (point k).y ∷ (point k).z ∷ []) ∙ (let e = line-length k in omega arith)

  line-suc : (k : ℕ) → numbers (k + 1) ≡ numbers k ++ ((point k).x ∷ (point k).y ∷ (point k).z ∷ [])
  unfolding line_numbers
  line-suc k = ap numbers (add-one k)

  pub line_next :
      (old list : List Float) (k : ℕ) {s : Float} {q : Point} {ys : List Float} → s ≡ c k → q ≡ border_point road samples place s → ys ≡ q.x ∷ q.y ∷ q.z ∷ [] → list ≡ numbers k ++ drop (k * 3) old
      → take (k * 3) list ++ (ys ++ drop (k * 3 + 3 - k * 3) (drop (k * 3) list)) ≡ numbers (k + 1) ++ drop ((k + 1) * 3) old
  line_next old list k {s} {q} {ys} hs hq g f =
      part_written (numbers k) old list ys k (line-length k) f
      ∙ ap (λ (r : List Float). r ++ drop ((k + 1) * 3) old) (ap (λ (r : List Float). numbers k ++ r) (g ∙ rw (hq, hs) refl) ∙ sym (line-suc k))

pub ruleset stationing = (rising_none, rising_next)

pub ruleset lining = (line_none, line_next)
