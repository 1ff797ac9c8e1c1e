-- The point after the i-th, by the greatest number of a usize where there is none after i: past the end every point is one of NaNs.
use Prim.Native.Nat.{ℕ, suc, ◌+◌, ◌-◌, ◌*◌, ◌^◌, ◌≤◌, ◌<◌, min}
use native.Mathlib.Omega.{arith}
use mathlib.Core.Path.{◌≡◌, refl, sym, ap, ◌∙◌}
use mathlib.Core.List.{List}
use mathlib.Core.Bool.{Bool, true, false}
use lib.Dec.{leb}
use borrow.Author.Tests.{leb-true, leb-false}
use lib.ListN.{length, get_or, get_or-eq_default}
use lib.Ieee.{Float, nan}
use Rattle.records.specs.declared.points.Point.{Point}
use Rattle.coordinates.specs.Points.{point_at}
use Rattle.coordinates.specs.Vectors.{place}
use Rattle.tracks.specs.declared.segments.Segment.{Segment}
use Rattle.tracks.specs.Lines.{segment_at}

abbrev none : Point
none = place nan nan nan

module _ (xs : List Float) (l : length xs < 2 ^ 63) where
  past : (i : ℕ) → length xs ≤ i → point_at xs i ≡ none
  past i h =
      let at : (k : ℕ) → length xs ≤ k → get_or xs k nan ≡ nan = λ k b. get_or-eq_default xs nan b in
      rw (at (i * 3) (omega arith), at (i * 3 + 1) (omega arith), at (i * 3 + 2) (omega arith))

  -- the number after i that a usize holds is the one after i, or both lie past the end
  data After (i j : ℕ) : Type 0 where
    next : j ≡ suc i → After i j
    far : length xs ≤ j - 1 → length xs ≤ i → suc (j - 1) ≡ j → After i j

  after : (i : ℕ) {j : ℕ} → j ≡ min (i + 1) (2 ^ 64 - 1) → After i j
  after i {j} e = go (leb (i + 1) (2 ^ 64 - 1)) refl
    where
      go : (b : Bool) → leb (i + 1) (2 ^ 64 - 1) ≡ b → After i j
      go true f = let h = leb-true (i + 1) (2 ^ 64 - 1) f in next (omega arith)
      go false f = let h = leb-false (i + 1) (2 ^ 64 - 1) f in far (omega arith) (omega arith) (omega arith)

  point-next : (i : ℕ) {j : ℕ} → j ≡ min (i + 1) (2 ^ 64 - 1) → point_at xs j ≡ point_at xs (suc i)
  point-next i {j} e = go (after i e)
    where
      go : After i j → point_at xs j ≡ point_at xs (suc i)
      go (next f) = ap (point_at xs) f
      go (far a b f) = past j (omega arith) ∙ sym (past (suc i) (omega arith))

  pub segment_is : (i : ℕ) {j : ℕ} {x y : Point} → j ≡ min (i + 1) (2 ^ 64 - 1) → x ≡ point_at xs i → y ≡ point_at xs j → ◌≡◌ {A = Segment} (record { from = x; to = y }) (segment_at (point_at xs) i)
  segment_is i e f g = rw (f, g, point-next i e)
